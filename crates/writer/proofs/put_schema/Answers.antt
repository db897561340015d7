-- `writer::put_schema` meets its contract.
use Rattle.writer.proofs.Answers.{whole_text}
use Rattle.writer.proofs.put_schema.Goals as goal

pub put_imports-next-requires : goal.put_imports-next-requires
put_imports-next-requires c = c.put_opening-first.ensures.opened

pub put_declarations-requires : goal.put_declarations-requires
put_declarations-requires c = c.put_imports-next.ensures.outside

pub returns : goal.returns
returns c = whole_text c.put_opening-first.ensures c.put_imports-next.ensures c.put_declarations.ensures
