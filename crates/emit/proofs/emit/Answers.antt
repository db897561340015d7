use Rattle.emit.proofs.Schemas.{named_here, declarations_clear, declarations_room, schema_put}
use Rattle.emit.proofs.emit.Goals as goal

pub put_imports-requires : goal.put_imports-requires
put_imports-requires c = named_here c.requires

pub put_declarations-requires : goal.put_declarations-requires
put_declarations-requires c = (declarations_clear c.requires, declarations_room c.requires)

pub returns : goal.returns
returns c = schema_put c.requires c.put_opening.ensures c.put_imports.ensures c.put_declarations.ensures
