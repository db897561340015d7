-- `collector::parse_schema`: the imports' errors, then the declarations'.
use Rattle.std.proofs.Common.{refl}
use Rattle.collector.proofs.Laws.{first_counts, room_after, collected}
use Rattle.collector.proofs.parse_schema.Goals as goal

pub push_declarations-requires : goal.push_declarations-requires
push_declarations-requires c =
    let v = c.push_imports-next.ensures in
    (first_counts v, room_after v c.requires.0 refl c.push_imports-next.auto.marks)

pub returns : goal.returns
returns c = collected c.push_imports-next.ensures c.push_declarations.ensures c.requires.0
