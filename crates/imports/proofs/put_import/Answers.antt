use Rattle.imports.proofs.Laws.{due, fits, import_is}
use Rattle.imports.proofs.put_import.Goals as goal

pub parse_import-requires : goal.parse_import-requires
parse_import-requires c = due c.place_of-at.ensures c.requires

pub put_named_of_kind-requires : goal.put_named_of_kind-requires
put_named_of_kind-requires c = fits c.place_of-at.ensures c.requires c.in-Ok.ensures c.name_of-name.ensures c.payload_at-path.ensures

pub returns : goal.returns
returns c =
    rw (import_is c.place_of-at.ensures c.requires c.in-Ok.ensures c.name_of-name.ensures c.payload_at-path.ensures)
    at (rw (c.span_tokens-range.ensures, c.last.ensures) at c.put_named_of_kind.ensures)
