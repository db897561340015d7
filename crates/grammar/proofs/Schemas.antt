-- The schema: what is read without an error is a derivation, and every tree of the grammar is read, with just the errors of its conditions.
use mathlib.Core.Path.{◌≡◌, refl, ap, sym, ◌∙◌, subst}
use mathlib.Core.Bool.{true}
use mathlib.Core.Option.{Option, none, some}
use mathlib.Core.List.{List, [], ◌∷◌, ◌++◌}
use native.Mathlib.Omega.{arith}
use lib.ListN.{length}
use Rattle.token.specs.Token.{Token, end_of}
use Rattle.token.specs.Kind.{is_keyword, k_as, k_comment, k_import}
use Rattle.grammar.specs.Tree.{DeclarationTree, SchemaTree, optionally, each, y_import, y_declaration}
use Rattle.grammar.specs.Tree.{y_body, yield, Is, IfAny, All, WfDeclaration, WfOpening, Wf}
use Rattle.grammar.specs.Error.{Error}
use Rattle.grammar.specs.Condition.{condition_errors}
use Rattle.grammar.specs.Derivation.{Derives}
use Rattle.grammar.specs.Reading.{parse_imports, parse_declarations, parse_opening, parse_end, parse_schema}
use Rattle.grammar.proofs.Rules.{cons≢nil, both_nil, not_kind}
use Rattle.grammar.proofs.Opening.{opening_sound, opening_complete}
use Rattle.grammar.proofs.Declarations.{declarations_sound, declarations_complete}
use Rattle.grammar.proofs.Imports.{imports_sound, Ends, imports_complete}
use Rattle.grammar.proofs.Conditions.{conditions_hold}

end_none : (es : List Error) (ts : List Token) → parse_end es ts ≡ [] → (es ≡ []) × (ts ≡ [])
end_none [] [] h = (refl, refl)
end_none [] (t ∷ ts) h = absurd (cons≢nil h)
end_none (e ∷ es) ts h = absurd (cons≢nil h)

pub end_same : (es : List Error) → parse_end es [] ≡ es
end_same [] = refl
end_same (e ∷ es) = refl

pub schema_sound : (ts : List Token) → (parse_schema ts).errors ≡ [] → Derives ts (parse_schema ts).value
schema_sound ts h =
    let end = end_of 0 ts in
    let c = parse_opening ts in
    let is' = parse_imports (length c.rest) end [] c.rest in
    let ds = parse_declarations (length is'.rest) end is'.rest in
    let i = end_none (is'.errors ++ ds.errors) ds.rest h in
    let j = both_nil is'.errors ds.errors i.0 in
    let o = opening_sound ts in
    let a = imports_sound (length c.rest) end [] c.rest j.0 in
    let b = declarations_sound (length is'.rest) end is'.rest j.1 in
    let body : c.rest ≡ each y_import is'.value (each y_declaration ds.value []) =
    a.read.0 ∙ ap (each y_import is'.value) (b.read.0 ∙ ap (each y_declaration ds.value) i.1) in
    record {
      tokens = sym (o.tokens ∙ ap (optionally ◌∷◌ c.value) body);
      wf = record { opening = subst (WfOpening c.value) body o.wf; imports = a.read.1; declarations = b.read.1 };
      good = conditions_hold (parse_schema ts).value (rw a.errors b.errors);
    }

-- a declaration begins neither with `import` nor with `as`
declaration_ends : (c : Option Token) (k : Token) (r : List Token) → IfAny (Is k_comment) c → is_keyword k.kind ≡ true
    → Ends (optionally ◌∷◌ c (k ∷ r))
declaration_ends none k r w v = record { no_import = not_kind is_keyword k.kind k_import v refl; no_as = not_kind is_keyword k.kind k_as v refl }
declaration_ends (some c) k r w v = record { no_import = rw w; no_as = rw w }

declarations_end : (ds : List DeclarationTree) → All WfDeclaration ds → Ends (each y_declaration ds [])
declarations_end [] w = record { no_import = refl; no_as = refl }
declarations_end (d ∷ ds) w = declaration_ends d.head.comment d.head.keyword _ w.0.head.comment w.0.head.keyword

pub schema_complete : (s : SchemaTree) → Wf s → parse_schema (yield s) ≡ record { errors = condition_errors s; value = s; rest = [] }
schema_complete s w =
    let end = end_of 0 (yield s) in
    let rest = each y_declaration s.declarations [] in
    rw (opening_complete s.comment (y_body s) w.opening, parse_schema)
    (rw (imports_complete s.imports rest w.imports (declarations_end s.declarations w.declarations) (length (y_body s)) end [] (omega arith))
    (rw (declarations_complete s.declarations w.declarations (length rest) end (omega arith)) (rw (end_same (condition_errors s)))))
