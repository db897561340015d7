-- Imports: what is read without an error are the derivation trees of imports, and each of those is read, with just the errors of its name.
use Prim.Native.Nat.{ℕ, zero, suc, ◌≤◌}
use mathlib.Core.Path.{◌≡◌, refl, ap, ◌∙◌}
use mathlib.Core.Bool.{Bool, true, false}
use mathlib.Core.Option.{Option, none, some}
use mathlib.Core.List.{List, [], ◌∷◌}
use native.Mathlib.Omega.{arith}
use lib.Dec.{eqb}
use lib.ListN.{length}
use borrow.Author.Tests.{eqb-true, eq-eqb}
use Rattle.token.specs.Token.{Token}
use Rattle.token.specs.Kind.{k_as, k_identifier, k_import, k_path}
use Rattle.grammar.specs.Tree.{AliasPart, ImportTree, optionally, each, y_alias, y_import, Is, IfAny, All, WfAlias, WfImport}
use Rattle.grammar.specs.Error.{kind_at}
use Rattle.grammar.specs.Condition.{import_errors, imports_errors}
use Rattle.grammar.specs.Reading.{Result, ok, fail, is, consume, optional, Reading, join, parse_alias, parse_import, parse_imports}
use Rattle.grammar.proofs.Rules.{Read, cons≢nil, both_nil, along, and_then_ok, token_sound}
use Rattle.grammar.proofs.Rules.{token_complete, optional_sound, optional_none, optional_some}
use Rattle.grammar.proofs.Eats.{import_eats}

alias_sound : (ts : List Token) {o : Option AliasPart} {r : List Token} → optional (is k_as) parse_alias ts ≡ ok o r
    → Read (optionally y_alias) (IfAny WfAlias) ts o r
alias_sound =
    optional_sound (is k_as) parse_alias y_alias WfAlias λ a ts x r e h.
    and_then_ok (consume 7 (is k_identifier) ts) _ h λ n ts₁ p q.
    let s = token_sound 7 k_identifier ts p in
    along (Read y_alias WfAlias (a ∷ ts)) q (ap (◌∷◌ a) s.0, record { keyword = eqb-true a.kind k_as e; name = s.1 })

alias_complete : (o : Option AliasPart) (r : List Token) → IfAny WfAlias o → is k_as (kind_at r) ≡ false
    → optional (is k_as) parse_alias (optionally y_alias o r) ≡ ok o r
alias_complete none r w h = optional_none (is k_as) parse_alias r h
alias_complete (some p) r w h =
    optional_some (is k_as) parse_alias p.keyword (p.name ∷ r) p r (eq-eqb p.keyword.kind k_as w.keyword)
    (rw (token_complete 7 k_identifier p.name r w.name))

pub import_sound : (t : Token) (ts : List Token) {i : ImportTree} {r : List Token} → Is k_import t → parse_import t ts ≡ ok i r
    → Read y_import WfImport (t ∷ ts) i r
import_sound t ts w h =
    and_then_ok (consume 6 (is k_path) ts) _ h λ p ts₁ p₁ h₁.
    and_then_ok (optional (is k_as) parse_alias ts₁) _ h₁ λ a ts₂ p₂ h₂.
    let q₁ = token_sound 6 k_path ts p₁ in
    let q₂ = alias_sound ts₁ p₂ in
    along (Read y_import WfImport (t ∷ ts)) h₂ (cc, record { keyword = w; path = q₁.1; alias = q₂.1 })

pub import_complete : (i : ImportTree) (r : List Token) → WfImport i → is k_as (kind_at r) ≡ false
    → parse_import i.keyword (i.path ∷ optionally y_alias i.alias r) ≡ ok i r
import_complete i r w h = rw (token_complete 6 k_path i.path _ w.path) (rw (alias_complete i.alias r w.alias h))

-- what a reading of imports without errors shows
pub record Imported (before : List ImportTree) (ts : List Token) (p : Reading (List ImportTree)) : Type 0 where
  pub read : Read (each y_import) (All WfImport) ts p.value p.rest
  pub errors : imports_errors before p.value ≡ []

imported_cons : (before : List ImportTree) (ts r : List Token) (i : ImportTree) (q : Reading (List ImportTree))
    → Read y_import WfImport ts i r → import_errors before i ≡ [] → Imported (i ∷ before) r q
    → Imported before ts (join (record { errors = import_errors before i; value = i ∷ []; rest = r }) q)
imported_cons before ts r i q a e b =
    record { read = (a.0 ∙ ap (y_import i) b.read.0, (a.1, b.read.1)); errors = rw e b.errors }

pub imports_sound : (k end : ℕ) (before : List ImportTree) (ts : List Token) → (parse_imports k end before ts).errors ≡ []
    → Imported before ts (parse_imports k end before ts)
imports_sound zero end before ts h = record { read = (refl, tt); errors = refl }
imports_sound (suc k) end before [] h = record { read = (refl, tt); errors = refl }
imports_sound (suc k) end before (t ∷ ts) h = go (eqb t.kind k_import) (parse_import t ts) refl refl (imports_sound k end)
  where
    go : (b : Bool) (m : Result ImportTree) → eqb t.kind k_import ≡ b → parse_import t ts ≡ m
        → ((bs : List ImportTree) (us : List Token) → (parse_imports k end bs us).errors ≡ [] → Imported bs us (parse_imports k end bs us))
        → Imported before (t ∷ ts) (parse_imports (suc k) end before (t ∷ ts))
    go false m e p ih = rw (e, parse_imports) (record { read = (refl, tt); errors = refl })
    go true (fail n r) e p ih = absurd (cons≢nil (rw (e, p, parse_imports) at h))
    go true (ok i r) e p ih =
        let q = parse_imports k end (i ∷ before) r in
        let j = both_nil (import_errors before i) q.errors (rw (e, p, parse_imports) at h) in
        rw (e, p, parse_imports)
        (imported_cons before (t ∷ ts) r i q (import_sound t ts (eqb-true t.kind k_import e) p) j.0 (ih (i ∷ before) r j.1))

-- after the imports stands neither `import` nor `as`
pub record Ends (r : List Token) : Type 0 where
  pub no_import : is k_import (kind_at r) ≡ false
  pub no_as : is k_as (kind_at r) ≡ false

no_as_after : (is' : List ImportTree) (r : List Token) → All WfImport is' → Ends r → is k_as (kind_at (each y_import is' r)) ≡ false
no_as_after [] r w z = z.no_as
no_as_after (i ∷ is') r w z = rw w.0.keyword

pub imports_complete : (is' : List ImportTree) (r : List Token) → All WfImport is' → Ends r → (k end : ℕ) (before : List ImportTree)
    → length (each y_import is' r) ≤ k
    → parse_imports k end before (each y_import is' r) ≡ record { errors = imports_errors before is'; value = is'; rest = r }
imports_complete [] r w z zero end before l = refl
imports_complete [] [] w z (suc k) end before l = refl
imports_complete [] (t ∷ ts) w z (suc k) end before l = rw (z.no_import, parse_imports)
imports_complete (i ∷ is') r w z zero end before l = absurd (omega (arith, import_eats i (each y_import is' r)))
imports_complete (i ∷ is') r w z (suc k) end before l =
    let rest = each y_import is' r in
    rw (eq-eqb i.keyword.kind k_import w.0.keyword, import_complete i rest w.0 (no_as_after is' r w.1 z), parse_imports)
    (rw (imports_complete is' r w.1 z k end (i ∷ before) (omega (arith, import_eats i rest))))
