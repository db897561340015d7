-- Heads of declarations: comment, keyword, name, `{`, one after the other.
use Prim.Native.Nat.{ℕ}
use mathlib.Core.Path.{◌≡◌, refl, sym, ap}
use mathlib.Core.Bool.{true, false, ◌&&◌, true≢false, and-false}
use mathlib.Core.List.{List, [], ◌∷◌}
use native.Mathlib.Omega.{arith}
use borrow.Author.Tests.{ne_eqb}
use lib.Dec.{eqb}
use Rattle.std.specs.Prelude.{Option as Places, None, Some, is_some}
use Rattle.wire.specs.Bytes.{Bytes}
use Rattle.wire.specs.Pick.{pick}
use Rattle.token.specs.Token.{Token}
use Rattle.token.specs.Kind.{is_keyword, k_comment, k_identifier, k_left_curly, k_struct}
use Rattle.token.specs.Kinds.{number_of}
use Rattle.token.specs.Places.{tok_at, Wf}
use Rattle.token.specs.declared.kind.Kind.{Kind}
use Rattle.token.proofs.Known.{some_kind}
use Rattle.token.proofs.Walk.{next_past}
use Rattle.grammar.specs.Error.{kind_at}
use Rattle.grammar.specs.Reading.{Result, ok, fail, is, consume, parse_keyword, name_number, parse_head}
use Rattle.grammar.proofs.Rules.{optional_token_sound}
use Rattle.parser.specs.Trees.{token_there}
use Rattle.parser.specs.Steps.{ahead, Stands, Stepped, Reads, TokenPassed, Skipped, HeadPassed}
use Rattle.parser.specs.declared.Cursor.{Cursor}
use Rattle.parser.proofs.Laws.{none_left, consumed, not_consumed, alike, then, stop, done, there_stands}

-- only a comment that ends the list is told apart
keyword_is : (t : Bytes) (comment : Places ℕ) (ts : List Token) → (is_some comment && eqb (kind_at ts) 0) ≡ false
    → parse_keyword (token_there t comment) ts ≡ consume 1 is_keyword ts
keyword_is t None ts e = refl
keyword_is t (Some at) [] e = absurd (true≢false e)
keyword_is t (Some at) (x ∷ ts) e = refl

-- a token follows the comment, or there is no comment
abbrev pub Goes : Bytes → Places ℕ × Cursor → Type 0
Goes t o = (is_some o.0 && eqb (kind_at (ahead t o.1)) 0) ≡ false

pub goes : (t : Bytes) (o : Places ℕ × Cursor) (kind : Kind) → number_of kind ≡ kind_at (ahead t o.1) → Goes t o
goes t o kind e = rw (ne_eqb (kind_at (ahead t o.1)) 0 (omega (arith, some_kind kind))) (and-false (is_some o.0))

pub no_comment : (t : Bytes) (o : Places ℕ × Cursor) → is_some o.0 ≡ false → Goes t o
no_comment t o e = rw e

module _ {t : Bytes} {c : Cursor} {o : Places ℕ × Cursor} (s : Skipped t c (is k_comment) o) where
  pub comment_ends : Wf t c.at → is_some o.0 ≡ true → kind_at (ahead t o.1) ≡ 0 → Reads t c parse_head (fail 18) c
  comment_ends w b e =
      let r = rw (s.there, b, none_left t o.1.at s.read.wf e) at s.read.gives in
      record { gives = rw r (sym (ap (fail 18) (optional_token_sound (is k_comment) (ahead t c) r).0)); wf = w; onward = omega arith }

  keyword : {out : List Token → Result Token} {d : Cursor} → Goes t o → Reads t o.1 (consume 1 is_keyword) out d
      → Reads t o.1 (parse_keyword (token_there t o.0)) out d
  keyword e r = alike (consume 1 is_keyword) (parse_keyword (token_there t o.0)) (keyword_is t o.0 _ e) r

  pub keyword_fails : Goes t o → is_keyword (kind_at (ahead t o.1)) ≡ false → Reads t c parse_head (fail 1) o.1
  keyword_fails e k = then _ s.read (stop _ (keyword e (not_consumed 1 is_keyword s.read.wf k)))

-- what was read up to the keyword
pub record Begun (t : Bytes) (c : Cursor) (o : Places ℕ × Cursor) (kind : Kind) (name : Cursor) : Type 0 where
  pub wf : Wf t c.at
  pub comment : Skipped t c (is k_comment) o
  pub here : number_of kind ≡ kind_at (ahead t o.1)
  pub keyword : is_keyword (number_of kind) ≡ true
  pub step : Stepped t o.1 name

module _ {t : Bytes} {c name : Cursor} {o : Places ℕ × Cursor} {kind : Kind} (b : Begun t c o kind name) {number : ℕ}
    (missing : number ≡ pick (eqb (number_of kind) k_struct) 2 3) where
  kw : Reads t o.1 (parse_keyword (token_there t o.0)) (ok (tok_at t o.1.at)) name
  kw = keyword b.comment (goes t o kind b.here) (consumed 1 is_keyword b.step (rw (← b.here) b.keyword)).read

  named : {out : List Token → Result Token} {d : Cursor} → Reads t name (consume number (is k_identifier)) out d
      → Reads t name (consume (name_number (tok_at t o.1.at)) (is k_identifier)) out d
  named r = rw (rw (b.here, b.step.first) at missing) at r

  pub name_fails : {n : ℕ} {d : Cursor} → Reads t name (consume number (is k_identifier)) (fail n) d → Reads t c parse_head (fail n) d
  name_fails r = then _ b.comment.read (then _ kw (stop _ (named r)))

  module _ {left : Cursor} (p : TokenPassed t name (consume number (is k_identifier)) left) where
    pub left_fails : {n : ℕ} {d : Cursor} → Reads t left (consume 4 (is k_left_curly)) (fail n) d → Reads t c parse_head (fail n) d
    left_fails r = then _ b.comment.read (then _ kw (then _ (named p.read) (stop _ r)))

    pub head : {after : Cursor} → TokenPassed t left (consume 4 (is k_left_curly)) after
        → HeadPassed t c (record { first = c.at; comment = o.0; keyword = o.1.at; name = name.at }) after
    head q =
        let first : Stands t c.at = (b.wf, omega (arith, b.comment.read.onward, b.step.here.1)) in
        record {
          read = rw (← p.place) (then _ b.comment.read (then _ kw (then _ (named p.read) (then _ q.read (done q.read.wf)))));
          stands = record { first = first; comment = there_stands b.comment first; keyword = b.step.here; name = p.here };
          laid = rw (← b.comment.place, ← b.comment.there, ← b.step.place);
          first = b.comment.first;
          eats = omega (arith, b.comment.read.onward, kw.onward, p.read.onward, q.place, next_past t left.at);
        }
