use mathlib.Core.Path.{sym, ◌∙◌}
use borrow.Author.Rules.{rules}
use Rattle.emit.proofs.Walks.{declarations_put, declaration_clear, shrinks, declare_on}
use Rattle.emit.proofs.put_declarations.Goals as goal

pub put_declaration-c-requires : goal.put_declaration-c-requires
put_declaration-c-requires c =
    let loop = c.loop-c.invariant in
    (declaration_clear loop (sym c.is_done.ensures ∙ c.loop-c-test.true), loop.room)

pub loop-c-smaller : goal.loop-c-smaller
loop-c-smaller c = shrinks c.loop-c.invariant (sym c.is_done.ensures ∙ c.loop-c-test.true) c.put_declaration-c.ensures

pub loop-c-preserved : goal.loop-c-preserved
loop-c-preserved c =
    declare_on c.loop-c.invariant (sym c.is_done.ensures ∙ c.loop-c-test.true) c.put_declaration-c.ensures (search rules) (search rules)

pub returns : goal.returns
returns c = declarations_put c.loop-c.invariant (sym c.is_done.ensures ∙ c.loop-c-test.false)
