use mathlib.Core.Path.{◌≡◌, sym, ◌∙◌}
use Rattle.reading_atoms.specs.Chars.{byte_at, close_paren}
use native.Mathlib.Omega.{arith}
use borrow.Author.Tests.{not-true, not-false}
use Rattle.reading_atoms.specs.Places.{byte_is, byte_other}
use Rattle.reading_items.proofs.Joining.{unclosed, behind_group, some_group, closes}
use Rattle.reading_items.proofs.parts.closed.Goals as goal

pub returns-then-ne : goal.returns-then-ne
returns-then-ne c =
    rw c.at.ensures
    (unclosed (λ e. byte_other c.byte_at.result close_paren (not-true _ (sym c.if-ne.ensures)) (omega arith) (c.byte_at.ensures ∙ e)))

pub quantified-requires : goal.quantified-requires
quantified-requires c =
    let at : byte_at c.args.s.now
    c.args.from.at ≡ close_paren
    = sym c.byte_at.ensures
    ∙ byte_is c.byte_at.result close_paren (not-false _ (sym c.if-ne.ensures)) in (
      behind_group c.requires.0 at c.requires.2 c.grouped.ensures.next
          c.grouped.auto.table,
      some_group c.requires.1 c.grouped.ensures,
    )

pub returns : goal.returns
returns c = closes (sym c.byte_at.ensures
    ∙ byte_is c.byte_at.result close_paren (not-false _ (sym c.if-ne.ensures)))
    c.grouped.ensures c.quantified.ensures
