use mathlib.Core.Path.{sym, ◌∙◌}
use mathlib.Core.Bool.{true≢false}
use borrow.Author.Tests.{eq-eqb, eqb-true}
use Rattle.tidying_fitting.proofs.Passed.{first_differs, second_differs, sets_told}
use Rattle.tidying_fitting.proofs.series.begins_alike.Goals as goal
use Rattle.tidying_fitting.proofs.series.begins_alike.Goals.{then-own-eq-BYTE_SET, else-own-eq-BYTE_SET}

pub returns-then-own-eq-BYTE_SET-2 : goal.returns-then-own-eq-BYTE_SET-2
returns-then-own-eq-BYTE_SET-2 c =
    elim c.if-own-eq-BYTE_SET.branch [
      | then-own-eq-BYTE_SET w ↦
          sets_told c.first_item-a.ensures c.first_item-b.ensures c.own.ensures w.if-own-eq-BYTE_SET.true
          w.own-then-own-eq-BYTE_SET.ensures (eqb-true _ _ (sym w.value-is ∙ c.if-own-eq-BYTE_SET-2.true))
          c.last_words.ensures c.last_words-then-own-eq-BYTE_SET-2.ensures c.same.ensures
      | else-own-eq-BYTE_SET w ↦
          absurd (w.if-own-eq-BYTE_SET.false (eqb-true _ _ (sym w.value-is ∙ c.if-own-eq-BYTE_SET-2.true)))
    ]

pub returns-else-own-eq-BYTE_SET-2 : goal.returns-else-own-eq-BYTE_SET-2
returns-else-own-eq-BYTE_SET-2 c =
    elim c.if-own-eq-BYTE_SET.branch [
      | then-own-eq-BYTE_SET w ↦
          rw c.if-own-eq-BYTE_SET-2.false (second_differs c.first_item-a.ensures c.first_item-b.ensures
          w.own-then-own-eq-BYTE_SET.ensures
          (λ e. true≢false (sym (eq-eqb _ _ e) ∙ sym w.value-is ∙ c.if-own-eq-BYTE_SET-2.false)))
      | else-own-eq-BYTE_SET w ↦
          rw c.if-own-eq-BYTE_SET-2.false (first_differs c.first_item-a.ensures c.first_item-b.ensures c.own.ensures
          w.if-own-eq-BYTE_SET.false)
    ]
