use mathlib.Core.Path.{sym, ◌∙◌}
use native.Mathlib.Omega.{arith}
use borrow.Author.Tests.{not-true, not-false}
use Rattle.reading_atoms.specs.Chars.{colon}
use Rattle.reading_atoms.specs.Places.{byte_is, byte_other}
use Rattle.reading_items.proofs.Opens.{left_out, question_deep, no_form_lem, plain_opens}
use Rattle.reading_items.proofs.openings.behind_question.Goals as goal

pub returns-then-is_look : goal.returns-then-is_look
returns-then-is_look c =
    rw c.at.ensures
    (left_out c.requires.0 c.requires.1 (sym (rw c.byte_at-b.ensures at c.is_look.ensures)
    ∙ c.if-is_look.true))

pub returns-then-depth-eq-DEPTH_LIMIT : goal.returns-then-depth-eq-DEPTH_LIMIT
returns-then-depth-eq-DEPTH_LIMIT c =
    rw c.at-then-depth-eq-DEPTH_LIMIT.ensures
    (question_deep c.requires.0 c.requires.1 (sym (rw c.byte_at-b.ensures at
    c.is_look.ensures) ∙ c.if-is_look.false) c.if-depth-eq-DEPTH_LIMIT.true)

pub returns-then-ne : goal.returns-then-ne
returns-then-ne c =
    rw c.at-then-ne.ensures
    (no_form_lem c.requires.0 c.requires.1 (sym (rw c.byte_at-b.ensures at
    c.is_look.ensures) ∙ c.if-is_look.false) c.if-depth-eq-DEPTH_LIMIT.false
    (λ e. byte_other c.byte_at-b.result colon (not-true _ (sym c.if-ne.ensures)) (omega arith) (c.byte_at-b.ensures ∙ e)))

pub returns : goal.returns
returns c =
    plain_opens c.requires.0 c.requires.1 c.if-depth-eq-DEPTH_LIMIT.false
    (sym c.byte_at-b.ensures ∙ byte_is c.byte_at-b.result colon (not-false _ (sym c.if-ne.ensures)))
