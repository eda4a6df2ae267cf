use mathlib.Core.Path.{sym, ◌∙◌}
use native.Mathlib.Omega.{arith}
use Rattle.reading_atoms.specs.Chars.{question}
use Rattle.reading_atoms.specs.Places.{byte_other}
use Rattle.reading_items.proofs.Opens.{group_opens}
use Rattle.reading_items.proofs.openings.opening_at.Goals as goal

pub returns : goal.returns
returns c = group_opens c.requires
    (λ e. byte_other c.byte_at.result question (sym c.if-eq.ensures) (omega arith) (c.byte_at.ensures ∙ e)) c.if-depth-eq-DEPTH_LIMIT.false
    (omega arith)
