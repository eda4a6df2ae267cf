-- The digits passed are written behind those that are left.
use Rattle.std.proofs.Common.{◌≡◌, List, ◌++◌, ℕ}
use Rattle.intake_report.specs.Texts.{decimal}
use Rattle.showing_spelling.specs.Wrote.{Wrote}
use Rattle.showing_spelling.proofs.room.Room.put_decimal.Given as goal

abbrev pub invariant-loop-left : goal.invariant-loop-left
invariant-loop-left l = (x : List ℕ) × Wrote l.initial.self x l.self × (decimal l.value ≡ decimal l.left ++ x)

abbrev pub decreases-loop-left : goal.decreases-loop-left
decreases-loop-left l = l.left
