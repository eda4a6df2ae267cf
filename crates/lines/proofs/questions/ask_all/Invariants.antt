-- The loop stays within the input, and each question ends behind the place where it begins.
use Rattle.std.proofs.Common.{◌≤◌, ◌-◌, length}
use Rattle.lines.proofs.questions.ask_all.Given as goal

abbrev pub invariant-loop-at : goal.invariant-loop-at
invariant-loop-at g l = l.at ≤ length l.input

abbrev pub decreases-loop-at : goal.decreases-loop-at
decreases-loop-at g l = length l.input - l.at
