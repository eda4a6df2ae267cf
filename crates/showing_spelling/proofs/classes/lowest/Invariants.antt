-- The bytes passed are not in.
use Rattle.std.proofs.Common.{◌≡◌, ◌<◌, ℕ, false}
use Rattle.sets.specs.Sets.{has}
use Rattle.showing_spelling.proofs.classes.lowest.Given as goal

abbrev pub invariant-loop-b : goal.invariant-loop-b
invariant-loop-b l = (k : ℕ) → k < l.b → has l.set k ≡ false
