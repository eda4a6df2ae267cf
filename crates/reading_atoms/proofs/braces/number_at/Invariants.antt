-- The value so far is the exact one held at the cap, and a digit more keeps that.
use Prim.Native.Nat.{◌-◌}
use lib.ListN.{length}
use Rattle.reading_atoms.specs.BraceLaws.{Digits}
use Rattle.reading_atoms.proofs.braces.number_at.Given as goal

abbrev pub invariant-loop-digit : goal.invariant-loop-digit
invariant-loop-digit l = Digits l.s l.at l.value l.end

abbrev pub decreases-loop-digit : goal.decreases-loop-digit
decreases-loop-digit l = length l.s - l.end
