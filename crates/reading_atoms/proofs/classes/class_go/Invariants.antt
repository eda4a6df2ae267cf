-- The reading from here on is the reading of the whole, and each item takes a byte or more.
use Prim.Native.Nat.{◌-◌}
use lib.ListN.{length}
use Rattle.reading_atoms.specs.ClassLaws.{Reading}
use Rattle.reading_atoms.proofs.classes.class_go.Given as goal

abbrev pub invariant-loop-read : goal.invariant-loop-read
invariant-loop-read l = Reading l.s l.negated l.from l.read.set l.read.end

abbrev pub decreases-loop-read : goal.decreases-loop-read
decreases-loop-read l = length l.s - l.read.end
