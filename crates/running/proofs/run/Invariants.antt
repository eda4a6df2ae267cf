-- Each position is settled, and the queue is active at the next.
use Prim.Native.Nat.{◌-◌}
use lib.ListN.{length}
use Rattle.running.specs.Course.{Course}
use Rattle.running.proofs.run.Given as goal

abbrev pub invariant-loop-spot : goal.invariant-loop-spot
invariant-loop-spot l =
    Course l.code l.text l.start l.row l.plan l.initial.work l.work l.spot l.found l.count

abbrev pub decreases-loop-spot : goal.decreases-loop-spot
decreases-loop-spot l = length l.text - l.spot.position
