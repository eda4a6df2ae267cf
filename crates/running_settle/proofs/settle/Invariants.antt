-- Each turn is one step, and the next thread is the first that is active then.
use Prim.Native.Nat.{◌<◌}
use Rattle.running_settle.specs.Reached.{Reached, in_hand, to_do}
use Rattle.running_settle.proofs.settle.Given as goal

abbrev pub invariant-loop-spot : goal.invariant-loop-spot
invariant-loop-spot l =
    Reached l.code l.plan l.spot l.initial.work l.work l.index l.turn (in_hand l.work l.plan l.spot l.key l.index l.turn) × (l.key < l.plan.keys)

abbrev pub decreases-loop-spot : goal.decreases-loop-spot
decreases-loop-spot l = to_do l.plan l.spot l.work l.index l.turn.frames
