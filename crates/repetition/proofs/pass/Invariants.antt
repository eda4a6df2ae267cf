-- Each run is one more of the repetition.
use Prim.Native.Nat.{◌-◌, ◌+◌}
use lib.ListN.{length}
use Rattle.repetition.specs.Laws.{Course}
use Rattle.repetition.proofs.pass.Given as goal

abbrev pub invariant-loop-at : goal.invariant-loop-at
invariant-loop-at l =
    Course l.code l.text l.start l.at l.initial.list l.list l.initial.work l.work l.matches l.filled l.count

abbrev pub decreases-loop-at : goal.decreases-loop-at
decreases-loop-at l = length l.text + 1 - l.at
