-- One register more is -1 with each turn.
use Prim.Native.Nat.{◌-◌, ◌≤◌}
use Rattle.running_threads.specs.Held.{Wiped}
use Rattle.running_threads.proofs.wipe.Given as goal

abbrev pub invariant-loop-register : goal.invariant-loop-register
invariant-loop-register l =
    (l.register - l.from ≤ l.to - l.from) ×
    Wiped l.plan l.at l.frames l.from (l.register - l.from) l.initial.work l.work l.top
