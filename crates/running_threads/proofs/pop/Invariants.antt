-- The stack is undone, a frame with each turn, until a key comes off it.
use Rattle.running_threads.specs.Active.{Undone}
use Rattle.running_threads.proofs.pop.Given as goal

abbrev pub invariant-loop-top : goal.invariant-loop-top
invariant-loop-top l = Undone l.plan l.at l.frames l.initial.work l.top l.work
