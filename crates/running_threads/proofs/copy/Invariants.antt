-- One word more is copied with each turn.
use Rattle.running_threads.specs.Words.{Pasted}
use Rattle.running_threads.proofs.copy.Given as goal

abbrev pub invariant-loop-i : goal.invariant-loop-i
invariant-loop-i l = Pasted l.from l.to l.i l.initial.work l.work
