-- One word more has the value with each turn.
use Rattle.running_threads.specs.Words.{Spread}
use Rattle.running_threads.proofs.spread.Given as goal

abbrev pub invariant-loop-i : goal.invariant-loop-i
invariant-loop-i l = Spread l.from l.i l.value l.initial.work l.work
