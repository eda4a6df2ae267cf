-- Each turn is one step of the search, until it has ended.
use Rattle.second.specs.Held.{to_do}
use Rattle.second.specs.Course.{Course}
use Rattle.second.proofs.run.Given as goal

abbrev pub invariant-loop-trial : goal.invariant-loop-trial
invariant-loop-trial l = Course l.code l.text l.layout l.start l.row l.initial.work l.work l.trial

abbrev pub decreases-loop-trial : goal.decreases-loop-trial
decreases-loop-trial l = to_do l.layout l.trial l.work
