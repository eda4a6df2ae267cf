-- The invariant: the run among the parts that were passed ends at `stop`. The measure: where the parts still to be passed end.
use Rattle.tidying_sharing.specs.Runs.{Backs}
use Rattle.tidying_sharing.proofs.run_end.Given as goal

abbrev pub invariant-loop-end : goal.invariant-loop-end
invariant-loop-end l = Backs l.table l.top l.first l.end l.stop

abbrev pub decreases-loop-end : goal.decreases-loop-end
decreases-loop-end l = l.end
