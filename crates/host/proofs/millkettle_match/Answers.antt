-- The promise is that of the call that is made.
use Rattle.machine.specs.Steps.{match_row}
use Rattle.host.specs.Laws.{runs_by}
use Rattle.host.proofs.millkettle_match.Goals as goal

pub returns : goal.returns
returns c = runs_by match_row _ _ _ _ c.run_lent.ensures (λ inside. inside.called)
