-- The promise is that of the call that is made.
use Rattle.machine.specs.Steps.{search_row}
use Rattle.host.specs.Laws.{runs_by}
use Rattle.host.proofs.millkettle_search.Goals as goal

pub returns : goal.returns
returns c = runs_by search_row _ _ _ _ c.run_lent.ensures (λ inside. inside.called)
