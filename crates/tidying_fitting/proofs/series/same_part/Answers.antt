use Rattle.tidying_fitting.proofs.Blocks.{blocks_told}
use Rattle.tidying_fitting.proofs.series.same_part.Goals as goal

pub returns : goal.returns
returns c = blocks_told c.start-from.ensures c.start-back.ensures c.eq.ensures
