use mathlib.Core.Path.{refl}
use Rattle.tidying_fitting.proofs.Told.{few_told}
use Rattle.tidying_fitting.proofs.Told.{start_told}
use Rattle.tidying_fitting.proofs.start.Goals as goal

pub overflow_sub-result : goal.overflow_sub-result
overflow_sub-result c = few_told c.own-part.ensures c.requires

pub returns : goal.returns
returns c = start_told c.own-part.ensures refl
