-- The inner quantifier's own record stands right below the outer's.
use native.Mathlib.Omega.{arith}
use Rattle.tidying_rewriting.proofs.Own.{inner_there, outer_left}
use Rattle.tidying_rewriting.proofs.unnest.Goals as goal

pub overflow_sub-top : goal.overflow_sub-top
overflow_sub-top c = omega (arith, inner_there c.requires)

pub remove-requires : goal.remove-requires
remove-requires c = omega (arith, inner_there c.requires)

pub overflow_sub-result : goal.overflow_sub-result
overflow_sub-result c = omega (arith, inner_there c.requires)

pub returns : goal.returns
returns c = outer_left c.remove.ensures
