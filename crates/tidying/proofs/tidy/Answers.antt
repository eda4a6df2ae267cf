use native.Mathlib.Omega.{arith}
use mathlib.Core.Path.{refl, ◌∙◌}
use Rattle.tidying.specs.Tidies.{along_start, along_some, some_sought, some_found, step_lighter}
use Rattle.tidying.specs.Tidies.{along_more, along_end, held_room}
use Rattle.tidying.proofs.tidy.Goals as goal

pub loop-found-init : goal.loop-found-init
loop-found-init c = (along_start, refl)

pub search-requires : goal.search-requires
search-requires c = some_sought (along_some c.loop-found.invariant.0 c.requires)

pub step-count-requires : goal.step-count-requires
step-count-requires c = some_found c.in-Some.ensures (along_some c.loop-found.invariant.0 c.requires)

pub loop-found-smaller : goal.loop-found-smaller
loop-found-smaller c =
    step_lighter c.in-Some.ensures c.step-count.ensures (along_some c.loop-found.invariant.0 c.requires)

pub loop-found-preserved : goal.loop-found-preserved
loop-found-preserved c = (
  along_more c.in-Some.ensures c.step-count.ensures c.loop-found.invariant.0,
  c.step-count.auto.table ∙ c.loop-found.invariant.1,
)

pub overflow_mul-count : goal.overflow_mul-count
overflow_mul-count c = omega (arith, held_room (along_some c.loop-found.invariant.0 c.requires))

pub clear-requires : goal.clear-requires
clear-requires c = omega (arith, held_room (along_some c.loop-found.invariant.0 c.requires))

pub returns : goal.returns
returns c =
    along_end c.loop-found.invariant.0 (rw c.in_default.is at c.search.ensures) c.loop-found.invariant.1 c.clear.ensures
