use native.Mathlib.Omega.{arith}
use mathlib.Core.Path.{refl, ◌∙◌}
use Rattle.tidying_laws.specs.List.{laws}
use Rattle.tidying_laws.specs.ByNumber.{law_count}
use Rattle.tidying.specs.Search.{some_part, before_start, before_more, found_none}
use Rattle.tidying.specs.Search.{lower_start, lower_next, found_law}
use Rattle.tidying.proofs.search.Goals as goal

pub search-init : goal.search-init
search-init c = (before_start, refl, omega arith)

pub loop-law-init : goal.loop-law-init
loop-law-init c = (lower_start, refl)

pub law_fits-requires : goal.law_fits-requires
law_fits-requires c = some_part c.search.top (omega arith) c.requires

pub loop-law-preserved : goal.loop-law-preserved
loop-law-preserved c = (
  lower_next (omega arith) _ (omega arith) c.law_fits.ensures c.loop-law.invariant.0 c.if-law_fits.false,
  c.loop-law.invariant.1,
)

pub search-preserved : goal.search-preserved
unfolding law_count laws
search-preserved c = (
  before_more (omega arith) (omega arith) c.loop-law.invariant.0 c.search.invariant.0,
  c.loop-law.invariant.1 ∙ c.search.invariant.1,
  omega arith,
)

pub returns : goal.returns
returns c = rw c.search.invariant.1 (found_none (omega arith) c.search.invariant.0)

pub returns-then-law_fits : goal.returns-then-law_fits
returns-then-law_fits c =
    found_law (omega arith) _ (omega arith) c.law_fits.ensures c.loop-law.invariant.0 c.if-law_fits.true c.search.invariant.0

pub returns-2 : goal.returns-2
unfolding law_count laws
returns-2 c =
    rw (c.loop-law.invariant.1 ∙ c.search.invariant.1)
    (found_none (omega arith) (before_more (omega arith) (omega arith) c.loop-law.invariant.0 c.search.invariant.0))
