-- The minimum is the first of the last eight words of the quantifier's own record.
use native.Mathlib.Omega.{arith}
use Rattle.tidying_rewriting.specs.Rewriting.{within}
use Rattle.tidying_rewriting.proofs.Own.{never, once}
use Rattle.tidying_rewriting.proofs.unquantify.Goals as goal

pub word-requires : goal.word-requires
word-requires c = omega (arith, within c.requires.fitting.placed)

pub returns-then-word-eq0 : goal.returns-then-word-eq0
returns-then-word-eq0 c =
    never c.word.ensures c.if-word-eq0.true c.shrink.ensures

pub overflow_sub-top : goal.overflow_sub-top
overflow_sub-top c = omega (arith, within c.requires.fitting.placed)

pub remove-requires : goal.remove-requires
remove-requires c = omega (arith, within c.requires.fitting.placed)

pub overflow_sub-result : goal.overflow_sub-result
overflow_sub-result c =
    omega (arith, within c.requires.fitting.placed)

pub returns : goal.returns
returns c =
    once c.word.ensures c.if-word-eq0.false c.remove.ensures
