-- The records below the part's own go, and that one is written anew.
use mathlib.Core.Path.{ap}
use Prim.Native.Nat.{◌-◌}
use native.Mathlib.Omega.{arith}
use Rattle.tidying_rewriting.specs.Rewriting.{within}
use Rattle.tidying_rewriting.proofs.Own.{block, shrunk}
use Rattle.tidying_rewriting.proofs.shrink.Goals as goal

pub word-requires : goal.word-requires
word-requires c = omega (arith, within c.requires.placed)

pub overflow_sub-gone : goal.overflow_sub-gone
overflow_sub-gone c = omega (arith, block c.requires.placed c.word.ensures)

pub overflow_sub-at : goal.overflow_sub-at
overflow_sub-at c = omega (arith, block c.requires.placed c.word.ensures)

pub overflow_sub-at-2 : goal.overflow_sub-at-2
overflow_sub-at-2 c = omega (arith, block c.requires.placed c.word.ensures)

pub remove-requires : goal.remove-requires
remove-requires c = omega (arith, block c.requires.placed c.word.ensures)

pub stamp-requires : goal.stamp-requires
stamp-requires c =
    omega (arith, block c.requires.placed c.word.ensures)

pub overflow_sub-result : goal.overflow_sub-result
overflow_sub-result c =
    omega (arith, block c.requires.placed c.word.ensures)

pub returns : goal.returns
returns c =
    record {
      by = λ before x l m p.
          shrunk p (c.word.result - 1) (ap (λ k. k - 1) (block p c.word.ensures).0) c.remove.ensures
          c.stamp.ensures;
    }
