-- Each call does one part of the step. Assumes nothing.
use native.Mathlib.Omega.{arith}
use borrow.Author.Rules.{rules}
use Rattle.tidying.specs.Steps.{some_fitting, made_few, some_unmerged, some_said, step_held}
use Rattle.tidying.proofs.step.Goals as goal

pub rewrite-made-requires : goal.rewrite-made-requires
rewrite-made-requires c numbered = some_fitting c.requires.pattern.held c.requires.finds

pub overflow_add-found : goal.overflow_add-found
overflow_add-found c =
    omega (arith, made_few c.requires.pattern.held c.requires.finds c.rewrite-made.ensures)

pub overflow_sub-found : goal.overflow_sub-found
overflow_sub-found c =
    omega (arith, made_few c.requires.pattern.held c.requires.finds c.rewrite-made.ensures)

pub overflow_sub-found-2 : goal.overflow_sub-found-2
overflow_sub-found-2 c =
    omega (arith, made_few c.requires.pattern.held c.requires.finds c.rewrite-made.ensures)

pub merge-count-requires : goal.merge-count-requires
merge-count-requires c =
    some_unmerged c.requires.pattern.held c.requires.finds c.rewrite-made.ensures

pub refresh-requires : goal.refresh-requires
refresh-requires c =
    some_said c.requires.pattern.held c.requires.finds c.rewrite-made.ensures c.merge-count.ensures

pub returns : goal.returns
returns c =
    record {
      by = λ r q g p h e.
          step_held h e c.rewrite-made.ensures c.merge-count.ensures c.refresh.ensures (search rules);
    }
