-- The size in a pattern's own record is held just above the limit of rows. Assumes nothing.
use native.Mathlib.Omega.{arith}
use Rattle.compiler.proofs.Laws.{stored_some, size_small, tells_rows}
use Rattle.compiler.proofs.many_rows.Goals as goal

pub root-whole-requires : goal.root-whole-requires
root-whole-requires c = stored_some c.requires

pub overflow_add-result : goal.overflow_add-result
overflow_add-result c =
    omega (arith, size_small c.root-whole.result c.requires c.root-whole.ensures)

pub returns : goal.returns
returns c = tells_rows c.root-whole.result c.root-whole.ensures
