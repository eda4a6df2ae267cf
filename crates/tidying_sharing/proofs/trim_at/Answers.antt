-- The table is lent from the alternative on, so that what is before it stays.
use native.Mathlib.Omega.{arith}
use Rattle.tidying_sharing.specs.Lent.{some_lent, left_room, trims_at}
use Rattle.tidying_sharing.proofs.trim_at.Goals as goal

pub trim-left-requires : goal.trim-left-requires
trim-left-requires c =
    some_lent c.requires

pub overflow_add-result : goal.overflow_add-result
overflow_add-result c =
    omega (arith, left_room c.requires c.trim-left.auto.table c.trim-left.ensures)

pub returns : goal.returns
returns c =
    trims_at (omega (arith, c.requires.order)) c.trim-left.ensures
