use native.Mathlib.Omega.{arith}
use Rattle.table.proofs.Made.{leaf_derives, some_series, closing, records_fit, group_derives, other_derives}
use Rattle.table.proofs.derive.Goals as goal

pub returns-then-kind-le-ASSERTION : goal.returns-then-kind-le-ASSERTION
returns-then-kind-le-ASSERTION c = rw c.leaf.ensures (leaf_derives c.if-kind-le-ASSERTION.true)

pub along-inside-requires : goal.along-inside-requires
along-inside-requires c = some_series c.requires c.if-kind-le-ASSERTION.false

pub closed_size-size-requires : goal.closed_size-size-requires
closed_size-size-requires c = closing c.requires c.if-kind-le-ASSERTION.false c.along-inside.ensures

pub overflow_add-records : goal.overflow_add-records
overflow_add-records c =
    omega (arith, records_fit c.requires c.if-kind-le-ASSERTION.false c.along-inside.ensures, c.requires.low)

pub returns-then-kind-eq-GROUP : goal.returns-then-kind-eq-GROUP
returns-then-kind-eq-GROUP c =
    group_derives c.if-kind-le-ASSERTION.false c.along-inside.ensures
    c.if-kind-eq-GROUP.true
    c.closed_size-size.ensures c.max.ensures

pub returns : goal.returns
returns c =
    other_derives c.if-kind-le-ASSERTION.false c.along-inside.ensures c.if-kind-eq-GROUP.false
    c.closed_size-size.ensures
