use mathlib.Core.Path.{◌≡◌, refl, ◌∙◌}
use Prim.Native.Nat.{◌+◌, ◌-◌, ◌*◌, ◌≤◌, ◌<◌}
use native.Mathlib.Omega.{arith}
use lib.ListN.{length}
use Rattle.table.specs.Table.{record_words}
use Rattle.tidying_rewriting.specs.Rewriting.{within}
use Rattle.tidying_rewriting.proofs.Filling.{one_filling, fills_all, filling_start, filling_gone, filling_kept}
use Rattle.tidying_rewriting.proofs.Filling.{item_there, item_few, filled_room}
use Rattle.tidying_rewriting.proofs.drop_empty.Goals.{After-loop, In-loop, then-word-eq-EMPTY, else-word-eq-EMPTY}
use Rattle.tidying_rewriting.proofs.drop_empty.Goals as goal

-- A turn has an item, and that is there.
going : (c : In-loop) → 0 < c.word-items.result - c.loop.counter
going c = omega (arith, c.loop-test.true)

there : (c : In-loop) → (0 < c.loop.end) × (c.loop.end ≤ c.loop.count) × (record_words * c.loop.count ≤ length c.loop.table)
there c = item_there (one_filling c.requires c.loop.invariant.0) (going c)

-- After the last turn the sequence's own record is there.
room : (c : After-loop) → (c.args.n < c.args.top + c.loop.count) × (c.args.top + c.loop.count - c.args.n ≤ c.loop.count)
    × (record_words * c.loop.count ≤ length c.loop.table)
room c = filled_room c.requires.fitting (one_filling c.requires c.loop.invariant.0)

pub word-items-requires : goal.word-items-requires
word-items-requires c = omega (arith, within c.requires.fitting.placed)

pub overflow_sub-end : goal.overflow_sub-end
overflow_sub-end c = omega (arith, within c.requires.fitting.placed)

pub loop-init : goal.loop-init
loop-init c =
    let all : c.word-items.result - 0 ≡ c.word-items.result = omega arith in (
      rw all (record { by = λ before x y l m fit. filling_start fit.placed c.word-items.ensures }),
      refl,
      omega arith,
    )

pub word-requires : goal.word-requires
word-requires c = omega (arith, there c)

pub overflow_sub-end-then-word-eq-EMPTY : goal.overflow_sub-end-then-word-eq-EMPTY
overflow_sub-end-then-word-eq-EMPTY c = omega (arith, there (goal.at.overflow_sub-end-then-word-eq-EMPTY c).In-loop)

pub cut-count-requires : goal.cut-count-requires
cut-count-requires c = omega (arith, there (goal.at.cut-count-requires c).In-loop)

pub word-requires-else-word-eq-EMPTY : goal.word-requires-else-word-eq-EMPTY
word-requires-else-word-eq-EMPTY c = omega (arith, there (goal.at.word-requires-else-word-eq-EMPTY c).In-loop)

pub overflow_sub-end-else-word-eq-EMPTY : goal.overflow_sub-end-else-word-eq-EMPTY
overflow_sub-end-else-word-eq-EMPTY c =
    item_few (one_filling c.requires c.loop.invariant.0) (going (goal.at.overflow_sub-end-else-word-eq-EMPTY c).In-loop)
    c.word-else-word-eq-EMPTY.ensures

pub loop-preserved : goal.loop-preserved
loop-preserved c =
    let going = going (goal.at.loop-preserved c).In-loop in
    let left : c.word-items.result - (c.loop.counter + 1) ≡ c.word-items.result - c.loop.counter - 1 = omega arith in
    elim c.if-word-eq-EMPTY.branch [
      | then-word-eq-EMPTY w ↦ (
        rw (w.table-is, w.end-is, w.count-is, w.kept-is, left) (record {
          by = λ before x y l m fit.
              filling_gone (c.loop.invariant.0.by before x y l m fit) going c.word.ensures w.if-word-eq-EMPTY.true
              w.cut-count.ensures;
        }),
        rw w.table-is (w.cut-count.auto.table ∙ c.loop.invariant.1),
        omega (arith, w.kept-is),
      )
      | else-word-eq-EMPTY w ↦ (
        rw (w.table-is, w.end-is, w.count-is, w.kept-is, left) (record {
          by = λ before x y l m fit.
              filling_kept (c.loop.invariant.0.by before x y l m fit) going c.word.ensures w.if-word-eq-EMPTY.false
              w.word-else-word-eq-EMPTY.ensures;
        }),
        rw w.table-is c.loop.invariant.1,
        omega (arith, w.kept-is),
      )
    ]

pub overflow_add-top : goal.overflow_add-top
overflow_add-top c = omega (arith, within c.requires.fitting.placed, room (goal.at.overflow_add-top c).After-loop)

pub overflow_sub-top : goal.overflow_sub-top
overflow_sub-top c = omega (arith, room (goal.at.overflow_sub-top c).After-loop)

pub rejoin-requires : goal.rejoin-requires
rejoin-requires c = omega (arith, room (goal.at.rejoin-requires c).After-loop)

pub returns : goal.returns
returns c = fills_all (omega arith) c.loop.invariant.0 c.rejoin.ensures
