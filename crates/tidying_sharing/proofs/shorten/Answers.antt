use mathlib.Core.Path.{refl, ◌∙◌}
use native.Mathlib.Omega.{arith}
use Rattle.tidying_sharing.specs.Shortening.{shorts_start, one_short, item_there, item_less, item_trimming}
use Rattle.tidying_sharing.specs.Shortening.{item_width}
use Rattle.tidying_sharing.specs.Shortening.{short_next, shorts_end}
use Rattle.tidying_sharing.proofs.shorten.Goals as goal

pub loop-end-init : goal.loop-end-init
loop-end-init c = (shorts_start, refl, omega arith, omega arith)

pub start-at-requires : goal.start-at-requires
start-at-requires c =
    item_there (one_short c.requires c.loop-end.invariant.0) c.loop-end-test.true

pub trim_at-left-requires : goal.trim_at-left-requires
trim_at-left-requires c =
    item_trimming (one_short c.requires c.loop-end.invariant.0) c.loop-end-test.true c.start-at.ensures

pub overflow_add-trimmed : goal.overflow_add-trimmed
overflow_add-trimmed c =
    let width = item_width (one_short c.requires c.loop-end.invariant.0) c.loop-end-test.true c.start-at.ensures
    c.trim_at-left.ensures in
    omega (arith, c.requires.short)

pub overflow_add-parts : goal.overflow_add-parts
overflow_add-parts c =
    let width = item_width (one_short c.requires c.loop-end.invariant.0) c.loop-end-test.true c.start-at.ensures
    c.trim_at-left.ensures in
    omega (arith, c.requires.short)

pub loop-end-smaller : goal.loop-end-smaller
loop-end-smaller c =
    item_less (one_short c.requires c.loop-end.invariant.0) c.loop-end-test.true c.start-at.ensures

pub loop-end-preserved : goal.loop-end-preserved
loop-end-preserved c =
    let width = item_width (one_short c.requires c.loop-end.invariant.0) c.loop-end-test.true c.start-at.ensures
    c.trim_at-left.ensures in (
      record {
        by = λ before s front leads l ts r.
            short_next (c.loop-end.invariant.0.by before s front leads l ts r) c.loop-end-test.true c.start-at.ensures
            c.trim_at-left.ensures;
      },
      c.trim_at-left.auto.table ∙ c.loop-end.invariant.1,
      omega arith,
      omega arith,
    )

pub returns : goal.returns
returns c =
    shorts_end c.loop-end-test.false c.loop-end.invariant.0
