use mathlib.Core.Path.{◌≡◌, ap, ◌∙◌}
use native.Mathlib.Omega.{arith}
use Rattle.table.specs.Derived.{derived_of, beside_of}
use Rattle.table.proofs.Walk.{Turn, first, turn, over}
use Rattle.table.proofs.along.Goals.{In-loop}
use Rattle.table.proofs.along.Goals as goal

-- in a turn, for the series that was asked for
turning : (c : In-loop) →
    Turn c.args.table.now c.args.top c.loop.counter c.requires.parts c.loop.all
turning c =
    turn c.requires.series (c.loop.invariant c.requires.before c.requires.parts c.requires.series) c.loop-test.true

pub root-all-requires : goal.root-all-requires
root-all-requires c =
    let f = first c.requires.series c.requires.some in
    omega (arith, f.1.some, f.1.few, f.1.room)

pub loop-init : goal.loop-init
loop-init c =
    λ before l series. let f = first series c.requires.some in rw (c.root-all.ensures, f.1.root) f.2

pub overflow_cast-passed : goal.overflow_cast-passed
overflow_cast-passed c = omega (arith, (turning (goal.at.overflow_cast-passed c).In-loop).here.some, (turning (goal.at.overflow_cast-passed c).In-loop).here.few)

pub overflow_sub-top : goal.overflow_sub-top
overflow_sub-top c = omega (arith, (turning (goal.at.overflow_sub-top c).In-loop).here.some, (turning (goal.at.overflow_sub-top c).In-loop).here.few)

pub root-requires : goal.root-requires
root-requires c =
    let t = (turning (goal.at.root-requires c).In-loop).here in
    omega (arith, t.some, t.few, t.room)

pub beside-both-requires : goal.beside-both-requires
beside-both-requires c =
    let t = turning (goal.at.beside-both-requires c).In-loop in
    let root = c.root.ensures ∙ t.here.root in
    record {
      records = rw root (omega (
        arith,
        t.here.some,
        t.here.few,
        c.requires.low,
      ));
      left = rw root (omega arith);
      right = t.small;
    }

pub loop-preserved : goal.loop-preserved
loop-preserved c =
    λ before l series.
    let t = turn series (c.loop.invariant before l series) c.loop-test.true in
    let both : c.beside-both.result ≡ beside_of (derived_of t.part) c.loop.all =
    c.beside-both.ensures ∙ ap (λ d. beside_of d c.loop.all)
    (c.root.ensures ∙ t.here.root) in
    rw both t.walk

pub returns : goal.returns
returns c = record { by = λ before l series. over series (c.loop.invariant before l series) c.loop-test.false }
