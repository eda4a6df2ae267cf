use mathlib.Core.Path.{◌∙◌}
use native.Mathlib.Omega.{arith}
use Rattle.running.specs.Positions.{plan_fits}
use Rattle.running.specs.Course.{Begins, Settled, course_first, count_fits, position_inside, course_next}
use Rattle.running.specs.Course.{course_last}
use Rattle.running.proofs.run.Goals.{After-plan_of-plan, After-settle-turn}
use Rattle.running.proofs.run.Goals as goal

-- What is known once there is a plan, at the loop's head, and of a position that is settled.
module _ (c : After-plan_of-plan) where
  begins : Begins c.args.code.now c.args.text.now c.args.start c.args.row c.plan_of-plan.result
  begins = record {
    ready = c.requires.ready.0;
    low = c.requires.ready.1;
    within = c.requires.start_in_bounds.0;
    short = c.requires.start_in_bounds.1;
    planned = c.plan_of-plan.ensures;
  }

module _ (c : After-settle-turn) where
  settled : Settled c.args.code.now c.args.text.now c.args.start
      c.args.row c.plan_of-plan.result c.prepare.new.work c.loop-spot.work
      c.loop-spot.spot c.loop-spot.found c.loop-spot.count c.settle-turn.new.work c.settle-turn.result
  settled = record {
    begins = begins (goal.at.After-settle-turn c).After-plan_of-plan;
    course = c.loop-spot.invariant;
    long = c.settle-turn.auto.work;
    settled = c.settle-turn.ensures;
  }

pub prepare-requires : goal.prepare-requires
prepare-requires c =
    let b = begins (goal.at.prepare-requires c).After-plan_of-plan in
    let fits = plan_fits b.planned in
    (b.planned.planned, omega (arith, b.low, b.planned.serves.rows), omega (arith, c.requires.code_in_bounds))

pub first_spot-spot-requires : goal.first_spot-spot-requires
first_spot-spot-requires c = (begins (goal.at.first_spot-spot-requires c).After-plan_of-plan).planned.planned

pub loop-spot-init : goal.loop-spot-init
loop-spot-init c =
    let b = begins (goal.at.loop-spot-init c).After-plan_of-plan in
    rw c.first_spot-spot.ensures
    (course_first b (omega (arith, plan_fits b.planned, c.prepare.auto.work, c.requires.code_in_bounds)) c.prepare.ensures
    (record { before = c.byte_before.ensures; after = c.byte_after.ensures }))

pub settle-turn-requires : goal.settle-turn-requires
settle-turn-requires c =
    let b = begins (goal.at.settle-turn-requires c).After-plan_of-plan in
    record { ready = (b.ready, b.planned.serves); laid = (c.loop-spot.invariant.laid, c.loop-spot.invariant.opens) }

pub overflow_add-count : goal.overflow_add-count
overflow_add-count c = omega (arith, count_fits (settled (goal.at.overflow_add-count c).After-settle-turn))

pub shape_of-work-then-turn-eq0 : goal.shape_of-work-then-turn-eq0
shape_of-work-then-turn-eq0 c =
    let d = settled (goal.at.shape_of-work-then-turn-eq0 c).After-settle-turn in
    d.long ∙ d.course.long ∙ c.prepare.auto.work

pub returns-then-turn-eq0 : goal.returns-then-turn-eq0
returns-then-turn-eq0 c =
    course_last (settled (goal.at.returns-then-turn-eq0 c).After-settle-turn) c.prepare.ensures c.if-turn-eq0.true

pub overflow_add-spot : goal.overflow_add-spot
overflow_add-spot c =
    let d = settled (goal.at.overflow_add-spot c).After-settle-turn in
    omega (arith, d.course.within, d.begins.short)

pub next_spot-spot-requires : goal.next_spot-spot-requires
next_spot-spot-requires c =
    let d = settled (goal.at.next_spot-spot-requires c).After-settle-turn in
    omega (arith, d.course.within, d.begins.short)

pub loop-spot-smaller : goal.loop-spot-smaller
loop-spot-smaller c =
    let inside = position_inside (settled (goal.at.loop-spot-smaller c).After-settle-turn) (omega (arith, c.if-turn-eq0.false)) in
    rw c.next_spot-spot.ensures (omega arith)

pub loop-spot-preserved : goal.loop-spot-preserved
loop-spot-preserved c =
    let d = settled (goal.at.loop-spot-preserved c).After-settle-turn in
    rw c.next_spot-spot.ensures (course_next d (omega (arith, c.if-turn-eq0.false)) c.byte_after-in-loop-spot.ensures)

pub plan_of-plan-requires : goal.plan_of-plan-requires
plan_of-plan-requires c = c.requires.ready.0
