use mathlib.Core.Logic.{inl}
use native.Mathlib.Omega.{arith}
use Rattle.std.specs.Prelude.{Option}
use Rattle.running_threads.specs.Held.{Took}
use Rattle.running_threads.specs.Laws.{laid_len}
use Rattle.running_threads.specs.declared.Taken.{Taken}
use Rattle.running_settle.specs.Reached.{opened, first_key, turning}
use Rattle.running_settle.specs.Settling.{Over, Next, turned, copy_fits, won, taken, none_left, less_left}
use Rattle.running_settle.proofs.settle.Goals.{After-execute-done, After-take}
use Rattle.running_settle.proofs.settle.Goals as goal

module _ (c : After-execute-done) where
  over : Over c.args.code.now c.args.plan c.args.spot c.args.work.now
      c.loop-spot.work c.loop-spot.key c.loop-spot.index c.loop-spot.turn c.execute-done.new.work c.execute-done.result
  over = record {
    laid = c.requires.laid.0;
    reached = c.loop-spot.invariant.0;
    long = c.execute-done.auto.work;
    executed = c.execute-done.ensures;
  }

module _ (c : After-take) {x : Option Taken}
    (took : Took c.args.plan c.args.spot c.execute-done.result.at c.loop-spot.index c.execute-done.result.frames
    c.execute-done.new.work c.take.new.work x) where
  next : Next c.args.code.now c.args.plan c.args.spot
      c.args.work.now c.execute-done.new.work c.loop-spot.index c.execute-done.result c.take.new.work x
  next = record {
    laid = (over (goal.at.After-take c).After-execute-done).laid;
    reached = turned (over (goal.at.After-take c).After-execute-done) c.if-done.false;
    long = c.take.auto.work;
    took = took;
  }

pub loop-spot-init : goal.loop-spot-init
loop-spot-init c =
    (opened c.args.code.now c.requires.laid.0 c.requires.laid.1, first_key c.args.code.now c.requires.laid.0 c.requires.laid.1)

pub execute-done-requires : goal.execute-done-requires
execute-done-requires c =
    (c.requires.ready.0, c.requires.ready.1, turning c.requires.laid.0 c.loop-spot.invariant.0 c.loop-spot.invariant.1)

-- A turn that wins.
pub copy-requires : goal.copy-requires
copy-requires c =
    let fits = copy_fits (over (goal.at.copy-requires c).After-execute-done) in
    (fits.0, fits.1, inl fits.2)

pub returns-then-done : goal.returns-then-done
returns-then-done c =
    won (over (goal.at.returns-then-done c).After-execute-done) c.if-done.true c.copy.auto.work c.copy.ensures

-- A turn that does not.
pub take-requires : goal.take-requires
take-requires c =
    let turn = over (goal.at.take-requires c).After-execute-done in
    let done = turned turn c.if-done.false in
    record { laid = (laid_len done.long turn.laid, done.runs, omega (arith, done.deep)); tags = (done.tags, done.active) }

pub returns-in_default : goal.returns-in_default
returns-in_default c = none_left (next (goal.at.returns-in_default c).After-take c.in_default.ensures)

pub loop-spot-smaller : goal.loop-spot-smaller
loop-spot-smaller c =
    less_left (over (goal.at.loop-spot-smaller c).After-execute-done)
    (next (goal.at.loop-spot-smaller c).After-take c.in-Some.ensures)

pub loop-spot-preserved : goal.loop-spot-preserved
loop-spot-preserved c =
    (taken (next (goal.at.loop-spot-preserved c).After-take c.in-Some.ensures), c.in-Some.ensures.taken.low)
