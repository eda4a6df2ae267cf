-- A call that is turned away, and one that runs.
use mathlib.Core.Path.{sym}
use native.Mathlib.Omega.{arith}
use mathlib.Core.Bool.{true, false}
use Rattle.machine.specs.Allowed.{allowed}
use Rattle.running_moves.specs.Ready.{ready}
use Rattle.std.proofs.lemmas.Result.{err_from_is_err_and}
use Rattle.engine.specs.Laws.{text_small, refused_answer, ran_answer, with_registers}
use Rattle.engine.specs.Turned.{some_number}
use Rattle.engine.proofs.reply_from.Goals as goal

pub returns-in_err-turned_away : goal.returns-in_err-turned_away
returns-in_err-turned_away c =
    let p = err_from_is_err_and c.from_residual.result c.from_residual.ensures.1 in
    rw (p.1, p.2) (refused_answer _ _ _ _ _ _ _ c.in_err-turned_away.ensures (some_number _))

pub run-ran-requires : goal.run-ran-requires
run-ran-requires c =
    let w = allowed _ _ (sym c.in_ok-turned_away.ensures) in
    let R = ready _ w.passes in
    record {
      ready = (R, omega (arith, R.least));
      start_in_bounds = (w.inside, omega (arith, w.short, text_small));
      code_in_bounds = w.room;
    }

pub copy_out-requires : goal.copy_out-requires
copy_out-requires c =
    let w = allowed _ _ (sym c.in_ok-turned_away.ensures) in
    (omega (arith, c.run-ran.auto.work, c.run-ran.ensures.within, w.room), omega (arith, c.run-ran.ensures.width, w.enough))

pub returns-then-ran : goal.returns-then-ran
returns-then-ran c =
    with_registers c.copy_out.ensures
    (ran_answer _ _ _ _ _ _ (sym c.in_ok-turned_away.ensures) c.requires _
    c.run-ran.auto.work c.run-ran.result c.run-ran.ensures true c.if-ran.true)

pub returns-else-ran : goal.returns-else-ran
returns-else-ran c =
    with_registers c.copy_out.ensures
    (ran_answer _ _ _ _ _ _ (sym c.in_ok-turned_away.ensures) c.requires _
    c.run-ran.auto.work c.run-ran.result c.run-ran.ensures false c.if-ran.false)
