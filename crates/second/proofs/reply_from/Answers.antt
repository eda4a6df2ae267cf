-- A call that is turned away, and one that runs.
use mathlib.Core.Path.{◌≡◌, sym, ap}
use native.Mathlib.Omega.{arith}
use lib.ListN.{length}
use Rattle.std.proofs.lemmas.Result.{err_from_is_err_and}
use mathlib.Core.Bool.{true, false}
use Rattle.machine.specs.Replies.{lent_by}
use Rattle.running_moves.specs.Ready.{ready}
use Rattle.engine.specs.Turned.{some_number}
use Rattle.second.specs.Replies.{second_refusal}
use Rattle.second.specs.Held.{found_of, Laid, Serves}
use Rattle.second.specs.Choices.{choice_order}
use Rattle.second.specs.Course.{layout_serves, layout_laid}
use Rattle.second.specs.Laws.{not_found, Allowed, allowed, refused_answer, ran_answer, with_registers}
use Rattle.second.proofs.reply_from.Goals.{After-layout_of-layout, In_ok-turned_away}
use Rattle.second.proofs.reply_from.Goals as goal

-- What is known of a call that is not turned away.
module _ (c : In_ok-turned_away) where
  why : second_refusal c.args.code.now
      (lent_by c.args.text.now c.args.start c.args.registers.now c.args.workspace.now) ≡ 0
  why = sym c.in_ok-turned_away.ensures

  allows : Allowed c.args.code.now
      (lent_by c.args.text.now c.args.start c.args.registers.now c.args.workspace.now)
  allows = allowed _ _ why

-- Its layout serves it and has room.
module _ (c : After-layout_of-layout) where
  serves : Serves c.args.code.now c.args.text.now c.layout_of-layout.result
  serves = let w = allows (goal.at.After-layout_of-layout c).In_ok-turned_away in
      layout_serves c.args.text.now (ready _ w.passes) w.short c.layout_of-layout.ensures

  laid : Laid c.layout_of-layout.result (length c.args.workspace.now)
  laid = let w = allows (goal.at.After-layout_of-layout c).In_ok-turned_away in
      layout_laid c.args.text.now (ready _ w.passes) w.short c.layout_of-layout.ensures w.room

pub returns-in_err-turned_away : goal.returns-in_err-turned_away
returns-in_err-turned_away c =
    let p = err_from_is_err_and c.from_residual.result c.from_residual.ensures.1 in
    rw (p.1, p.2) (refused_answer _ _ _ _ _ _ _ c.in_err-turned_away.ensures (some_number _))

pub layout_of-layout-requires : goal.layout_of-layout-requires
layout_of-layout-requires c =
    let w = allows (goal.at.layout_of-layout-requires c).In_ok-turned_away in (ready _ w.passes, w.short)

pub run-trial-requires : goal.run-trial-requires
run-trial-requires c =
    let w = allows (goal.at.run-trial-requires c).In_ok-turned_away in
    let R = ready _ w.passes in
    record { ready = (R, serves (goal.at.run-trial-requires c).After-layout_of-layout, laid (goal.at.run-trial-requires c).After-layout_of-layout); start_in_bounds = (w.inside, omega (arith, R.least)) }

pub copy_out-requires : goal.copy_out-requires
copy_out-requires c =
    let order = choice_order c.layout_of-layout.result 0 c.layout_of-layout.result.marks (omega arith) in (
      omega (arith, c.run-trial.auto.work, (laid (goal.at.copy_out-requires c).After-layout_of-layout).room),
      omega (arith, (serves (goal.at.copy_out-requires c).After-layout_of-layout).width, (allows (goal.at.copy_out-requires c).In_ok-turned_away).enough),
    )

pub returns-in-Won : goal.returns-in-Won
returns-in-Won c =
    with_registers c.copy_out.ensures
    (ran_answer _ _ _ _ _ _ (why (goal.at.returns-in-Won c).In_ok-turned_away) c.requires _ c.run-trial.auto.work
    c.layout_of-layout.result c.layout_of-layout.ensures c.run-trial.result c.run-trial.ensures true (ap found_of c.in-Won.is))

pub returns-in_default : goal.returns-in_default
returns-in_default c =
    with_registers c.copy_out.ensures
    (ran_answer _ _ _ _ _ _ (why (goal.at.returns-in_default c).In_ok-turned_away) c.requires _ c.run-trial.auto.work
    c.layout_of-layout.result c.layout_of-layout.ensures c.run-trial.result c.run-trial.ensures false (not_found _ c.in_default.not-Won))
