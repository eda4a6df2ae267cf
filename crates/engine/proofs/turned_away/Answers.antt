-- The shared grounds come first, and the words of the workspace behind them.
use native.Mathlib.Omega.{arith}
use Rattle.std.proofs.lemmas.Result.{err_from_is_err_and}
use Rattle.running_moves.specs.Ready.{ready}
use Rattle.engine.specs.Laws.{words_few}
use Rattle.engine.specs.Turned.{passes, unfit_refused, small_refused, none_refused}
use Rattle.engine.proofs.turned_away.Goals as goal

pub returns-in_err-sizes : goal.returns-in_err-sizes
returns-in_err-sizes c =
    let p = err_from_is_err_and c.from_residual.result c.from_residual.ensures.1 in
    rw (p.1, p.2) (unfit_refused _ _ _ _ _ c.in_err-sizes.ensures)

pub overflow_mul-sizes-2 : goal.overflow_mul-sizes-2
overflow_mul-sizes-2 c =
    let s = c.in_ok-sizes.ensures in
    let R = ready _ (passes s) in
    omega (
      arith,
      words_few c.in_ok-sizes.sizes.rows c.in_ok-sizes.sizes.groups (omega (arith, R.most, s.rows))
          (omega (arith, R.groups, s.groups)),
    )

pub returns-then-workspace-sizes : goal.returns-then-workspace-sizes
returns-then-workspace-sizes c =
    small_refused _ _ _ _ _ c.in_ok-sizes.ensures c.if-workspace-sizes.true

pub returns : goal.returns
returns c = none_refused _ _ _ _ _ c.in_ok-sizes.ensures c.if-workspace-sizes.false
