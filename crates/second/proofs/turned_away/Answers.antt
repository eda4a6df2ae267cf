-- Each test is a ground's, in the grounds' order.
use mathlib.Core.Path.{refl, sym, ◌∙◌}
use native.Mathlib.Omega.{arith}
use borrow.Author.Tests.{not-false, lt-ltb, le-ltb}
use Rattle.meaning.specs.Refusals as No
use Rattle.machine.specs.Words.{rows_said, groups_said}
use Rattle.running_moves.specs.Ready.{ready}
use Rattle.second.specs.Laws.{turned}
use Rattle.second.specs.Course.{rows_few, words_few}
use Rattle.meaning.specs.Limits.{row_limit, group_limit, second_limit}
use Prim.Native.Nat.{ℕ, ◌+◌, ◌*◌, ◌≤◌}
use lib.ListN.{length}
use Rattle.second.proofs.turned_away.Goals.{Else-registers-g}
use Rattle.second.proofs.turned_away.Goals as goal

-- What the check says, and what the words of a call come to.
module _ (c : Else-registers-g) where
  abbrev n : ℕ
  n = rows_said c.args.code.now

  abbrev g : ℕ
  g = groups_said c.args.code.now

  abbrev size : ℕ
  size = length c.args.text.now

  passed : (n ≤ row_limit) × (g ≤ group_limit)
  passed =
      let R = ready _ (sym c.check.ensures ∙ not-false _ c.if-not-check.false-raw) in (R.most, R.groups)

  row_fits : n * (4 * g + 10) ≤ row_limit * (4 * group_limit + 10)
  row_fits = rows_few n g passed.0 passed.1

  words_fit : n * (4 * g + 10) * (size + 1) ≤ row_limit * (4 * group_limit + 10) * (second_limit + 1)
  words_fit = words_few n g size passed.0 passed.1
      (omega (arith, c.if-text-gt-SECOND_LIMIT.false))

pub returns-then-not-check : goal.returns-then-not-check
returns-then-not-check c = turned No.code_fails _ _ (tt, cc)

pub returns-then-text-gt-SECOND_LIMIT : goal.returns-then-text-gt-SECOND_LIMIT
returns-then-text-gt-SECOND_LIMIT c = turned No.long_text _ _ ((cc, tt), omega (arith, lt-ltb))

pub returns-then-start-text : goal.returns-then-start-text
returns-then-start-text c = turned No.start_beyond _ _ ((cc, omega (arith, le-ltb)), omega (arith, lt-ltb))

pub bounds-code-0 : goal.bounds-code-0
bounds-code-0 c =
    omega (arith, (ready _ (sym c.check.ensures ∙ not-false _ c.if-not-check.false-raw)).size)

pub bounds-code-1 : goal.bounds-code-1
bounds-code-1 c =
    omega (arith, (ready _ (sym c.check.ensures ∙ not-false _ c.if-not-check.false-raw)).size)

pub returns-then-registers-g : goal.returns-then-registers-g
returns-then-registers-g c = turned No.few_registers _ _ ((cc, omega (arith, le-ltb)), omega (arith, lt-ltb))

pub returns-then-workspace-n : goal.returns-then-workspace-n
returns-then-workspace-n c =
    turned No.small_workspace _ _
    ((cc, omega (arith, le-ltb)), lt-ltb _ _ c.if-workspace-n.true)

pub returns : goal.returns
returns c =
    turned 0 _ _ ((cc, omega (arith, le-ltb)), refl)

pub overflow_mul-n : goal.overflow_mul-n
overflow_mul-n c = omega (arith, row_fits c)

pub overflow_mul-n-2 : goal.overflow_mul-n-2
overflow_mul-n-2 c = omega (arith, words_fit c)

pub overflow_add-n : goal.overflow_add-n
overflow_add-n c = omega (arith, words_fit c, (passed c).1)
