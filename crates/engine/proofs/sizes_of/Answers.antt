-- Each test is a ground's, in the grounds' order.
use mathlib.Core.Path.{sym, ◌∙◌}
use native.Mathlib.Omega.{arith}
use borrow.Author.Tests.{not-false}
use Rattle.running_moves.specs.Ready.{ready}
use Rattle.engine.proofs.sizes_of.Goals as goal

pub bounds-code-0 : goal.bounds-code-0
bounds-code-0 c = omega (arith, (ready _ (sym c.check.ensures ∙ not-false _ c.if-not-check.false-raw)).size)

pub bounds-code-1 : goal.bounds-code-1
bounds-code-1 c = omega (arith, (ready _ (sym c.check.ensures ∙ not-false _ c.if-not-check.false-raw)).size)
