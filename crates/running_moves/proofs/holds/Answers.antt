use native.Mathlib.Omega.{arith}
use mathlib.Core.Path.{sym}
use Rattle.running_moves.proofs.Laws.{no_assertion}
use Rattle.running_moves.proofs.holds.Goals as goal

pub returns-in_default : goal.returns-in_default
returns-in_default c = sym (no_assertion c.args.assertion _ _ (omega arith))
