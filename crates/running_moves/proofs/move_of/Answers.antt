-- The row does what the function of its kind says, and its kind is listed.
use native.Mathlib.Omega.{arith}
use Rattle.machine.specs.Kinds.{assert_kind}
use Rattle.running_moves.specs.Keys.{row_of}
use Rattle.running_moves.proofs.Laws.{none_listed}
use Rattle.running_moves.proofs.move_of.Goals as goal

-- No other kind is listed.
pub returns-in_default : goal.returns-in_default
returns-in_default c =
    let listed = c.requires.0.listed (row_of c.args.key) (omega arith) in
    absurd (none_listed assert_kind _ listed.0 listed.1 c.in_default.in_default-own.rest)
