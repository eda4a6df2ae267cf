use mathlib.Core.Path.{refl}
use Prim.Native.Nat.{◌*◌, ◌≤◌}
use native.Mathlib.Omega.{arith}
use Rattle.meaning.specs.Limits.{row_limit, group_limit}
use Rattle.meaning.specs.Text.{registers_of}
use Rattle.machine.specs.Words.{rows_said, groups_said}
use Rattle.running_moves.specs.Keys.{keys_of}
use Rattle.running.specs.Positions.{depth_small}
use Rattle.running.proofs.plan_of.Goals.{Start}
use Rattle.running.proofs.plan_of.Goals as goal

small : (c : Start) → keys_of (rows_said c.args.code.now) * registers_of (groups_said c.args.code.now)
    ≤ keys_of row_limit * registers_of group_limit
small c = depth_small c.requires refl refl

pub overflow_mul-depth : goal.overflow_mul-depth
overflow_mul-depth c = omega (arith, small (goal.at.overflow_mul-depth c).Start)

pub overflow_add-olds : goal.overflow_add-olds
overflow_add-olds c = omega (arith, small (goal.at.overflow_add-olds c).Start)

pub overflow_mul-result : goal.overflow_mul-result
overflow_mul-result c = omega (arith, small (goal.at.overflow_mul-result c).Start)

pub overflow_add-result : goal.overflow_add-result
overflow_add-result c = omega (arith, small (goal.at.overflow_add-result c).Start)
