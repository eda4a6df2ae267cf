use native.Mathlib.Nat.{mul-le-mul}
use Prim.Native.Nat.{◌+◌, ◌*◌, ◌≤◌}
use native.Mathlib.Omega.{arith}
use Rattle.meaning.specs.Limits.{second_limit, row_limit}
use Rattle.machine.specs.Words.{rows_said}
use Rattle.second.proofs.layout_of.Goals as goal

pub overflow_mul-result-3 : goal.overflow_mul-result-3
overflow_mul-result-3 c =
    let long : c.args.length + 1 ≤ second_limit + 1 = omega (arith, c.requires.1) in
    let keys : rows_said c.args.code.now * 2 ≤ row_limit * 2 = omega (arith, c.requires.0.most) in
    omega (arith, mul-le-mul long keys)
