use mathlib.Core.Path.{◌≡◌}
use Prim.Native.Nat.{◌-◌, ◌*◌}
use native.Mathlib.Omega.{arith}
use Rattle.tidying_shapes.proofs.Edited.{inserted}
use Rattle.tidying_shapes.proofs.insert.Goals as goal

pub returns : goal.returns
returns c =
    let words : 16 * c.args.n - 16 * c.args.at ≡ 16 * (c.args.n - c.args.at) = omega arith in
    inserted c.args.n c.args.at c.requires.0 c.requires.1 (rw words at c.copy_within.ensures.after)
