use mathlib.Core.Path.{◌≡◌}
use Prim.Native.Nat.{◌+◌, ◌-◌, ◌*◌}
use native.Mathlib.Omega.{arith}
use Rattle.tidying_shapes.proofs.Edited.{removed}
use Rattle.tidying_shapes.proofs.remove.Goals as goal

pub returns : goal.returns
returns c =
    let words : 16 * c.args.n - 16 * (c.args.at + c.args.count) ≡ 16 * (c.args.n - c.args.count - c.args.at) = omega arith in
    removed c.args.n c.args.at c.args.count c.requires.0 c.requires.1 (rw words at c.copy_within.ensures.after)
