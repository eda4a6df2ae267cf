use Prim.Native.Nat.{◌+◌}
use native.Mathlib.Omega.{arith}
use mathlib.Core.Path.{refl, ap, ◌∙◌}
use lib.ListN.{get_or, set, length-set}
use lib.Seq.{paste-zero, paste-suc}
use native.Mathlib.Numerals.{add-one}
use Rattle.table.proofs.copy.Goals as goal

pub loop-k-init : goal.loop-k-init
loop-k-init c = (refl, paste-zero c.args.table.now c.args.base c.args.words.now)

pub loop-k-preserved : goal.loop-k-preserved
loop-k-preserved c = (
  simp length-set c.loop-k.invariant.0,
  ap (λ l. set l (c.args.base + c.loop-k.k) (get_or c.args.words.now c.loop-k.k 0)) c.loop-k.invariant.1
      ∙ paste-suc c.args.table.now c.args.base c.args.words.now c.loop-k.k 0 (omega arith) (omega arith)
      ∙ rw add-one,
)
