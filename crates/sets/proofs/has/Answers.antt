-- The lowest bit of the word shifted down is the bit that is asked for.
use mathlib.Core.Path.{ap}
use Prim.Native.Nat.{ℕ, ◌/◌, ◌%◌, ◌^◌}
use lib.Bits.{and_mask}
use lib.Dec.{eqb}
use lib.ListN.{get_or}
use Rattle.sets.specs.Sets.{bit, has}
use Rattle.sets.proofs.has.Goals as goal

pub returns : goal.returns
unfolding has bit
returns c = ap (λ (k : ℕ). eqb k 1) (and_mask (get_or c.args.set.now (c.args.b / 32) 0 / 2 ^ (c.args.b % 32)) 1)
