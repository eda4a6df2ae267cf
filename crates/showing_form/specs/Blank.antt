-- Eight zero words are well-formed.
use Rattle.std.specs.Prelude.{refl, ℕ, zero, suc, ◌^◌, ◌<◌, get_or, replicate}
use Rattle.std.proofs.Common.{arith}
use Rattle.sets.specs.Sets.{Formed}
use Rattle.table.specs.Table.{no_set}

pub blank : Formed no_set
blank = record { eight = refl; words = zeros 8 }
  where
    zeros : (n i : ℕ) → get_or (replicate n 0) i 0 < 2 ^ 32
    zeros zero i = omega arith
    zeros (suc n) zero = omega arith
    zeros (suc n) (suc i) = zeros n i
