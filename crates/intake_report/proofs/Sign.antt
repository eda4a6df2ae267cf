-- A signed number that was read back from its bits.
use Rattle.std.proofs.Common.{◌≡◌, w32, to_z, of_z}
use Rattle.std.proofs.lemmas.Int.{to_z-of_z}
use mir.Val.{SFits}

-- A number of 32 bits is read back from them.
pub back : {z : _} → SFits w32 z → to_z w32 (of_z w32 z) ≡ z
back s = to_z-of_z w32 _ s
