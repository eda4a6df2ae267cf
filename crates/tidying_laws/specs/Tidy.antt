-- The tidier's theorems: what is tidied is alike, with the same groups and no more rows, and no law fits it anywhere.
-- The definitions stand here; proofs/Tidy.antt has the theorems.
use Rattle.std.specs.Prelude.{◌≡◌, ℕ, ◌≤◌, ◌<◌}
use Rattle.meaning.specs.Node.{Node, Proper}
use Rattle.meaning.specs.Numbering.{Numbers}
use Rattle.machine.specs.Layout.{size_of}
use Rattle.tidying_laws.specs.Alike.{Alike}
use Rattle.meaning.specs.Flat.{Flat}
use Rattle.tidying_laws.specs.Measures.{weight}
use Rattle.tidying_laws.specs.Charge.{charge}
use Rattle.tidying_laws.specs.Tidier.{tidy}

-- What one step gives.
pub record Step (r : Node) (n : ℕ) (q : Node) : Type 1 where
  pub alike : Alike r q
  pub numbers : Numbers 1 q n
  pub flat : Flat r → Flat q
  pub proper : Proper r → Proper q
  pub rows : size_of q ≤ size_of r
  pub light : charge q ≤ charge r
  pub less : weight q < weight r
  pub same_end : tidy q ≡ tidy r
