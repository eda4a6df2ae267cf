-- A law fits exactly where its words apply, and what it makes is what they say.
-- The definitions stand here; proofs/Exact.antt has the theorems.
use Rattle.std.proofs.Math.Option.{Option, IsSome}
use Rattle.meaning.specs.Node.{Node}
use Rattle.tidying_laws.specs.Kept.{Ok}

-- A law fits wherever its words make something of a part, and what it makes of one is what the words make of it.
pub record Exact (f : Node → Option Node) (W : Node → Node → Type 0) : Type 0 where
  pub fits : (r q : Node) → W r q → IsSome (f r)
  pub only : (r : Node) → Ok (W r) (f r)
