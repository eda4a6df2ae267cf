-- Each law holds in the outline's words: what a part becomes is alike.
-- The definitions stand here; proofs/Holds.antt has the theorems.
use Rattle.meaning.specs.Node.{Node}
use Rattle.tidying_laws.specs.Groups.{groups, Positive}
use Rattle.tidying_laws.specs.Alike.{Alike}

-- The words of a law hold.
abbrev pub Holds : (Node → Node → Type 0) → Type 1
Holds W = (r q : Node) → W r q → Positive (groups r) → Alike r q
