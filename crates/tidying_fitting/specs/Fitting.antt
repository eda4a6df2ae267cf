-- Whether a law of the tidier fits a part. Definitions only.
use Rattle.std.specs.Prelude.{Bool, true, false}
use Rattle.std.proofs.Math.Option.{Option, none, some}
use Rattle.meaning.specs.Node.{Node}

-- Whether there is a result.
abbrev pub is_some : {A : Type 0} → Option A → Bool
is_some none = false
is_some (some a) = true

-- Whether a law makes something of a part.
abbrev pub fits : (Node → Option Node) → Node → Bool
fits law r = is_some (law r)
