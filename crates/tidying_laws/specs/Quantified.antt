-- The laws of a quantifier over a pattern with no group: T2, T3, T4, T5, T9, T10.
-- The definitions stand here; proofs/Quantified.antt has the theorems.
use Rattle.std.specs.Prelude.{Bool, true, false}

-- Whether a loop of loops is one loop, by the laziness of the inner ones and of the outer one.
abbrev pub absorbed : Bool → Bool → Bool
absorbed false false = true
absorbed true false = true
absorbed true true = true
absorbed false true = false
