-- Each law inside any surrounding pattern: what a part becomes is alike there, and the standard's algorithm answers the same.
-- The definitions stand here; proofs/Anywhere.antt has the theorems.
use Rattle.std.specs.Prelude.{◌≡◌, ℕ, ◌≤◌}
use Rattle.meaning.specs.Text.{Input, size}
use Rattle.meaning.specs.Node.{Node}
use Rattle.meaning.specs.Numbering.{Numbers}
use Rattle.meaning.specs.Standard.{match_at, search_from}
use Rattle.tidying_laws.specs.Void.{Fair}
use Rattle.tidying_laws.specs.Around.{Around}
use Rattle.tidying_laws.specs.Around.{fill}

-- and there the standard's algorithm matches the same and finds the same with both, with every group, from any start.
abbrev pub SameAnywhere : Node → Node → Type 0
SameAnywhere r q = (a : Around) (n : ℕ) → Numbers 1 (fill a r) n → (w : Input) → Fair w → (g i : ℕ) → i ≤ size w
    → (match_at w g (fill a r) i ≡ match_at w g (fill a q) i) × (search_from w g (fill a r) i ≡ search_from w g (fill a q) i)
