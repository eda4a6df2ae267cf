-- What a gate says, as the outline has it: it passes or stops what was read, or refuses with a number and place. Definitions only.
use Rattle.std.specs.Prelude.{ℕ}

pub data Passing : Type 0 where
  Passes : Passing
  Stopped : Passing
  Refused : ℕ → ℕ → Passing
