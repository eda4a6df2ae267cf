-- What reading a span answers, as the outline has it: a number, or a refusal with its number and place. Definitions only.
use Rattle.std.specs.Prelude.{ℕ}
use Rattle.fields.specs.declared.Reading.{Reading}

pub data Field : Type 0 where
  Number : Reading → Field
  Refused : ℕ → ℕ → Field
