-- The number of a set escape that there may be.
use Rattle.std.specs.Prelude.{ℕ, Option, Some, None}
use Rattle.showing_spelling.specs.declared.escapes.Escape.{Escape}

-- Its number; 6, the number behind the last, for none.
abbrev pub or_six : Option Escape → ℕ
or_six (Some e) = e.number
or_six None = 6
