-- A repetition ends: its starts rise strictly and are few. What it finds goes by what is found inside the text alone.
use mathlib.Core.List.{List, [], ◌∷◌}
use Prim.Native.Nat.{ℕ, ◌<◌}
use Rattle.meaning.specs.All.{All}

-- Numbers that rise strictly.
abbrev pub Rising : List ℕ → Type 0
Rising [] = Unit {0}
Rising (s ∷ starts) = All (λ t. s < t) starts × Rising starts
