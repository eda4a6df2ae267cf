-- Patterns and texts as quoted text, for examples: each character below 256 is a byte.
use Rattle.std.specs.Prelude.{List, [], ◌∷◌, ℕ}
use Prim.Native.Char.{code}
use Prim.Native.String.{String, [] as end, ◌∷◌ as ◌then◌}

abbrev pub bytes : String → List ℕ
bytes end = []
bytes (c then s) = code c ∷ bytes s
