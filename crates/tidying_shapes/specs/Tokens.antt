-- The tokens that stand in a table: what its records say by themselves. Definitions only.
use Rattle.std.specs.Prelude.{◌≡◌, List, [], ◌∷◌, ℕ, zero, suc, ◌+◌, ◌*◌, ◌≤◌, length, get_or, take, drop}
use Rattle.table.specs.Table.{record_words}
use Rattle.tidying_shapes.specs.Skeleton.{Token, token_of}

-- The token of record i: its words 0, 1, 3 and 8 to 15.
abbrev pub token_at : List ℕ → ℕ → Token
token_at table i =
    let base : ℕ = record_words * i in
    token_of (get_or table base 0) (get_or table (base + 1) 0) (get_or table (base + 3) 0) (take 8 (drop (base + 8) table))

-- The tokens of n records from record i on; of the first n records.
abbrev pub tokens_from : List ℕ → ℕ → ℕ → List Token
tokens_from table i zero = []
tokens_from table i (suc n) = token_at table i ∷ tokens_from table (suc i) n

abbrev pub tokens_of : List ℕ → ℕ → List Token
tokens_of table n = tokens_from table 0 n

-- The first n records of a table say these tokens, and are in it.
pub record Says (table : List ℕ) (n : ℕ) (ts : List Token) : Type 0 where
  pub tokens : tokens_of table n ≡ ts
  pub room : record_words * n ≤ length table
