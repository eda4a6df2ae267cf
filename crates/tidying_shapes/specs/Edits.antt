-- What the primitive edits of a table do to its tokens. Each contract is a record, so that callers name no argument.
use Rattle.std.specs.Prelude.{◌≡◌, List, ◌∷◌, ◌++◌, ℕ, ◌+◌, ◌-◌, ◌*◌, length, drop}
use Rattle.table.specs.Table.{record_words}
use Rattle.tidying_shapes.specs.Skeleton.{Token, token_of}
use Rattle.tidying_shapes.specs.Tokens.{Says}

-- The `count` records from `at` on are gone, and those behind them have moved down.
pub record Removed (table table' : List ℕ) (n at count : ℕ) : Type 0 where
  pub says : (l gone m : List Token) → length l ≡ at → length gone ≡ count → Says table n (l ++ (gone ++ m))
      → Says table' (n - count) (l ++ m)
  pub above : drop (record_words * n) table' ≡ drop (record_words * n) table

-- The records from `at` on have moved up, and left room for one.
pub record Inserted (table table' : List ℕ) (n at : ℕ) : Type 0 where
  pub room : Token
  pub says : (l m : List Token) → length l ≡ at → Says table n (l ++ m) → Says table' (n + 1) (l ++ (room ∷ m))
  pub above : drop (record_words * (n + 1)) table' ≡ drop (record_words * (n + 1)) table

-- The record at `at` says this token, and all others what they said.
pub record Stamped (table table' : List ℕ) (at : ℕ) (tok : Token) : Type 0 where
  pub says : (n : ℕ) (l : List Token) (old : Token) (m : List Token) → length l ≡ at → Says table n (l ++ (old ∷ m))
      → Says table' n (l ++ (tok ∷ m))
  pub above : drop (record_words * (at + 1)) table' ≡ drop (record_words * (at + 1)) table

-- A token with another number of items.
abbrev pub with_items : Token → ℕ → Token
with_items tok items = token_of tok.kind tok.operand items tok.last

-- The record at `at` says that it has so many items, and all else is as it was.
pub record Counted (table table' : List ℕ) (at items : ℕ) : Type 0 where
  pub says : (n : ℕ) (l : List Token) (tok : Token) (m : List Token) → length l ≡ at → Says table n (l ++ (tok ∷ m))
      → Says table' n (l ++ (with_items tok items ∷ m))
  pub above : drop (record_words * (at + 1)) table' ≡ drop (record_words * (at + 1)) table
