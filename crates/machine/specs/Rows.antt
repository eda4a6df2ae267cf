-- Rows: what the machine runs. Definitions only.
use Rattle.std.specs.Prelude.{Bool, List, ℕ, length, get_or}

-- A row, by the outline's ten kinds: 1 Accept, 2 Consume a byte of a set, 3 Jump to a row, 4 Fork to two, the first choice
-- first, 5 Open and 6 Close a group, 7 Reset the groups from the lowest to the highest, 8 Begin a turn, 9 End it and go to a
-- row, 10 Assert.
pub data Row : Type 0 where
  accept : Row
  consume : List ℕ → Row
  jump : ℕ → Row
  fork : ℕ → ℕ → Row
  opens : ℕ → Row
  closes : ℕ → Row
  reset : ℕ → ℕ → Row
  begin : Row
  end : ℕ → Row
  assertion : ℕ → Row

-- A program: its number of groups, and its rows.
pub record Program : Type 0 where
  pub groups : ℕ
  pub rows : List Row

-- How many rows a program has.
abbrev pub row_count : Program → ℕ
row_count p = length p.rows

-- The row at an address.
abbrev pub row_at : List Row → ℕ → Row
row_at rows q = get_or rows q accept

-- A row's address and the flag "has consumed since Begin": what may be executed once at a position.
pub record Key : Type 0 where
  pub row : ℕ
  pub flag : Bool

abbrev pub at : ℕ → Bool → Key
at q b = record { row = q; flag = b }
