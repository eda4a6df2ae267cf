-- What the parts of compiling ask and do, whatever the pattern in the table is. Definitions only.
use Rattle.std.specs.Prelude.{◌≡◌, Bool, List, ℕ, ltb, length, replicate}
use Rattle.meaning.specs.Limits.{row_limit}
use Rattle.meaning.specs.Node.{Node}
use Rattle.tidying.specs.Held.{Held, table_of}
use Rattle.code_rows.specs.Emission.{rows_needed}
use Rattle.compiler.specs.Compiling.{shaped, unwritten, answer_for, table_for, code_for}
use Rattle.compiler.specs.Compiling.{Compilation, Compilation.Refused}

-- A pattern stored in a table: its records are the first n, behind them all is zero, and there is room for what it is tidied
-- to; it was read from p bytes or fewer, and g is the number that a next group would have.
pub record Stored (table : List ℕ) (n : ℕ) (r : Node) (g p : ℕ) : Type 0 where
  pub held : Held table n r g p
  pub whole : table ≡ table_of r (length table)

pub record SomeStored (table : List ℕ) (n : ℕ) : Type 0 where
  pub node : Node
  pub groups : ℕ
  pub bytes : ℕ
  pub stored : Stored table n node groups bytes

-- Whether the pattern has too many rows.
pub record TellsRows (many : Bool) (table : List ℕ) (n : ℕ) : Type 0 where
  pub by : (r : Node) (g p : ℕ) → Stored table n r g p → many ≡ ltb row_limit (rows_needed r)

-- The pattern that becomes rows is stored in its place.
pub record Shapes (tidying : Bool) (table table' : List ℕ) (n n' : ℕ) : Type 0 where
  pub by : (r : Node) (g p : ℕ) → Stored table n r g p → length table' ≡ length table → Stored table' n' (shaped tidying r) g p

-- A refusal that makes the table zero.
pub record Cleared (number : ℕ) (table table' : List ℕ) (answer : Compilation) : Type 0 where
  pub refuses : answer ≡ Refused number 0
  pub zero : table' ≡ replicate (length table) 0

-- What becomes of the pattern: its program, or a refusal.
pub record Programmed (tidying : Bool) (table table' : List ℕ) (g : ℕ) (code code' : List ℕ) (answer : Compilation) (r : Node)
    : Type 0 where
  pub answers : answer ≡ answer_for (unwritten tidying r (length code)) (shaped tidying r) g
  pub table_is : table' ≡ table_for (unwritten tidying r (length code)) (shaped tidying r) g table
  pub code_is : code' ≡ code_for (unwritten tidying r (length code)) (shaped tidying r) g code

pub record Programs (tidying : Bool) (table table' : List ℕ) (n g : ℕ) (code code' : List ℕ) (answer : Compilation)
    : Type 0 where
  pub by : (r : Node) (h p : ℕ) → Stored table n r h p → Programmed tidying table table' g code code' answer r
