-- What a step and the tidier ask of a table, and what they do there. Each contract is a record, so that callers name no
-- argument.
use Rattle.std.specs.Prelude.{◌≡◌, List, ◌++◌, ℕ, ◌-◌, ◌*◌, ◌≤◌, length, replicate}
use Rattle.std.proofs.Math.Option.{some}
use Rattle.meaning.specs.Limits.{pattern_limit, table_words}
use Rattle.meaning.specs.Node.{Node, Proper}
use Rattle.meaning.specs.Numbering.{Numbers}
use Rattle.meaning.specs.Flat.{Flat}
use Rattle.table.specs.Table.{record_words, record_count, records}
use Rattle.table.specs.Stands.{Stands}
use Rattle.tidying_laws.specs.Charge.{charge}
use Rattle.tidying_laws.specs.Tidier.{found, tidy}
use Rattle.tidying.specs.Standing.{Whole}

-- A pattern whose records are the first n of a table, with room for what it is tidied to: it was read from p bytes or fewer,
-- and g is the number that a next group would have.
pub record Held (table : List ℕ) (n : ℕ) (r : Node) (g p : ℕ) : Type 0 where
  pub stands : Stands table n (records r)
  pub flat : Flat r
  pub proper : Proper r
  pub numbers : Numbers 1 r g
  pub light : charge r ≤ p
  pub short : p ≤ pattern_limit
  pub room : table_words p ≤ length table

pub record SomeHeld (table : List ℕ) (n : ℕ) : Type 0 where
  pub node : Node
  pub groups : ℕ
  pub bytes : ℕ
  pub held : Held table n node groups bytes

-- A place that the search found in such a pattern, which becomes `next`.
pub record SomeFound (table : List ℕ) (n top law : ℕ) : Type 0 where
  pub pattern : SomeHeld table n
  pub next : Node
  pub finds : found pattern.node ≡ some (top, (law, next))

-- What a step there does, whatever the pattern is: its records become those of the next one, which there is room for too.
pub record Steps (table table' : List ℕ) (n top law n' : ℕ) : Type 0 where
  pub by : (r q : Node) (g p : ℕ) → Held table n r g p → found r ≡ some (top, (law, q)) → Held table' n' q g p

-- The records of a pattern, and zeros behind them.
abbrev pub table_of : Node → ℕ → List ℕ
table_of r words = records r ++ replicate (words - record_words * record_count r) 0

-- What is done, whatever the pattern is: the table holds the tidied one, for which there is room too.
pub record Tidied (table table' : List ℕ) (n' : ℕ) (r : Node) (g p : ℕ) : Type 0 where
  pub count_is : n' ≡ record_count (tidy r)
  pub table_is : table' ≡ table_of (tidy r) (length table)
  pub held : Held table' n' (tidy r) g p

pub record Tidies (table table' : List ℕ) (n n' : ℕ) : Type 0 where
  pub by : (r : Node) (g p : ℕ) → Held table n r g p → Tidied table table' n' r g p

-- Every part of such a pattern can be told by its records.
pub held_whole : {table : List ℕ} {n g p : ℕ} {r : Node} → Held table n r g p → Whole r
held_whole h = record { proper = h.proper; flat = h.flat }
