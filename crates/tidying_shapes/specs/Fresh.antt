-- What the pass over a table does: the records of the pattern whose tokens are said stand there, the derived words with them.
use Rattle.std.specs.Prelude.{◌≡◌, List, ℕ, ◌*◌, ◌≤◌, drop}
use Rattle.meaning.specs.Node.{Node, Proper}
use Rattle.table.specs.Table.{record_words, records}
use Rattle.table.specs.Derived.{record_limit}
use Rattle.table.specs.Stands.{Stands}
use Rattle.tidying_shapes.specs.Skeleton.{skeleton}
use Rattle.tidying_shapes.specs.Tokens.{Says}

-- The first n records say the tokens of a pattern that a table can hold.
pub record Said (table : List ℕ) (n : ℕ) (r : Node) : Type 0 where
  pub says : Says table n (skeleton r)
  pub proper : Proper r
  pub few : n ≤ record_limit

pub record SomeSaid (table : List ℕ) (n : ℕ) : Type 0 where
  pub node : Node
  pub said : Said table n node

-- Its records stand there, and what is above them is as it was.
pub record Refreshed (table table' : List ℕ) (n : ℕ) : Type 0 where
  pub by : (r : Node) → Said table n r → Stands table' n (records r)
  pub above : drop (record_words * n) table' ≡ drop (record_words * n) table
