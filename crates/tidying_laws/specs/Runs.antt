-- The run that T8 takes is the longest, and what is left of it is one alternation.
-- The definitions stand here; proofs/Runs.antt has the theorems.
use Rattle.std.specs.Prelude.{◌≡◌, List, ◌++◌, map, ℕ}
use Rattle.meaning.specs.Node.{Node}
use Rattle.meaning.specs.All.{All}
use Rattle.tidying_laws.specs.Laws.{Run}
use Rattle.tidying_laws.specs.Words.{Leads, rest, Stops}

pub record Longest (s : List ℕ) (l : List Node) (t : Run) : Type 0 where
  pub front : List Node
  pub split : l ≡ front ++ t.1
  pub begin : All (Leads s) front
  pub left : t.0 ≡ map rest front
  pub stops : Stops s t.1
