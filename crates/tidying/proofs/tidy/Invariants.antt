-- What stands in the table is tidied to the same as what stood there, and its weight falls with each step. Assumes nothing.
use mathlib.Core.Path.{◌≡◌}
use lib.ListN.{length}
use Rattle.tidying_laws.specs.Measures.{weight}
use Rattle.tidying.specs.Tidies.{Along, pattern_in}
use Rattle.tidying.proofs.tidy.Given as goal

abbrev pub invariant-loop-found : goal.invariant-loop-found
invariant-loop-found l = Along l.initial.table l.table l.n l.count × (length l.table ≡ length l.initial.table)

abbrev pub decreases-loop-found : goal.decreases-loop-found
decreases-loop-found l = weight (pattern_in l.table l.count)
