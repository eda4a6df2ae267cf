-- The words before the loop's are copied.
use mathlib.Core.Path.{◌≡◌}
use lib.ListN.{length}
use lib.Seq.{paste}
use Rattle.table.proofs.copy.Given as goal

abbrev pub invariant-loop-k : goal.invariant-loop-k
invariant-loop-k l = (length l.table ≡ length l.initial.table) × (l.table ≡ paste l.initial.table l.base l.words l.k)
