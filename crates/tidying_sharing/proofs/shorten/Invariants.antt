-- The invariant: the alternatives that were passed are trimmed. The measure: where those still to be trimmed end.
use mathlib.Core.Path.{◌≡◌}
use Prim.Native.Nat.{◌+◌, ◌≤◌}
use lib.ListN.{length}
use Rattle.tidying_sharing.specs.Shortening.{Shorts}
use Rattle.tidying_sharing.proofs.shorten.Given as goal

abbrev pub invariant-loop-end : goal.invariant-loop-end
invariant-loop-end l =
    Shorts l.initial.table l.n l.from l.stop l.table l.count l.end l.trimmed l.parts × (length l.table ≡ length l.initial.table) × (l.trimmed ≤ l.parts)
    × (l.parts + l.end ≤ l.stop)

abbrev pub decreases-loop-end : goal.decreases-loop-end
decreases-loop-end l = l.end
