-- Each turn stores one word more, and a bit of an `|` is set if either word's is.
use lib.ListN.{get_or}
use lib.Bits.{bit_or}
use Rattle.sets.specs.Laws.{Words}
use Rattle.sets.proofs.union.Given as goal

abbrev pub invariant-loop-i : goal.invariant-loop-i
invariant-loop-i l = Words (λ j. bit_or (get_or l.a j 0) (get_or l.b j 0)) l.r l.i
