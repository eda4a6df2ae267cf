-- Each turn stores one word more, and a bit of a `!` is set if the word's is not.
use Prim.Native.Nat.{◌-◌, ◌^◌}
use lib.ListN.{get_or}
use Rattle.sets.specs.Laws.{Words}
use Rattle.sets.proofs.complement.Given as goal

abbrev pub invariant-loop-j : goal.invariant-loop-j
invariant-loop-j l = Words (λ i. 2 ^ 32 - 1 - get_or l.a i 0) l.r l.j
