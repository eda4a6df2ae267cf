-- Patterns.
use Rattle.std.specs.Prelude.{Bool, List, ℕ, zero, suc, ◌+◌, ◌≤◌, max}
use Rattle.std.proofs.Math.Option.{Option, none, some}
use Rattle.std.proofs.Common.{arith}
use Rattle.sets.specs.Sets.{Formed}
use Rattle.meaning.specs.Limits.{count_limit, last_assertion}

-- A pattern. `many n e lazy r` is r n times, and then up to e times more (none: with no limit).
pub data Node : Type 0 where
  empty : Node
  bset : List ℕ → Node
  assert : ℕ → Node
  group : ℕ → Node → Node
  seq : Node → Node → Node
  alt : Node → Node → Node
  many : ℕ → Option ℕ → Bool → Node → Node
  deriving Discrete as Node-discrete

-- The highest group of a pattern, 0 if it has none.
unfoldable pub hi : Node → ℕ
hi empty = 0
hi (bset s) = 0
hi (assert a) = 0
hi (group k r) = max k (hi r)
hi (seq r q) = max (hi r) (hi q)
hi (alt r q) = max (hi r) (hi q)
hi (many n e lazy r) = hi r

-- The first of two numbers where there are groups, else the second.
abbrev pub lower : ℕ → ℕ → ℕ → ℕ
lower zero a b = b
lower (suc n) a b = a

-- The lowest group of a pattern, 1 if it has none. Groups are numbered from left to right.
unfoldable pub lo : Node → ℕ
lo empty = 1
lo (bset s) = 1
lo (assert a) = 1
lo (group k r) = k
lo (seq r q) = lower (hi r) (lo r) (lo q)
lo (alt r q) = lower (hi r) (lo r) (lo q)
lo (many n e lazy r) = lo r

-- A quantifier's counts are within the limit.
abbrev pub Within : ℕ → Option ℕ → Type 0
Within min none = min ≤ count_limit
Within min (some extra) = min + extra ≤ count_limit

-- What every pattern that is read is: its byte sets are well-formed, its assertions are the four, its groups have numbers from 1
-- on, and its quantifiers' counts are within the limit.
abbrev pub Proper : Node → Type 0
Proper empty = Unit {0}
Proper (bset s) = Formed s
Proper (assert a) = a ≤ last_assertion
Proper (group k r) = (1 ≤ k) × Proper r
Proper (seq r q) = Proper r × Proper q
Proper (alt r q) = Proper r × Proper q
Proper (many n e lazy r) = Within n e × Proper r

-- A quantifier with a turn less is within the limit too.
pub within_fewer : (n : ℕ) (extra : Option ℕ) → Within (suc n) extra → Within n extra
within_fewer n none h = omega arith
within_fewer n (some extra) h = omega arith
