-- How many records a flat pattern takes: at most two for each byte that it was read from, and one; and no law raises the bound.
use Rattle.std.specs.Prelude.{◌≡◌, refl, ℕ, suc, ◌+◌, ◌*◌, ◌-◌, ◌≤◌, length}
use Rattle.std.proofs.Common.{arith}
use Rattle.meaning.specs.Node.{Node, Node.empty, Node.bset, Node.assert, Node.group, Node.seq, Node.alt, Node.many}
use Rattle.meaning.specs.Flat.{Kind, Kind.sequence, Kind.alternation, Not, pair, parts, glue, by_parts, Adds, adds_glue, Flat}
use Rattle.tidying_laws.specs.Measures.{sums, weight}

-- What a pattern takes more as an item of a sequence: `(?:` and `)` around nothing or around alternatives.
unfoldable pub extra : Node → ℕ
extra empty = 1
extra (bset s) = 0
extra (assert a) = 0
extra (group k r) = 0
extra (seq r q) = 0
extra (alt r q) = 1
extra (many n e lazy r) = 0

-- No more than the bytes that a pattern must have been read from.
unfoldable pub charge : Node → ℕ
charge empty = 0
charge (bset s) = 1
charge (assert a) = 1
charge (group k r) = charge r + 2
charge (seq r q) = charge r + extra r + (charge q + extra q)
charge (alt r q) = charge r + charge q + 1
charge (many n e lazy r) = suc (charge r)

-- The charge of an item of a sequence; of an alternative, with the bar after it.
abbrev pub cost : Kind → Node → ℕ
cost sequence r = charge r + extra r
cost alternation r = charge r + 1

pub extra_one : (r : Node) → extra r ≤ 1
unfolding extra
extra_one empty = omega arith
extra_one (bset s) = omega arith
extra_one (assert a) = omega arith
extra_one (group k r) = omega arith
extra_one (seq r q) = omega arith
extra_one (alt r q) = omega arith
extra_one (many n e lazy r) = omega arith

pub item_one : (r : Node) → 1 ≤ cost sequence r
unfolding extra charge
item_one empty = omega arith
item_one (bset s) = omega arith
item_one (assert a) = omega arith
item_one (group k r) = omega arith
item_one (seq r q) = omega (arith, item_one r)
item_one (alt r q) = omega arith
item_one (many n e lazy r) = omega arith

pub cost_adds : (k : Kind) → Adds k ◌+◌ 0 (cost k)
unfolding extra charge
cost_adds sequence = sums sequence (cost sequence) (λ r q. omega arith)
cost_adds alternation = sums alternation (cost alternation) (λ r q. omega arith)

-- What a law puts in a part's place is charged no more, alone or as an item of a sequence.
pub record Light (r q : Node) : Type 0 where
  pub alone : charge q ≤ charge r
  pub item : cost sequence q ≤ cost sequence r

light_cost : (k : Kind) (r q : Node) → Light r q → cost k q ≤ cost k r
light_cost sequence r q h = h.item
light_cost alternation r q h = omega (arith, h.alone)

-- It is so if it costs no more in a series of the kind that the part is charged like.
abbrev pub outer : Kind → ℕ
outer sequence = 0
outer alternation = 1

pub light : (k : Kind) (r q : Node) → extra r ≡ outer k → cost k q ≤ cost k r → Light r q
light sequence r q e h = record { alone = omega arith; item = h }
light alternation r q e h = record { alone = omega arith; item = omega (arith, extra_one q) }

extra_pair : (k : Kind) (r q : Node) → extra (pair k r q) ≡ outer k
unfolding extra
extra_pair sequence r q = refl
extra_pair alternation r q = refl

pub extra_parts : (k : Kind) (r : Node) → 2 ≤ length (parts k r) → extra r ≡ outer k
extra_parts k =
    by_parts k (λ r l. 2 ≤ length l → extra r ≡ outer k) (λ r n h. absurd (omega arith)) (λ r q l e h. extra_pair k r q)

pub light_left : (k : Kind) (r q s : Node) → Light r q → Light (pair k r s) (glue k q s)
light_left k r q s h = light k (pair k r s) (glue k q s) (extra_pair k r s)
    (omega (arith, light_cost k r q h, (cost_adds k).both r s, adds_glue (cost_adds k) q s))

pub light_right : (k : Kind) (r q s : Node) → Light r q → Light (pair k s r) (pair k s q)
light_right k r q s h = light k (pair k s r) (pair k s q) (extra_pair k s r)
    (omega (arith, light_cost k r q h, (cost_adds k).both s r, (cost_adds k).both s q))

-- Whether a pattern is of a kind: 1, else 0.
unfoldable pub is_pair : Kind → Node → ℕ
is_pair k empty = 0
is_pair k (bset s) = 0
is_pair k (assert a) = 0
is_pair k (group n r) = 0
is_pair sequence (seq r q) = 1
is_pair alternation (seq r q) = 0
is_pair sequence (alt r q) = 0
is_pair alternation (alt r q) = 1
is_pair k (many n e lazy r) = 0

-- The records of a pattern: one for each part, and one for the whole.
unfoldable pub records : Node → ℕ
records empty = 1
records (bset s) = 1
records (assert a) = 1
records (group n r) = suc (records r)
records (seq r q) = suc (records r + (records q - is_pair sequence q))
records (alt r q) = suc (records r + (records q - is_pair alternation q))
records (many n e lazy r) = suc (records r)

pub not_pair : (k : Kind) (r : Node) → Not k r → is_pair k r ≡ 0
unfolding is_pair
not_pair k empty h = refl
not_pair k (bset s) h = refl
not_pair k (assert a) h = refl
not_pair k (group n r) h = refl
not_pair sequence (seq r q) h = absurd h
not_pair alternation (seq r q) h = refl
not_pair sequence (alt r q) h = refl
not_pair alternation (alt r q) h = absurd h
not_pair k (many n e lazy r) h = refl

-- A pattern takes at most two records for what it is charged, and one.
pub records_bound : (r : Node) → Flat r
    → (records r ≤ 2 * charge r + 1) × (records r - is_pair sequence r ≤ 2 * cost sequence r)
unfolding records charge extra is_pair
records_bound empty h = omega arith
records_bound (bset s) h = omega arith
records_bound (assert a) h = omega arith
records_bound (group n r) h = omega (arith, (records_bound r h).0)
records_bound (seq r q) h =
    let e = not_pair sequence r h.0 in omega (arith, (records_bound r h.1).1, (records_bound q h.2).1)
records_bound (alt r q) h = omega (arith, (records_bound r h.1).0, (records_bound q h.2).0)
records_bound (many n e lazy r) h = omega (arith, (records_bound r h).0)

-- The weight, and so the number of the tidier's steps, is bounded likewise.
pub weight_bound : (r : Node) → (weight r ≤ 3 * charge r + 1) × (weight r ≤ 3 * cost sequence r)
unfolding weight charge extra
weight_bound empty = omega arith
weight_bound (bset s) = omega arith
weight_bound (assert a) = omega arith
weight_bound (group n r) = omega (arith, (weight_bound r).0)
weight_bound (seq r q) = omega (arith, (weight_bound r).1, (weight_bound q).1)
weight_bound (alt r q) = omega (arith, (weight_bound r).0, (weight_bound q).0)
weight_bound (many n e lazy r) = omega (arith, (weight_bound r).0)
