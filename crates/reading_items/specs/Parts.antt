-- Lists of parts: what a list of parts keeps when it is joined, and what the parts of a pattern keep of it.
use Rattle.std.specs.Prelude.{◌≡◌, refl, List, [], ◌∷◌, ◌++◌, ℕ, ◌+◌, ◌≤◌}
use Rattle.std.proofs.Common.{subst, arith}
use Rattle.std.proofs.Math.Option.{some}
use Rattle.meaning.specs.Node.{Node, Node.empty, Node.bset, Node.assert, Node.group, Node.seq, Node.alt, Node.many}
use Rattle.meaning.specs.Flat.{Kind, Kind.sequence, Kind.alternation, pair, Not, Flat, parts, link, join, by_parts}
use Rattle.meaning.specs.Numbering.{Numbers}
use Rattle.table.specs.Table.{records_in, record_count}
use Rattle.meaning.specs.All.{All}
use Rattle.table.specs.Laws.{count_all, row_count}

-- The groups of a list of parts are numbered from left to right, from a up to b.
abbrev pub NumbersIn : ℕ → List Node → ℕ → Type 0
NumbersIn a [] b = a ≡ b
NumbersIn a (r ∷ l) b = (m : ℕ) × Numbers a r m × NumbersIn m l b

pub numbers_append : (l k : List Node) (a m b : ℕ) → NumbersIn a l m → NumbersIn m k b → NumbersIn a (l ++ k) b
numbers_append [] k a m b h g = subst (λ (x : ℕ). NumbersIn x k b) (omega arith) g
numbers_append (r ∷ l) k a m b h g = (h.0, h.1, numbers_append l k h.0 m b h.2 g)

numbers_pair : (k : Kind) (r q : Node) (a m b : ℕ) → Numbers a r m → Numbers m q b → Numbers a (pair k r q) b
numbers_pair sequence r q a m b h g = (m, h, g)
numbers_pair alternation r q a m b h g = (m, h, g)

numbers_unpair : (k : Kind) (r q : Node) (a b : ℕ) → Numbers a (pair k r q) b → (m : ℕ) × Numbers a r m × Numbers m q b
numbers_unpair sequence r q a b h = h
numbers_unpair alternation r q a b h = h

numbers_link : (k : Kind) (r : Node) (l : List Node) (a b : ℕ) → NumbersIn a (r ∷ l) b → Numbers a (link k r l) b
numbers_link k r [] a b h = subst (λ (x : ℕ). Numbers a r x) h.2 h.1
numbers_link k r (q ∷ l) a b h = numbers_pair k r (link k q l) a h.0 b h.1 (numbers_link k q l h.0 b h.2)

pub numbers_join : (k : Kind) (l : List Node) (a b : ℕ) → NumbersIn a l b → Numbers a (join k l) b
numbers_join k [] a b h = h
numbers_join k (r ∷ l) a b h = numbers_link k r l a b h

pub numbers_parts : (k : Kind) (r : Node) (a b : ℕ) → Numbers a r b → NumbersIn a (parts k r) b
numbers_parts k r = by_parts k (λ r l. (a b : ℕ) → Numbers a r b → NumbersIn a l b)
    (λ r n a b h. (b, h, refl))
    (λ r q l f a b h. let (m, u, v) = numbers_unpair k r q a b h in (m, u, f m b v)) r

-- A property that a pair has exactly if both its parts have it.
pub record Shared (P : Node → Type 0) : Type 0 where
  pub both : (k : Kind) (r q : Node) → P r → P q → P (pair k r q)
  pub each : (k : Kind) (r q : Node) → P (pair k r q) → P r × P q
  pub nothing : P empty

module _ (P : Node → Type 0) (shared : Shared P) where
  shared_link : (k : Kind) (r : Node) (l : List Node) → P r → All P l → P (link k r l)
  shared_link k r [] h g = h
  shared_link k r (q ∷ l) h g = shared.both k r (link k q l) h (shared_link k q l g.0 g.1)

  pub shared_join : (k : Kind) (l : List Node) → All P l → P (join k l)
  shared_join k [] h = shared.nothing
  shared_join k (r ∷ l) h = shared_link k r l h.0 h.1

  pub shared_parts : (k : Kind) (r : Node) → P r → All P (parts k r)
  shared_parts k r = by_parts k (λ r l. P r → All P l) (λ r n h. (h, tt))
      (λ r q l f h. let (u, v) = shared.each k r q h in (u, f v)) r

-- A part that may stand in a row of a kind: not of that kind, and flat.
abbrev pub Fits : Kind → Node → Type 0
Fits k r = Not k r × Flat r

flat_pair : (k : Kind) (r q : Node) → Fits k r → Flat q → Flat (pair k r q)
flat_pair sequence r q h g = (h.0, h.1, g)
flat_pair alternation r q h g = (h.0, h.1, g)

flat_unpair : (k : Kind) (r q : Node) → Flat (pair k r q) → Fits k r × Flat q
flat_unpair sequence r q h = ((h.0, h.1), h.2)
flat_unpair alternation r q h = ((h.0, h.1), h.2)

flat_link : (k : Kind) (r : Node) (l : List Node) → Fits k r → All (Fits k) l → Flat (link k r l)
flat_link k r [] h g = h.1
flat_link k r (q ∷ l) h g = flat_pair k r (link k q l) h (flat_link k q l g.0 g.1)

pub flat_join : (k : Kind) (l : List Node) → All (Fits k) l → Flat (join k l)
flat_join k [] h = tt
flat_join k (r ∷ l) h = flat_link k r l h.0 h.1

pub flat_parts : (k : Kind) (r : Node) → Flat r → All (Fits k) (parts k r)
flat_parts k r = by_parts k (λ r l. Flat r → All (Fits k) l) (λ r n h. ((n, h), tt))
    (λ r q l f h. let (u, v) = flat_unpair k r q h in (u, f v)) r

count_inner : (k : Kind) (r : Node) → records_in (some k) r ≤ record_count r
unfolding records_in
count_inner k empty = omega arith
count_inner k (bset s) = omega arith
count_inner k (assert a) = omega arith
count_inner k (group n r) = omega arith
count_inner sequence (seq r q) = omega arith
count_inner alternation (seq r q) = omega arith
count_inner sequence (alt r q) = omega arith
count_inner alternation (alt r q) = omega arith
count_inner k (many n e lazy r) = omega arith

count_pair : (k : Kind) (r q : Node) → records_in (some k) (pair k r q) ≡ record_count r + records_in (some k) q
unfolding records_in
count_pair sequence r q = omega arith
count_pair alternation r q = omega arith

count_own : (k : Kind) (r q : Node) → record_count (pair k r q) ≡ record_count r + records_in (some k) q + 1
unfolding records_in
count_own sequence r q = omega arith
count_own alternation r q = omega arith

count_link : (k : Kind) (r : Node) (l : List Node) → records_in (some k) (link k r l) ≤ count_all (r ∷ l)
count_link k r [] = omega (arith, count_inner k r)
count_link k r (q ∷ l) = omega (arith, count_pair k r (link k q l), count_link k q l)

-- A row has a record for itself at most beside those of its parts; and its parts have no more than it.
pub count_join : (k : Kind) (l : List Node) → record_count (join k l) ≤ count_all l + 1
unfolding records_in
count_join k [] = omega arith
count_join k (r ∷ []) = omega arith
count_join k (r ∷ q ∷ l) = omega (arith, count_own k r (link k q l), count_link k q l)

pub count_parts : (k : Kind) (r : Node) → count_all (parts k r) ≤ record_count r
count_parts k r = omega (arith, row_count k r, count_inner k r)
