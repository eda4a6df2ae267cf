-- What the form of a table asks of a tree can be decided.
use Rattle.std.specs.Prelude.{◌≡◌, List, [], ◌∷◌, ℕ, zero, suc, ◌+◌, ◌^◌, ◌≤◌, ◌<◌, length, get_or}
use Rattle.std.proofs.Common.{subst, inl, inr, arith}
use Rattle.std.proofs.Math.Option.{Option, none, some}
use Rattle.std.proofs.Math.Decide.{ℕ_discrete, dec_le, dec_lt, map_dec}
use Rattle.sets.specs.Sets.{Formed}
use Rattle.meaning.specs.Limits.{count_limit, last_assertion}
use Rattle.meaning.specs.Node.{Node, Node.empty, Node.bset, Node.assert, Node.group, Node.seq, Node.alt, Node.many, lower, lo, hi}
use Rattle.meaning.specs.Node.{Within, Proper}
use Rattle.meaning.specs.Flat.{Kind, Kind.sequence, Kind.alternation, Not, Flat}
use Rattle.meaning.specs.Numbering.{Numbers, Range, range}

-- Two facts, and three.
both : {A B : Type 0} → Dec A → Dec B → Dec (A × B)
both (yes a) (yes b) = yes (a, b)
both (yes a) (no n) = no (λ h. n h.1)
both (no n) d = no (λ h. n h.0)

three : {A B C : Type 0} → Dec A → Dec B → Dec C → Dec (A × B × C)
three (yes a) (yes b) (yes c) = yes (a, b, c)
three (yes a) (yes b) (no n) = no (λ h. n h.2)
three (yes a) (no n) d = no (λ h. n h.1)
three (no n) d e = no (λ h. n h.0)

-- No sequence is an item of a sequence, and no alternation an alternative of an alternation.
not? : (k : Kind) (r : Node) → Dec (Not k r)
not? k empty = yes tt
not? k (bset s) = yes tt
not? k (assert a) = yes tt
not? k (group n r) = yes tt
not? sequence (seq r q) = no (λ h. h)
not? alternation (seq r q) = yes tt
not? sequence (alt r q) = yes tt
not? alternation (alt r q) = no (λ h. h)
not? k (many n e lazy r) = yes tt

pub flat? : (r : Node) → Dec (Flat r)
flat? empty = yes tt
flat? (bset s) = yes tt
flat? (assert a) = yes tt
flat? (group n r) = flat? r
flat? (seq r q) = three (not? sequence r) (flat? r) (flat? q)
flat? (alt r q) = three (not? alternation r) (flat? r) (flat? q)
flat? (many n e lazy r) = flat? r

-- Byte sets are well-formed, assertions the four, groups numbered from 1 on, counts within the limit.
words? : (l : List ℕ) → Dec ((i : ℕ) → get_or l i 0 < 2 ^ 32)
words? [] = yes (λ i. omega arith)
words? (w ∷ l) = go (dec_lt w (2 ^ 32)) (words? l)
  where
    all : w < 2 ^ 32 → ((i : ℕ) → get_or l i 0 < 2 ^ 32) → (i : ℕ) → get_or (w ∷ l) i 0 < 2 ^ 32
    all h k zero = h
    all h k (suc i) = k i

    go : Dec (w < 2 ^ 32) → Dec ((i : ℕ) → get_or l i 0 < 2 ^ 32) → Dec ((i : ℕ) → get_or (w ∷ l) i 0 < 2 ^ 32)
    go (yes h) (yes k) = yes (all h k)
    go (yes h) (no n) = no (λ k. n (λ i. k (suc i)))
    go (no n) d = no (λ k. n (k 0))

formed? : (s : List ℕ) → Dec (Formed s)
formed? s = map_dec (λ h. record { eight = h.0; words = h.1 }) (λ f. (f.eight, f.words)) (both (ℕ_discrete (length s) 8) (words? s))

within? : (n : ℕ) (e : Option ℕ) → Dec (Within n e)
within? n none = dec_le n count_limit
within? n (some e) = dec_le (n + e) count_limit

pub proper? : (r : Node) → Dec (Proper r)
proper? empty = yes tt
proper? (bset s) = formed? s
proper? (assert a) = dec_le a last_assertion
proper? (group k r) = both (dec_le 1 k) (proper? r)
proper? (seq r q) = both (proper? r) (proper? q)
proper? (alt r q) = both (proper? r) (proper? q)
proper? (many n e lazy r) = both (within? n e) (proper? r)

-- The number that is free behind a pattern whose groups are numbered from a on.
abbrev pub free : ℕ → Node → ℕ
free a r = lower (hi r) (suc (hi r)) a

pub free_is : (r : Node) (a m : ℕ) → 1 ≤ a → Numbers a r m → m ≡ free a r
free_is r a m pos h = go (hi r) (range r a m pos h)
  where
    go : (g : ℕ) → Range a (lo r) g m → m ≡ lower g (suc g) a
    go zero (inl f) = absurd (omega arith)
    go zero (inr f) = omega arith
    go (suc g) (inl f) = omega arith
    go (suc g) (inr f) = absurd (omega arith)

pub free_some : (r : Node) (a : ℕ) → 1 ≤ a → 1 ≤ free a r
free_some r a pos = go (hi r)
  where
    go : (g : ℕ) → 1 ≤ lower g (suc g) a
    go zero = pos
    go (suc g) = omega arith

-- Groups are numbered from left to right.
joined? : (r q : Node) (a b : ℕ) → 1 ≤ a → Dec (Numbers a r (free a r)) → Dec (Numbers (free a r) q b)
    → Dec ((m : ℕ) × Numbers a r m × Numbers m q b)
joined? r q a b pos (yes h) (yes k) = yes (free a r, h, k)
joined? r q a b pos (yes h) (no n) = no (λ k. n (subst (λ (m : ℕ). Numbers m q b) (free_is r a k.0 pos k.1) k.2))
joined? r q a b pos (no n) d = no (λ k. n (subst (λ (m : ℕ). Numbers a r m) (free_is r a k.0 pos k.1) k.1))

pub numbers? : (r : Node) (a b : ℕ) → 1 ≤ a → Dec (Numbers a r b)
numbers? empty a b pos = ℕ_discrete a b
numbers? (bset s) a b pos = ℕ_discrete a b
numbers? (assert t) a b pos = ℕ_discrete a b
numbers? (group k r) a b pos = both (ℕ_discrete k a) (numbers? r (suc a) b (omega arith))
numbers? (seq r q) a b pos = joined? r q a b pos (numbers? r a (free a r) pos) (numbers? q (free a r) b (free_some r a pos))
numbers? (alt r q) a b pos = joined? r q a b pos (numbers? r a (free a r) pos) (numbers? q (free a r) b (free_some r a pos))
numbers? (many n e lazy r) a b pos = numbers? r a b pos
