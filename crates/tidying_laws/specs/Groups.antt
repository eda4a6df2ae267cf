-- The groups of a pattern as a list of numbers: it says how they are numbered, and which of them a loop makes -1.
use Rattle.std.specs.Prelude.{◌≡◌, refl, Bool, true, false, List, [], ◌∷◌, ◌++◌, ℕ, zero, suc, ◌≤◌, max}
use Rattle.std.proofs.Common.{sym, ap, subst, ◌∙◌, arith}
use Rattle.std.proofs.lemmas.Bool.{false≢true}
use Rattle.meaning.specs.Text.{State, cleared, wiped}
use Rattle.meaning.specs.Node.{Node, Node.empty, Node.bset, Node.assert, Node.group, Node.seq, Node.alt, Node.many}
use Rattle.meaning.specs.Node.{lower, lo, hi, Proper}
use Rattle.meaning.specs.Results.{fresh}
use Rattle.meaning.specs.All.{All, all_append}
use Rattle.meaning.specs.Numbering.{Numbers}

-- The numbers of the groups, from left to right.
unfoldable pub groups : Node → List ℕ
groups empty = []
groups (bset s) = []
groups (assert a) = []
groups (group k r) = k ∷ groups r
groups (seq r q) = groups r ++ groups q
groups (alt r q) = groups r ++ groups q
groups (many n e lazy r) = groups r

-- Whether a pattern has no group.
abbrev is_nil : List ℕ → Bool
is_nil [] = true
is_nil (k ∷ l) = false

unfoldable pub group_free : Node → Bool
group_free r = is_nil (groups r)

pub free_groups : (r : Node) → group_free r ≡ true → groups r ≡ []
unfolding group_free
free_groups r = from (groups r)
  where
    from : (l : List ℕ) → is_nil l ≡ true → l ≡ []
    from [] h = refl
    from (k ∷ l) h = absurd (false≢true h)

-- The list counts up from a, and b is the next number.
abbrev Up : ℕ → List ℕ → ℕ → Type 0
Up a [] b = a ≡ b
Up a (k ∷ l) b = (k ≡ a) × Up (suc a) l b

up_append : (l m : List ℕ) (a n b : ℕ) → Up a l n → Up n m b → Up a (l ++ m) b
up_append [] m a n b h g = rw h g
up_append (k ∷ l) m a n b h g = (h.0, up_append l m (suc a) n b h.1 g)

up_split : (l m : List ℕ) (a b : ℕ) → Up a (l ++ m) b → (n : ℕ) × Up a l n × Up n m b
up_split [] m a b h = (a, refl, h)
up_split (k ∷ l) m a b h = let s = up_split l m (suc a) b h.1 in (s.0, (h.0, s.1), s.2)

up : (r : Node) (a b : ℕ) → Numbers a r b → Up a (groups r) b
unfolding groups
up empty a b h = h
up (bset s) a b h = h
up (assert t) a b h = h
up (group k r) a b h = (h.0, up r (suc a) b h.1)
up (seq r q) a b h = up_append (groups r) (groups q) a h.0 b (up r a h.0 h.1) (up q h.0 b h.2)
up (alt r q) a b h = up_append (groups r) (groups q) a h.0 b (up r a h.0 h.1) (up q h.0 b h.2)
up (many n e lazy r) a b h = up r a b h

down : (r : Node) (a b : ℕ) → Up a (groups r) b → Numbers a r b
unfolding groups
down empty a b h = h
down (bset s) a b h = h
down (assert t) a b h = h
down (group k r) a b h = (h.0, down r (suc a) b h.1)
down (seq r q) a b h =
    let s = up_split (groups r) (groups q) a b h in (s.0, down r a s.0 s.1, down q s.0 b s.2)
down (alt r q) a b h =
    let s = up_split (groups r) (groups q) a b h in (s.0, down r a s.0 s.1, down q s.0 b s.2)
down (many n e lazy r) a b h = down r a b h

-- Patterns with the same groups are numbered the same.
pub renumber : (r q : Node) (a b : ℕ) → groups r ≡ groups q → Numbers a r b → Numbers a q b
renumber r q a b e h = down q a b (subst (λ (l : List ℕ). Up a l b) e (up r a b h))

-- No group of a pattern is group 0, which is the whole match.
abbrev pub Positive : List ℕ → Type 0
Positive l = All (λ k. 1 ≤ k) l

pub proper_positive : (r : Node) → Proper r → Positive (groups r)
unfolding groups
proper_positive empty p = tt
proper_positive (bset s) p = tt
proper_positive (assert a) p = tt
proper_positive (group k r) p = (p.0, proper_positive r p.1)
proper_positive (seq r q) p =
    all_append (λ k. 1 ≤ k) (groups r) (groups q) (proper_positive r p.0) (proper_positive q p.1)
proper_positive (alt r q) p =
    all_append (λ k. 1 ≤ k) (groups r) (groups q) (proper_positive r p.0) (proper_positive q p.1)
proper_positive (many n e lazy r) p = proper_positive r p.1

pub positive : (r : Node) (a b : ℕ) → 1 ≤ a → Numbers a r b → Positive (groups r)
positive r a b pos h = from (groups r) a pos (up r a b h)
  where
    from : (l : List ℕ) (a : ℕ) → 1 ≤ a → Up a l b → Positive l
    from [] a pos h = tt
    from (k ∷ l) a pos h = (omega (arith, h.0), from l (suc a) (omega arith) h.1)

pub positive_both : (l m : List ℕ) → Positive (l ++ m) → Positive l × Positive m
positive_both [] m h = (tt, h)
positive_both (k ∷ l) m h = let (a, b) = positive_both l m h.1 in ((h.0, a), b)

-- The lowest and the highest number of a list.
abbrev highest : List ℕ → ℕ
highest [] = 0
highest (k ∷ l) = max k (highest l)

abbrev lowest : List ℕ → ℕ
lowest [] = 1
lowest (k ∷ l) = k

highest_append : (l m : List ℕ) → highest (l ++ m) ≡ max (highest l) (highest m)
highest_append [] m = omega arith
highest_append (k ∷ l) m = rw (highest_append l m) (omega arith)

lowest_append : (l m : List ℕ) → Positive l → lower (highest l) (lowest l) (lowest m) ≡ lowest (l ++ m)
lowest_append [] m h = refl
lowest_append (k ∷ l) m h = from (max k (highest l)) (omega (arith, h.0))
  where
    from : (n : ℕ) → 1 ≤ n → lower n k (lowest m) ≡ k
    from zero h = absurd (omega arith)
    from (suc n) h = refl

hi_highest : (r : Node) → hi r ≡ highest (groups r)
unfolding hi groups
hi_highest empty = refl
hi_highest (bset s) = refl
hi_highest (assert a) = refl
hi_highest (group k r) = ap (max k) (hi_highest r)
hi_highest (seq r q) = rw (hi_highest r, hi_highest q) (sym (highest_append (groups r) (groups q)))
hi_highest (alt r q) = rw (hi_highest r, hi_highest q) (sym (highest_append (groups r) (groups q)))
hi_highest (many n e lazy r) = hi_highest r

lo_both : (r q : Node) → Positive (groups r ++ groups q)
    → (Positive (groups r) → lo r ≡ lowest (groups r)) → (Positive (groups q) → lo q ≡ lowest (groups q))
    → lower (hi r) (lo r) (lo q) ≡ lowest (groups r ++ groups q)
lo_both r q h f g =
    let (a, b) = positive_both (groups r) (groups q) h in
    rw (hi_highest r, f a, g b) (lowest_append (groups r) (groups q) a)

lo_lowest : (r : Node) → Positive (groups r) → lo r ≡ lowest (groups r)
unfolding lo groups
lo_lowest empty h = refl
lo_lowest (bset s) h = refl
lo_lowest (assert a) h = refl
lo_lowest (group k r) h = refl
lo_lowest (seq r q) h = lo_both r q h (lo_lowest r) (lo_lowest q)
lo_lowest (alt r q) h = lo_both r q h (lo_lowest r) (lo_lowest q)
lo_lowest (many n e lazy r) h = lo_lowest r h

-- Patterns with the same groups have the same highest group; and the same lowest, if none is group 0.
pub same_high : (r q : Node) → groups r ≡ groups q → hi r ≡ hi q
same_high r q e = hi_highest r ∙ ap highest e ∙ sym (hi_highest q)

pub same_low : (r q : Node) → groups r ≡ groups q → Positive (groups r) → lo r ≡ lo q
same_low r q e h = lo_lowest r h ∙ ap lowest e ∙ sym (lo_lowest q (subst Positive e h))

-- A loop over a pattern with no group makes none -1.
pub free_positive : (r : Node) → group_free r ≡ true → Positive (groups r)
free_positive r h = rw (free_groups r h) tt

pub free_fresh : (r : Node) → group_free r ≡ true → (x : State) → fresh r x ≡ x
unfolding cleared wiped lo hi groups
free_fresh r h x =
    let e : groups r ≡ groups empty = free_groups r h in
    rw (same_low r empty e (free_positive r h), same_high r empty e)
