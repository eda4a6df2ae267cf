-- Measures of patterns that add up over parts: weight, rows, groups.
use Rattle.std.specs.Prelude.{◌≡◌, refl, List, [], ◌∷◌, ◌++◌, ℕ, suc, ◌+◌, ◌≤◌}
use Rattle.std.proofs.Common.{append-nil, append_assoc, arith}
use Rattle.meaning.specs.Node.{Node, Node.empty, Node.bset, Node.assert, Node.group, Node.seq, Node.alt, Node.many}
use Rattle.machine.specs.Layout.{size_of}
use Rattle.tidying_laws.specs.Groups.{groups}
use Rattle.meaning.specs.Flat.{Kind, Kind.sequence, Kind.alternation, pair, join, fold, Adds, adds_link}

-- A sum over a list of parts; and a number that adds up over the parts of a kind.
abbrev pub total : (Node → ℕ) → List Node → ℕ
total f = fold ◌+◌ 0 f

pub sums : (k : Kind) (f : Node → ℕ) → ((r q : Node) → f (pair k r q) ≡ f r + f q) → Adds k ◌+◌ 0 f
sums k f h = record { both = h; right = λ n. omega arith; assoc = λ n m o. omega arith }

-- What every step of the tidier makes less: the nodes that are no sequence and no alternation, a byte set counted three times.
unfoldable pub weight : Node → ℕ
weight empty = 1
weight (bset s) = 3
weight (assert a) = 1
weight (group n r) = suc (weight r)
weight (seq r q) = weight r + weight q
weight (alt r q) = weight r + weight q
weight (many n e lazy r) = suc (weight r)

pub weighs : (r : Node) → 1 ≤ weight r
unfolding weight
weighs empty = omega arith
weighs (bset s) = omega arith
weighs (assert a) = omega arith
weighs (group n r) = omega arith
weighs (seq r q) = omega (arith, weighs r)
weighs (alt r q) = omega (arith, weighs r)
weighs (many n e lazy r) = omega arith

pub weight_adds : (k : Kind) → Adds k ◌+◌ 0 weight
unfolding weight
weight_adds sequence = sums sequence weight (λ r q. refl)
weight_adds alternation = sums alternation weight (λ r q. refl)

-- The rows of a part, and those that an alternation adds for each alternative but one.
abbrev pub gap : Kind → ℕ
gap sequence = 0
gap alternation = 2

abbrev pub rows_in : Kind → Node → ℕ
rows_in k r = size_of r + gap k

pub rows_adds : (k : Kind) → Adds k ◌+◌ 0 (rows_in k)
unfolding size_of
rows_adds sequence = sums sequence (rows_in sequence) (λ r q. omega arith)
rows_adds alternation = sums alternation (rows_in alternation) (λ r q. omega arith)

-- The groups of a list of parts.
abbrev pub groups_of : List Node → List ℕ
groups_of = fold ◌++◌ [] groups

pub groups_adds : (k : Kind) → Adds k ◌++◌ [] groups
unfolding groups
groups_adds k = record { both = both k; right = append-nil; assoc = append_assoc }
  where
    both : (k : Kind) (r q : Node) → groups (pair k r q) ≡ groups r ++ groups q
    both sequence r q = refl
    both alternation r q = refl

pub groups_join : (k : Kind) (l : List Node) → groups (join k l) ≡ groups_of l
unfolding groups
groups_join k [] = refl
groups_join k (r ∷ l) = adds_link (groups_adds k) r l
