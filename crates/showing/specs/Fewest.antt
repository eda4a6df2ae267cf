-- The text of a tree has the fewest parentheses that the grammar needs: no derivation of the tree, whatever it is derived from,
-- opens fewer, and none is shallower.
use Rattle.std.specs.Prelude.{◌≡◌, refl, List, [], ◌∷◌, ◌++◌, ℕ, suc, ◌+◌, ◌≤◌, max}
use native.Mathlib.Omega.{arith}
use Rattle.meaning.specs.Node.{Node, Node.empty, Node.bset, Node.assert, Node.group, Node.seq, Node.alt, Node.many}
use Rattle.meaning.specs.Flat.{Kind, parts, join, fold, Adds, adds_link, adds_parts}
use Rattle.table.specs.Table.{bit_of}
use Rattle.reading_grammar.specs.Grammar.{Sort, Rule}
use Rattle.showing.specs.Text.{loose, bound, depth}

-- How many parentheses the text of a tree opens.
unfoldable pub pairs : Node → ℕ
pairs empty = 0
pairs (bset s) = 0
pairs (assert a) = 0
pairs (group k r) = suc (pairs r)
pairs (seq r q) = (bit_of (loose r) + pairs r) + (bit_of (loose q) + pairs q)
pairs (alt r q) = pairs r + pairs q
pairs (many n e lazy r) = bit_of (bound r) + pairs r

-- How many a derivation opens: its rules for `(r)` and `(?:r)`.
unfoldable pub opened : {s : List ℕ} {t : Sort} {d a b g h : ℕ} {l : List Node} → Rule s t d a b g h l → ℕ
opened (Rule.first u) = opened u
opened (Rule.next u c v) = opened u + opened v
opened Rule.nothing = 0
opened (Rule.more u i) = opened u + opened i
opened (Rule.assertion u) = 0
opened (Rule.once u e) = opened u
opened (Rule.repeated u q) = opened u
opened (Rule.bytes u) = 0
opened (Rule.grouped at n l u c) = suc (opened u)
opened (Rule.plain at q k u c) = suc (opened u)

-- As an item of a sequence.
abbrev in_item : (Node → ℕ) → Node → ℕ
in_item f r = bit_of (loose r) + f r

-- Parentheses are summed over items and alternatives, and depths are the deepest.
pairs_items : Adds Kind.sequence ◌+◌ 0 (in_item pairs)
unfolding pairs
pairs_items = record { both = λ r q. omega arith; right = λ x. omega arith; assoc = λ x y z. omega arith }

pairs_alternatives : Adds Kind.alternation ◌+◌ 0 pairs
unfolding pairs
pairs_alternatives = record { both = λ r q. refl; right = λ x. omega arith; assoc = λ x y z. omega arith }

depth_items : Adds Kind.sequence max 0 (in_item depth)
unfolding depth
depth_items = record { both = λ r q. omega arith; right = λ x. omega arith; assoc = λ x y z. omega arith }

depth_alternatives : Adds Kind.alternation max 0 depth
unfolding depth
depth_alternatives = record { both = λ r q. refl; right = λ x. omega arith; assoc = λ x y z. omega arith }

-- Of two lists one behind the other.
sum_append : (f : Node → ℕ) (l m : List Node) → fold ◌+◌ 0 f (l ++ m) ≡ fold ◌+◌ 0 f l + fold ◌+◌ 0 f m
sum_append f [] m = omega arith
sum_append f (r ∷ l) m = omega (arith, sum_append f l m)

max_append : (f : Node → ℕ) (l m : List Node) → fold max 0 f (l ++ m) ≡ max (fold max 0 f l) (fold max 0 f m)
max_append f [] m = omega arith
max_append f (r ∷ l) m = omega (arith, max_append f l m)

-- A list of items, or of alternatives, as one tree.
pairs_sequence : (l : List Node) → pairs (join Kind.sequence l) ≤ fold ◌+◌ 0 (in_item pairs) l
unfolding pairs
pairs_sequence [] = omega arith
pairs_sequence (r ∷ l) = omega (arith, adds_link pairs_items r l)

pairs_join : (l : List Node) → pairs (join Kind.alternation l) ≡ fold ◌+◌ 0 pairs l
unfolding pairs
pairs_join [] = refl
pairs_join (r ∷ l) = adds_link pairs_alternatives r l

depth_sequence : (l : List Node) → depth (join Kind.sequence l) ≤ fold max 0 (in_item depth) l
unfolding depth
depth_sequence [] = omega arith
depth_sequence (r ∷ l) = omega (arith, adds_link depth_items r l)

depth_join : (l : List Node) → depth (join Kind.alternation l) ≡ fold max 0 depth l
unfolding depth
depth_join [] = refl
depth_join (r ∷ l) = adds_link depth_alternatives r l

-- What needs parentheses in a sequence needs them under a quantifier.
loose_bound : (r : Node) → bit_of (loose r) ≤ bit_of (bound r)
loose_bound empty = omega arith
loose_bound (bset s) = omega arith
loose_bound (assert a) = omega arith
loose_bound (group k r) = omega arith
loose_bound (seq r q) = omega arith
loose_bound (alt r q) = omega arith
loose_bound (many n e lazy r) = omega arith

bound_one : (r : Node) → bit_of (bound r) ≤ 1
bound_one empty = omega arith
bound_one (bset s) = omega arith
bound_one (assert a) = omega arith
bound_one (group k r) = omega arith
bound_one (seq r q) = omega arith
bound_one (alt r q) = omega arith
bound_one (many n e lazy r) = omega arith

-- The parentheses that what is derived needs, by the rule's sort; and the depth.
abbrev first_of_lem : (Node → ℕ) → List Node → ℕ
first_of_lem f [] = 0
first_of_lem f (r ∷ l) = f r

abbrev Needs : Sort → List Node → ℕ → Type 0
Needs Sort.alternatives l n = fold ◌+◌ 0 pairs l ≤ n
Needs Sort.sequence l n = fold ◌+◌ 0 (in_item pairs) l ≤ n
Needs Sort.item l n = first_of_lem (in_item pairs) l ≤ n
Needs Sort.atom l n = first_of_lem (λ r. bit_of (bound r) + pairs r) l ≤ n

abbrev Deep : Sort → List Node → ℕ → Type 0
Deep Sort.alternatives l n = fold max 0 depth l ≤ n
Deep Sort.sequence l n = fold max 0 (in_item depth) l ≤ n
Deep Sort.item l n = first_of_lem (in_item depth) l ≤ n
Deep Sort.atom l n = first_of_lem (λ r. bit_of (bound r) + depth r) l ≤ n

module _ {s : List ℕ} where
  needs_most : {t : Sort} {d a b g h : ℕ} {l : List Node} (u : Rule s t d a b g h l) → Needs t l (opened u)
  unfolding opened pairs
  needs_most (Rule.first {l = l} u) =
      omega (arith, adds_parts pairs_alternatives (join Kind.sequence l), pairs_sequence l, needs_most u)
  needs_most (Rule.next {l = l} {m = m} u c v) =
      omega (
        arith,
        sum_append pairs l (parts Kind.alternation (join Kind.sequence m)),
        adds_parts pairs_alternatives (join Kind.sequence m),
        pairs_sequence m,
        needs_most u,
        needs_most v,
      )
  needs_most Rule.nothing = omega arith
  needs_most (Rule.more {l = l} {r = r} u i) =
      omega (arith, sum_append (in_item pairs) l (parts Kind.sequence r), adds_parts pairs_items r, needs_most u, needs_most i)
  needs_most (Rule.assertion u) = omega arith
  needs_most (Rule.once {r = r} u e) = omega (arith, loose_bound r, needs_most u)
  needs_most (Rule.repeated u q) = omega (arith, needs_most u)
  needs_most (Rule.bytes u) = omega arith
  needs_most (Rule.grouped {l = l} at n k u c) = omega (arith, pairs_join l, needs_most u)
  needs_most (Rule.plain {l = l} at q k u c) = omega (arith, bound_one (join Kind.alternation l), pairs_join l, needs_most u)

  deep_most : {t : Sort} {d a b g h : ℕ} {l : List Node} → Rule s t d a b g h l → Deep t l d
  unfolding depth
  deep_most (Rule.first {l = l} u) =
      omega (arith, adds_parts depth_alternatives (join Kind.sequence l), depth_sequence l, deep_most u)
  deep_most (Rule.next {l = l} {m = m} u c v) =
      omega (
        arith,
        max_append depth l (parts Kind.alternation (join Kind.sequence m)),
        adds_parts depth_alternatives (join Kind.sequence m),
        depth_sequence m,
        deep_most u,
        deep_most v,
      )
  deep_most Rule.nothing = omega arith
  deep_most (Rule.more {l = l} {r = r} u i) =
      omega (arith, max_append (in_item depth) l (parts Kind.sequence r), adds_parts depth_items r, deep_most u, deep_most i)
  deep_most (Rule.assertion u) = omega arith
  deep_most (Rule.once {r = r} u e) = omega (arith, loose_bound r, deep_most u)
  deep_most (Rule.repeated u q) = omega (arith, deep_most u)
  deep_most (Rule.bytes u) = omega arith
  deep_most (Rule.grouped {l = l} at n k u c) = omega (arith, depth_join l, deep_most u)
  deep_most (Rule.plain {l = l} at q k u c) = omega (arith, bound_one (join Kind.alternation l), depth_join l, deep_most u)

  -- No derivation of a tree opens fewer parentheses than its text, and none is shallower.
  pub fewest : {d a b g h : ℕ} {l : List Node} (u : Rule s Sort.alternatives d a b g h l)
      → (pairs (join Kind.alternation l) ≤ opened u) × (depth (join Kind.alternation l) ≤ d)
  fewest {l = l} u = (omega (arith, pairs_join l, needs_most u), omega (arith, depth_join l, deep_most u))
