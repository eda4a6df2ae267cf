-- The record that a part is an item of: the first behind it that takes more items than there are parts since.
use Rattle.std.specs.Prelude.{◌≡◌, refl, cond, List, [], ◌∷◌, ◌++◌, ℕ, suc, ◌+◌, ◌-◌, ◌≤◌, ◌<◌, ltb, length}
use Rattle.std.proofs.Common.{ap, subst, append_assoc, append-nil, arith, length-append, lt-ltb, le-ltb}
use Rattle.std.proofs.Math.Option.{Option, none, some}
use Rattle.meaning.specs.Node.{Node, Node.empty, Node.bset, Node.assert, Node.group, Node.seq, Node.alt, Node.many}
use Rattle.meaning.specs.Flat.{Kind, Kind.sequence, Kind.alternation, pair, parts}
use Rattle.meaning.specs.Results.{concat_map}
use Rattle.table.specs.Laws.{inner}
use Rattle.tidying_shapes.specs.Skeleton.{Token, token, row_token, closing, skeleton_in, skeleton, width, lone, pair_in}
use Rattle.tidying_shapes.specs.Skeleton.{pair_gives}
use Rattle.tidying_shapes.specs.Skeleton.{gives_in}
use Rattle.tidying_shapes.specs.Spots.{Parent, Parent.top, Parent.alone, Parent.among, behind, Sound}

-- How many tokens stand between a part and that record, with c parts since; all of them if there is none.
unfoldable pub climb : ℕ → List Token → ℕ
climb c [] = 0
climb c (tok ∷ ts) = cond (ltb c tok.items) 0 (suc (climb (suc c - tok.items) ts))

-- A token that takes no more items than there are parts is passed, and one that takes more is the one.
pub climb_past : (c : ℕ) (tok : Token) (ts : List Token) → tok.items ≤ c
    → climb c (tok ∷ ts) ≡ suc (climb (suc c - tok.items) ts)
unfolding climb
climb_past c tok ts h = rw (le-ltb c tok.items h)

pub climb_here : (c : ℕ) (tok : Token) (ts : List Token) → c < tok.items → climb c (tok ∷ ts) ≡ 0
unfolding climb
climb_here c tok ts h = rw (lt-ltb c tok.items h)

-- The tokens of a pattern are passed, and leave as many parts as it gives.
abbrev Passed : List Token → ℕ → Type 0
Passed l m = (c : ℕ) (rest : List Token) → climb c (l ++ rest) ≡ length l + climb (c + m) rest

passed_none : Passed [] 0
passed_none c rest = let same : c + 0 ≡ c = omega arith in omega (arith, ap (λ x. climb x rest) same)

passed_append : (l k : List Token) (m n : ℕ) → Passed l m → Passed k n → Passed (l ++ k) (m + n)
passed_append l k m n f g c rest =
    let same : c + m + n ≡ c + (m + n) = omega arith in
    omega (
      arith,
      ap (climb c) (append_assoc l k rest),
      f c (k ++ rest),
      g (c + m) rest,
      length-append l k,
      ap (λ x. climb x rest) same,
    )

-- A token that takes just the parts before it leaves one.
passed_close : (l : List Token) (m : ℕ) (tok : Token) → Passed l m → tok.items ≡ m → Passed (l ++ (tok ∷ [])) 1
passed_close l m tok f e c rest =
    let same : suc (c + m) - tok.items ≡ c + 1 = omega arith in
    omega (
      arith,
      ap (climb c) (append_assoc l (tok ∷ []) rest),
      f c (tok ∷ rest),
      climb_past (c + m) tok rest (omega arith),
      length-append l (tok ∷ []),
      ap (λ x. climb x rest) same,
    )

passed_row : (t : Option Kind) (k : Kind) (l : List Token) (n : ℕ) → Passed l n → Passed (l ++ closing t k n) (gives_in t k n)
passed_row none k l n f = passed_close l n (row_token k n) f refl
passed_row (some sequence) sequence l n f = rw append-nil f
passed_row (some sequence) alternation l n f = passed_close l n (row_token alternation n) f refl
passed_row (some alternation) sequence l n f = passed_close l n (row_token sequence n) f refl
passed_row (some alternation) alternation l n f = rw append-nil f

passed_pair : (t : Option Kind) (k : Kind) (a q : Node) → Passed (skeleton a) 1
    → Passed (skeleton_in (some k) q) (length (parts k q))
    → Passed (skeleton_in t (pair k a q)) (width t (pair k a q))
passed_pair t k a q f g =
    rw (
      pair_in t k a q,
      ← append_assoc (skeleton a) (skeleton_in (some k) q)
          (closing t k (suc (length (parts k q)))),
      pair_gives t k a q,
    )
    (passed_row t k (skeleton a ++ skeleton_in (some k) q) (suc (length (parts k q))) both)
  where
    both : Passed (skeleton a ++ skeleton_in (some k) q) (suc (length (parts k q)))
    both = let one : 1 + length (parts k q) ≡ suc (length (parts k q)) = omega arith in
        subst (Passed (skeleton a ++ skeleton_in (some k) q)) one
        (passed_append (skeleton a) (skeleton_in (some k) q) 1 (length (parts k q)) f g)

pub passes : (t : Option Kind) (r : Node) → Passed (skeleton_in t r) (width t r)
unfolding skeleton_in inner
passes t empty = rw (lone t empty (λ k. tt)) (passed_close [] 0 (token empty) passed_none refl)
passes t (bset s) = rw (lone t (bset s) (λ k. tt)) (passed_close [] 0 (token (bset s)) passed_none refl)
passes t (assert a) = rw (lone t (assert a) (λ k. tt)) (passed_close [] 0 (token (assert a)) passed_none refl)
passes t (group k r) = rw (lone t (group k r) (λ k. tt)) (passed_close (skeleton r) 1 (token (group k r)) (passes none r) refl)
passes t (seq a q) = passed_pair t sequence a q (passes none a) (passes (some sequence) q)
passes t (alt a q) = passed_pair t alternation a q (passes none a) (passes (some alternation) q)
passes t (many n e lazy r) = rw (lone t (many n e lazy r) (λ k. tt))
    (passed_close (skeleton r) 1 (token (many n e lazy r)) (passes none r) refl)

passes_all : (l : List Node) → Passed (concat_map skeleton l) (length l)
passes_all [] = passed_none
passes_all (r ∷ l) = let one : 1 + length l ≡ suc (length l) = omega arith in
    subst (Passed (skeleton r ++ concat_map skeleton l)) one
    (passed_append (skeleton r) (concat_map skeleton l) 1 (length l) (passes none r) (passes_all l))

-- Where the record of a part's parent stands among the tokens behind it.
abbrev pub away : Parent none → ℕ
away top = 0
away (alone tok rest) = 0
away (among k others later rest) = length (concat_map skeleton later)

pub climbs : (P : Parent none) → Sound P → (m : ℕ) → 0 < m → climb 0 (behind P m) ≡ away P
unfolding climb
climbs top ok m h = refl
climbs (alone tok rest) ok m h = climb_here 0 tok rest (omega (arith, ok.one))
climbs (among k others later rest) ok m h =
    let here : climb (0 + length later) (row_token k (others + m) ∷ rest) ≡ 0
    = climb_here (0 + length later) (row_token k (others + m)) rest (omega arith) in
    omega (arith, passes_all later 0 (row_token k (others + m) ∷ rest))
