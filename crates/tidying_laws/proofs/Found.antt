-- The search for a law: what its first place and lowest law are, when it finds none, and that places are records.
use Rattle.std.specs.Prelude.{◌≡◌, refl, List, [], ◌∷◌, map, ℕ, zero, suc, ◌+◌, ◌-◌, ◌≤◌, length, get_or, drop}
use Rattle.std.proofs.Common.{ap, subst, ◌∙◌, arith, add-one, length-append, get_or-append-add, drop-cons}
use Rattle.std.proofs.Math.Option
use Rattle.std.proofs.Math.Option.{Option, none, some, IsSome, map-eq-none_iff, none-ne-some, some-ne-none, some-injective}
use Rattle.std.proofs.lemmas.List.{length-map}
use Rattle.std.proofs.Math.Seq.{drop-length}
use Rattle.meaning.specs.Node.{Node, Node.empty, Node.bset, Node.assert, Node.group, Node.seq, Node.alt, Node.many}
use Rattle.meaning.specs.Results.{or_else}
use Rattle.meaning.specs.Flat.{Kind, Kind.sequence, Kind.alternation, Not, pair}
use Rattle.tidying_laws.specs.Charge.{is_pair, not_pair, records}
use Rattle.tidying_laws.specs.List.{laws, words}
use Rattle.tidying_laws.proofs.List.{Law, list}
use Rattle.tidying_laws.specs.Tidier.{whole, places, first_at, lowest, found, tidy_step}
use Rattle.meaning.specs.All.{All, all_imp}
use Rattle.tidying_laws.specs.Kept.{Ok, ok_else, ok_map}
use Rattle.tidying_laws.specs.Found.{Done, First, first_from, nth}

pub first_at_lem : {A B : Type 0} (c : A → Option B) (n : ℕ) (l : List A) (i : ℕ) (b : B) → first_at c n l ≡ some (i, b)
    → First c n l i b
first_at_lem c n [] i b e = absurd (none-ne-some (i, b) e)
first_at_lem {B = B} c n (x ∷ l) i b e = by (λ e. first_at_lem c (suc n) l i b e) (c x) refl e
  where
    by : (first_at c (suc n) l ≡ some (i, b) → First c (suc n) l i b)
        → (o : Option B) → c x ≡ o → or_else (Option.map (λ b. (n, b)) o) (first_at c (suc n) l) ≡ some (i, b)
        → First c n (x ∷ l) i b
    by ih none f e = let h : First c (suc n) l i b = ih e in record {
      front = x ∷ h.front;
      here = h.here;
      back = h.back;
      split = ap (λ m. x ∷ m) h.split;
      number = omega (arith, h.number);
      none_before = (f, h.none_before);
      success = h.success;
    }
    by ih (some d) f e =
        let p : Path (ℕ × B) (n, d) (i, b) = some-injective (n, d) (i, b) e in
        let q : n ≡ i = ap (λ (t : ℕ × B). t.0) p in
        record {
          front = [];
          here = x;
          back = l;
          split = refl;
          number = omega arith;
          none_before = tt;
          success = f ∙ ap (λ (t : ℕ × B). some t.1) p;
        }

pub first_nth : {A B : Type 0} (c : A → Option B) (d : A) (l : List A) (k : ℕ) (b : B) → first_at c 1 l ≡ some (k, b)
    → (1 ≤ k) × (k ≤ length l) × (c (nth d l k) ≡ some b)
first_nth c d l k b e =
    let f = first_at_lem c 1 l k b e in
    let at : k ≡ suc (length f.front + 0) = omega (arith, f.number) in
    let here : nth d l k ≡ f.here
    = ap (nth d l) at ∙ ap (λ m. get_or m (length f.front + 0) d) f.split
    ∙ get_or-append-add f.front (f.here ∷ f.back) 0 d in (
      omega arith,
      omega (arith, ap length f.split, length-append f.front (f.here ∷ f.back)),
      ap c here ∙ f.success,
    )

module _ {A B : Type 0} (c : A → Option B) (d : A) (l : List A) where
  from_cons : (k : ℕ) → 1 ≤ k → k ≤ length l
      → first_from c l k ≡ or_else (Option.map (λ b. (k, b)) (c (nth d l k))) (first_from c l (k + 1))
  from_cons zero low high = absurd (omega arith)
  from_cons (suc j) low high =
      let here : suc j - 1 ≡ j = omega arith in
      let next : suc j + 1 - 1 ≡ suc j = omega arith in
      rw (here, next, drop-cons l j d (omega arith), add-one)

  pub from_next : (k : ℕ) → 1 ≤ k → k ≤ length l → c (nth d l k) ≡ none → first_from c l k ≡ first_from c l (k + 1)
  from_next k low high e =
      from_cons k low high ∙ ap (λ o. or_else (Option.map (λ b. (k, b)) o) (first_from c l (k + 1))) e

  pub from_here : (k : ℕ) → 1 ≤ k → k ≤ length l → (b : B) → c (nth d l k) ≡ some b → first_from c l k ≡ some (k, b)
  from_here k low high b e =
      from_cons k low high ∙ ap (λ o. or_else (Option.map (λ b. (k, b)) o) (first_from c l (k + 1))) e

  pub from_end : (k : ℕ) → k ≡ length l + 1 → first_from c l k ≡ none
  from_end k e =
      let all : k - 1 ≡ length l = omega arith in
      ap (first_at c k) (ap (λ n. drop n l) all ∙ drop-length l)

-- A search finds nothing exactly if nothing succeeds.
first_none : {A B : Type 0} (c : A → Option B) (n : ℕ) (l : List A) → first_at c n l ≡ none → All (λ x. c x ≡ none) l
first_none c n [] e = tt
first_none {B = B} c n (x ∷ l) e = by (λ e. first_none c (suc n) l e) (c x) refl e
  where
    by : (first_at c (suc n) l ≡ none → All (λ x. c x ≡ none) l) → (o : Option B) → c x ≡ o
        → or_else (Option.map (λ b. (n, b)) o) (first_at c (suc n) l) ≡ none → (c x ≡ none) × All (λ x. c x ≡ none) l
    by ih none f e = (f, ih e)
    by ih (some b) f e = absurd (some-ne-none (n, b) e)

none_first : {A B : Type 0} (c : A → Option B) (n : ℕ) (l : List A) → All (λ x. c x ≡ none) l → first_at c n l ≡ none
none_first c n [] h = refl
none_first c n (x ∷ l) h = rw h.0 (none_first c (suc n) l h.1)

-- What holds of every success holds of the first.
pub ok_first {κ} : {A B : Type 0} (P : B → Type κ) (c : A → Option B) (n : ℕ) (l : List A)
    → All (λ x. Ok P (c x)) l → Ok (λ t. P t.1) (first_at c n l)
ok_first P c n [] h = tt
ok_first P c n (x ∷ l) h = ok_else (λ t. P t.1) (Option.map (λ b. (n, b)) (c x)) (first_at c (suc n) l)
    (ok_map (λ t. P t.1) P (λ b. (n, b)) (λ b g. g) (c x) h.0) (ok_first P c (suc n) l h.1)

-- The tidier's step finds nothing exactly if no law fits any part.
pub done : (r : Node) → tidy_step r ≡ none → Done r
unfolding tidy_step found lowest
done r e = all_imp _ (λ p. All (λ f. f p.part ≡ none) laws)
    (λ p f. first_none (λ f. f p.part) 1 laws ((map-eq-none_iff _ (lowest p.part)).0 f)) (places none r)
    (first_none _ 1 (places none r) ((map-eq-none_iff _ (found r)).0 e))

pub undone : (r : Node) → Done r → tidy_step r ≡ none
unfolding tidy_step found lowest
undone r h = (map-eq-none_iff _ (found r)).1 (none_first _ 1 (places none r)
    (all_imp (λ p. All (λ f. f p.part ≡ none) laws) _
    (λ p f. (map-eq-none_iff _ (lowest p.part)).1 (none_first (λ f. f p.part) 1 laws f)) (places none r) h))

-- Where no law fits a part, the words of none apply to it.
pub no_words : (r : Node) → All (λ f. f r ≡ none) laws → All (λ W. W r → ⊥) words
unfolding laws words list
no_words r = go list
  where
    go : (l : List Law) → All (λ f. f r ≡ none) (map (λ l. l.makes) l)
        → All (λ (W : Node → Type 0). W r → ⊥) (map (λ W r. (q : Node) × W r q) (map (λ l. l.words) l))
    go [] h = tt
    go (x ∷ l) h = (λ w. subst IsSome h.0 (x.exact.fits r w.0 w.1), go l h.1)

-- A pattern has as many places as records; its end, as a part of more, does not count.
abbrev ending : Option Kind → Node → ℕ
ending none r = 0
ending (some k) r = is_pair k r

whole_one : (t : Option Kind) (k : Kind) (r q : Node) → length (whole t k (pair k r q)) + ending t (pair k r q) ≡ 1
unfolding is_pair
whole_one none k r q = omega arith
whole_one (some sequence) sequence r q = omega arith
whole_one (some sequence) alternation r q = omega arith
whole_one (some alternation) sequence r q = omega arith
whole_one (some alternation) alternation r q = omega arith

leaf : (t : Option Kind) (r : Node) → Not sequence r → Not alternation r → ending t r ≡ 0
leaf none r h g = refl
leaf (some sequence) r h g = not_pair sequence r h
leaf (some alternation) r h g = not_pair alternation r g

places_count : (t : Option Kind) (r : Node) → length (places t r) + ending t r ≡ records r
unfolding places records
places_count t empty = omega (arith, leaf t empty tt tt)
places_count t (bset s) = omega (arith, leaf t (bset s) tt tt)
places_count t (assert a) = omega (arith, leaf t (assert a) tt tt)
places_count t (group k r) =
    simp (length-append, length-map) (omega (arith, leaf t (group k r) tt tt, places_count none r))
places_count t (seq r q) = simp (length-append, length-map)
    (omega (arith, whole_one t sequence r q, places_count none r, places_count (some sequence) q))
places_count t (alt r q) = simp (length-append, length-map)
    (omega (arith, whole_one t alternation r q, places_count none r, places_count (some alternation) q))
places_count t (many n e lazy r) =
    simp (length-append, length-map) (omega (arith, leaf t (many n e lazy r) tt tt, places_count none r))

pub places_records : (r : Node) → length (places none r) ≡ records r
places_records r = omega (arith, places_count none r)
