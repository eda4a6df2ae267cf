-- A law fits exactly where its words apply, and what it makes is what they say.
use Rattle.std.specs.Prelude.{◌≡◌, refl, ◌⊎◌, Bool, true, false, cond, not, ◌&&◌, ◌||◌, List, [], ◌∷◌, ◌++◌, map, ℕ, zero, suc, ◌≤◌, eqb, length}
use Rattle.std.proofs.Common.{sym, ap, subst, ◌∙◌, inl, inr, append_assoc, arith, length-append}
use Rattle.std.specs.Bool.{beq}
use Rattle.std.proofs.lemmas.Bool.{false≢true}
use Rattle.std.proofs.Math.Option
use Rattle.std.proofs.Math.Option.{Option, none, some, IsSome}
use Rattle.std.proofs.Math.Dec.{eqb-suc-zero}
use Rattle.meaning.specs.Tests.{and_true, beq_eq}
use Rattle.meaning.specs.Node.{Node, Node.empty, Node.bset, Node.assert, Node.seq, Node.many}
use Rattle.meaning.specs.Results.{or_else, concat_map}
use Rattle.meaning.specs.All.{All}
use Rattle.meaning.specs.Flat.{Kind.sequence, Kind.alternation, items, alternatives, of_items, of_alternatives}
use Rattle.tidying_laws.specs.Choices.{any}
use Rattle.tidying_laws.specs.Groups.{group_free}
use Rattle.tidying_laws.specs.Void.{void}
use Rattle.tidying_laws.specs.Quantified.{absorbed}
use Rattle.tidying_laws.specs.Equal.{same, same_eq}
use Rattle.tidying_laws.specs.Laws.{when, on_alternatives, counts, is_empty, filled, is_void, distinct}
use Rattle.tidying_laws.specs.Laws.{possible, impossible, first_set, run, glues, shared, shared_at, share}
use Rattle.tidying_laws.specs.Laws.{t1, t2, t3, t4, t5, t6, t7, t8, t9, t10}
use Rattle.tidying_laws.specs.Kept.{Ok, ok_test, ok_when, ok_else, ok_map, ok_imp, ok_two}
use Rattle.tidying_laws.specs.Alternatives.{void_set}
use Rattle.tidying_laws.specs.Items.{filled_others}
use Rattle.tidying_laws.proofs.Quantifiers.{counts_eq, tests, on_many_lem, on_assert_lem, both_greedy}
use Rattle.tidying_laws.specs.Runs.{Longest}
use Rattle.tidying_laws.proofs.Runs.{run_longest, glues_join}
use Rattle.tidying_laws.specs.Words.{OnParts, EmptyItem, Times, OnceOrNever, ManyEmpty, EmptyOrItself, ManyAssertion}
use Rattle.tidying_laws.specs.Words.{LoopOfLoops, EqualAlternative, VoidAlternative, EmptySet, OptionOfOption}
use Rattle.tidying_laws.specs.Words.{LoopOnceOfLoops, Leads, rest, Adjacent, SameFirst}
use Rattle.tidying_laws.proofs.Fits.{t1_fits, t2_fits, t3_fits, t4_fits, t5_fits, t6_fits, t7_fits, t8_fits, t9_fits}
use Rattle.tidying_laws.proofs.Fits.{t10_fits, adjacent_shared, share_fits}
use Rattle.tidying_laws.specs.Exact.{Exact}

-- An element that passes a test stands somewhere in the list.
abbrev Passes : (Node → Bool) → List Node → Type 0
Passes p l = (a : List Node) × (b : List Node) × (r : Node) × (l ≡ a ++ r ∷ b) × (p r ≡ true)

passes : (p : Node → Bool) (l : List Node) → any p l ≡ true → Passes p l
passes p [] h = absurd (false≢true h)
passes p (q ∷ l) h = by (λ t. passes p l t) (p q) refl h
  where
    by : (any p l ≡ true → Passes p l) → (b : Bool) → p q ≡ b → (b || any p l) ≡ true → Passes p (q ∷ l)
    by ih true e t = ([], l, q, refl, e)
    by ih false e t = let (a, b, r, f, g) = ih t in (q ∷ a, b, r, ap (λ m. q ∷ m) f, g)

-- A law that makes one list of alternatives into another, by what it makes of the list.
on_list : (L : List Node → List Node → Type 0) (f : List Node → Option (List Node)) → ((l : List Node) → Ok (L l) (f l))
    → (r : Node) → Ok (OnParts alternation L r) (on_alternatives f r)
on_list L f h r = let l : List Node = alternatives r in let W : Node → Type 0 = OnParts alternation L r in
    ok_two W (λ l. Option.map of_alternatives (f l)) l (λ two.
    ok_map W (L l) of_alternatives (λ m x. (m, two, x, refl)) (f l) (h l))

pub t1_exact : Exact t1 (OnParts sequence EmptyItem)
t1_exact = record {
  fits = t1_fits;
  only = λ r. let l : List Node = items r in let W : Node → Type 0 = OnParts sequence EmptyItem r in
      ok_two W (λ l. when (any is_empty l) (of_items (filled l))) l (λ two.
      ok_when W (any is_empty l) (of_items (filled l)) (λ t.
      let (a, b, p, e, f) = passes is_empty l t in
      (filled l, two, (a, b, e ∙ ap (λ s. a ++ s ∷ b) (same_eq p empty f), filled_others l), refl)));
}

pub t2_exact : Exact t2 OnceOrNever
t2_exact = record {
  fits = t2_fits;
  only = on_many_lem OnceOrNever _ (λ n e lazy r. let W : Node → Type 0 = OnceOrNever (many n e lazy r) in
      ok_else W (when (counts n e 1 (some 0) && group_free r) r) (when (counts n e 0 (some 0) && group_free r) empty)
      (ok_when W (counts n e 1 (some 0) && group_free r) r (λ t. inl (times n e lazy r 1 t)))
      (ok_when W (counts n e 0 (some 0) && group_free r) empty (λ t. inr (r, times n e lazy r 0 t, refl))));
}
  where
    times : (n : ℕ) (e : Option ℕ) (lazy : Bool) (r : Node) (m : ℕ) → (counts n e m (some 0) && group_free r) ≡ true
        → Times m (many n e lazy r) r
    times n e lazy r m t =
        let (c, p) = and_true (counts n e m (some 0)) (group_free r) t in
        let (a, b) = counts_eq n e m (some 0) c in
        (lazy, rw (a, b), p)

pub t3_exact : Exact t3 ManyEmpty
t3_exact = record {
  fits = t3_fits;
  only = on_many_lem ManyEmpty _ (λ n e lazy r.
      ok_when (ManyEmpty (many n e lazy r)) (is_empty r) empty (λ t. (n, e, lazy, rw (same_eq r empty t), refl)));
}

pub t4_exact : Exact t4 ManyAssertion
t4_exact = record {
  fits = t4_fits;
  only = on_many_lem ManyAssertion _ (λ n e lazy.
      on_assert_lem (λ r. ManyAssertion (many n e lazy r)) _ (λ a. (n, e, lazy, a, refl, by n a)));
}
  where
    by : (n a : ℕ) → EmptyOrItself n a (cond (eqb n 0) empty (assert a))
    by zero a = inl (refl, refl)
    by (suc n) a = inr (omega arith, rw (eqb-suc-zero n))

pub t5_exact : Exact t5 LoopOfLoops
t5_exact = record {
  fits = t5_fits;
  only = on_many_lem LoopOfLoops _ (λ n e lazy. on_many_lem (λ r. LoopOfLoops (many n e lazy r)) _ (λ m f inner r.
      ok_when (LoopOfLoops (many n e lazy (many m f inner r)))
      (counts n e 0 none && counts m f 0 none && absorbed inner lazy && group_free r) (many 0 none lazy r) (λ t.
      let (a, b, c, d, o, p) = tests n e 0 none m f 0 none (absorbed inner lazy) r t in
      (inner, lazy, r, rw (a, b, c, d), o, p, refl))));
}

pub t9_exact : Exact t9 OptionOfOption
t9_exact = record {
  fits = t9_fits;
  only = on_many_lem OptionOfOption _ (λ n e lazy. on_many_lem (λ r. OptionOfOption (many n e lazy r)) _ (λ m f inner r.
      ok_when (OptionOfOption (many n e lazy (many m f inner r)))
      (counts n e 0 (some 1) && counts m f 0 (some 1) && beq lazy inner && group_free r) (many 0 (some 1) lazy r) (λ t.
      let (a, b, c, d, o, p) = tests n e 0 (some 1) m f 0 (some 1) (beq lazy inner) r t in
      (lazy, r, rw (a, b, c, d, ← beq_eq lazy inner o), p, refl))));
}

pub t10_exact : Exact t10 LoopOnceOfLoops
t10_exact = record {
  fits = t10_fits;
  only = on_many_lem LoopOnceOfLoops _ (λ n e lazy. on_many_lem (λ r. LoopOnceOfLoops (many n e lazy r)) _ (λ m f inner r.
      ok_when (LoopOnceOfLoops (many n e lazy (many m f inner r)))
      (counts n e 1 none && counts m f 0 none && not (lazy || inner) && group_free r) (many 0 none false r) (λ t.
      let (a, b, c, d, o, p) = tests n e 1 none m f 0 none (not (lazy || inner)) r t in
      let (u, v) = both_greedy lazy inner o in
      (r, rw (a, b, c, d, u, v), p, refl))));
}

-- T6 takes away an alternative that is equal to one that was seen, or to one before it.
abbrev Repeats : List Node → List Node → List Node → Type 0
Repeats seen l m = ((a : List Node) × (b : List Node) × (p : Node) × (l ≡ a ++ p ∷ b) × (group_free p ≡ true)
    × (any (same p) seen ≡ true) × (m ≡ a ++ b)) ⊎ EqualAlternative l m

distinct_finds : (seen l : List Node) → Ok (Repeats seen l) (distinct seen l)
unfolding distinct
distinct_finds seen [] = tt
distinct_finds seen (r ∷ l) = let P : List Node → Type 0 = Repeats seen (r ∷ l) in
    ok_test P (group_free r && any (same r) seen) (some l) (Option.map (λ m. r ∷ m) (distinct (r ∷ seen) l))
    (λ t. let (g, s) = and_true (group_free r) (any (same r) seen) t in inl ([], l, r, refl, g, s, refl))
    (ok_map P (Repeats (r ∷ seen) l) (λ m. r ∷ m) further (distinct (r ∷ seen) l) (distinct_finds (r ∷ seen) l))
  where
    further : (m : List Node) → Repeats (r ∷ seen) l m → Repeats seen (r ∷ l) (r ∷ m)
    further m (inl h) = let (a, b, p, e, g, s, f) = h in by a b p e g f (same p r) refl s
      where
        by : (a b : List Node) (p : Node) → l ≡ a ++ p ∷ b → group_free p ≡ true → m ≡ a ++ b → (t : Bool) → same p r ≡ t
            → (t || any (same p) seen) ≡ true → Repeats seen (r ∷ l) (r ∷ m)
        by a b p e g f true t s = let i : p ≡ r = same_eq p r t in inr ([], a, b, p, rw (e, i), g, rw (f, i))
        by a b p e g f false t s = inl (r ∷ a, b, p, ap (λ l. r ∷ l) e, g, s, ap (λ m. r ∷ m) f)
    further m (inr h) = let (a, b, c, p, e, g, f) = h in inr (r ∷ a, b, c, p, ap (λ l. r ∷ l) e, g, ap (λ m. r ∷ m) f)

pub t6_exact : Exact t6 (OnParts alternation EqualAlternative)
t6_exact = record {
  fits = t6_fits;
  only = on_list EqualAlternative (distinct []) (λ l.
      ok_imp (EqualAlternative l) (Repeats [] l) (λ m. equal l m) (distinct [] l) (distinct_finds [] l));
}
  where
    equal : (l m : List Node) → Repeats [] l m → EqualAlternative l m
    equal l m (inl h) = absurd (false≢true h.5)
    equal l m (inr h) = h

-- T7 takes away an empty set.
possible_finds : (l : List Node) → Ok (VoidAlternative l) (possible l)
unfolding possible
possible_finds [] = tt
possible_finds (r ∷ l) = let P : List Node → Type 0 = VoidAlternative (r ∷ l) in
    ok_test P (is_void r) (some l) (Option.map (λ m. r ∷ m) (possible l))
    (λ t. let (s, e, n) = void_set r t in ([], l, (s, ap (λ q. q ∷ l) e, n), refl))
    (ok_map P (VoidAlternative l) (λ m. r ∷ m)
    (λ m t. let (a, b, v, f) = t in let (s, e, n) = v in
    (r ∷ a, b, (s, ap (λ m. r ∷ m) e, n), ap (λ m. r ∷ m) f)) (possible l) (possible_finds l))

pub t7_exact : Exact t7 EmptySet
t7_exact = record {
  fits = t7_fits;
  only = λ r. let l : List Node = items r in let W : Node → Type 0 = EmptySet r in
      ok_else W (on_alternatives possible r) (impossible r)
      (ok_imp W (OnParts alternation VoidAlternative r) (λ q h. inl h) (on_alternatives possible r)
      (on_list VoidAlternative possible possible_finds r))
      (ok_two W (λ l. when (group_free r && any is_void l) (bset void)) l (λ two.
      ok_when W (group_free r && any is_void l) (bset void) (λ t.
      let (g, t) = and_true (group_free r) (any is_void l) t in
      let (a, b, q, e, f) = passes is_void l t in
      let (s, i, n) = void_set q f in
      inr (g, (bset void ∷ [], two, (a, b, (s, e ∙ ap (λ q. a ++ q ∷ b) i, n), refl), refl)))));
}

-- T8 shares the first item of a run at the front of a list,
run_shared : (s : List ℕ) (l ps m : List Node) → Longest s l (ps, m) → Ok (SameFirst l) (shared s ps m)
run_shared s l [] m h = tt
run_shared s l (p ∷ []) m h = tt
run_shared s l (p ∷ q ∷ ps) m h = from h.front h.split h.begin h.left
  where
    alone : (x : Node) → Adjacent (x ∷ []) → ⊥
    alone x t = let (a, b, p, q, s, e, g, i) = t in omega (arith, ap length e, length-append a (p ∷ q ∷ b))

    from : (front : List Node) → l ≡ front ++ m → All (Leads s) front → p ∷ q ∷ ps ≡ map rest front
        → SameFirst l (seq (bset s) (glues p (q ∷ ps)) ∷ m)
    from [] e b f = absurd (let z : ◌≡◌ {A = ℕ} 0 1 = cc in omega arith)
    from (x ∷ []) e b f = absurd (let z : ◌≡◌ {A = ℕ} 0 1 = cc in omega arith)
    from (x ∷ y ∷ front) e b f =
        let g = glues_join p (q ∷ ps) ∙ ap (λ l. of_alternatives (concat_map alternatives l)) f in
        ([], m, x, y, front, s, e, b, alone x, h.stops, ap (λ r. seq (bset s) r ∷ m) g)

-- and the leftmost: where there is nothing to share at the front, and no such two up to p behind it, there is none up to p.
none_adjacent : (r : Node) (a b : List Node) (p : Node) → shared_at (first_set (items r)) (r ∷ (a ++ p ∷ b)) ≡ none
    → (Adjacent (a ++ p ∷ []) → ⊥) → Adjacent (r ∷ (a ++ p ∷ [])) → ⊥
none_adjacent r a b p i h t = let (c, d, x, y, s, e, f, g) = t in by c d x y s e f g
  where
    by : (c d : List Node) (x y : Node) (s : List ℕ) → r ∷ (a ++ p ∷ []) ≡ c ++ x ∷ y ∷ d → Leads s x → Leads s y → ⊥
    by [] d x y s e f g =
        let j : a ++ p ∷ [] ≡ y ∷ d = cc in
        let k : a ++ p ∷ b ≡ y ∷ (d ++ b) = sym (append_assoc a (p ∷ []) b) ∙ ap (λ l. l ++ b) j in
        let u : r ≡ x = cc in
        subst IsSome (rw k at i) (adjacent_shared r y (d ++ b) s (rw u f) g)
    by (z ∷ c) d x y s e f g = h (c, d, x, y, s, cc, f, g)

share_finds : (l : List Node) → Ok (SameFirst l) (share l)
unfolding share
share_finds [] = tt
share_finds (r ∷ l) = by (shared_at (first_set (items r)) (r ∷ l)) refl (at (first_set (items r))) (share_finds l)
  where
    at : (o : Option (List ℕ)) → Ok (SameFirst (r ∷ l)) (shared_at o (r ∷ l))
    at none = tt
    at (some s) = run_shared s (r ∷ l) (run s (r ∷ l)).0 (run s (r ∷ l)).1 (run_longest s (r ∷ l))

    by : (o : Option (List Node)) → shared_at (first_set (items r)) (r ∷ l) ≡ o → Ok (SameFirst (r ∷ l)) o
        → Ok (SameFirst l) (share l) → Ok (SameFirst (r ∷ l)) (or_else o (Option.map (λ m. r ∷ m) (share l)))
    by none i h g = ok_map (SameFirst (r ∷ l)) (SameFirst l) (λ m. r ∷ m) (λ m t.
        let (a, b, p, q, run, s, e, leads, left, stop, f) = t in
        let none-up-to : Adjacent (r ∷ (a ++ p ∷ [])) → ⊥ = none_adjacent r a (q ∷ (run ++ b)) p (rw e at i) left in
        (r ∷ a, b, p, q, run, s, ap (λ l. r ∷ l) e, leads, none-up-to, stop, ap (λ m. r ∷ m) f)) (share l) g
    by (some m) i h g = h

pub t8_exact : Exact t8 (OnParts alternation SameFirst)
t8_exact = record { fits = t8_fits; only = on_list SameFirst share share_finds }

-- So T1 applies wherever an item of a sequence is empty, and T8 wherever two adjacent alternatives begin with the same set.
pub empty_applies : (r : Node) (a b : List Node) → items r ≡ a ++ empty ∷ b → 2 ≤ length (items r)
    → (q : Node) × OnParts sequence EmptyItem r q
empty_applies r a b e two = let m : List Node = filled (items r) in
    (of_items m, (m, two, (a, b, e, filled_others (items r)), refl))

pub adjacent_applies : (r : Node) → Adjacent (alternatives r) → (q : Node) × OnParts alternation SameFirst r q
adjacent_applies r h = let (a, b, p, q, s, e, g, i) = h in let l : List Node = alternatives r in
    from (share l) (share_finds l) (rw e (share_fits a b p q s g i))
    (omega (arith, ap length e, length-append a (p ∷ q ∷ b)))
  where
    from : (o : Option (List Node)) → Ok (SameFirst (alternatives r)) o → IsSome o → 2 ≤ length (alternatives r)
        → (q : Node) × OnParts alternation SameFirst r q
    from none h i two = absurd i
    from (some m) h i two = (of_alternatives m, (m, two, h, refl))
