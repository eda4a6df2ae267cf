-- T1 and T7 keep what a law must: laws on the items of a sequence.
use Rattle.std.specs.Prelude.{◌≡◌, refl, Bool, true, false, cond, ◌&&◌, ◌||◌, List, [], ◌∷◌, ◌++◌, ℕ, ◌+◌, ◌≤◌, ◌<◌, length}
use Rattle.std.proofs.Common.{sym, ap, ◌∙◌, inl, inr, arith}
use Rattle.std.proofs.lemmas.Bool.{false≢true}
use Rattle.std.proofs.Math.Option.{Option, none}
use Rattle.meaning.specs.Tests.{and_true}
use Rattle.meaning.specs.Text.{Input, State, size}
use Rattle.meaning.specs.Node.{Node, Node.empty, Node.bset, Proper}
use Rattle.meaning.specs.Results.{or_else_none, results}
use Rattle.meaning.specs.All.{All}
use Rattle.meaning.specs.Reach.{Reach, reach, first_cong}
use Rattle.machine.specs.Layout.{size_of}
use Rattle.tidying_laws.specs.Choices.{guarded, any}
use Rattle.tidying_laws.specs.Groups.{groups, group_free, free_groups}
use Rattle.tidying_laws.specs.Void.{void, void_no_bytes, void_formed, Fair}
use Rattle.tidying_laws.specs.Alike.{SameOrder}
use Rattle.tidying_laws.specs.Equal.{same_eq, same_refl}
use Rattle.meaning.specs.Flat.{Kind.sequence, items, of_items, join_parts, adds_link, adds_parts, Spreads, spreads_link}
use Rattle.meaning.specs.Flat.{spreads_parts, Part, flat_spreads, proper_spreads}
use Rattle.tidying_laws.specs.Measures.{total, weight, weighs, weight_adds, rows_in, rows_adds}
use Rattle.tidying_laws.specs.Measures.{groups_of, groups_adds, groups_join}
use Rattle.tidying_laws.specs.Tried.{runs, runs_join}
use Rattle.tidying_laws.specs.Charge.{extra, charge, cost, cost_adds, item_one, light, extra_parts}
use Rattle.tidying_laws.specs.Laws.{when, on_alternatives, is_empty, filled, t1, is_void, possible, impossible, t7}
use Rattle.tidying_laws.specs.Words.{Others}
use Rattle.tidying_laws.specs.Kept.{Ok, ok_when, ok_two, ok_else, Kept}
use Rattle.tidying_laws.specs.Alternatives.{void_set, void_none, possible_kept}

-- Two lists of items that run alike.
abbrev SameRuns : List Node → List Node → Type 1
SameRuns l m = (w : Input) → Fair w → (B : Type 0) (c : State → Option B) (x : State) → x.pos ≤ size w
    → runs w c l x ≡ runs w c m x

pub runs_order : (l m : List Node) → SameRuns l m → SameOrder (of_items l) (of_items m)
runs_order l m h = record {
  order = λ w fair B c x hx. runs_join w c l x hx ∙ h w fair B c x hx ∙ sym (runs_join w c m x hx);
}

heavy : (l : List Node) → length l ≤ total weight l
heavy [] = omega arith
heavy (r ∷ l) = omega (arith, weighs r, heavy l)

-- What T1 keeps of a list of items.
pub record Filled (l m : List Node) : Type 1 where
  pub like : SameRuns l m
  pub numbers : groups_of l ≡ groups_of m
  pub flat : All (Part sequence) l → All (Part sequence) m
  pub proper : All Proper l → All Proper m
  pub fewer : total (rows_in sequence) m ≤ total (rows_in sequence) l
  pub less : length l + total weight m ≤ length m + total weight l
  pub light : total (cost sequence) m ≤ total (cost sequence) l

pub others_filled : (l m : List Node) → Others l m → Filled l m
unfolding groups size_of weight results
others_filled [] m e = rw e (record {
  like = λ w fair B c x hx. refl;
  numbers = refl;
  flat = λ g. g;
  proper = λ g. g;
  fewer = omega arith;
  less = omega arith;
  light = omega arith;
})
others_filled (r ∷ l) m (inl o) = let h : Filled l m = others_filled l m o.1 in rw o.0 (record {
  like = λ w fair B c x hx. or_else_none (runs w c l x) ∙ h.like w fair B c x hx;
  numbers = h.numbers;
  flat = λ g. h.flat g.1;
  proper = λ g. h.proper g.1;
  fewer = omega (arith, h.fewer);
  less = omega (arith, h.less);
  light = omega (arith, h.light);
})
others_filled (r ∷ l) m (inr o) = let (k, n, g, e) = o in let h : Filled l k = others_filled l k g in rw e (record {
  like = λ w fair B c x hx.
      first_cong (Reach w x) (runs w c l) (runs w c k) (results w r x) (reach w r x hx)
      (λ y g. h.like w fair B c y g.stop);
  numbers = ap (λ k. groups r ++ k) h.numbers;
  flat = λ g. (g.0, h.flat g.1);
  proper = λ g. (g.0, h.proper g.1);
  fewer = omega (arith, h.fewer);
  less = omega (arith, h.less);
  light = omega (arith, h.light);
})

-- What T1 leaves of a list are the others.
pub filled_others : (l : List Node) → Others l (filled l)
unfolding filled
filled_others [] = refl
filled_others (r ∷ l) = by (filled_others l) (is_empty r) refl
  where
    by : Others l (filled l) → (b : Bool) → is_empty r ≡ b → Others (r ∷ l) (cond b (filled l) (r ∷ filled l))
    by h true e = inl (same_eq r empty e, h)
    by h false e = inr (filled l, λ f. false≢true (sym e ∙ rw f (same_refl empty)), h, refl)

-- With an empty item the list gets shorter, and never longer.
abbrev Shorter : Bool → List Node → List Node → Type 0
Shorter b m l = (length m ≤ length l) × (b ≡ true → length m < length l)

shorter : (l : List Node) → Shorter (any is_empty l) (filled l) l
unfolding filled
shorter [] = (omega arith, λ t. absurd (false≢true t))
shorter (r ∷ l) = by (shorter l) (is_empty r)
  where
    by : Shorter (any is_empty l) (filled l) l → (b : Bool)
        → Shorter (b || any is_empty l) (cond b (filled l) (r ∷ filled l)) (r ∷ l)
    by h true = (omega arith, λ t. omega arith)
    by h false = (omega arith, λ t. omega (arith, h.1 t))

filled_kept : (r : Node) (m : List Node) → 2 ≤ length (items r) → Filled (items r) m
    → length m < length (items r) → Kept r (of_items m)
unfolding size_of weight charge extra
filled_kept r m h f t = record {
  like = rw join_parts at (runs_order (items r) m f.like);
  numbers = sym (adds_parts (groups_adds sequence) r) ∙ f.numbers ∙ sym (groups_join sequence m);
  flat = λ g. spread (flat_spreads sequence) tt m (f.flat (spreads_parts (flat_spreads sequence) r g));
  proper = λ g. spread (proper_spreads sequence) tt m (f.proper (spreads_parts (proper_spreads sequence) r g));
  fewer = omega (arith, f.fewer, adds_parts (rows_adds sequence) r, rows m);
  less = less m (weight r) (omega (arith, heavy (items r), adds_parts (weight_adds sequence) r))
      (omega (arith, f.less, adds_parts (weight_adds sequence) r));
  light = light sequence r (of_items m) (extra_parts sequence r h)
      (cheap m (cost sequence r) (item_one r) (omega (arith, f.light, adds_parts (cost_adds sequence) r)));
}
  where
    spread : {P Q : Node → Type 0} → Spreads sequence P Q → P empty → (l : List Node) → All Q l → P (of_items l)
    spread s p [] h = p
    spread s p (r ∷ l) h = spreads_link s r l h.0 h.1

    rows : (l : List Node) → size_of (of_items l) ≡ total (rows_in sequence) l
    rows [] = refl
    rows (r ∷ l) = omega (arith, adds_link (rows_adds sequence) r l)

    less : (l : List Node) (n : ℕ) → 1 < n → total weight l < n → weight (of_items l) < n
    less [] n h g = h
    less (r ∷ l) n h g = omega (arith, adds_link (weight_adds sequence) r l)

    cheap : (l : List Node) (n : ℕ) → 1 ≤ n → total (cost sequence) l ≤ n → cost sequence (of_items l) ≤ n
    cheap [] n h g = omega arith
    cheap (r ∷ l) n h g = omega (arith, adds_link (cost_adds sequence) r l)

pub t1_kept : (r : Node) → Ok (Kept r) (t1 r)
t1_kept r = let l : List Node = items r in
    ok_two (Kept r) (λ l. when (any is_empty l) (of_items (filled l))) l (λ h.
    ok_when (Kept r) (any is_empty l) (of_items (filled l)) (λ t.
    filled_kept r (filled l) h (others_filled l (filled l) (filled_others l)) ((shorter l).1 t)))

-- What T7 finds of a list of items that holds an empty set: it leads nowhere.
pub record Dead (l : List Node) : Type 1 where
  pub like : (w : Input) → Fair w → (B : Type 0) (c : State → Option B) (x : State) → x.pos ≤ size w → runs w c l x ≡ none
  pub fewer : 1 ≤ total (rows_in sequence) l
  pub less : length l + 2 ≤ total weight l

pub dead : (l : List Node) → any is_void l ≡ true → Dead l
unfolding size_of weight
dead [] t = absurd (false≢true t)
dead (r ∷ l) t = by (λ u. dead l u) (is_void r) refl t
  where
    by : (any is_void l ≡ true → Dead l) → (b : Bool) → is_void r ≡ b → (b || any is_void l) ≡ true → Dead (r ∷ l)
    by ih true e t = let (s, f, h) = void_set r e in rw f (record {
      like = λ w fair B c x hx. void_none w fair (runs w c l) x s h;
      fewer = omega arith;
      less = omega (arith, heavy l);
    })
    by ih false e t = let d : Dead l = ih t in record {
      like = λ w fair B c x hx.
          first_cong (Reach w x) (runs w c l) (λ y. none) (results w r x) (reach w r x hx)
          (λ y g. d.like w fair B c y g.stop) ∙ guarded false (runs w c l) (results w r x);
      fewer = omega (arith, d.fewer);
      less = omega (arith, d.less, weighs r);
    }

pub dead_order : (l : List Node) → Dead l → SameOrder (of_items l) (bset void)
dead_order l d = runs_order l (bset void ∷ [])
    (λ w fair B c x hx. d.like w fair B c x hx ∙ sym (void_none w fair c x void void_no_bytes))

dead_kept : (r : Node) → 2 ≤ length (items r) → group_free r ≡ true → Dead (items r) → Kept r (bset void)
unfolding groups size_of weight charge extra
dead_kept r h p d = record {
  like = rw join_parts at (dead_order (items r) d);
  numbers = free_groups r p;
  flat = λ g. tt;
  proper = λ g. void_formed;
  fewer = omega (arith, d.fewer, adds_parts (rows_adds sequence) r);
  less = omega (arith, d.less, adds_parts (weight_adds sequence) r);
  light = light sequence r (bset void) (extra_parts sequence r h) (omega (arith, item_one r));
}

pub t7_kept : (r : Node) → Ok (Kept r) (t7 r)
t7_kept r = let l : List Node = items r in
    ok_else (Kept r) (on_alternatives possible r) (impossible r) (possible_kept r)
    (ok_two (Kept r) (λ l. when (group_free r && any is_void l) (bset void)) l (λ h.
    ok_when (Kept r) (group_free r && any is_void l) (bset void) (λ t.
    let (p, v) = and_true (group_free r) (any is_void l) t in dead_kept r h p (dead l v))))
