-- T8 keeps what a law must: a run of alternatives whose first item is the same byte set shares it.
use Rattle.std.specs.Prelude.{◌≡◌, refl, cond, ℕ, ◌+◌, ◌≤◌}
use Rattle.std.proofs.Math.Path.{sym, ap}
use Rattle.std.proofs.Common.{subst, ◌∙◌, ap₂, arith}
use Rattle.std.proofs.Math.Option
use Rattle.std.proofs.Math.Option.{Option, none, some}
use mathlib.Core.List.{List, [], ◌∷◌, ◌++◌, map, append_assoc}
use Rattle.meaning.specs.Text.{Input, State, size, fits}
use Rattle.meaning.specs.Node.{Node, Node.empty, Node.bset, Node.seq, Proper}
use Rattle.meaning.specs.Results.{or_else, or_else_none, or_else_assoc, first_some, moved}
use Rattle.meaning.specs.Results.{results, first_concat_map}
use Rattle.meaning.specs.All.{All}
use Rattle.machine.specs.Layout.{size_of}
use Rattle.tidying_laws.specs.Choices.{guarded, first_only}
use Rattle.tidying_laws.specs.Groups.{groups}
use Rattle.tidying_laws.specs.Void.{Fair}
use Rattle.tidying_laws.specs.Alike.{SameOrder, order_refl, order_trans, order_seq, order_alt}
use Rattle.meaning.specs.Flat.{Kind.sequence, Kind.alternation, items, of_items, link, join_parts, fold, Adds, adds_glue}
use Rattle.meaning.specs.Flat.{Spreads, spreads_glue, Flat, Part, flat_spreads, proper_spreads}
use Rattle.tidying_laws.specs.Measures.{total, weight, weight_adds, rows_in, rows_adds}
use Rattle.tidying_laws.specs.Measures.{groups_of, groups_adds}
use Rattle.tidying_laws.specs.Tried.{glue_pair, tried, tried_all, tries}
use Rattle.tidying_laws.specs.Charge.{extra, charge, cost, cost_adds, extra_one}
use Rattle.tidying_laws.specs.Words.{Leads, rest}
use Rattle.tidying_laws.specs.Runs.{Longest}
use Rattle.tidying_laws.proofs.Runs.{run_longest}
use Rattle.tidying_laws.specs.Laws.{first_set, Run, run, glues, shared, shared_at, share, t8}
use Rattle.tidying_laws.specs.Kept.{Ok, ok_else, Kept}
use Rattle.tidying_laws.specs.Alternatives.{Trimmed, further, on_alternatives_lem}

-- What an alternative r is whose first item is s, with p left.
pub record Begins (s : List ℕ) (r p : Node) : Type 1 where
  pub like : SameOrder r (seq (bset s) p)
  pub numbers : groups r ≡ groups p
  pub flat : Flat r → Flat p
  pub proper : Proper r → Proper (bset s) × Proper p
  pub fewer : size_of r ≡ size_of p + 1
  pub less : weight p + 2 ≤ weight r
  pub light : charge p + 1 ≤ charge r

then_empty : (r : Node) → SameOrder r (seq r empty)
unfolding results
then_empty r = record { order = λ w fair B c x hx. simp (first_concat_map, or_else_none) }

-- The items s and then l are such an alternative, with the items l left.
lead_begins : (s : List ℕ) (l : List Node) → Begins s (of_items (bset s ∷ l)) (of_items l)
unfolding groups size_of weight charge extra
lead_begins s [] = record {
  like = then_empty (bset s);
  numbers = refl;
  flat = λ g. tt;
  proper = λ g. (g, tt);
  fewer = omega arith;
  less = omega arith;
  light = omega arith;
}
lead_begins s (q ∷ l) = record {
  like = order_refl (seq (bset s) (link sequence q l));
  numbers = refl;
  flat = λ g. g.2;
  proper = λ g. g;
  fewer = omega arith;
  less = omega arith;
  light = omega arith;
}

-- So is any alternative that leads with s.
leads_begins : (s : List ℕ) (r : Node) → Leads s r → Begins s r (rest r)
leads_begins s r h = let (k, e) = h in
    rw e (subst (λ q. Begins s q (of_items k)) (ap of_items (sym e) ∙ join_parts sequence r) (lead_begins s k))

-- The first success over s in front of each pattern of a list.
abbrev led : {B : Type 0} → Input → (State → Option B) → State → List ℕ → List Node → Option B
led w c x s l = first_some (λ p. tried w c x (seq (bset s) p)) l

-- A run of such alternatives at the front of a list: what is left of each, and the alternatives after them.
pub record Shares (s : List ℕ) (l : List Node) (t : Run) : Type 1 where
  pub like : (w : Input) → Fair w → (B : Type 0) (c : State → Option B) (x : State) → x.pos ≤ size w
      → tried_all w c x l ≡ or_else (led w c x s t.0) (tried_all w c x t.1)
  pub numbers : groups_of l ≡ groups_of t.0 ++ groups_of t.1
  pub flat : All (Part alternation) l → All Flat t.0 × All (Part alternation) t.1
  pub proper : All Proper l → All (λ p. Proper (bset s) × Proper p) t.0 × All Proper t.1
  pub fewer : total (λ p. size_of p + 3) t.0 + total (rows_in alternation) t.1 ≡ total (rows_in alternation) l
  pub less : total (λ p. weight p + 2) t.0 + total weight t.1 ≤ total weight l
  pub light : total (λ p. charge p + 2) t.0 + total (cost alternation) t.1 ≤ total (cost alternation) l

-- There is none, one more in front, or as many as T8 takes.
shares_none : (s : List ℕ) (l : List Node) → Shares s l ([], l)
shares_none s l = record {
  like = λ w fair B c x hx. refl;
  numbers = refl;
  flat = λ g. (tt, g);
  proper = λ g. (tt, g);
  fewer = omega arith;
  less = omega arith;
  light = omega arith;
}

shares_more : (s : List ℕ) (r p : Node) (l : List Node) (t : Run) → Begins s r p → Shares s l t
    → Shares s (r ∷ l) (p ∷ t.0, t.1)
shares_more s r p l t b h = record {
  like = λ w fair B c x hx. rw (h.like w fair B c x hx, b.like.order w fair B c x hx)
      (sym (or_else_assoc (tried w c x (seq (bset s) p)) (led w c x s t.0) (tried_all w c x t.1)));
  numbers = rw (h.numbers, b.numbers) (sym (append_assoc (groups p) (groups_of t.0) (groups_of t.1)));
  flat = λ g. let f = h.flat g.1 in ((b.flat g.0.1, f.0), f.1);
  proper = λ g. let f = h.proper g.1 in ((b.proper g.0, f.0), f.1);
  fewer = omega (arith, h.fewer, b.fewer);
  less = omega (arith, h.less, b.less);
  light = omega (arith, h.light, b.light);
}

pub leads_share : (s : List ℕ) (front m : List Node) → All (Leads s) front → Shares s (front ++ m) (map rest front, m)
leads_share s [] m h = shares_none s m
leads_share s (r ∷ front) m h =
    shares_more s r (rest r) (front ++ m) (map rest front, m) (leads_begins s r h.0) (leads_share s front m h.1)

-- One alternation of what is left: its measures add up, and it is flat and proper.
module _ {M : Type 0} {op : M → M → M} {unit : M} {f : Node → M} (h : Adds alternation op unit f) where
  adds_glues : (p : Node) (l : List Node) → f (glues p l) ≡ op (f p) (fold op unit f l)
  unfolding glues
  adds_glues p [] = sym (h.right (f p))
  adds_glues p (q ∷ l) = adds_glue h p (glues q l) ∙ ap (op (f p)) (adds_glues q l)

module _ {P Q : Node → Type 0} (h : Spreads alternation P Q) where
  spreads_glues : (p : Node) (l : List Node) → P p → All P l → P (glues p l)
  unfolding glues
  spreads_glues p [] a g = a
  spreads_glues p (q ∷ l) a g = spreads_glue h p (glues q l) a (spreads_glues q l g.0 g.1)

glues_link : (p : Node) (l : List Node) → SameOrder (glues p l) (link alternation p l)
unfolding glues
glues_link p [] = order_refl p
glues_link p (q ∷ l) = order_trans (glue_pair alternation p (glues q l)) (order_alt (order_refl p) (glues_link q l))

-- A byte set in front of alternatives, and of each of them.
module _ {B : Type 0} (w : Input) (c : State → Option B) (x : State) (s : List ℕ) where
  set_first : (q : Node) → tried w c x (seq (bset s) q) ≡ cond (fits w s x.pos) (tried w c (moved x) q) none
  unfolding results
  set_first q = first_only c (results w q) (fits w s x.pos) (moved x)

  set_led : (l : List Node) → led w c x s l ≡ first_some (λ q. cond (fits w s x.pos) (tried w c (moved x) q) none) l
  set_led [] = refl
  set_led (q ∷ l) = ap₂ or_else (set_first q) (set_led l)

  led_glued : Fair w → x.pos ≤ size w → (p : Node) (l : List Node)
      → led w c x s (p ∷ l) ≡ tried w c x (seq (bset s) (glues p l))
  led_glued fair hx p l =
      set_led (p ∷ l) ∙ guarded (fits w s x.pos) (tried w c (moved x)) (p ∷ l)
      ∙ ap (λ o. cond (fits w s x.pos) o none) (sym (tries w c (moved x) (p ∷ l) (omega arith)))
      ∙ sym (set_first (link alternation p l)) ∙ sym ((order_seq (order_refl (bset s)) (glues_link p l)).order w fair B c x hx)

-- A greater measure of each part is a greater sum.
total_le : (f g : Node → ℕ) → ((r : Node) → f r ≤ g r) → (l : List Node) → total f l ≤ total g l
total_le f g h [] = omega arith
total_le f g h (r ∷ l) = omega (arith, h r, total_le f g h l)

rests_proper : (s : List ℕ) (l : List Node) → All (λ p. Proper (bset s) × Proper p) l → All Proper l
rests_proper s [] h = tt
rests_proper s (p ∷ l) h = (h.0.1, rests_proper s l h.1)

-- A run of two or more that shares its byte set.
pub shares_trimmed : (seen : List Node) (s : List ℕ) (l : List Node) (p q : Node) (ps m : List Node) → Shares s l (p ∷ q ∷ ps, m)
    → Trimmed seen l (seq (bset s) (glues p (q ∷ ps)) ∷ m)
unfolding groups size_of weight charge extra
shares_trimmed seen s l p q ps m h = record {
  some_left = omega arith;
  like = λ w fair B c x hx. ap (or_else (tried_all w c x seen)) (h.like w fair B c x hx
      ∙ ap (λ o. or_else o (tried_all w c x m)) (led_glued w c x s fair hx p (q ∷ ps)));
  numbers = rw (h.numbers, adds_glues (groups_adds alternation) p (q ∷ ps));
  flat = λ g. let (f, e) = h.flat g in ((tt, (tt, tt, spreads_glues (flat_spreads alternation) p (q ∷ ps) f.0 f.1)), e);
  proper = λ g. let (f, e) = h.proper g in
      ((f.0.0, spreads_glues (proper_spreads alternation) p (q ∷ ps) f.0.1 (rests_proper s (q ∷ ps) f.1)), e);
  fewer = omega (
    arith,
    h.fewer,
    adds_glues (rows_adds alternation) p (q ∷ ps),
    total_le (rows_in alternation) (λ r. size_of r + 3) (λ r. omega arith) ps,
  );
  less = omega (
    arith,
    h.less,
    adds_glues (weight_adds alternation) p (q ∷ ps),
    total_le weight (λ r. weight r + 2) (λ r. omega arith) ps,
  );
  light = omega (
    arith,
    h.light,
    adds_glues (cost_adds alternation) p (q ∷ ps),
    extra_one (glues p (q ∷ ps)),
    total_le (cost alternation) (λ r. charge r + 2) (λ r. omega arith) ps,
  );
}

share_trimmed : (seen l : List Node) → Ok (Trimmed seen l) (share l)
unfolding share
share_trimmed seen [] = tt
share_trimmed seen (r ∷ l) = let s : Option (List ℕ) = first_set (items r) in
    ok_else (Trimmed seen (r ∷ l)) (shared_at s (r ∷ l)) (Option.map (λ m. r ∷ m) (share l))
    (at (r ∷ l) s) (further seen l r (share l) (share_trimmed (r ∷ seen) l))
  where
    by : (s : List ℕ) (l ps m : List Node) → Longest s l (ps, m) → Ok (Trimmed seen l) (shared s ps m)
    by s l [] m h = tt
    by s l (p ∷ []) m h = tt
    by s l (p ∷ q ∷ ps) m h =
        shares_trimmed seen s l p q ps m (rw (h.split, h.left) (leads_share s h.front m h.begin))

    at : (l : List Node) (o : Option (List ℕ)) → Ok (Trimmed seen l) (shared_at o l)
    at l none = tt
    at l (some s) = by s l (run s l).0 (run s l).1 (run_longest s l)

pub t8_kept : (r : Node) → Ok (Kept r) (t8 r)
t8_kept = on_alternatives_lem share (share_trimmed [])
