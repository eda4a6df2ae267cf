-- Laws on lists of alternatives: what such a law keeps, and that T6 and T7 keep it.
use Rattle.std.specs.Prelude.{◌≡◌, refl, true, ◌&&◌, List, [], ◌∷◌, ◌++◌, ℕ, ◌≤◌, ◌<◌, length}
use Rattle.std.proofs.Common.{sym, ap, ◌∙◌, arith}
use Rattle.std.proofs.lemmas.Bool.{false≢true}
use Rattle.std.proofs.Math.Option.{Option, none, some, map}
use Rattle.meaning.specs.Tests.{and_true}
use Rattle.meaning.specs.Text.{Input, State, size}
use Rattle.meaning.specs.Node.{Node, Node.empty, Node.bset, Node.assert, Node.group, Node.seq, Node.alt, Node.many, Proper}
use Rattle.meaning.specs.Results.{or_else, or_else_none, or_else_assoc, results}
use Rattle.meaning.specs.All.{All}
use Rattle.tidying_laws.specs.Choices.{swap, any, earlier}
use Rattle.tidying_laws.specs.Groups.{groups, group_free, free_groups}
use Rattle.tidying_laws.specs.Void.{no_bytes, Fair}
use Rattle.tidying_laws.specs.Alike.{SameOrder}
use Rattle.tidying_laws.specs.Equal.{same, same_eq}
use Rattle.meaning.specs.Flat.{Kind.alternation, alternatives, of_alternatives, join_parts, adds_link, adds_parts, spreads_link}
use Rattle.meaning.specs.Flat.{spreads_parts, Part, flat_spreads, proper_spreads}
use Rattle.tidying_laws.specs.Measures.{total, weight, weighs, weight_adds, rows_in, rows_adds}
use Rattle.tidying_laws.specs.Measures.{groups_of, groups_adds, groups_join}
use Rattle.tidying_laws.specs.Tried.{tried, tried_all, tries}
use Rattle.tidying_laws.specs.Charge.{cost, cost_adds, light, extra_parts}
use Rattle.tidying_laws.specs.Laws.{on_alternatives, is_void, distinct, t6, possible}
use Rattle.tidying_laws.specs.Kept.{Ok, ok_test, ok_map, ok_two, Kept}

-- What a law on a list of alternatives keeps, after others that were tried.
pub record Trimmed (seen l m : List Node) : Type 1 where
  pub some_left : 2 ≤ length l → 1 ≤ length m
  pub like : (w : Input) → Fair w → (B : Type 0) (c : State → Option B) (x : State) → x.pos ≤ size w
      → or_else (tried_all w c x seen) (tried_all w c x l) ≡ or_else (tried_all w c x seen) (tried_all w c x m)
  pub numbers : groups_of l ≡ groups_of m
  pub flat : All (Part alternation) l → All (Part alternation) m
  pub proper : All Proper l → All Proper m
  pub fewer : total (rows_in alternation) m ≤ total (rows_in alternation) l
  pub less : total weight m < total weight l
  pub light : total (cost alternation) m ≤ total (cost alternation) l

-- It is kept of the alternation of the list.
pub trimmed_order : (l m : List Node) → 1 ≤ length l → 1 ≤ length m → Trimmed [] l m
    → SameOrder (of_alternatives l) (of_alternatives m)
trimmed_order l m hl hm t = record {
  order = λ w fair B c x hx. tries w c x l hl ∙ t.like w fair B c x hx ∙ sym (tries w c x m hm);
}

trimmed_kept : (r : Node) (m : List Node) → 2 ≤ length (alternatives r) → Trimmed [] (alternatives r) m
    → Kept r (of_alternatives m)
trimmed_kept r [] h t = absurd (omega (arith, t.some_left h))
trimmed_kept r (q ∷ m) h t = record {
  like = rw join_parts at (trimmed_order (alternatives r) (q ∷ m) (omega arith) (omega arith) t);
  numbers = sym (adds_parts (groups_adds alternation) r) ∙ t.numbers ∙ sym (groups_join alternation (q ∷ m));
  flat = λ g.
      let (a, b) = t.flat (spreads_parts (flat_spreads alternation) r g) in spreads_link (flat_spreads alternation) q m a b;
  proper = λ g.
      let (a, b) = t.proper (spreads_parts (proper_spreads alternation) r g) in
      spreads_link (proper_spreads alternation) q m a b;
  fewer = omega (arith, t.fewer, adds_parts (rows_adds alternation) r, adds_link (rows_adds alternation) q m);
  less = omega (arith, t.less, adds_parts (weight_adds alternation) r, adds_link (weight_adds alternation) q m);
  light = light alternation r (of_alternatives (q ∷ m)) (extra_parts alternation r h)
      (omega (arith, t.light, adds_parts (cost_adds alternation) r, adds_link (cost_adds alternation) q m));
}

-- So a law that keeps it of every list is one that keeps what it must.
pub on_alternatives_lem : (f : List Node → Option (List Node)) → ((l : List Node) → Ok (Trimmed [] l) (f l))
    → (r : Node) → Ok (Kept r) (on_alternatives f r)
on_alternatives_lem f h r = let l : List Node = alternatives r in
    ok_two (Kept r) (λ l. map of_alternatives (f l)) l (λ g.
    ok_map (Kept r) (Trimmed [] l) of_alternatives (λ m t. trimmed_kept r m g t) (f l) (h l))

-- It is kept after one more alternative,
pub one_more : (seen l m : List Node) (r : Node) → Trimmed (r ∷ seen) l m → Trimmed seen (r ∷ l) (r ∷ m)
one_more seen l m r h = record {
  some_left = omega arith;
  like = λ w fair B c x hx.
      swap (tried_all w c x seen) (tried w c x r) (tried_all w c x l) (tried_all w c x m) (h.like w fair B c x hx);
  numbers = ap (λ k. groups r ++ k) h.numbers;
  flat = λ g. (g.0, h.flat g.1);
  proper = λ g. (g.0, h.proper g.1);
  fewer = omega (arith, h.fewer);
  less = omega (arith, h.less);
  light = omega (arith, h.light);
}

pub further : (seen l : List Node) (r : Node) (o : Option (List Node)) → Ok (Trimmed (r ∷ seen) l) o
    → Ok (Trimmed seen (r ∷ l)) (map (λ m. r ∷ m) o)
further seen l r o = ok_map (Trimmed seen (r ∷ l)) (Trimmed (r ∷ seen) l) (λ m. r ∷ m) (λ m h. one_more seen l m r h) o

-- and after several.
abbrev pub past : List Node → List Node → List Node
past [] seen = seen
past (r ∷ a) seen = past a (r ∷ seen)

pub several_more : (a seen l m : List Node) → Trimmed (past a seen) l m → Trimmed seen (a ++ l) (a ++ m)
several_more [] seen l m h = h
several_more (r ∷ a) seen l m h = one_more seen (a ++ l) (a ++ m) r (several_more a (r ∷ seen) l m h)

-- An alternative that adds no success to those before it may go.
gone : (seen l : List Node) (r : Node) → group_free r ≡ true
    → ((w : Input) → Fair w → (B : Type 0) (c : State → Option B) (x : State)
    → or_else (tried_all w c x seen) (tried w c x r) ≡ tried_all w c x seen)
    → Trimmed seen (r ∷ l) l
gone seen l r p h = record {
  some_left = omega arith;
  like = λ w fair B c x hx.
      sym (or_else_assoc (tried_all w c x seen) (tried w c x r) (tried_all w c x l))
      ∙ ap (λ o. or_else o (tried_all w c x l)) (h w fair B c x);
  numbers = rw (free_groups r p);
  flat = λ g. g.1;
  proper = λ g. g.1;
  fewer = omega arith;
  less = omega (arith, weighs r);
  light = omega arith;
}

-- T6: one that is equal to an earlier one.
pub equal_gone : (seen l : List Node) (r : Node) → group_free r ≡ true → any (same r) seen ≡ true → Trimmed seen (r ∷ l) l
equal_gone seen l r p h = gone seen l r p (λ w fair B c x. earlier same same_eq (tried w c x) r seen h)

distinct_trimmed : (seen l : List Node) → Ok (Trimmed seen l) (distinct seen l)
unfolding distinct
distinct_trimmed seen [] = tt
distinct_trimmed seen (r ∷ l) = let o : Option (List Node) = distinct (r ∷ seen) l in
    ok_test (Trimmed seen (r ∷ l)) (group_free r && any (same r) seen) (some l) (map (λ m. r ∷ m) o)
    (λ t. let (p, e) = and_true (group_free r) (any (same r) seen) t in equal_gone seen l r p e)
    (further seen l r o (distinct_trimmed (r ∷ seen) l))

pub t6_kept : (r : Node) → Ok (Kept r) (t6 r)
t6_kept = on_alternatives_lem (distinct []) (distinct_trimmed [])

-- T7: an empty set, which leads nowhere.
pub void_set : (r : Node) → is_void r ≡ true → (s : List ℕ) × (r ≡ bset s) × (no_bytes s ≡ true)
void_set empty h = absurd (false≢true h)
void_set (bset s) h = (s, refl, h)
void_set (assert a) h = absurd (false≢true h)
void_set (group k r) h = absurd (false≢true h)
void_set (seq r q) h = absurd (false≢true h)
void_set (alt r q) h = absurd (false≢true h)
void_set (many n e lazy r) h = absurd (false≢true h)

pub void_none : {B : Type 0} (w : Input) → Fair w → (c : State → Option B) (x : State) (s : List ℕ) → no_bytes s ≡ true
    → tried w c x (bset s) ≡ none
unfolding results
void_none w fair c x s h = rw (fair.void_unfit s h x.pos)

pub void_gone : (seen l : List Node) (s : List ℕ) → no_bytes s ≡ true → Trimmed seen (bset s ∷ l) l
unfolding group_free groups
void_gone seen l s h =
    gone seen l (bset s) refl (λ w fair B c x. rw (void_none w fair c x s h) (or_else_none (tried_all w c x seen)))

possible_trimmed : (seen l : List Node) → Ok (Trimmed seen l) (possible l)
unfolding possible
possible_trimmed seen [] = tt
possible_trimmed seen (r ∷ l) =
    ok_test (Trimmed seen (r ∷ l)) (is_void r) (some l) (map (λ m. r ∷ m) (possible l))
    (λ t. let (s, e, h) = void_set r t in rw e (void_gone seen l s h))
    (further seen l r (possible l) (possible_trimmed (r ∷ seen) l))

pub possible_kept : (r : Node) → Ok (Kept r) (on_alternatives possible r)
possible_kept = on_alternatives_lem possible (possible_trimmed [])
