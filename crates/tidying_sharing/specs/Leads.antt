-- T8: the run of alternatives that begin with one byte set, where it is, and what is left of each.
use Rattle.std.specs.Prelude.{◌≡◌, Bool, cond, ℕ, ◌≤◌, length}
use Rattle.std.proofs.Math.Path.{refl}
use Rattle.std.proofs.Common.{sym, ap, ap₂, subst, ◌∙◌, arith}
use Rattle.std.proofs.Math.Bool.{true, false}
use Rattle.std.proofs.lemmas.Bool.{false≢true}
use Rattle.std.proofs.Math.Option
use Rattle.std.proofs.Math.Option.{Option, none, some, map-eq-some_iff, none-ne-some, some-injective}
use mathlib.Core.List.{List, [], ◌∷◌, ◌++◌, map}
use Rattle.meaning.specs.Node.{Node, Node.empty, Node.bset, Node.assert, Node.group, Node.seq, Node.alt, Node.many}
use Rattle.meaning.specs.Flat.{Kind.sequence, parts, join, join_parts}
use Rattle.meaning.specs.Results.{or_else}
use Rattle.meaning.specs.All.{All}
use Rattle.tidying_laws.specs.Equal.{same, same_eq}
use Rattle.tidying_laws.specs.Laws.{when, first_set, rest_of, Run, extend, run, glues, shared, shared_at, share}
use Rattle.tidying_laws.specs.Kept.{Ok, ok_when}
use Rattle.tidying_fitting.specs.Fitting.{is_some}
use Rattle.tidying_fitting.specs.Places.{Split, behind, leftmost}
use Rattle.tidying_fitting.specs.Wants.{begins_with, alike, follows, begins_own}

-- An alternative that begins with a set, and what is left of it: it is the set, or a sequence of the set and more.
pub data Lead : List ℕ → Node → Node → Type 0 where
  single : {s : List ℕ} → Lead s (bset s) empty
  leading : {s : List ℕ} (r : Node) → Lead s (seq (bset s) r) r

lead_alone : (s : List ℕ) (a : Node) → Ok (Lead s a) (when (same a (bset s)) empty)
lead_alone s a =
    ok_when (Lead s a) (same a (bset s)) empty (λ t. subst (λ (b : Node). Lead s b empty) (sym (same_eq a (bset s) t)) single)

lead_of : (s : List ℕ) (a : Node) → Ok (Lead s a) (rest_of s (parts sequence a))
unfolding parts
lead_of s empty = lead_alone s empty
lead_of s (bset b) = lead_alone s (bset b)
lead_of s (assert a) = lead_alone s (assert a)
lead_of s (group k r) = lead_alone s (group k r)
lead_of s (seq t q) =
    ok_when (Lead s (seq t q)) (same t (bset s)) (join sequence (parts sequence q)) (λ e.
    subst (λ (b : Node). Lead s (seq b q) (join sequence (parts sequence q))) (sym (same_eq t (bset s) e))
    (subst (λ (r : Node). Lead s (seq (bset s) q) r) (sym (join_parts sequence q)) (leading q)))
lead_of s (alt r q) = lead_alone s (alt r q)
lead_of s (many n e lazy r) = lead_alone s (many n e lazy r)

-- What is left of a part that begins with a set; of any other, empty.
abbrev pub or_empty : Option Node → Node
or_empty none = empty
or_empty (some r) = r

abbrev pub left : List ℕ → Node → Node
left s a = or_empty (rest_of s (parts sequence a))

-- The parts at the front of a list that pass a test.
unfoldable pub opening : (Node → Bool) → List Node → List Node
opening test [] = []
opening test (r ∷ l) = cond (test r) (r ∷ opening test l) []

-- A run is the alternatives at the front that begin with the set, and what is left of each; then come those after it.
pub record RunOf (s : List ℕ) (l leads rests after : List Node) : Type 0 where
  pub split : l ≡ leads ++ after
  pub trimmed : rests ≡ map (left s) leads
  pub all : All (λ a. Lead s a (left s a)) leads

pub run_of : (s : List ℕ) (l : List Node) → RunOf s l (opening (begins_with (some s)) l) (run s l).0 (run s l).1
unfolding run opening
run_of s [] = record { split = refl; trimmed = refl; all = tt }
run_of s (r ∷ l) = go (rest_of s (parts sequence r)) refl (lead_of s r) (run_of s l)
  where
    front : List Node
    front = opening (begins_with (some s)) l

    go : (o : Option Node) → rest_of s (parts sequence r) ≡ o → Ok (Lead s r) o → RunOf s l front (run s l).0 (run s l).1
        → RunOf s (r ∷ l) (cond (is_some o) (r ∷ front) []) (extend o r l (run s l)).0 (extend o r l (run s l)).1
    go none e h t = record { split = refl; trimmed = refl; all = tt }
    go (some p) e h t =
        let is : p ≡ left s r = sym (ap or_empty e) in
        record {
          split = ap (λ m. r ∷ m) t.split;
          trimmed = ap₂ (λ q m. q ∷ m) is t.trimmed;
          all = (subst (λ (q : Node). Lead s r q) is h, t.all);
        }

-- One alternation of what is left.
abbrev pub glued : List Node → Node
glued [] = empty
glued (p ∷ l) = glues p l

-- The alternatives that T8 makes of the first that begins a run and those behind it.
abbrev pub sharing : List ℕ → List Node → List Node
sharing s l = seq (bset s) (glued (run s l).0) ∷ (run s l).1

-- Where the leftmost part that begins as its left neighbour does is, T8 shares the set of that neighbour.
pub record SharedAt (l m : List Node) (at : Split) : Type 0 where
  pub front : List Node
  pub first : Node
  pub set : List ℕ
  pub begins : first_set (parts sequence first) ≡ some set
  pub here : at.front ≡ front ++ (first ∷ [])
  pub split : l ≡ front ++ (first ∷ at.part ∷ at.more)
  pub result : m ≡ front ++ sharing set (first ∷ at.part ∷ at.more)
  pub many : 2 ≤ length (run set (first ∷ at.part ∷ at.more)).0

-- A result that is there.
pub is_some_lem : {A : Type 0} (o : Option A) → is_some o ≡ true → (a : A) × (o ≡ some a)
is_some_lem none h = absurd (false≢true h)
is_some_lem (some a) h = (a, refl)

-- Two neighbours that begin alike are shared, with what follows of their run; two others are not.
module _ (p q : Node) (l : List Node) where
  record Both (s : List ℕ) : Type 0 where
    pub begins : first_set (parts sequence p) ≡ some s
    pub shares : shared_at (first_set (parts sequence p)) (p ∷ q ∷ l) ≡ some (sharing s (p ∷ q ∷ l))
    pub many : 2 ≤ length (run s (p ∷ q ∷ l)).0

  both : alike p q ≡ true → (s : List ℕ) × Both s
  unfolding run
  both h = go (first_set (parts sequence p)) refl h
    where
      go : (o : Option (List ℕ)) → first_set (parts sequence p) ≡ o → begins_with o q ≡ true → (s : List ℕ) × Both s
      go none e h = absurd (false≢true h)
      go (some s) e h =
          let (a, f) = is_some_lem (rest_of s (parts sequence p)) (begins_own (parts sequence p) s e) in
          let (b, g) = is_some_lem (rest_of s (parts sequence q)) h in
          (s, record { begins = e; shares = rw (e, f, g); many = rw (f, g) (omega arith) })

  neither : alike p q ≡ false → shared_at (first_set (parts sequence p)) (p ∷ q ∷ l) ≡ none
  unfolding run
  neither h = go (first_set (parts sequence p)) refl h
    where
      lone : (s : List ℕ) (o u : Option Node) (t : Run) → is_some u ≡ false
          → shared s (extend o p (q ∷ l) (extend u q l t)).0 (extend o p (q ∷ l) (extend u q l t)).1 ≡ none
      lone s none u t h = refl
      lone s (some a) none t h = refl
      lone s (some a) (some b) t h = absurd (false≢true (sym h))

      go : (o : Option (List ℕ)) → first_set (parts sequence p) ≡ o → begins_with o q ≡ false
          → shared_at o (p ∷ q ∷ l) ≡ none
      go none e h = refl
      go (some s) e h = lone s (rest_of s (parts sequence p)) (rest_of s (parts sequence q)) (run s l) h

-- A part more on the left stays there.
shared_behind : (p : Node) {l m : List Node} {at : Split} → SharedAt l m at → SharedAt (p ∷ l) (p ∷ m) (behind p at)
shared_behind p k = record {
  front = p ∷ k.front;
  first = k.first;
  set = k.set;
  begins = k.begins;
  here = ap (λ r. p ∷ r) k.here;
  split = ap (λ r. p ∷ r) k.split;
  result = ap (λ r. p ∷ r) k.result;
  many = k.many;
}

-- So T8 shares at the leftmost part that begins as its left neighbour does.
pub share_at : (seen : List Node) (p : Node) (l m : List Node) (at : Split) → leftmost follows (p ∷ seen) l ≡ some at
    → share (p ∷ l) ≡ some m → SharedAt (p ∷ l) m (behind p at)
unfolding leftmost share
share_at seen p [] m at e h = absurd (none-ne-some at e)
share_at seen p (q ∷ l) m at e h = go (alike p q) refl e (λ at' m' f g. share_at (p ∷ seen) q l m' at' f g)
  where
    later : Option Split
    later = leftmost follows (q ∷ p ∷ seen) l

    here : Split
    here = record { front = []; part = q; more = l }

    otherwise : Option (List Node) → Option (List Node)
    otherwise o = or_else o (Option.map (λ m. p ∷ m) (share (q ∷ l)))

    go : (b : Bool) → alike p q ≡ b → cond b (some here) (Option.map (behind q) later) ≡ some at
        → ((at' : Split) (m' : List Node) → later ≡ some at' → share (q ∷ l) ≡ some m' → SharedAt (q ∷ l) m' (behind q at'))
        → SharedAt (p ∷ q ∷ l) m (behind p at)
    go true t f ih =
        let (s, k) = both p q l t in
        let made = some-injective _ m (sym (ap otherwise k.shares) ∙ h) in
        subst (λ (at : Split). SharedAt (p ∷ q ∷ l) m (behind p at)) (some-injective here at f) (record {
          front = [];
          first = p;
          set = s;
          begins = k.begins;
          here = refl;
          split = refl;
          result = sym made;
          many = k.many;
        })
    go false t f ih =
        let (at', found, is) = (map-eq-some_iff (behind q) later).0 f in
        let (m', shares, all)
        = (map-eq-some_iff (λ m. p ∷ m) (share (q ∷ l))).0 (sym (ap otherwise (neither p q l t)) ∙ h) in
        subst (λ (at : Split). SharedAt (p ∷ q ∷ l) m (behind p at)) is
        (subst (λ (m : List Node). SharedAt (p ∷ q ∷ l) m (behind p (behind q at'))) all
        (shared_behind p (ih at' m' found shares)))
