-- The last part of a series, and walks over a series in a loop's words. Assumes nothing.
use mathlib.Core.Path.{◌≡◌, refl, sym, ap, ◌∙◌}
use mathlib.Core.Bool.{Bool, true, false, cond, ◌||◌, or-true, or-false}
use mathlib.Core.Option.{Option, none, some}
use mathlib.Core.List.{List, [], ◌∷◌, ◌++◌}
use Prim.Native.Nat.{ℕ, ◌-◌, ◌≤◌, ◌<◌}
use native.Mathlib.Omega.{arith}
use lib.ListN.{length-append}
use Rattle.std.proofs.Common.{Some, None}
use Rattle.std.specs.Option.{is_some as is_found}
use Rattle.meaning.specs.Node.{Node}
use Rattle.meaning.specs.Results.{concat_map}
use Rattle.table.specs.Table.{record_count, records}
use Rattle.table.specs.Laws.{inner, long}
use Rattle.table.specs.Roots.{stands_long, last_ends, shorter, some_last, inside}
use Rattle.tidying_laws.specs.Alternatives.{past}
use Rattle.tidying_laws.specs.Equal.{same}
use Rattle.table.specs.Stands.{Ends, Series, SomePart}
use Rattle.tidying_fitting.specs.Parts.{SomeLast, Tells, TellsLast, TellsBoth}
use Rattle.tidying_fitting.specs.Words.{own_of, start_of}
use Rattle.tidying_fitting.specs.Wants.{alike, follows, any_leftmost}
use Rattle.tidying_laws.specs.Choices.{any}
use Rattle.tidying_fitting.specs.Fitting.{is_some}
use Rattle.tidying_fitting.specs.Places.{Place, Split, Test, leftmost, end_of, Walk, begin, turn, over, past_more}
use Rattle.tidying_fitting.specs.declared.Record.{Record}

-- The last part of a series, and the one before it.
pub last_told : {A : Type 0} {a : A} {table : List ℕ} {top : ℕ} (items : ℕ) (f : Node → A) → Tells a table top f
    → TellsLast a table top items (λ front q. f q)
last_told items f t = record { by = λ before front q series. t.by _ q (last_ends front q series) }

pub last_asked : {table : List ℕ} {top items : ℕ} → SomeLast table top items → SomePart table top
last_asked s = record { before = _; part = s.last; ends = last_ends s.front s.last s.series }

pub series_some : {table : List ℕ} {top items : ℕ} → SomeLast table top items → 0 < items
series_some s = omega (arith, s.series.counted, length-append s.front (s.last ∷ []))

-- The part before the last one ends where that one starts.
record Before (table : List ℕ) (n : ℕ) (before : List ℕ) (front : List Node) : Type 0 where
  others : List Node
  part : Node
  ends : Ends table n (before ++ concat_map records others) part
  seen : past front [] ≡ part ∷ past others []

module _ {table : List ℕ} {top items : ℕ} where
  before_last : {n : ℕ} → 1 < items → Tells n table top (start_of top) → (before : List ℕ) (front : List Node) (q : Node)
      → Series table top items before (front ++ (q ∷ [])) → Before table n before front
  before_last {n} h t before front q series =
      let k = some_last front (omega (arith, series.counted, length-append front (q ∷ []))) in
      let here : n ≡ top - record_count q = t.by _ q (last_ends front q series) in
      let short : Series table n (items - 1) before (k.front ++ (k.last ∷ [])) = rw (here, ← k.split)
      (shorter front q series) in
      record {
        others = k.front;
        part = k.last;
        ends = last_ends k.front k.last short;
        seen = ap (λ x. past x []) k.split ∙ past_more k.front [] k.last;
      }

  pub before_asked : {n : ℕ} → 1 < items → Tells n table top (start_of top) → SomeLast table top items → SomePart table n
  before_asked h t s =
      let k = before_last h t s.before s.front s.last
      s.series in record { before = _; part = k.part; ends = k.ends }

  pub follows_told : {n : ℕ} → 1 < items → Tells n table top (start_of top) → {b : Bool} → TellsBoth b table n top alike
      → TellsLast b table top items (λ front q. follows (past front []) q)
  follows_told h t u = record {
    by = λ before front q series.
        let k = before_last h t before front q series in
        rw k.seen (u.by _ _ k.part q k.ends (last_ends front q series));
  }

-- A walk found a place exactly if there is a part that passes.
pub found_some : (start : ℕ) (o : Option Split) → is_found (end_of start o) ≡ is_some o
found_some start none = refl
found_some start (some s) = refl

any_past : (p : Node → Bool) (l seen : List Node) → any p (past l seen) ≡ (any p l || any p seen)
any_past p [] seen = refl
any_past p (r ∷ l) seen = any_past p l (r ∷ seen) ∙ swap (p r) (any p l) (any p seen)
  where
    swap : (a b c : Bool) → (b || (a || c)) ≡ ((a || b) || c)
    swap true true c = refl
    swap true false c = refl
    swap false b c = refl

any_append : (p : Node → Bool) (l m : List Node) → any p (l ++ m) ≡ (any p l || any p m)
any_append p [] m = refl
any_append p (r ∷ l) m = ap (λ b. p r || b) (any_append p l m) ∙ sym (or_assoc (p r) (any p l) (any p m))
  where
    or_assoc : (a b c : Bool) → ((a || b) || c) ≡ (a || (b || c))
    or_assoc true b c = refl
    or_assoc false b c = refl

-- A walk over a series, in the loop's words: its first state, what a turn needs and gives, and its end.
module _ {test : Test} {l : List Node} {table : List ℕ} {end left : ℕ} {before : List ℕ} {found : Place}
    (w : Walk test l table end left before found) where
  pub series_asked : 0 < left → SomeLast table end left
  series_asked h = let t = turn w h in record { before = before; front = t.front; last = t.part; series = t.series }

  pub walk_more : 0 < left → {b : Bool} → TellsLast b table end left (λ front q. test (past front []) q) → {n : ℕ} → Tells n
      table end (start_of end)
      → Walk test l table n (left - 1) before (cond b (Some end) found)
  walk_more h {b} u {n} s =
      let t = turn w h in
      rw (u.by before t.front t.part t.series, s.by _ t.part (last_ends t.front t.part t.series)) t.walk

pub walk_first : (test : Test) {table : List ℕ} {top : ℕ} {before : List ℕ} {r : Node} → Ends table top before r →
    {o : Record} → Tells o table top own_of
    → Walk test (inner r) table (top - 1) o.items before None
walk_first test {before = before} {r = r} p {o} t = let own : o ≡ own_of r = t.by before r p in rw own (begin test (inside p))

-- It ends where the part starts.
start_of_lem : {table : List ℕ} {top end : ℕ} {before : List ℕ} {r : Node} → Ends table top before r → Series table end 0 before [] →
    end ≡ top - record_count r
start_of_lem {before = before} {r = r} p series = omega (
  arith,
  stands_long p.stands,
  length-append before (records r),
  long r p.proper,
  stands_long series.stands,
  length-append before [],
)

pub walk_over : {test : Test} {table : List ℕ} {top : ℕ} {before : List ℕ} {r : Node} → Ends table top before r →
    {end left : ℕ} {found : Place}
    → Walk test (inner r) table end left before found → left ≤ 0 → found ≡ end_of (top - record_count r)
    (leftmost test [] (inner r))
walk_over {test} {r = r} p w h = let o = over w h in o.0 ∙ ap (λ n. end_of n (leftmost test [] (inner r))) (start_of_lem p o.1)

-- T6: a walk over the parts before the last one that has found none equal to it, or finds one.
abbrev pub equals : Node → Test
equals q seen r = same q r

walk_any : (p : Node → Bool) {l : List Node} {table : List ℕ} {end left found : ℕ} {before : List ℕ}
    → Walk (λ s r. p r) l table end left before (Some found) → any p l ≡ true
walk_any p {l} {end = end} w =
    let some_more : any p w.more ≡ true = any_leftmost p (past w.rest []) w.more
    ∙ sym (found_some end (leftmost (λ s r. p r) (past w.rest []) w.more)) ∙ ap is_found (sym w.best) in
    ap (any p) w.split ∙ any_append p w.rest w.more ∙ ap (λ b. any p w.rest || b) some_more ∙ or-true
    (any p w.rest)

module _ {table : List ℕ} {top items : ℕ} {before : List ℕ} (front : List Node) (q : Node)
    (series : Series table top items before (front ++ (q ∷ []))) where
  pub repeat_first : {n : ℕ} → Tells n table top (start_of top) → Walk (equals q) front table n (items - 1) before None
  repeat_first t = rw (t.by _ q (last_ends front q series)) (begin (equals q) (shorter front q series))

  module _ {end left : ℕ} (w : Walk (equals q) front table end left before None) where
    same_told : 0 < left → {b : Bool} → TellsBoth b table top end same → TellsLast b table end left
        (λ front p. equals q (past front []) p)
    same_told h u = record {
      by = λ before' front' p series'. u.by _ _ q p (last_ends front q series) (last_ends front' p series');
    }

    pub repeat_more : 0 < left → {b : Bool} → TellsBoth b table top end same → b ≡ false → {n : ℕ} → Tells n table end
        (start_of end)
        → Walk (equals q) front table n (left - 1) before None
    repeat_more h u e s = rw e at (walk_more w h (same_told h u) s)

    pub repeat_found : 0 < left → {b : Bool} → TellsBoth b table top end same → b ≡ true → true ≡ any (same q) (past front [])
    repeat_found h {b} u e =
        let t = turn w h in
        let here = last_ends t.front t.part t.series in
        let hit : same q t.part ≡ true = sym (u.by _ _ q t.part (last_ends front q series) here) ∙ e in
        let there : any (same q) front ≡ true = walk_any (same q) (rw hit at t.walk) in
        sym (any_past (same q) front [] ∙ ap (λ b. b || false) there)

    pub repeat_over : left ≤ 0 → false ≡ any (same q) (past front [])
    repeat_over h =
        sym (any_past (same q) front [] ∙ or-false (any (same q) front) ∙ any_leftmost (same q) [] front
        ∙ sym (found_some end (leftmost (equals q) [] front)) ∙ ap is_found (sym (over w h).0))
