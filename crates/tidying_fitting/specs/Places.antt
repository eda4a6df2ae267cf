-- The leftmost part of a series that passes a test: T1, T6, T7 and T8 fit where there is one. A series is walked from its
-- last part back.
use Rattle.std.specs.Prelude.{Option as Answer, Some, None}
use Rattle.std.specs.Prelude.{◌≡◌, refl, Bool, true, false, cond, List, [], ◌∷◌, ◌++◌, ℕ, ◌+◌, ◌-◌, ◌≤◌, ◌<◌, length}
use Rattle.std.proofs.Common.{sym, ap, ◌∙◌, append_assoc, append-nil, not-suc-le-zero, arith}
use Rattle.std.proofs.Math.Option.{Option, none, some, map}
use Rattle.meaning.specs.Node.{Node}
use Rattle.table.specs.Table.{record_count}
use Rattle.table.specs.Laws.{count_all}
use Rattle.tidying_laws.specs.Alternatives.{past}
use Rattle.table.specs.Stands.{Series}
use Rattle.table.specs.Roots.{some_last, last_ends, shorter}
use Rattle.tidying_fitting.specs.Parts.{room}

-- A list taken apart at one of its parts.
pub record Split : Type 0 where
  pub front : List Node
  pub part : Node
  pub more : List Node

abbrev pub behind : Node → Split → Split
behind r s = record { front = r ∷ s.front; part = s.part; more = s.more }

-- The record number at which a part ends, or none.
abbrev pub Place : Type 0
Place = Answer ℕ

-- The leftmost part of a list that passes a test, which sees the parts before it too, the nearest first.
abbrev pub Test : Type 0
Test = List Node → Node → Bool

unfoldable pub leftmost : Test → List Node → List Node → Option Split
leftmost test seen [] = none
leftmost test seen (r ∷ l) =
    cond (test seen r) (some (record { front = []; part = r; more = l })) (map (behind r) (leftmost test (r ∷ seen) l))

-- Where its records end, if the list's records begin at record number `start`.
abbrev pub end_of : ℕ → Option Split → Place
end_of start none = None
end_of start (some s) = Some (start + count_all s.front + record_count s.part)

-- A walk from the right has taken the list apart; what it found is the leftmost of the parts that it passed.
pub record Walk (test : Test) (l : List Node) (table : List ℕ) (end left : ℕ) (before : List ℕ) (found : Place) : Type 0 where
  pub rest : List Node
  pub more : List Node
  pub split : l ≡ rest ++ more
  pub series : Series table end left before rest
  pub best : found ≡ end_of end (leftmost test (past rest []) more)

pub past_more : (front seen : List Node) (q : Node) → past (front ++ (q ∷ [])) seen ≡ q ∷ past front seen
past_more [] seen q = refl
past_more (r ∷ front) seen q = past_more front (r ∷ seen) q

-- One part more on the left is the leftmost if it passes.
one_more : (test : Test) (seen : List Node) (q : Node) (more : List Node) (end : ℕ) → record_count q ≤ end
    → end_of (end - record_count q) (leftmost test seen (q ∷ more)) ≡ cond (test seen q) (Some end)
    (end_of end (leftmost test (q ∷ seen) more))
unfolding leftmost
one_more test seen q more end h = go (test seen q) (leftmost test (q ∷ seen) more)
  where
    go : (b : Bool) (o : Option Split)
        → end_of (end - record_count q) (cond b (some (record { front = []; part = q; more = more })) (map (behind q) o))
        ≡ cond b (Some end) (end_of end o)
    go true o = ap Some (omega arith)
    go false none = refl
    go false (some s) = ap Some (omega arith)

-- The walk begins with the whole series,
pub begin : (test : Test) {l : List Node} {table : List ℕ} {end left : ℕ} {before : List ℕ} → Series table end left before l
    → Walk test l table end left before None
unfolding leftmost
begin test {l} series = record { rest = l; more = []; split = sym (append-nil l); series = series; best = refl }

-- a turn of it takes one part,
pub record Turn (test : Test) (l : List Node) (table : List ℕ) (end left : ℕ) (before : List ℕ) (found : Place) : Type 0 where
  pub front : List Node
  pub part : Node
  pub series : Series table end left before (front ++ (part ∷ []))
  pub walk : Walk test l table (end - record_count part) (left - 1) before (cond (test (past front []) part) (Some end) found)

pub turn : {test : Test} {l : List Node} {table : List ℕ} {end left : ℕ} {before : List ℕ} {found : Place}
    → Walk test l table end left before found → 0 < left → Turn test l table end left before found
turn {test} {l} {table} {end} {left} {before} {found} w h =
    let k = some_last w.rest (omega (arith, w.series.counted)) in
    let series : Series table end left before (k.front ++ (k.last ∷ [])) = rw k.split at w.series in
    let seen : past w.rest [] ≡ k.last ∷ past k.front [] = ap (λ x. past x []) k.split ∙ past_more k.front []
    k.last in
    record {
      front = k.front;
      part = k.last;
      series = series;
      walk = record {
        rest = k.front;
        more = k.last ∷ w.more;
        split = w.split ∙ ap (λ x. x ++ w.more) k.split ∙ append_assoc k.front (k.last ∷ []) w.more;
        series = shorter k.front k.last series;
        best = ap (cond (test (past k.front []) k.last) (Some end))
            (w.best ∙ ap (λ s. end_of end (leftmost test s w.more)) seen)
            ∙ sym (one_more test (past k.front []) k.last w.more end
            (room (last_ends k.front k.last series)).few);
      };
    }

-- and it ends where no part is left.
pub over : {test : Test} {l : List Node} {table : List ℕ} {end left : ℕ} {before : List ℕ} {found : Place}
    → Walk test l table end left before found → left ≤ 0
    → (found ≡ end_of end (leftmost test [] l)) × Series table end 0 before []
over {test} {l} {table} {end} {left} {before} {found} w h = go w.rest (omega (arith, w.series.counted)) w.split
    w.series
    w.best
  where
    go : (rest : List Node) → length rest ≤ 0 → l ≡ rest ++ w.more → Series table end left before rest
        → found ≡ end_of end (leftmost test (past rest []) w.more)
        → (found ≡ end_of end (leftmost test [] l)) × Series table end 0 before []
    go [] h e series best = (best ∙ ap (λ x. end_of end (leftmost test [] x)) (sym e), rw series.counted at series)
    go (r ∷ rest) h e series best = absurd (not-suc-le-zero h)
