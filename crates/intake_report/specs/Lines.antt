-- The lines of a text, and what the search for the end of a line answers.
use Rattle.std.specs.Prelude.{◌≡◌, Bool, cond, length, take}
use Rattle.std.proofs.Math.Path.{refl}
use Rattle.std.proofs.Common.{ap, ◌∙◌, arith, add-one}
use Rattle.std.proofs.Math.Bool.{true, false}
use mathlib.Core.List.{List, [], ◌∷◌}
use Prim.Native.Nat.{ℕ, zero, suc, ◌+◌, ◌-◌, ◌≤◌, ◌<◌}
use borrow.Author.Tests.{ne_eqb, ltb-true, ltb-false}
use Rattle.std.proofs.Math.Dec.{eqb, ltb}
use Rattle.std.proofs.Math.ListN.{get_or, length-take, drop_of_length-le}
use Rattle.std.proofs.Math.Seq.{slice, slice_empty, slice-cons}
use Rattle.meaning.specs.Limits.{line_feed}

-- The bytes before the first LF; all of them if there is none.
unfoldable pub first_line : List ℕ → List ℕ
first_line [] = []
first_line (b ∷ l) = cond (eqb b line_feed) [] (b ∷ first_line l)

-- The bytes behind the first LF; none if there is none.
unfoldable pub rest_lines : List ℕ → List ℕ
rest_lines [] = []
rest_lines (b ∷ l) = cond (eqb b line_feed) l (rest_lines l)

-- A byte more on the first line, which is a line of its own if there was none.
abbrev pub on_first : ℕ → List (List ℕ) → List (List ℕ)
on_first b [] = (b ∷ []) ∷ []
on_first b (line ∷ more) = (b ∷ line) ∷ more

-- The lines of a text: LF ends each, and a last line without LF counts unless it is empty.
unfoldable pub lines_of : List ℕ → List (List ℕ)
lines_of [] = []
lines_of (b ∷ l) = cond (eqb b line_feed) ([] ∷ lines_of l) (on_first b (lines_of l))

pub no_lines : lines_of [] ≡ []
unfolding lines_of
no_lines = refl

-- A text that is not empty is its first line and the lines of the rest.
pub lines_more : (b : ℕ) (l : List ℕ) → lines_of (b ∷ l) ≡ first_line (b ∷ l) ∷ lines_of (rest_lines (b ∷ l))
unfolding lines_of first_line rest_lines
lines_more b [] = by (eqb b line_feed)
  where
    by : (t : Bool) → cond t ([] ∷ []) ((b ∷ []) ∷ []) ≡ cond t [] (b ∷ []) ∷ lines_of (cond t [] [])
    by true = refl
    by false = refl
lines_more b (a ∷ l) = by (eqb b line_feed) (lines_more a l)
  where
    by : (t : Bool) → lines_of (a ∷ l) ≡ first_line (a ∷ l) ∷ lines_of (rest_lines (a ∷ l))
        → cond t ([] ∷ lines_of (a ∷ l)) (on_first b (lines_of (a ∷ l)))
        ≡ cond t [] (b ∷ first_line (a ∷ l)) ∷ lines_of (cond t (a ∷ l) (rest_lines (a ∷ l)))
    by true e = refl
    by false e = ap (on_first b) e

-- What a search for LF from one place to another answers: the first LF, or the place where it stops.
pub record FoundLf (text : List ℕ) (from to r : ℕ) : Type 0 where
  pub behind : from ≤ r
  pub within : r ≤ to
  pub none : (k : ℕ) → from ≤ k → k < r → get_or text k 0 ≡ line_feed → ⊥
  pub found : r < to → get_or text r 0 ≡ line_feed

-- A part of a text, taken apart at the LF that was found.
record Split (text : List ℕ) (from to r : ℕ) : Type 0 where
  pub first : first_line (slice from to text) ≡ slice from r text
  pub rest : rest_lines (slice from to text) ≡ slice (suc r) to text

module _ (text : List ℕ) (to r : ℕ) (inside : to ≤ length text) (found : r < to → get_or text r 0 ≡ line_feed) where
  -- At the LF the line is empty, and so it is at the end.
  split_here : r ≤ to → Split text r to r
  unfolding first_line rest_lines
  split_here h = by (ltb r to) refl
    where
      by : (t : Bool) → ltb r to ≡ t → Split text r to r
      by true e =
          let l : r < to = ltb-true r to e in
          let s : slice r to text ≡ line_feed ∷ slice (suc r) to text = slice-cons r to text 0 l inside ∙ rw (found l) in
          record { first = rw (s, slice_empty); rest = rw s }
      by false e =
          let l : to ≤ r = ltb-false r to e in
          let s : slice r to text ≡ [] = drop_of_length-le (take to text) {i = r} (omega (arith, length-take to text)) in
          let s' : slice (suc r) to text ≡ [] = drop_of_length-le (take to text) {i = suc r}
          (omega (arith, length-take to text)) in
          record { first = rw (s, slice_empty); rest = rw (s, s') }

  -- A byte before it that is no LF is the line's.
  split_more : (from : ℕ) → from < r → r ≤ to → (get_or text from 0 ≡ line_feed → ⊥) → Split text (suc from) to r
      → Split text from to r
  unfolding first_line rest_lines
  split_more from l h other s =
      let differs : eqb (get_or text from 0) line_feed ≡ false = ne_eqb (get_or text from 0) line_feed other in
      record {
        first = rw (slice-cons from to text 0 (omega arith) inside, slice-cons from r text 0 l (omega arith), differs)
            (ap (λ t. get_or text from 0 ∷ t) s.first);
        rest = rw (slice-cons from to text 0 (omega arith) inside, differs) s.rest;
      }

  split_by : (k from : ℕ) → from + k ≡ r → r ≤ to → ((i : ℕ) → from ≤ i → i < r → get_or text i 0 ≡ line_feed → ⊥)
      → Split text from to r
  split_by zero from e h none = let e' : from ≡ r = omega arith in rw e' (split_here h)
  split_by (suc k) from e h none =
      split_more from (omega arith) h (none from (omega arith) (omega arith))
      (split_by k (suc from) (omega arith) h (λ i l m. none i (omega arith) m))

-- The lines of a part of a text: the first ends where LF was found, and the others are those of the part behind it.
pub lines_found : (text : List ℕ) (from to r : ℕ) → from < to → to ≤ length text → FoundLf text from to r
    → lines_of (slice from to text) ≡ slice from r text ∷ lines_of (slice (r + 1) to text)
lines_found text from to r l inside f =
    let s : Split text from to r =
    split_by text to r inside f.found (r - from) from (omega (arith, f.behind)) f.within f.none in
    let e : slice from to text ≡ get_or text from 0 ∷ slice (suc from) to text = slice-cons from to text 0 l inside in
    ap lines_of e ∙ lines_more (get_or text from 0) (slice (suc from) to text)
    ∙ rw (← e, s.first, s.rest, add-one)
