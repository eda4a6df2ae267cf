-- A part of a table that is lent from a record on, edited and put back: what it says then, and the words before it as they were.
use Rattle.std.specs.Prelude.{◌≡◌, refl, List, [], ◌++◌, ℕ, ◌+◌, ◌-◌, ◌*◌, ◌≤◌, length, take, drop}
use Rattle.std.proofs.Common.{sym, subst, arith, length-append, length-take, length-drop, take_all}
use borrow.Rule.Slice.PartMut.{mid_of, post_of, put_mid, take_put}
use Rattle.table.specs.Table.{record_words}
use Rattle.tidying_shapes.specs.Skeleton.{Token}
use Rattle.tidying_shapes.specs.Tokens.{Says}
use Rattle.tidying_shapes.specs.Laws.{says_length, says_first, says_rest, says_join, says_more, says_same}
use Rattle.tidying_shapes.specs.Edits.{Removed}

-- The part from record `at` on, and the table with another in its place.
abbrev pub lent : List ℕ → ℕ → List ℕ
lent table at = mid_of (record_words * at) (length table - record_words * at) table

abbrev pub returned : List ℕ → ℕ → List ℕ → List ℕ
returned table at part = put_mid (record_words * at) (length table - record_words * at) table part

pub framed : {table part : List ℕ} {n n' : ℕ} (at : ℕ) (l k k' : List Token) → length l ≡ at → Says table n (l ++ k)
    → (Says (lent table at) (n - at) k → Says part n' k') → Says (returned table at part) (at + n') (l ++ k')
framed {table} {part} {n} {n'} at l k k' e s edit = subst Whole e go edit
  where
    Whole : ℕ → Type 0
    Whole at = (Says (lent table at) (n - at) k → Says part n' k') → Says (returned table at part) (at + n') (l ++ k')

    go : Whole (length l)
    go edit =
        let base : ℕ = record_words * length l in
        let room : base ≤ length table = omega (arith, s.room, says_length s, length-append l k) in
        let whole : take (length table - base) (drop base table) ≡ drop base table
        = take_all (length table - base) (drop base table) (omega (arith, length-drop base table)) in
        says_join (omega (arith, length-take base table)) (says_first l k s)
        (says_more (post_of base (length table - base) table) (edit (says_same (sym whole) refl (says_rest l k s))))

pub kept_below : (table part : List ℕ) (at : ℕ) → record_words * at ≤ length table
    → take (record_words * at) (returned table at part) ≡ take (record_words * at) table
kept_below table part at h = take_put (record_words * at) (length table - record_words * at) table part h

-- Records go, and no word before them changes; so many are left.
pub record Cut (table table' : List ℕ) (n at count n' : ℕ) : Type 0 where
  pub says : (l gone m : List Token) → length l ≡ at → length gone ≡ count → Says table n (l ++ (gone ++ m))
      → Says table' n' (l ++ m)
  pub below : take (record_words * at) table' ≡ take (record_words * at) table
  pub left : n' ≡ n - count

pub removed_cut : {table part : List ℕ} {n at count : ℕ} → at + count ≤ n → record_words * n ≤ length table
    → Removed (lent table at) part (n - at) 0 count → Cut table (returned table at part) n at count (n - count)
removed_cut {table} {part} {n} {at} {count} h room r = record {
  says = λ l gone m e g s.
      let same : at + (n - at - count) ≡ n - count = omega arith in
      says_same refl same (framed at l (gone ++ m) m e s (λ t. r.says [] gone m refl g t));
  below = kept_below table part at (omega arith);
  left = refl;
}
