-- A whole pattern's reading: the checks that come first, and what the reader of alternatives leaves. Assumes nothing.
use mathlib.Core.Path.{◌≡◌, refl, sym, ap, ap₂, ◌∙◌}
use mathlib.Core.Bool.{cond}
use mathlib.Core.List.{List, ◌++◌}
use Prim.Native.Nat.{ℕ, ◌-◌, ◌*◌, ◌≤◌, ◌<◌}
use native.Mathlib.Omega.{arith}
use lib.Dec.{leb}
use lib.ListN.{length, take, get_or, replicate}
use borrow.Author.Tests.{lt-ltb, le-ltb, lt-leb}
use mir.Syntax.{w8}
use mir.Val.{Fits}
use Rattle.meaning.specs.Limits.{pattern_limit, table_words, depth_limit}
use Rattle.meaning.specs.Refusals as No
use Rattle.table.specs.Table.{record_words, record_count}
use Rattle.reading_items.specs.Reading.{Part.turned, alternatives_at, Reading, Reading.pattern, Reading.refused, whole}
use Rattle.reading_items.specs.Reading.{first_high, reading, table_by, table_after}
use Rattle.reading.specs.Answers.{Reads, Checked, answer_of}
use Rattle.std.specs.Prelude.{Some, None}
use Rattle.reading_items.specs.Highs.{high_in, high_found}
use Rattle.reading_items.specs.Meets.{Fine}
use Rattle.reading.specs.Answers as answers
use Rattle.reading.specs.Answers.{Reading.Pattern, Reading.Turned}
use Rattle.reading.proofs.Turns.{Got-part, alternatives_read, kept_proper, part_top}

-- A reading that is known.
reads : {s table table' : List ℕ} {answer : answers.Reading} (x : Reading) → reading s (length table) ≡ x → answer ≡ answer_of x
    → table' ≡ table_by x table
    → Reads s table table' answer
unfolding table_after
reads {s} {table} x e f g = record { answer_is = f ∙ ap answer_of (sym e); table_is = g ∙ ap (λ y. table_by y table) (sym e) }

-- Checks 1 to 3, in order.
module _ {s table : List ℕ} where
  pub too_long : pattern_limit < length s → Reads s table table (Turned 1 0)
  unfolding reading
  too_long h = reads (refused No.long_pattern 0) (rw (lt-ltb pattern_limit (length s) h)) refl refl

  pub too_small : length s ≤ pattern_limit → length table < table_words (length s) → Reads s table table (Turned 2 0)
  unfolding reading
  too_small h k = reads (refused No.small_table 0) (rw (
    le-ltb pattern_limit (length s) h,
    lt-ltb (length table)
        (table_words (length s)) k,
  )) refl refl

  pub too_high : {high : ℕ} → length s ≤ pattern_limit → table_words (length s) ≤ length table → Some high ≡ high_in s
      → Reads s table table (Turned 3 high)
  unfolding reading
  too_high h k e =
      let (l, is) = rw (← e) at (high_found s) in
      rw (← is) (reads (refused No.high_byte (first_high s))
      (rw (
        le-ltb pattern_limit (length s) h,
        le-ltb (length table) (table_words (length s)) k,
        lt-ltb (first_high s) (length s) (omega (arith, l, is)),
      )) refl refl)

  pub checked : length s ≤ pattern_limit → table_words (length s) ≤ length table → None ≡ high_in s → Checked s table
  checked h k e = record { short = h; words = k; plain = omega (arith, rw (← e) at (high_found s)) }

-- A pattern that passed them.
pub fine_start : {s table : List ℕ} → Checked s table → ((i : ℕ) → Fits w8 (get_or s i 0)) → Fine s table 0 0 0
fine_start c fits = record {
  within = omega arith;
  short = c.short;
  few = omega arith;
  room = omega arith;
  words = c.words;
  bytes = record { byte = λ i. (fits i).fits };
}

module _ {s table : List ℕ} (c : Checked s table) where
  is_whole : reading s (length table) ≡ whole s (alternatives_at depth_limit s 0 0)
  unfolding reading
  is_whole =
      rw (
        le-ltb pattern_limit (length s) c.short,
        le-ltb (length table) (table_words (length s)) c.words,
        le-ltb (first_high s) (length s) c.plain,
      )

  -- A refusal leaves a table of zeros.
  zeros : (table' : List ℕ) {table'' : List ℕ} {number : ℕ} → 3 < number → length table' ≡ length table
      → table'' ≡ take 0 table' ++ replicate (length table' - 0) 0
      → table'' ≡ cond (leb number 3) table (replicate (length table) 0)
  zeros table' {table''} {number} h k e =
      let same : length table' - 0 ≡ length table = omega arith in
      rw (lt-leb number 3 h) (e ∙ ap (λ n. replicate n 0) same)

  pub refuses : (table' : List ℕ) {table'' : List ℕ} {number place : ℕ}
      → (alternatives_at depth_limit s 0 0 ≡ turned number place) × (3 < number)
      → length table' ≡ length table → table'' ≡ take 0 table' ++ replicate (length table' - 0) 0
      → Reads s table table'' (Turned number place)
  refuses table' {number = number} {place = place} h k e
      = reads (refused number place) (is_whole ∙ ap (whole s) h.0) refl (zeros table' h.1 k e)

  module _ {table' : List ℕ} {at top g : ℕ} (f : Fine s table 0 0 0)
      (p : Got-part (alternatives_at depth_limit s 0 0) at top g (take (record_words * 0) table) table') where
    top_is : top ≡ record_count p.node
    top_is =
        let t = part_top table 0 p.node (omega arith) (kept_proper (alternatives_read f depth_limit p.read).kept)
        p.stands in omega arith

    pub unmatched : {table'' : List ℕ} → at < length s → length table' ≡ length table
        → table'' ≡ take 0 table' ++ replicate (length table' - 0) 0
        → Reads s table table'' (Turned 11 at)
    unmatched h k e =
        reads (refused No.unmatched at) (is_whole ∙ ap (whole s) p.read ∙ rw (lt-ltb at (length s) h)) refl
        (zeros table' {number = 11} (omega arith) k e)

    pub reads_pattern : {table'' : List ℕ} → length s ≤ at → length table' ≡ length table
        → table'' ≡ take (record_words * top) table' ++ replicate (length table' - record_words * top) 0
        → Reads s table table'' (Pattern top g)
    reads_pattern h k e =
        reads (pattern p.node g) (is_whole ∙ ap (whole s) p.read ∙ rw (le-ltb at (length s) h))
        (ap (λ n. Pattern n g) top_is)
        (e ∙ ap₂ ◌++◌ p.stands.below (ap (λ n. replicate n 0) (ap₂ ◌-◌ k (ap (λ n. record_words * n) top_is))))
