use mathlib.Core.Path.{◌≡◌, refl, sym, ◌∙◌}
use mathlib.Core.Bool.{Bool, true, false}
use mathlib.Core.List.{List}
use Prim.Native.Nat.{ℕ, ◌≤◌, ◌<◌}
use native.Mathlib.Omega.{arith}
use lib.Bits.{bit_or}
use lib.Dec.{eqb}
use lib.ListN.{length, get_or}
use borrow.Author.Rules.{rules}
use Rattle.std.specs.Bool.{MatchBool}
use Rattle.std.specs.List.{range_with_len, AllWithin, HoldsAt}
use Rattle.std.proofs.Common.{tests}
use Rattle.std.proofs.lemmas.Iterator.{cases_from_all, YieldsList-from_range}
use Rattle.std.proofs.lemmas.List.FromFn.{length-range_with_len, get_or-range_with_len}
use Rattle.std.proofs.lemmas.Bool.Decides.{when_true, when_false}
use borrow.Author.Tests.{eq-eqb, ne_eqb}
use Rattle.meaning.specs.Limits.{row_limit}
use Rattle.machine.specs.Kinds.{header_used}
use Rattle.machine.specs.Words.{word_at, rows_said, groups_said, header_passes, header_clean}
use Rattle.code_check.specs.Check.{row_checked, header_rest, too_short, header_fails, header_stray, row_fails, some_rows}
use Rattle.code_check.specs.Check.{last_listed, last_decides}
use Rattle.code_check.proofs.check.Goals.{After-all, Then-all, After-rest_of, Else-not-header_passes}
use Rattle.code_check.proofs.check.Goals as goal

-- Row q is the one at q.
numbered : (n q : ℕ) → q < n → get_or (range_with_len 0 n) q 0 ≡ q
numbered n q h = omega (arith, get_or-range_with_len 0 n q 0 h)

-- Once the header row passed: its numbers are within the limits.
module _ (c : Else-not-header_passes) where
  header : header_passes (rows_said c.args.code.now) (groups_said c.args.code.now) ≡ true
  header = sym c.header_passes.ensures ∙ c.if-not-header_passes.false

  few : (0 < rows_said c.args.code.now) × (rows_said c.args.code.now ≤ row_limit)
  few = some_rows c.args.code.now header

-- Once the words that the header row does not use were looked at.
looked : (c : After-rest_of) → eqb (bit_or (word_at c.args.code.now header_used) c.rest_of.result) 0 ≡ header_clean c.args.code.now
looked c = header_rest c.args.code.now c.rest_of.result c.rest_of.ensures

-- Once each row was looked at: all passed, or one failed.
module _ (c : After-all) where
  abbrev checked : Bool → ℕ → Type 0
  checked r q = row_checked c.args.code.now (rows_said c.args.code.now) (groups_said c.args.code.now) q ≡ r

  abbrev numbers : List ℕ
  numbers = range_with_len 0 (rows_said c.args.code.now)

  ran : MatchBool c.all.result (AllWithin (checked true) numbers 0 (length numbers)) ((k : ℕ) × (k < length numbers) × HoldsAt (checked false) numbers k)
  ran =
      cases_from_all _ _ _ (checked true) (checked false) c.all.ensures.ran
      (YieldsList-from_range 0 _ (rows_said c.args.code.now) refl (omega arith))
      (λ x q k. search (rules, tests)) (λ x q k. search (rules, tests))

-- Where all passed.
module _ (c : Then-all) where
  all : (q : ℕ) → q < rows_said c.args.code.now → row_checked c.args.code.now (rows_said c.args.code.now) (groups_said c.args.code.now) q ≡ true
  all q h =
      let passed = when_true _ _ c.if-all.true (ran (goal.at.Then-all c).After-all) in
      rw (numbered _ q h) at (passed q 0 (omega arith) (omega (arith, length-range_with_len)))

  within : header_passes (rows_said c.args.code.now) (groups_said c.args.code.now) ≡ true
  within = header (goal.at.Then-all c).Else-not-header_passes

  clean : header_clean c.args.code.now ≡ true
  clean = sym (looked (goal.at.Then-all c).After-rest_of) ∙ eq-eqb _ 0 c.if-code-rest_of-ne0.false

pub returns-then-code-lt-ROW_WORDS : goal.returns-then-code-lt-ROW_WORDS
returns-then-code-lt-ROW_WORDS c = sym (too_short c.args.code.now (omega arith))

pub returns-then-not-header_passes : goal.returns-then-not-header_passes
returns-then-not-header_passes c =
    sym (header_fails c.args.code.now (sym c.header_passes.ensures ∙ c.if-not-header_passes.true))

pub overflow_cast-rows : goal.overflow_cast-rows
overflow_cast-rows c = omega (arith, few c)

pub overflow_add-rows : goal.overflow_add-rows
overflow_add-rows c = omega (arith, few c)

pub overflow_mul-rows : goal.overflow_mul-rows
overflow_mul-rows c = omega (arith, few c)

pub returns-then-code-rows : goal.returns-then-code-rows
returns-then-code-rows c = sym (too_short c.args.code.now c.if-code-rows.true)

pub returns-then-code-rest_of-ne0 : goal.returns-then-code-rest_of-ne0
returns-then-code-rest_of-ne0 c =
    let stray = ne_eqb _ 0 c.if-code-rest_of-ne0.true in
    sym (header_stray c.args.code.now (sym (looked (goal.at.returns-then-code-rest_of-ne0 c).After-rest_of) ∙ stray))

pub may_be_last-requires : goal.may_be_last-requires
may_be_last-requires c =
    let p = (goal.at.may_be_last-requires c).Then-all in
    last_listed c.args.code.now (within p) c.if-code-rows.false (clean p) (all p)

pub returns-then-all : goal.returns-then-all
returns-then-all c =
    let p = (goal.at.returns-then-all c).Then-all in
    last_decides c.args.code.now (within p) c.if-code-rows.false (clean p) (all p) c.may_be_last.result c.may_be_last.ensures

pub returns-else-all : goal.returns-else-all
returns-else-all c =
    let (q, within, fails) = when_false _ _ c.if-all.false (ran (goal.at.returns-else-all c).After-all) in
    let low : q < rows_said c.args.code.now = omega (arith, length-range_with_len 0 (rows_said c.args.code.now)) in
    c.if-all.false ∙ sym (row_fails c.args.code.now q low (rw (numbered _ q low) at (fails 0)))
