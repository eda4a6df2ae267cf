-- When the host turns a pattern away by its own sizes: 2 and 16, exactly.
use Rattle.std.specs.Prelude.{◌≡◌, refl, ◌↔◌, Bool, List, ℕ, zero, suc, ◌≤◌, ◌<◌, length}
use Rattle.std.proofs.Common.{sym, ap, ◌∙◌, arith, lt-ltb, le-ltb, ltb-true, ltb-false}
use Rattle.std.proofs.lemmas.Bool.{false≢true}
use Rattle.std.proofs.Math.Decide.{dec_lt}
use Rattle.meaning.specs.Limits.{pattern_limit, table_words, row_limit, code_words, table_size}
use Rattle.meaning.specs.Refusals as No
use Rattle.meaning.specs.Grounds.{Tells, exactly_told}
use Rattle.meaning.specs.Node.{Node}
use Rattle.reading_items.specs.Reading.{Reading, Reading.pattern, Reading.refused, reading}
use Rattle.reading_grammar.specs.Refusals.{WrongEscape, WrongEscape.unknown, WrongEscape.left_out, Refuses, TurnedAway}
use Rattle.reading_grammar.specs.Refusals.{Checks, Checks.long, Checks.small, Checks.high}
use Rattle.reading_grammar.proofs.First.{refused_first}
use Rattle.code_rows.specs.Emission.{rows_needed}
use Rattle.compiler.specs.Compiling.{shaped, program_grounds, unwritten, answer_for, answer_by}
use Rattle.compiler.specs.Compiling.{Compilation}
use Rattle.host.specs.Surface.{compiled_numbers, code_lent, CompilesBytes}
use Rattle.host.specs.declared.Compiled.{Compiled}

-- A refusal that is read has a number from 4 to 14.
escape_number : {s : List ℕ} {inClass : Bool} {a n : ℕ} → WrongEscape s inClass a n → (No.bad_escape ≤ n) × (n ≤ No.many_groups)
escape_number (unknown i l o) = (omega arith, omega arith)
escape_number (left_out i o) = (omega arith, omega arith)

refusal_number : {s : List ℕ} {n p : ℕ} → Refuses s n p → (No.bad_escape ≤ n) × (n ≤ No.many_groups)
refusal_number (Refuses.escape d w) = escape_number w
refusal_number (Refuses.class_escape d w) = escape_number w
refusal_number (Refuses.range_escape d e i w) = escape_number w
refusal_number (Refuses.look d i q l) = (omega arith, omega arith)
refusal_number (Refuses.nothing d q) = (omega arith, omega arith)
refusal_number (Refuses.odd_group d i q c l) = (omega arith, omega arith)
refusal_number (Refuses.no_form a i f) = (omega arith, omega arith)
refusal_number (Refuses.above a f o) = (omega arith, omega arith)
refusal_number (Refuses.disordered a f l) = (omega arith, omega arith)
refusal_number (Refuses.bad_range d e i f r) = (omega arith, omega arith)
refusal_number (Refuses.unclosed_class d e) = (omega arith, omega arith)
refusal_number (Refuses.unmatched d i) = (omega arith, omega arith)
refusal_number (Refuses.unclosed d e) = (omega arith, omega arith)
refusal_number (Refuses.stray d i) = (omega arith, omega arith)
refusal_number (Refuses.deep d i) = (omega arith, omega arith)
refusal_number (Refuses.full d i q f) = (omega arith, omega arith)

-- A refused pattern has a number from 1 to 14.
turned_number : {s : List ℕ} {table n p : ℕ} → TurnedAway s table n p → (No.long_pattern ≤ n) × (n ≤ No.many_groups)
turned_number (TurnedAway.checked (long l) h) = (omega arith, omega arith)
turned_number (TurnedAway.checked (small l) h) = (omega arith, omega arith)
turned_number (TurnedAway.checked (high l k b) h) = (omega arith, omega arith)
turned_number (TurnedAway.read c x h) = let k = refusal_number x in (omega arith, omega arith)

pub refused_number : (s : List ℕ) (n p : ℕ) → reading s table_size ≡ refused n p → (No.long_pattern ≤ n) × (n ≤ No.many_groups)
refused_number s n p e = turned_number (refused_first s table_size n p e)

-- 2 says that the table is too small and the pattern not too long, and that gives 2.
small_only : {s : List ℕ} {table n p : ℕ} → TurnedAway s table n p → n ≡ No.small_table
    → (length s ≤ pattern_limit) × (table < table_words (length s))
small_only (TurnedAway.checked (long l) h) e = absurd (omega arith)
small_only {s} (TurnedAway.checked (small l) h) e = (not_long, l)
  where
    not_long : length s ≤ pattern_limit
    not_long = elim (dec_lt pattern_limit (length s)) [
      | yes k ↦ absurd (omega (arith, h No.long_pattern 0 (Checks.long k)))
      | no k ↦ omega arith
    ]
small_only (TurnedAway.checked (high l k b) h) e = absurd (omega arith)
small_only (TurnedAway.read c x h) e = absurd (omega (arith, (refusal_number x).0))

small_table_lem : (s : List ℕ) → length s ≤ pattern_limit → table_size < table_words (length s)
    → reading s table_size ≡ refused No.small_table 0
unfolding reading
small_table_lem s h k = rw (le-ltb pattern_limit (length s) h, lt-ltb table_size (table_words (length s)) k)

-- The number that is passed for an answer, and for what becomes of a pattern that was read.
abbrev number_of : Compilation → ℕ
number_of x = (compiled_numbers x).number

number_for : (k : ℕ) (r : Node) (g : ℕ) → number_of (answer_for k r g) ≡ k
number_for zero r g = refl
number_for (suc k) r g = refl

module _ (tidying : Bool) (s : List ℕ) (words : ℕ) where
  abbrev passed : Reading → ℕ
  passed x = number_of (answer_by tidying x words)

  -- It says which ground holds.
  pattern_tells : (r : Node) (g number : ℕ) → passed (pattern r g) ≡ number → Tells (program_grounds tidying r words) number
  pattern_tells r g number e =
      (exactly_told (program_grounds tidying r words) refl number).0
      (sym (number_for (unwritten tidying r words) (shaped tidying r) g) ∙ e)

  -- 2 exactly if the pattern has 129 to 2,048 bytes.
  two : (passed (reading s table_size) ≡ No.small_table) ↔ (129 ≤ length s) × (length s ≤ pattern_limit)
  two = (λ e. only (reading s table_size) refl e, λ h. ap passed (small_table_lem s h.1 (omega (arith, h.0))))
    where
      only : (x : Reading) → reading s table_size ≡ x → passed x ≡ No.small_table → (129 ≤ length s) × (length s ≤ pattern_limit)
      only (pattern r g) f e = absurd (false≢true (pattern_tells r g No.small_table e).1)
      only (refused n place) f e =
          let h = small_only (refused_first s table_size n place f) e in
          (omega (arith, h.1), h.0)

  -- What is asked of a pattern for 16: it is read, its rows are few enough, and 12(n+1) words are more than there are, where n
  -- counts the rows of what is compiled.
  pub record Short : Type 0 where
    pub node : Node
    pub groups : ℕ
    pub is_read : reading s table_size ≡ pattern node groups
    pub few : rows_needed node ≤ row_limit
    pub short : words < code_words (rows_needed (shaped tidying node))

  -- 16 exactly if so.
  sixteen : (passed (reading s table_size) ≡ No.short_code) ↔ Short
  sixteen = (λ e. only (reading s table_size) refl e, given)
    where
      only : (x : Reading) → reading s table_size ≡ x → passed x ≡ No.short_code → Short
      only (pattern r g) f e =
          let t = pattern_tells r g No.short_code e in
          record { node = r; groups = g; is_read = f; few = ltb-false _ _ t.0.0; short = ltb-true _ _ t.1 }
      only (refused n place) f e = absurd (omega (arith, (refused_number s n place f).1))

      given : Short → passed (reading s table_size) ≡ No.short_code
      given h =
          ap passed h.is_read ∙ number_for (unwritten tidying h.node words) (shaped tidying h.node) h.groups
          ∙ (exactly_told (program_grounds tidying h.node words) refl No.short_code).1
          ((le-ltb _ _ h.few, tt), lt-ltb _ _ h.short)

-- Of the call itself.
module _ (tidying : Bool) (s code : List ℕ) {code' : List ℕ} {r : Compiled} (h : CompilesBytes tidying s code r code') where
  pub refuses_two : (r.number ≡ No.small_table) ↔ (129 ≤ length s) × (length s ≤ pattern_limit)
  refuses_two = rw h.answers (two tidying s (code_lent (length code)))

  pub refuses_sixteen : (r.number ≡ No.short_code) ↔ Short tidying s (code_lent (length code))
  refuses_sixteen = rw h.answers (sixteen tidying s (code_lent (length code)))
