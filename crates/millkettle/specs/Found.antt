-- From what `compile` and a run promise to the promise of `find`.
use Rattle.std.specs.Prelude.{◌≡◌, refl, Ok, List, ℕ, zero, suc, ℤ, length}
use Rattle.std.proofs.Common.{sym, subst, ◌∙◌, arith}
use Rattle.std.proofs.Math.Path.{ap, ap₂}
use Rattle.std.proofs.Math.Option.{Option}
use Rattle.meaning.specs.Text.{Regs}
use Rattle.meaning.specs.Bytes.{Bytes}
use Rattle.meaning.specs.Grounds.{first_of, NoneOf, exactly_told, first_before, none_before}
use Rattle.machine.specs.Steps.{Machine, best, count, search_row}
use Rattle.machine.specs.Allowed.{within}
use Rattle.machine.specs.Replies.{Lent, lent_by, lent_grounds, refusal, turned_away, run_of, answer_of, reply_to, reply}
use Rattle.machine.specs.Replies.{registers_from, registers_after}
use Rattle.reading_items.specs.Reading.{Reading, Reading.pattern, Reading.refused, reading}
use Rattle.code_rows.specs.Emission.{rows_needed}
use Rattle.compiler.specs.Compiling.{plain, program_grounds, unwritten, answer_for, answer_by, table_at, code_at, Compiles}
use Rattle.millkettle.specs.Compiled.{Compiled, compiled}
use Rattle.compiler.specs.Compiling.{Compilation}
use Rattle.compiler.specs.Compiling.{Compilation.Rows, Compilation.Refused as Turned}
use Rattle.engine.specs.Answers.{executed, answer_of as answer_is, Answered}
use Rattle.engine.specs.declared.Answer.{Answer as Counted}
use Rattle.engine.specs.Answers.{Answer}
use Rattle.engine.specs.Answers.{Answer.Found as Ran, Answer.Missing as Ended, Answer.Refused as Stopped}
use Rattle.millkettle.specs.Finding.{sought, steps_taken, find_grounds, finding_by, finding, finding_from, finding_of, finding_view}
use Rattle.millkettle.specs.Finding.{spans_by, spans_left, counted, Finds}
use Rattle.millkettle.specs.Laws.{Way.searching, conditions, same_run, finds}
use Rattle.millkettle.specs.Finding.{Finding, Finding.Refused}

counted_of : (r : Answer) → counted (finding_of r) ≡ executed r
counted_of (Ran n) = refl
counted_of (Ended n) = refl
counted_of (Stopped n) = refl

-- What a run finds is what `find` finds.
pub found_view : (r : Counted) → finding_view (Ok r) ≡ finding_of (answer_is (Ok r))
found_view (Counted.Found n) = refl
found_view (Counted.Missing n) = refl

-- A pattern that is refused is refused by `find`: registers and workspace stay.
turned : {n p : ℕ} (words : ℕ) (x : Reading) → Turned n p ≡ answer_by plain x words → (lent : Lent) (before : List ℤ)
    → (Refused n p ≡ finding_by x words lent) × (before ≡ spans_by x words lent before)
turned {n} {p} words (pattern r g) e lent before = go (unwritten plain r words) refl e
  where
    go : (k : ℕ) → unwritten plain r words ≡ k → Turned n p ≡ answer_for k r g
        → (Refused n p ≡ finding_by (pattern r g) words lent) × (before ≡ spans_by (pattern r g) words lent before)
    go zero u e = absurd (let z : ◌≡◌ {A = ℕ} 0 1 = cc in omega arith)
    go (suc k) u e =
        let first = first_before (program_grounds plain r words) (lent_grounds (rows_needed r) g lent) k u in
        let number : n ≡ suc k = cc in
        let place : p ≡ 0 = cc in
        (rw first (ap₂ Refused number place), rw first)
turned {n} {p} words (refused m q) e lent before = let u : n ≡ m = cc in let v : p ≡ q = cc in (ap₂ Refused u v, refl)

-- What was lent, and the code that `compile` leaves.
module _ (s text : List ℕ) (start : ℕ) (table code : List ℕ) (registers : List ℤ) (workspace : List ℕ) where
  module _ {table' code' : List ℕ} where
    pub refused_finds : {answer : Compilation} {n p : ℕ} → Compiles plain s table table' code code' answer → answer ≡ Turned n p
        → Finds s text start table table' code code' registers registers workspace workspace (Refused n p)
    refused_finds {n = n} {p = p} h e =
        let x : Reading = reading s (length table) in
        let lent : Lent = lent_by text start registers workspace in
        let (answers, spans) = turned (length code) x (sym e ∙ h.answers) lent registers in
        record {
          answers = answers;
          table_is = h.table_is;
          code_is = h.code_is;
          spans_are = spans;
          long = refl;
          later = λ i l. refl;
          untouched = λ n p e. refl;
          bounded = omega arith;
        }

  -- A pattern that was compiled, and the run of its code.
  module _ {n g : ℕ} (m : Compiled plain s table code n g) (bytes : Bytes text) where
    abbrev lent : Lent
    lent = lent_by text start registers workspace

    abbrev M : Machine
    M = run_of (code_at plain s table code) text start search_row

    abbrev result : Option Regs
    result = sought m.node g lent

    abbrev number : ℕ
    number = first_of (find_grounds m.node g (length code) lent)

    -- It has a program, so that what turns its run away is in what is lent.
    number_is : refusal (code_at plain s table code) lent ≡ number
    number_is =
        let none : NoneOf (program_grounds plain m.node (length code))
        = ((exactly_told (program_grounds plain m.node (length code)) refl 0).0 m.is_written).0 in
        conditions m.is_coded lent ∙ ap (λ k. turned_away k g lent) m.is_coded.rows_are
        ∙ sym (none_before (program_grounds plain m.node (length code)) (lent_grounds (rows_needed m.node) g lent) none)

    -- Unless it is turned away what it finds is the standard's.
    found : refusal (code_at plain s table code) lent ≡ 0 → best M ≡ result
    found e = finds m.is_coded text bytes start searching (within n g lent (sym (conditions m.is_coded lent) ∙ e))

    by_number : (k : ℕ) → refusal (code_at plain s table code) lent ≡ k
        → (reply_to k (best M) (count M) ≡ reply_to k result (steps_taken m.node g lent))
        × (registers_from k g (best M) registers ≡ registers_from k g result registers)
    by_number zero e = (
      ap₂ answer_of (found e) (ap count (same_run m.is_coded text bytes start search_row)),
      ap (λ o. registers_from 0 g o registers) (found e),
    )
    by_number (suc k) e = (refl, refl)

    replied : finding_from (reply (code_at plain s table code) lent search_row) ≡ finding s (length table) (length code) lent
    unfolding reply
    replied =
        ap (λ k. finding_from (reply_to k (best M) (count M))) number_is ∙ ap finding_from (by_number number number_is).0
        ∙ ap (λ x. finding_by x (length code) lent) (sym m.is_read)

    spanned : registers_after (code_at plain s table code) lent search_row registers
        ≡ spans_left s (length table) (length code) lent registers
    unfolding registers_after
    spanned =
        ap₂ (λ k h. registers_from k h (best M) registers) number_is m.is_coded.groups_said_lem
        ∙ (by_number number number_is).1 ∙ ap (λ x. spans_by x (length code) lent registers) (sym m.is_read)

    pub ran_finds : {table' code' : List ℕ} {r : Answer} {registers' : List ℤ} {workspace' : List ℕ}
        → table' ≡ table_at plain s table code → code' ≡ code_at plain s table code
        → Answered (code_at plain s table code) text start search_row registers workspace r registers' workspace'
        → Finds s text start table table' code code' registers registers' workspace workspace' (finding_of r)
    ran_finds {r = r} t c a = record {
      answers = ap finding_from a.replies ∙ replied;
      table_is = t;
      code_is = c;
      spans_are = a.spans ∙ spanned;
      long = a.long;
      later = λ i h. a.later i (rw (m.is_coded.rows_said_lem, m.is_coded.groups_said_lem, m.is_coded.rows_are)
          (rw m.is_read at h));
      untouched = λ number place e. a.untouched number (only_stopped r number place e);
      bounded = rw (m.is_read, counted_of, ← m.is_coded.rows_are, ← m.is_coded.rows_said_lem) a.bounded;
    }
      where
        only_stopped : (r : Answer) (number place : ℕ) → finding_of r ≡ Refused number place → r ≡ Stopped number
        only_stopped (Ran k) number place e = absurd (let z : ◌≡◌ {A = ℕ} 0 1 = cc in omega arith)
        only_stopped (Ended k) number place e = absurd (let z : ◌≡◌ {A = ℕ} 0 1 = cc in omega arith)
        only_stopped (Stopped k) number place e = let u : k ≡ number = cc in ap Stopped u

-- The code that was left runs as the pattern does.
pub run_finds : {s text : List ℕ} {start : ℕ} {table table' code code' : List ℕ} {registers registers' : List ℤ}
    {workspace workspace' : List ℕ} {compiled : Compilation} {n g : ℕ} {r : Answer} {answer : Finding} → Bytes s → Bytes text
    → Compiles plain s table table' code code' compiled → compiled ≡ Rows n g
    → Answered code' text start search_row registers workspace r registers' workspace' → answer ≡ finding_of r
    → Finds s text start table table' code code' registers registers' workspace workspace' answer
run_finds {s} {text} {start} {table} {table'} {code} {code'} {registers} {registers'} {workspace} {workspace'} {n = n} {g = g}
    {r = r}
    bs bt h e a f =
    let m : Compiled plain s table code n g = compiled plain s table code n g bs (sym h.answers ∙ e) in
    subst (λ (x : Finding). Finds s text start table table' code code' registers registers' workspace workspace' x) (sym f)
    (ran_finds s text start table code registers workspace m bt h.table_is h.code_is
    (subst (λ (c : List ℕ). Answered c text start search_row registers workspace r registers' workspace') h.code_is a))
