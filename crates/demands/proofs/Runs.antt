-- What the promises of a run say of any code, and of code that says a pattern: the bound, the count, and the answer of the
-- standard.
use Rattle.std.specs.Prelude.{◌≡◌, refl, Bool, List, ℕ, suc, ◌+◌, ◌*◌, ◌-◌, ◌≤◌, ◌<◌, ℤ, length}
use Rattle.std.proofs.Common.{sym, ap₂, subst, ◌∙◌, arith}
use Rattle.std.proofs.Math.Path.{ap}
use Rattle.std.proofs.Math.Option.{Option, none, some}
use Rattle.meaning.specs.Text.{Regs}
use Rattle.meaning.specs.Bytes.{Bytes, text_of}
use Rattle.meaning.specs.Limits.{least_rows}
use Rattle.meaning.specs.Node.{Node}
use Rattle.machine.specs.Steps.{Machine, best, count, seen, Done}
use Rattle.machine.proofs.Passed.{run_done, run_at_position, run_frugal}
use Rattle.machine.proofs.Coded.{rows_in_length}
use Rattle.machine.specs.Words.{rows_said, groups_said, rows_in, decode}
use Rattle.machine.specs.Allowed.{within, Allowed, allowed}
use Rattle.running_moves.specs.Ready.{Ready, ready}
use Rattle.machine.specs.Replies.{values_of, Lent, lent_by, turned_away, refusal}
use Rattle.machine.specs.Replies.{run_of, answer_of, reply_to, reply, registers_from, registers_after}
use Rattle.compiler.specs.Compiling.{Compiles}
use Rattle.millkettle.specs.Compiled.{Coded, Compiled, compiled}
use Rattle.compiler.specs.Compiling.{Compilation.Rows}
use Rattle.engine.specs.Answers.{reply_of, executed, Answered}
use Rattle.engine.specs.Answers.{Answer}
use Rattle.engine.specs.Answers.{Answer.Found, Answer.Missing, Answer.Refused}
use Rattle.millkettle.specs.Laws.{Way, Way.matching, Way.searching, row_of, standard_by, finds, conditions}
use Rattle.reading_grammar.proofs.Sound.{Sound, sound}
use Rattle.demands.proofs.Patterns.{answered_exactly, derives, derived_bytes}
use Rattle.demands.specs.Runs.{SomeStandard, Standard, answer_as, steps_of}

told_back : (r : Answer) → answer_as (reply_of r) ≡ r
unfolding answer_as
told_back (Found n) = refl
told_back (Missing n) = refl
told_back (Refused n) = refl

pub one_answer : (r q : Answer) → reply_of r ≡ reply_of q → r ≡ q
one_answer r q e = sym (told_back r) ∙ ap answer_as e ∙ told_back q

pub count_of_lem : (o : Option Regs) (n : ℕ) → (values_of (answer_of o n)).count ≡ n
count_of_lem none n = refl
count_of_lem (some ρ) n = refl

-- Both ways begin at a row that any code has.
pub row_few : (way : Way) → row_of way < least_rows
row_few matching = omega arith
row_few searching = omega arith

-- A run that is not turned away: it has ended, and on its way no more than two rows are executed for each row at any one
-- position, and so for each position.
module _ (way : Way) (code text : List ℕ) (start : ℕ) (registers : List ℤ) (workspace : List ℕ)
    (e : refusal code (lent_by text start registers workspace) ≡ 0) where
  allows : Allowed code (lent_by text start registers workspace)
  allows = allowed code (lent_by text start registers workspace) e

  ready_code : Ready code
  ready_code = ready code allows.passes

  row_low : row_of way < length (rows_in code (rows_said code) 0)
  row_low = omega (arith, rows_in_length code (rows_said code) 0, ready_code.least, row_few way)

  pub ended_run : Done (run_of code text start (row_of way))
  ended_run = run_done (decode code) ready_code.rows (text_of text) start (row_of way) row_low allows.inside

  pub position_rows : (m : ℕ) → length (seen (steps_of code text start (row_of way) m)) ≤ 2 * rows_said code
  position_rows m =
      omega (
        arith,
        rows_in_length code (rows_said code) 0,
        run_at_position (decode code) ready_code.rows (text_of text) start (row_of way) row_low allows.inside m,
      )

  pub few_rows : count (run_of code text start (row_of way)) ≤ 2 * rows_said code * (length text - start + 1)
  few_rows = subst (λ (n : ℕ). count (run_of code text start (row_of way)) ≤ 2 * n * (length text - start + 1))
      (rows_in_length code (rows_said code) 0)
      (run_frugal (decode code) ready_code.rows (text_of text) start (row_of way) row_low allows.inside)

-- Demand 1: for any code, text, start and buffers, at most two rows are executed for each row and position,
module _ {code text : List ℕ} {start row : ℕ} {registers registers' : List ℤ} {workspace workspace' : List ℕ} {r : Answer}
    (a : Answered code text start row registers workspace r registers' workspace') where
  abbrev lent : Lent
  lent = lent_by text start registers workspace

  abbrev M : Machine
  M = run_of code text start row

  pub bounded_rows : executed r ≤ 2 * rows_said code * (length text - start + 1)
  bounded_rows = a.bounded

  pub replied : (k : ℕ) → refusal code lent ≡ k → reply_of r ≡ reply_to k (best M) (count M)
  unfolding reply
  replied k e = a.replies ∙ ap (λ n. reply_to n (best M) (count M)) e

  -- a run that is not turned away reports the steps' count,
  pub counted_rows : refusal code lent ≡ 0 → executed r ≡ count M
  counted_rows e = ap (λ x. (values_of x).count) (replied 0 e) ∙ count_of_lem (best M) (count M)

  -- and one that is turned away says the first number in order whose condition holds, and changes nothing.
  pub turned_rows : (k : ℕ) → refusal code lent ≡ suc k
      → (r ≡ Refused (suc k)) × (registers' ≡ registers) × (workspace' ≡ workspace)
  unfolding registers_after
  turned_rows k e =
      let is : r ≡ Refused (suc k) = one_answer r (Refused (suc k)) (replied (suc k) e) in
      (is, a.spans ∙ ap (λ k. registers_from k (groups_said code) (best M) registers) e, a.untouched (suc k) is)

pub answers_standard : (way : Way) {code text : List ℕ} {start : ℕ} {registers registers' : List ℤ}
    {workspace workspace' : List ℕ}
    {n g : ℕ} {r : Node} {answer : Answer} → Bytes text → Coded code n g r
    → Answered code text start (row_of way) registers workspace answer registers' workspace'
    → Standard way r n g text start registers registers' workspace answer
unfolding registers_after
answers_standard way {code} {text} {start} {registers} {workspace = workspace} {n = n} {g = g} {r = r} bytes m a =
    let lent : Lent = lent_by text start registers workspace in
    let M : Machine = run_of code text start (row_of way) in
    let same : refusal code lent ≡ turned_away n g lent = conditions m lent in
    let same-found : turned_away n g lent ≡ 0 → best M ≡ standard_by way text g r start
    = λ e. finds m text bytes start way (within n g lent e) in
    record {
      answers = λ e. replied a 0 (same ∙ e) ∙ ap₂ answer_of (same-found e) (sym (counted_rows a (same ∙ e)));
      spans_are = λ e. a.spans ∙ ap (λ k. registers_from k (groups_said code) (best M) registers) (same ∙ e)
          ∙ ap₂ (λ k o. registers_from 0 k o registers) m.groups_said_lem (same-found e);
      refuses = λ k e. (turned_rows a k (same ∙ e)).0;
    }

-- Code that is the same says the same.
pub coded_as : {c d : List ℕ} {n g : ℕ} {r : Node} → c ≡ d → Coded d n g r → Coded c n g r
coded_as e m = rw e m

-- A pattern that is answered with rows is bytes.
pub rows_bytes : {tidying : Bool} {s table table' code code' : List ℕ} {n g : ℕ}
    → Compiles tidying s table table' code code' (Rows n g) → Bytes s
rows_bytes {n = n} {g = g} c = derived_bytes (derives ((answered_exactly c (Rows n g)).0 refl)).1

pub compiled_standard : (tidying : Bool) (way : Way) {s text : List ℕ} {start : ℕ} {table table' code code' : List ℕ}
    {registers registers' : List ℤ} {workspace workspace' : List ℕ} {n g : ℕ} {answer : Answer} → Bytes text
    → Compiles tidying s table table' code code' (Rows n g)
    → Answered code' text start (row_of way) registers workspace answer registers' workspace'
    → SomeStandard tidying way s table text start n g registers registers' workspace answer
compiled_standard tidying way {s} {table = table} {code = code} {n = n} {g = g} bt h a =
    let m : Compiled tidying s table code n g = compiled tidying s table code n g (rows_bytes h) (sym h.answers) in
    record {
      node = m.node;
      is_read = m.is_read;
      is_derived = subst (Sound s (length table)) m.is_read (sound s (length table));
      standard = answers_standard way bt (coded_as h.code_is m.is_coded) a;
    }
