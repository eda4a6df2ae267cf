-- What `find` answers and leaves behind: demand 2 in one definition, by the reading, the number of rows, the exact conditions
-- of a run and the standard's search. Definitions only.
use Rattle.std.specs.Prelude.{◌≡◌, Result, Ok, Err, List, ◌++◌, ℕ, ◌+◌, ◌*◌, ◌-◌, ◌≤◌, ℤ, length, get_or}
use Rattle.std.proofs.Math.Option.{Option}
use Rattle.meaning.specs.Limits.{workspace_words}
use Rattle.meaning.specs.Refusing.{number_of}
use Rattle.meaning.specs.declared.refusals.Refused.{Refused as Turned}
use Rattle.meaning.specs.Grounds.{Ground, first_of}
use Rattle.meaning.specs.Text.{Regs}
use Rattle.meaning.specs.Bytes.{text_of}
use Rattle.meaning.specs.Node.{Node}
use Rattle.meaning.specs.Standard.{search_from}
use Rattle.machine.specs.Layout.{program_of}
use Rattle.machine.specs.Steps.{run, count, search_row}
use Rattle.machine.specs.Replies.{Reply, Reply.found, Reply.missing, Reply.refused, values_of, Lent, lent_by, lent_grounds}
use Rattle.machine.specs.Replies.{reply_to, registers_from}
use Rattle.reading_items.specs.Reading.{Reading, Reading.pattern, Reading.refused as unread, reading}
use Rattle.code_rows.specs.Emission.{rows_needed}
use Rattle.compiler.specs.Compiling.{plain, program_grounds, table_at, code_at}
use Rattle.engine.specs.Answers.{Answer, reply_of}
use Rattle.engine.specs.declared.Answer.{Answer as Counted}

-- What `find` answers: found or none with the count of rows executed, or the number and the place of a refusal.
pub data Finding : Type 0 where
  Found : ℕ → Finding
  Missing : ℕ → Finding
  Refused : ℕ → ℕ → Finding

abbrev pub finding_view : Result Counted Turned → Finding
finding_view (Ok (Counted.Found executed)) = Found executed
finding_view (Ok (Counted.Missing executed)) = Missing executed
finding_view (Err e) = Refused (number_of e.why) e.place

-- A run's reply as an answer of `find`.
abbrev pub finding_from : Reply → Finding
finding_from (found executed) = Found executed
finding_from (missing executed) = Missing executed
finding_from (refused number) = Refused number (values_of (refused number)).place

abbrev pub finding_of : Answer → Finding
finding_of r = finding_from (reply_of r)

-- What the standard's search from the start finds, and how many rows the steps execute.
abbrev pub sought : Node → ℕ → Lent → Option Regs
sought r g lent = search_from (text_of lent.text) g r lent.start

abbrev pub steps_taken : Node → ℕ → Lent → ℕ
steps_taken r g lent = count (run (text_of lent.text) (program_of g r) lent.start search_row)

-- The grounds for which a pattern that was read is refused, in order: those for which it has no program in so many words of
-- code, and those in what is lent to its run.
abbrev pub find_grounds : Node → ℕ → ℕ → Lent → List Ground
find_grounds r g words lent = program_grounds plain r words ++ lent_grounds (rows_needed r) g lent

-- The outline's number and values for each case: refused by the first ground that holds, or found, or none exactly if the
-- search finds nothing.
abbrev pub finding_by : Reading → ℕ → Lent → Finding
finding_by (pattern r g) words lent =
    finding_from (reply_to (first_of (find_grounds r g words lent)) (sought r g lent) (steps_taken r g lent))
finding_by (unread number place) words lent = Refused number place

-- The answer to a pattern with so many table words, so many code words and what is lent to its run.
abbrev pub finding : List ℕ → ℕ → ℕ → Lent → Finding
finding s table code lent = finding_by (reading s table) code lent

-- The registers: the spans of what was found, all -1 on none, and later ones as they were; all as they were on a refusal.
abbrev pub spans_by : Reading → ℕ → Lent → List ℤ → List ℤ
spans_by (pattern r g) words lent before = registers_from (first_of (find_grounds r g words lent)) g (sought r g lent) before
spans_by (unread number place) words lent before = before

abbrev pub spans_left : List ℕ → ℕ → ℕ → Lent → List ℤ → List ℤ
spans_left s table code lent before = spans_by (reading s table) code lent before

-- How many workspace words a run of the pattern needs, and how many rows it has; none if there is no pattern.
abbrev pub words_needed : Reading → ℕ
words_needed (pattern r g) = workspace_words (rows_needed r) g
words_needed (unread number place) = 0

abbrev pub rows_had : Reading → ℕ
rows_had (pattern r g) = rows_needed r
rows_had (unread number place) = 0

-- The count of rows executed.
abbrev pub counted : Finding → ℕ
counted (Found executed) = executed
counted (Missing executed) = executed
counted (Refused number place) = 0

-- The promise of `find`. Table and code are what `compile` leaves; workspace words behind those that a run needs stay, all of
-- them on a refusal.
pub record Finds (s text : List ℕ) (start : ℕ) (table table' code code' : List ℕ) (registers registers' : List ℤ)
    (workspace workspace' : List ℕ) (answer : Finding) : Type 0 where
  pub answers : answer ≡ finding s (length table) (length code) (lent_by text start registers workspace)
  pub table_is : table' ≡ table_at plain s table code
  pub code_is : code' ≡ code_at plain s table code
  pub spans_are : registers' ≡ spans_left s (length table) (length code) (lent_by text start registers workspace) registers
  pub long : length workspace' ≡ length workspace
  pub later : (i : ℕ) → words_needed (reading s (length table)) ≤ i → get_or workspace' i 0 ≡ get_or workspace i 0
  pub untouched : (number place : ℕ) → answer ≡ Refused number place → workspace' ≡ workspace
  pub bounded : counted answer ≤ 2 * rows_had (reading s (length table)) * (length text - start + 1)
