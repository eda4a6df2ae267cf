-- What a call promises. Definitions only.
use Rattle.std.specs.Prelude.{◌≡◌, Result, Ok, Err, List, ℕ, ◌+◌, ◌*◌, ◌-◌, ◌≤◌, ℤ, length, get_or}
use Rattle.meaning.specs.Limits.{workspace_words}
use Rattle.meaning.specs.Refusing.{number_of}
use Rattle.meaning.specs.declared.refusals.Refusal.{Refusal}
use Rattle.machine.specs.Words.{rows_said, groups_said}
use Rattle.machine.specs.Replies.{Reply, Reply.found, Reply.missing, Reply.refused, values_of, lent_by, reply}
use Rattle.machine.specs.Replies.{registers_after, shown}
use Rattle.running_threads.specs.Threads.{reg_of}
use Rattle.engine.specs.declared.Answer.{Answer as Counted}

-- What a call answers: found or none with the count of rows executed, or turned away by a number.
pub data Answer : Type 0 where
  Found : ℕ → Answer
  Missing : ℕ → Answer
  Refused : ℕ → Answer

abbrev pub answer_of : Result Counted Refusal → Answer
answer_of (Ok (Counted.Found executed)) = Found executed
answer_of (Ok (Counted.Missing executed)) = Missing executed
answer_of (Err why) = Refused (number_of why)

-- The outline's reply for each case: found or none with the count of rows executed, or turned away by a number.
abbrev pub reply_of : Answer → Reply
reply_of (Found executed) = found executed
reply_of (Missing executed) = missing executed
reply_of (Refused number) = refused number

-- The count of rows executed.
abbrev pub executed : Answer → ℕ
executed r = (values_of (reply_of r)).count

-- The number that a register's word shows.
abbrev pub shown_word : ℕ → ℤ
shown_word v = shown (reg_of v)

-- The answer to a call that begins at a row, what it leaves in the registers, and which words of the workspace stay: those
-- behind the words that a run needs, and all of them if it was turned away. Nothing is promised of the words that a run needs
-- (WORKSPACE.md).
pub record Answered (code text : List ℕ) (start row : ℕ) (registers : List ℤ) (workspace : List ℕ) (r : Answer)
    (registers' : List ℤ) (workspace' : List ℕ) : Type 0 where
  pub replies : reply_of r ≡ reply code (lent_by text start registers workspace) row
  pub spans : registers' ≡ registers_after code (lent_by text start registers workspace) row registers
  pub long : length workspace' ≡ length workspace
  pub later : (i : ℕ) → workspace_words (rows_said code) (groups_said code) ≤ i → get_or workspace' i 0 ≡ get_or workspace i 0
  pub untouched : (number : ℕ) → r ≡ Refused number → workspace' ≡ workspace
  pub bounded : executed r ≤ 2 * rows_said code * (length text - start + 1)
