-- What the intake program writes, whole, as a function of the bytes that it reads. Definitions only.
use Rattle.std.specs.Prelude.{cond, List, [], ◌∷◌, ◌++◌, ℕ, leb, ℤ, pos, length, take, replicate}
use Rattle.meaning.specs.Text.{registers_of}
use Rattle.meaning.specs.Limits.{group_limit, table_size, code_size, workspace_size}
use Rattle.meaning.specs.Refusals as No
use Rattle.meaning.specs.Results.{concat_map}
use Rattle.machine.specs.Steps.{search_row}
use Rattle.machine.specs.Words.{groups_said}
use Rattle.machine.specs.Replies.{Reply, Reply.found, Reply.missing, Reply.refused, Lent, lend, reply, registers_after}
use Rattle.reading_items.specs.Reading.{reading}
use Rattle.millkettle.specs.Calls.Compiling.{plain, answer_by, code_left}
use Rattle.millkettle.specs.Calls.{Compilation}
use Rattle.millkettle.specs.Calls.Compiling.{Rows, Refused}
use Rattle.intake_report.specs.Texts.{spans_line, header_line, refused_at, refused_run, none_line}
use Rattle.intake_report.specs.Lines.{lines_of}

-- The bytes of a line, and registers for as many groups as there may be.
abbrev pub line_limit : ℕ
line_limit = 4096

abbrev pub register_count : ℕ
register_count = registers_of group_limit

-- What becomes of a pattern line, and the code that it leaves.
abbrev pub compiled : List ℕ → Compilation
compiled pattern = answer_by plain (reading pattern table_size) code_size

abbrev pub code_from : List ℕ → List ℕ → List ℕ
code_from pattern code = code_left plain (reading pattern table_size) code

-- The line for a pattern: its rows and groups, or the refusal's number and place.
abbrev pub pattern_line : Compilation → List ℕ
pattern_line (Rows rows groups) = header_line rows groups
pattern_line (Refused number place) = refused_at number place

-- The line for a run's reply: its numbers, `none`, or the number by which it was turned away.
abbrev pub reply_line : Reply → List ℤ → List ℕ
reply_line (found executed) numbers = spans_line numbers
reply_line (missing executed) numbers = none_line
reply_line (refused number) numbers = refused_run number

-- What is lent to a search of a line from 0, and the starts and ends of all groups after it.
abbrev pub lent_for : List ℕ → Lent
lent_for line = lend line 0 register_count workspace_size

abbrev pub numbers_for : List ℕ → List ℕ → List ℤ
numbers_for code line =
    take (registers_of (groups_said code)) (registers_after code (lent_for line) search_row (replicate register_count (pos 0)))

-- The line for a text line: 21 if it is too long, else the reply to a search from 0.
unfoldable pub line_for : List ℕ → List ℕ → List ℕ
line_for code line =
    cond (leb (length line) line_limit)
    (reply_line (reply code (lent_for line) search_row) (numbers_for code line))
    (refused_run No.long_text)

-- The lines for all text lines; a refused pattern ends the work.
abbrev pub lines_for : Compilation → List ℕ → List (List ℕ) → List ℕ
lines_for (Rows rows groups) code lines = concat_map (line_for code) lines
lines_for (Refused number place) code lines = []

-- What is written for the lines that were read: the first is the pattern. No pattern line, no output.
abbrev pub output_for : List (List ℕ) → List ℕ
output_for [] = []
output_for (pattern ∷ lines) =
    pattern_line (compiled pattern) ++ lines_for (compiled pattern) (code_from pattern (replicate code_size 0)) lines

-- The program's output, for every input.
unfoldable pub intake_output : List ℕ → List ℕ
intake_output input = output_for (lines_of input)
