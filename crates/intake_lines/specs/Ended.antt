-- What the end of a line brings, by where the work stands. Definitions only.
use Rattle.std.specs.Prelude.{◌≡◌, List, [], ℕ, ◌+◌, ◌*◌}
use Rattle.millkettle.specs.Calls.{Compilation}
use Rattle.millkettle.specs.Calls.Compiling.{Rows, Refused}
use Rattle.intake_report.specs.Wrote.{Wrote}
use Rattle.intake_lines.specs.Intake.{register_count, compiled, code_from, pattern_line, line_for}
use Rattle.intake_lines.specs.declared.Phase.{Phase}
use Rattle.intake_lines.specs.declared.Phase.TheVariants.{Pattern, Texts, Over}
use Rattle.intake_lines.specs.declared.Ended.{Ended}

-- The most bytes that are written for a line: a number with its space has at most 12, and LF.
abbrev pub line_room : ℕ
line_room = 12 * register_count + 1

-- Behind a pattern that was compiled come texts; behind one that was refused nothing does.
abbrev pub phase_for : Compilation → Phase
phase_for (Rows rows groups) = Texts
phase_for (Refused number place) = Over

-- Where the work stands behind a line.
abbrev pub phase_then : Phase → List ℕ → Phase
phase_then Pattern line = phase_for (compiled line)
phase_then Texts line = Texts
phase_then Over line = Over

-- The code behind a line: the pattern line's rows, and the same code for all others.
abbrev pub code_then : Phase → List ℕ → List ℕ → List ℕ
code_then Pattern code line = code_from line code
code_then Texts code line = code
code_then Over code line = code

-- What is written for a line.
abbrev pub text_then : Phase → List ℕ → List ℕ → List ℕ
text_then Pattern code line = pattern_line (compiled line)
text_then Texts code line = line_for code line
text_then Over code line = []

-- The end of a line.
pub record Ends (phase : Phase) (line code code' out out' : List ℕ) (at : ℕ) (r : Ended) : Type 0 where
  pub phase_is : r.phase ≡ phase_then phase line
  pub code_is : code' ≡ code_then phase code line
  pub text_is : Wrote out out' at (text_then phase code line) r.end
