-- What the intake program writes for a text line is what the standard's search finds on the pattern of the first line.
-- The definitions stand here; proofs/IntakeAnswers.antt has the theorems.
use Rattle.std.specs.Prelude.{List, [], ◌∷◌, map}
use Rattle.std.proofs.Math.Option.{Option, none, some}
use Prim.Native.Nat.{ℕ, zero, suc}
use Rattle.std.proofs.Math.Dec.{ltb}
use Rattle.std.proofs.Math.ListN.{length}
use Rattle.meaning.specs.Text.{Regs}
use Rattle.meaning.specs.Limits.{workspace_words, workspace_size}
use Rattle.meaning.specs.Refusals as No
use Rattle.meaning.specs.Grounds.{Ground, ground}
use Rattle.machine.specs.Replies.{shown}
use Rattle.intake_report.specs.Texts.{spans_line, refused_run, none_line}
use Rattle.intake_lines.specs.Intake.{line_limit}

-- The line for a text line, by the number of a refusal and by what was found: starts and ends, or `none`.
abbrev pub line_saying : ℕ → Option Regs → List ℕ
line_saying zero (some ρ) = spans_line (map shown ρ)
line_saying zero none = none_line
line_saying (suc number) result = refused_run (suc number)

-- The grounds for refusing a line: it is too long, or the run of n rows and g groups needs more workspace than there is.
abbrev pub line_grounds : ℕ → ℕ → List ℕ → List Ground
line_grounds n g line =
    ground No.long_text (ltb line_limit (length line)) ∷ ground No.small_workspace (ltb workspace_size (workspace_words n g)) ∷ []
