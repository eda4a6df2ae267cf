-- The intake's work byte by byte: what is kept between two pieces of the input, and what is written. Definitions only.
use Rattle.std.specs.Prelude.{cond, List, [], ◌∷◌, ◌++◌, ℕ, suc, ◌+◌, ◌-◌, eqb, leb, length, replicate}
use Rattle.meaning.specs.Limits.{code_size, line_feed}
use Rattle.intake_report.specs.Texts.{lf}
use Rattle.intake_lines.specs.Intake.{line_limit}
use Rattle.intake_lines.specs.Ended.{line_room, phase_then, code_then, text_then}
use Rattle.intake_lines.specs.declared.Phase.{Phase}
use Rattle.intake_lines.specs.declared.Phase.TheVariants.{Pattern}

-- Where the work stands, the code, and what is kept of the present line.
pub record Work : Type 0 where
  pub phase : Phase
  pub code : List ℕ
  pub kept : List ℕ

-- No byte was read yet, and the code is zero.
abbrev pub at_first : Work
at_first = record { phase = Pattern; code = replicate code_size 0; kept = [] }

-- A line is kept up to one byte more than its limit, which shows that it is too long.
abbrev pub kept_limit : ℕ
kept_limit = line_limit + 1

abbrev pub keep : List ℕ → ℕ → List ℕ
keep kept byte = cond (leb kept_limit (length kept)) kept (kept ++ byte ∷ [])

-- The end of the present line: what is written for it, and the work behind it.
abbrev pub line_text : Work → List ℕ
line_text w = text_then w.phase w.code w.kept

abbrev pub next_line : Work → Work
next_line w = record { phase = phase_then w.phase w.kept; code = code_then w.phase w.code w.kept; kept = [] }

-- A byte more: LF ends the line, any other is the line's.
abbrev pub text_at : Work → ℕ → List ℕ
text_at w byte = cond (eqb byte line_feed) (line_text w) []

abbrev pub work_at : Work → ℕ → Work
work_at w byte = cond (eqb byte line_feed) (next_line w) (record { phase = w.phase; code = w.code; kept = keep w.kept byte })

-- What is written for a piece of the input, and the work behind it.
unfoldable pub written : Work → List ℕ → List ℕ
written w [] = []
written w (byte ∷ l) = text_at w byte ++ written (work_at w byte) l

unfoldable pub work_behind : Work → List ℕ → Work
work_behind w [] = w
work_behind w (byte ∷ l) = work_behind (work_at w byte) l

-- How many bytes of a piece are taken: each asks for room for a line, and has what those before it left of the room.
unfoldable pub taken_of : Work → ℕ → List ℕ → ℕ
taken_of w room [] = 0
taken_of w room (byte ∷ l) =
    cond (leb line_room room) (suc (taken_of (work_at w byte) (room - length (text_at w byte)) l)) 0

-- The input's end: a last line without LF counts unless it is empty, as if LF ended it.
abbrev pub unless_empty : List ℕ → List ℕ → List ℕ
unless_empty [] text = []
unless_empty (byte ∷ l) text = text

abbrev pub last_bytes : Work → List ℕ
last_bytes w = unless_empty w.kept lf

abbrev pub last_text : Work → List ℕ
last_text w = unless_empty w.kept (line_text w)

-- What is written for an input that comes in pieces, its end included.
abbrev pub written_for : Work → List (List ℕ) → List ℕ
written_for w [] = last_text w
written_for w (piece ∷ pieces) = written w piece ++ written_for (work_behind w piece) pieces
