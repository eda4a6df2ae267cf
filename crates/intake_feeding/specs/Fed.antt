-- What the functions that take the input promise. Definitions only.
use Rattle.std.specs.Prelude.{◌≡◌, List, ℕ, ◌≤◌, ltb, length, take}
use Rattle.intake_report.specs.Wrote.{Wrote}
use Rattle.intake_lines.specs.declared.Phase.{Phase}
use Rattle.intake_feeding.specs.Work.{Work, kept_limit, keep, text_at, work_at, written, work_behind, taken_of}
use Rattle.intake_feeding.specs.declared.Fed.{Fed}

-- The work that a phase, a number of kept bytes, the line's bytes and the code stand for: no more is kept than the line has.
abbrev pub work_of : Phase → ℕ → List ℕ → List ℕ → Work
work_of phase kept line code = record { phase = phase; code = code; kept = take kept line }

-- A byte was kept.
pub record Keeps (kept byte : ℕ) (line line' : List ℕ) (r : ℕ) : Type 0 where
  pub line_is : take r line' ≡ keep (take kept line) byte
  pub few : r ≤ kept_limit

-- A byte more was taken, and is not counted yet.
pub record Steps (fed : Fed) (byte : ℕ) (line line' code code' out out' : List ℕ) (r : Fed) : Type 0 where
  pub work_is : work_of r.phase r.kept line' code' ≡ work_at (work_of fed.phase fed.kept line code) byte
  pub text_is : Wrote out out' fed.end (text_at (work_of fed.phase fed.kept line code) byte) r.end
  pub few : r.kept ≤ kept_limit

-- A piece was taken as far as there is room; some of it is left exactly where there is no room for a line more.
pub record Feeds (phase : Phase) (kept : ℕ) (piece line line' code code' out out' : List ℕ) (r : Fed) : Type 0 where
  pub taken_is : r.taken ≡ taken_of (work_of phase kept line code) (length out) piece
  pub work_is : work_of r.phase r.kept line' code' ≡ work_behind (work_of phase kept line code) (take r.taken piece)
  pub text_is : Wrote out out' 0 (written (work_of phase kept line code) (take r.taken piece)) r.end
  pub few : r.kept ≤ kept_limit
  pub full_is : r.full ≡ ltb r.taken (length piece)

-- Line, table and workspace are as they were.
abbrev pub Untouched : List ℕ → List ℕ → List ℕ → List ℕ → List ℕ → List ℕ → Type 0
Untouched line line' table table' workspace workspace' = (line' ≡ line) × (table' ≡ table) × (workspace' ≡ workspace)
