-- Code that says a pattern's program: what a run of it finds is the standard's answer, under the exact conditions of a run.
use Rattle.std.specs.Prelude.{◌≡◌, List, ℕ, ◌≤◌, length}
use Rattle.std.proofs.Common.{ap, ◌∙◌}
use Rattle.std.proofs.Math.Option.{Option}
use Rattle.meaning.specs.Text.{Regs}
use Rattle.meaning.specs.Bytes.{Bytes, text_of}
use Rattle.meaning.specs.Node.{Node}
use Rattle.meaning.specs.Standard.{match_at, search_from}
use Rattle.machine.specs.Steps.{run, best, match_row, search_row}
use Rattle.machine.specs.Layout.{program_of}
use Rattle.machine.specs.Words.{decode}
use Rattle.machine.proofs.Answers.{matched, searched}
use Rattle.machine.specs.Replies.{Lent, refusal, turned_away}
use Rattle.millkettle.specs.Compiled.{Coded}

-- A way to run: at the start, or searching from it on; the row that it begins at, and what the standard's algorithm finds.
pub data Way : Type 0 where
  matching : Way
  searching : Way

abbrev pub row_of : Way → ℕ
row_of matching = match_row
row_of searching = search_row

abbrev pub standard_by : Way → List ℕ → ℕ → Node → ℕ → Option Regs
standard_by matching text g r start = match_at (text_of text) g r start
standard_by searching text g r start = search_from (text_of text) g r start

-- Demand 2 for such code, for every text, start, registers and workspace.
module _ {code : List ℕ} {n g : ℕ} {r : Node} (m : Coded code n g r) where
  -- The conditions of its runs, in order: its code passes.
  pub conditions : (lent : Lent) → refusal code lent ≡ turned_away n g lent
  unfolding refusal
  conditions lent = rw (m.passes, m.rows_said_lem, m.groups_said_lem)

  module _ (text : List ℕ) (bytes : Bytes text) (start : ℕ) where
    -- The run of the code is the run of the pattern's program.
    pub same_run : (row : ℕ) → run (text_of text) (decode code) start row ≡ run (text_of text) (program_of g r) start row
    same_run row = ap (λ p. run (text_of text) p start row) m.says

    pub finds : (way : Way) → start ≤ length text
        → best (run (text_of text) (decode code) start (row_of way)) ≡ standard_by way text g r start
    finds matching h = ap best (same_run match_row) ∙ matched text g r m.numbers bytes m.proper start h
    finds searching h = ap best (same_run search_row) ∙ searched text g r m.numbers bytes m.proper start h
