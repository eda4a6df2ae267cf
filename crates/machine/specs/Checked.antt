-- What holds of code that passes the check; and such code is, over the words that it needs, the code of the program it says.
use Rattle.std.specs.Prelude.{◌≡◌, true, List, length}
use Prim.Native.Nat.{ℕ, ◌≤◌, ◌<◌}
use Rattle.meaning.specs.Limits.{code_words}
use Rattle.machine.specs.Kinds.{listed}
use Rattle.machine.specs.Words.{word_at, rows_said, groups_said, row_start, decode}
use Rattle.machine.specs.Words.{rows_pass, header_passes, header_clean, row_clean}

-- What the check asks, apart.
pub record Checked (code : List ℕ) : Type 0 where
  pub long : code_words (rows_said code) ≤ length code
  pub header : header_passes (rows_said code) (groups_said code) ≡ true
  pub kinds : (q : ℕ) → q < rows_said code → listed (word_at code (row_start q)) ≡ true
  pub rows : rows_pass (decode code) ≡ true
  pub header_clean_lem : header_clean code ≡ true
  pub clean : (q : ℕ) → q < rows_said code → row_clean code q ≡ true
