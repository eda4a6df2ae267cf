-- What a pattern is answered with by `compile` and `compile_tidied`, by the grammar's own words and no parser's, and what they
-- leave behind.
-- The definitions stand here; proofs/Patterns.antt has the theorems.
use Rattle.std.specs.Prelude.{◌≡◌, Bool, List, ℕ, ◌≤◌, ◌<◌, length, replicate}
use Rattle.meaning.specs.Limits.{table_words, row_limit, code_words}
use Rattle.meaning.specs.Refusals as No
use Rattle.meaning.specs.Node.{Node}
use Rattle.reading_grammar.specs.Grammar.{Derives}
use Rattle.reading_grammar.specs.Refusals.{TurnedAway}
use Rattle.code_rows.specs.Emission.{rows_needed}
use Rattle.compiler.specs.Compiling.{shaped}
use Rattle.compiler.specs.Compiling.{Compilation}
use Rattle.compiler.specs.Compiling.{Compilation.Rows, Compilation.Refused}

-- What is answered, with so many words of table and of code: 1 to 14 by the table of refusals, read beside the grammar; of what
-- derives and has a table's room, 15 by its rows and 16 by the rows that are written, both at place 0; and rows otherwise.
pub data Replies (tidying : Bool) (s : List ℕ) (table code : ℕ) : Compilation → Type 0 where
  turned : {k p : ℕ} → TurnedAway s table k p → Replies tidying s table code (Refused k p)
  many : {r : Node} {g : ℕ} → Derives s r g → table_words (length s) ≤ table → row_limit < rows_needed r
      → Replies tidying s table code (Refused No.many_rows 0)
  short : {r : Node} {g : ℕ} → Derives s r g → table_words (length s) ≤ table → rows_needed r ≤ row_limit
      → code < code_words (rows_needed (shaped tidying r)) → Replies tidying s table code (Refused No.short_code 0)
  rows : {r : Node} {g : ℕ} → Derives s r g → table_words (length s) ≤ table → rows_needed r ≤ row_limit
      → code_words (rows_needed (shaped tidying r)) ≤ code
      → Replies tidying s table code (Rows (rows_needed (shaped tidying r)) g)

-- What a refusal leaves: the code as it was, and the table as it was for 1 to 3, of zeros for 4 to 16.
pub record Left (table table' code code' : List ℕ) (k : ℕ) : Type 0 where
  pub code_stays : code' ≡ code
  pub table_stays : k ≤ No.high_byte → table' ≡ table
  pub table_zero : No.high_byte < k → table' ≡ replicate (length table) 0
