-- What `compile` and `compile_tidied` answer and leave behind, for every pattern, table and code. Definitions only.
use Rattle.std.specs.Prelude.{◌≡◌, Bool, true, false, cond, Result, Ok, Err, List, [], ◌∷◌, ◌++◌, ℕ, zero, suc, ltb, length, drop, replicate}
use Rattle.meaning.specs.Limits.{row_limit, code_words}
use Rattle.meaning.specs.Refusals as No
use Rattle.meaning.specs.Grounds.{Ground, ground, first_of}
use Rattle.meaning.specs.Node.{Node}
use Rattle.machine.specs.Layout.{program_of}
use Rattle.machine.specs.Words.{code_of}
use Rattle.tidying_laws.specs.Tidier.{tidy}
use Rattle.reading_items.specs.Reading.{Reading, Reading.pattern, Reading.refused, reading, table_by}
use Rattle.code_rows.specs.Emission.{rows_needed}
use Rattle.meaning.specs.Refusing.{number_of}
use Rattle.meaning.specs.declared.refusals.Refused.{Refused as Turned}
use Rattle.compiler.specs.declared.Program.{Program}

-- What a pattern's compilation answers: its program's rows and groups, or a refusal's number and place.
pub data Compilation : Type 0 where
  Rows : ℕ → ℕ → Compilation
  Refused : ℕ → ℕ → Compilation

abbrev pub compilation_of : Result Program Turned → Compilation
compilation_of (Ok p) = Rows p.rows p.groups
compilation_of (Err e) = Refused (number_of e.why) e.place

-- Whether the pattern is tidied before it becomes rows, and the pattern that becomes rows.
abbrev pub plain : Bool
plain = false

abbrev pub tidied : Bool
tidied = true

abbrev pub shaped : Bool → Node → Node
shaped tidying r = cond tidying (tidy r) r

-- The grounds for which a pattern that was read has no program in so many words of code, in order: too many rows, by the
-- pattern that was read; code too short, by the one that becomes rows.
abbrev pub program_grounds : Bool → Node → ℕ → List Ground
program_grounds tidying r words =
    ground No.many_rows (ltb row_limit (rows_needed r))
    ∷ ground No.short_code (ltb words (code_words (rows_needed (shaped tidying r))))
    ∷ []

abbrev pub unwritten : Bool → Node → ℕ → ℕ
unwritten tidying r words = first_of (program_grounds tidying r words)

-- By the number of such a ground, 0 if there is none: the outline's number and values for each case; the table, which holds
-- the pattern or is zero; and the code, the program's before the words that stood behind it, or as it was.
abbrev pub answer_for : ℕ → Node → ℕ → Compilation
answer_for zero r g = Rows (rows_needed r) g
answer_for (suc number) r g = Refused (suc number) 0

abbrev pub table_for : ℕ → Node → ℕ → List ℕ → List ℕ
table_for zero r g table = table_by (pattern r g) table
table_for (suc number) r g table = replicate (length table) 0

abbrev pub code_for : ℕ → Node → ℕ → List ℕ → List ℕ
code_for zero r g code = code_of (program_of g r) ++ drop (code_words (rows_needed r)) code
code_for (suc number) r g code = code

-- What is answered about a reading with so many words of code, and the table and the code that it leaves.
abbrev pub answer_by : Bool → Reading → ℕ → Compilation
answer_by tidying (pattern r g) words = answer_for (unwritten tidying r words) (shaped tidying r) g
answer_by tidying (refused number place) words = Refused number place

abbrev pub table_left : Bool → Reading → ℕ → List ℕ → List ℕ
table_left tidying (pattern r g) words table = table_for (unwritten tidying r words) (shaped tidying r) g table
table_left tidying (refused number place) words table = table_by (refused number place) table

abbrev pub code_left : Bool → Reading → List ℕ → List ℕ
code_left tidying (pattern r g) code = code_for (unwritten tidying r (length code)) (shaped tidying r) g code
code_left tidying (refused number place) code = code

-- The answer, and the table and code at exit: one each for every pattern, table and code.
abbrev pub compilation : Bool → List ℕ → List ℕ → List ℕ → Compilation
compilation tidying s table code = answer_by tidying (reading s (length table)) (length code)

abbrev pub table_at : Bool → List ℕ → List ℕ → List ℕ → List ℕ
table_at tidying s table code = table_left tidying (reading s (length table)) (length code) table

abbrev pub code_at : Bool → List ℕ → List ℕ → List ℕ → List ℕ
code_at tidying s table code = code_left tidying (reading s (length table)) code

-- The promise of `compile`, for the plain pattern, and of `compile_tidied`, for the tidied one.
pub record Compiles (tidying : Bool) (s table table' code code' : List ℕ) (answer : Compilation) : Type 0 where
  pub answers : answer ≡ compilation tidying s table code
  pub table_is : table' ≡ table_at tidying s table code
  pub code_is : code' ≡ code_at tidying s table code
