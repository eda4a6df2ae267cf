-- What the host surface passes: numbers for each answer, and bytes for words. Definitions only.
use Rattle.std.specs.Prelude.{◌≡◌, Result, Bool, not, ◌||◌, List, ◌∷◌, ℕ, suc, ◌<◌, ◌≤◌, ◌/◌, min, ltb, ℤ, length, get_or}
use Rattle.std.specs.Borrow.{Bor, MutBor}
use Rattle.meaning.specs.Text.{registers_of}
use Rattle.meaning.specs.Bytes.{Bytes}
use Rattle.meaning.specs.Limits.{group_limit, table_size, code_size, workspace_size, second_words}
use Rattle.meaning.specs.Refusals as No
use Rattle.meaning.specs.Grounds.{Ground, ground, first_of}
use Rattle.machine.specs.Steps.{Machine, best, count}
use Rattle.machine.specs.Words.{rows_said, groups_said, code_passes}
use Rattle.machine.specs.Replies.{Reply, Reply.refused, values_of, Lent, lend, lent_by, lent_grounds, run_of, reply_to, registers_from}
use Rattle.reading_items.specs.Reading.{reading}
use Rattle.millkettle.specs.Calls.Compiling.{answer_by, code_left, compilation_of}
use Rattle.millkettle.specs.Calls.Replies.{second_reply, second_registers}
use Rattle.millkettle.specs.Calls.Answers.{reply_of, answer_of}
use Rattle.millkettle.specs.Calls.{Compilation}
use Rattle.millkettle.specs.Calls.Compiling.{Rows, Refused}
use Rattle.wire.specs.Wire.{words_of, ints_of, bytes_of_words, bytes_of_ints, written}
use Rattle.meaning.specs.declared.refusals.Refusal.{Refusal}
use Rattle.meaning.specs.declared.refusals.Refused.{Refused as Turned}
use Rattle.compiler.specs.declared.Program.{Program}
use Rattle.engine.specs.declared.Answer.{Answer}
use Rattle.host.specs.declared.Compiled.{Compiled}
use Rattle.host.specs.declared.Ran.{Ran}

-- What a call that compiles, and one that runs, answers.
abbrev pub Compiling : Type 0
Compiling = Result Program Turned

abbrev pub Running : Type 0
Running = Result Answer Refusal

-- The numbers passed for what compiling answers: 0, rows and groups, at place 0; or a refusal's number and place.
abbrev pub compiled_numbers : Compilation → Compiled
compiled_numbers (Rows n g) = record { number = 0; rows = n; groups = g; place = 0 }
compiled_numbers (Refused number place) = record { number = number; rows = 0; groups = 0; place = place }

-- The numbers passed for what a run answers: the outline's values.
abbrev pub ran_numbers : Reply → Ran
ran_numbers r = record {
  number = (values_of r).number;
  found = (values_of r).found;
  place = (values_of r).place;
  count = (values_of r).count;
}

-- The registers inside: as many as any run writes.
abbrev pub register_count : ℕ
register_count = registers_of group_limit

-- The words that bytes lend: a part word counts as not lent.
abbrev pub lent_words : ℕ → ℕ
lent_words bytes = bytes / 4

-- The code words that compiling may write, of so many bytes.
abbrev pub code_lent : ℕ → ℕ
code_lent bytes = min (lent_words bytes) code_size

-- The promise of compiling on bytes: the numbers of the answer, and the code's bytes in front of those that stood behind them.
pub record CompilesBytes (tidying : Bool) (s code : List ℕ) (r : Compiled) (code' : List ℕ) : Type 0 where
  pub answers : r ≡ compiled_numbers (answer_by tidying (reading s table_size) (code_lent (length code)))
  pub code_is : code'
      ≡ written (bytes_of_words (code_left tidying (reading s table_size) (words_of code (code_lent (length code))))) code

-- A call that compiles, on lent bytes: it has a table of our own and the words that the bytes lend, and what it leaves there is
-- stored.
pub record CompilesBy (compile : MutBor (List ℕ) → MutBor (List ℕ) → Compiling → MutBor (List ℕ) → MutBor (List ℕ) → Type 0)
    (code : List ℕ) (r : Compiled) (code' : List ℕ) : Type 0 where
  pub table : MutBor (List ℕ)
  pub words : MutBor (List ℕ)
  pub answer : Compiling
  pub table' : MutBor (List ℕ)
  pub words' : MutBor (List ℕ)
  pub called : compile table words answer table' words'
  pub room : length table.now ≡ table_size
  pub loads : words.now ≡ words_of code (code_lent (length code))
  pub stores : code' ≡ written (bytes_of_words words'.now) code
  pub numbers : r ≡ compiled_numbers (compilation_of answer)

-- All words and registers that bytes lend.
abbrev pub all_words : List ℕ → List ℕ
all_words bytes = words_of bytes (lent_words (length bytes))

abbrev pub all_ints : List ℕ → List ℤ
all_ints bytes = ints_of bytes (lent_words (length bytes))

-- What bytes lend to a run, with the workspace inside.
abbrev pub lent_to : List ℕ → ℕ → List ℕ → Lent
lent_to text start registers = lend text start (lent_words (length registers)) workspace_size

-- The grounds for turning a run on bytes away: code over the words that there is room for, or that fails its check; and those
-- in what is lent.
abbrev pub byte_grounds : List ℕ → Lent → List Ground
byte_grounds code lent =
    ground No.code_fails (ltb code_size (lent_words (length code)) || not (code_passes (all_words code)))
    ∷ lent_grounds (rows_said (all_words code)) (groups_said (all_words code)) lent

-- The reply to a run on bytes that begins at a row.
abbrev pub reply_lent : ℕ → List ℕ → List ℕ → ℕ → List ℕ → Reply
reply_lent row code text start registers =
    let M : Machine = run_of (all_words code) text start row in
    reply_to (first_of (byte_grounds code (lent_to text start registers))) (best M) (count M)

-- The registers' bytes after it: those of the registers, and behind them the bytes that stood there.
abbrev pub registers_lent : ℕ → List ℕ → List ℕ → ℕ → List ℕ → List ℕ
registers_lent row code text start registers =
    written (bytes_of_ints (registers_from (first_of (byte_grounds code (lent_to text start registers)))
    (groups_said (all_words code)) (best (run_of (all_words code) text start row)) (all_ints registers))) registers

-- A call that runs, on bytes for which there is room: it has their words and registers and a workspace of our own, and the
-- registers that it leaves are stored.
pub record RunsInside (run : Bor (List ℕ) → MutBor (List ℤ) → MutBor (List ℕ) → Running → MutBor (List ℤ) → MutBor (List ℕ) → Type 0)
    (code registers : List ℕ) (r : Ran) (registers' : List ℕ) : Type 0 where
  pub words : Bor (List ℕ)
  pub ints : MutBor (List ℤ)
  pub work : MutBor (List ℕ)
  pub answer : Running
  pub ints' : MutBor (List ℤ)
  pub work' : MutBor (List ℕ)
  pub called : run words ints work answer ints' work'
  pub loads : words.now ≡ all_words code
  pub spans : ints.now ≡ ints_of registers (min (lent_words (length registers)) register_count)
  pub room : length work.now ≡ workspace_size
  pub stores : registers' ≡ written (bytes_of_ints ints'.now) registers
  pub numbers : r ≡ ran_numbers (reply_of (answer_of answer))

-- A call that runs, on lent bytes: too much code is turned away, and else it runs inside. Registers are lent as bytes.
pub record RunsBy (run : Bor (List ℕ) → MutBor (List ℤ) → MutBor (List ℕ) → Running → MutBor (List ℤ) → MutBor (List ℕ) → Type 0)
    (code registers : List ℕ) (r : Ran) (registers' : List ℕ) : Type 0 where
  pub bytes : Bytes registers
  pub turned : code_size < lent_words (length code) → (r ≡ ran_numbers (refused No.code_fails)) × (registers' ≡ registers)
  pub answers : lent_words (length code) ≤ code_size → RunsInside run code registers r registers'

-- The promise of a run on bytes that begins at a row.
pub record RunsBytes (row : ℕ) (code text : List ℕ) (start : ℕ) (registers : List ℕ) (r : Ran) (registers' : List ℕ)
    : Type 0 where
  pub replies : r ≡ ran_numbers (reply_lent row code text start registers)
  pub spans : registers' ≡ registers_lent row code text start registers

-- The promise of a call of the second engine that begins at a row, on words that are lent as they are: the numbers of its reply,
-- the registers, and that words behind those that it needs stay, and all of them if it was turned away.
pub record SecondsWords (row : ℕ) (code text : List ℕ) (start : ℕ) (registers : List ℤ) (workspace : List ℕ) (r : Ran)
    (registers' : List ℤ) (workspace' : List ℕ) : Type 0 where
  pub replies : r ≡ ran_numbers (second_reply code (lent_by text start registers workspace) row)
  pub spans : registers' ≡ second_registers code (lent_by text start registers workspace) row registers
  pub long : length workspace' ≡ length workspace
  pub later : (i : ℕ) → second_words (rows_said code) (groups_said code) (length text) ≤ i
      → get_or workspace' i 0 ≡ get_or workspace i 0
  pub untouched : (k : ℕ) → r.number ≡ suc k → workspace' ≡ workspace
