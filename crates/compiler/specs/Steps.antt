-- What the two steps of compiling answer and leave behind: reading, and writing the program.
use Rattle.std.specs.Prelude.{◌≡◌, Bool, false, List, ℕ, length, Result, Ok, Err}
use Rattle.meaning.specs.Refusals as No
use Rattle.meaning.specs.declared.refusals.Refused.{Refused}
use Rattle.reading.specs.declared.Pattern.{Pattern}
use Rattle.code_rows.specs.Emission.{Emission, Rows as Emitted, TooMany, TooShort, Emits}
use Rattle.compiler.specs.Compiling.{Compilation, Compilation.Rows, compilation_of, Compiles}
use Rattle.compiler.specs.Programs.{TellsRows, Cleared}
use Rattle.compiler.specs.Given.{Given}

-- A pattern that was read, is stored in its table and has few enough rows.
pub record Fitting (s table table' : List ℕ) (top g : ℕ) : Type 0 where
  pub given : Given s table table' top g
  pub few : TellsRows false table' top
  pub same : length table' ≡ length table

-- What was read, or what a refusal makes of either call.
abbrev pub SmallBy : List ℕ → List ℕ → List ℕ → Result Pattern Refused → Type 0
SmallBy s table table' (Ok p) = Fitting s table table' p.records p.groups
SmallBy s table table' (Err e) =
    (tidying : Bool) (code : List ℕ) → Compiles tidying s table table' code code (compilation_of (Err e))

pub record Small (s table table' : List ℕ) (answer : Result Pattern Refused) : Type 0 where
  pub by : SmallBy s table table' answer

-- What is answered by what was emitted: the rows, with the table as it was, or a refusal that makes it zero.
abbrev pub WrittenBy : Emission → List ℕ → List ℕ → ℕ → Compilation → Type 0
WrittenBy (Emitted m) table table' g answer = (answer ≡ Rows m g) × (table' ≡ table)
WrittenBy TooMany table table' g answer = Cleared No.many_rows table table' answer
WrittenBy TooShort table table' g answer = Cleared No.short_code table table' answer

pub record Written (table table' : List ℕ) (n g : ℕ) (code code' : List ℕ) (answer : Compilation) : Type 0 where
  pub emitted : Emission
  pub emits : Emits table n g code code' emitted
  pub by : WrittenBy emitted table table' g answer
