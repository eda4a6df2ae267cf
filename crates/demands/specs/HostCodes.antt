-- The code's bytes after compiling: those of the program in front, or all as they were.
-- The definitions stand here; proofs/HostCodes.antt has the theorems.
use Rattle.std.specs.Prelude.{◌≡◌, Bool, List, ◌++◌, ℕ, length}
use Rattle.meaning.specs.Limits.{code_words, table_size}
use Rattle.meaning.specs.Node.{Node}
use Rattle.machine.specs.Layout.{program_of}
use Rattle.machine.specs.Words.{code_of}
use Rattle.reading_items.specs.Reading.{Reading.pattern, reading}
use Rattle.reading_grammar.specs.Grammar.{Derives}
use Rattle.code_rows.specs.Emission.{rows_needed}
use Rattle.compiler.specs.Compiling.{shaped}
use Rattle.millkettle.specs.Compiled.{Coded}
use Rattle.wire.specs.Wire.{bytes_of_words, written}

-- A pattern that was read, its rows, the bytes of its code before those that stood behind it, and what the code says.
pub record Made (tidying : Bool) (s code code' : List ℕ) (n g : ℕ) : Type 0 where
  pub node : Node
  pub is_read : reading s table_size ≡ pattern node g
  pub is_derived : Derives s node g
  pub rows_are : n ≡ rows_needed (shaped tidying node)
  pub long : length (code_of (program_of g (shaped tidying node))) ≡ code_words n
  pub bytes_are : code' ≡ written (bytes_of_words (code_of (program_of g (shaped tidying node)))) code
  pub is_coded : (rest : List ℕ) → Coded (code_of (program_of g (shaped tidying node)) ++ rest) n g (shaped tidying node)
