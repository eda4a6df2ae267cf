-- Demand 3, over the promises of the public calls: the tidied pattern answers as the plain one, has no more rows, and no law
-- still applies to it.
-- The definitions stand here; proofs/Tidied.antt has the theorems.
use Rattle.std.specs.Prelude.{◌≡◌, List, ◌++◌, ℕ, ◌≤◌, ℤ, length, drop}
use Rattle.std.proofs.Math.Option.{Option, none}
use Rattle.meaning.specs.Text.{Regs, registers_of}
use Rattle.meaning.specs.Bytes.{Bytes}
use Rattle.meaning.specs.Node.{Node}
use Rattle.meaning.specs.Numbering.{Numbers}
use Rattle.machine.specs.Replies.{Reply, Reply.found, Reply.missing, Reply.refused}
use Rattle.machine.specs.Replies.{spans}
use Rattle.tidying_laws.specs.Alike.{Alike}
use Rattle.tidying_laws.specs.Around.{Around, fill}
use Rattle.meaning.specs.All.{All}
use Rattle.tidying_laws.specs.Within.{Stands}
use Rattle.tidying_laws.specs.List.{words}
use Rattle.tidying_laws.specs.Tidier.{tidy}
use Rattle.reading_items.specs.Reading.{Reading.pattern, reading, table_by}
use Rattle.code_rows.specs.Emission.{rows_needed}
use Rattle.compiler.specs.Compiling.{tidied}
use Rattle.compiler.specs.Compiling.{table_at, code_at}
use Rattle.millkettle.specs.Compiled.{Coded}
use Rattle.engine.specs.Answers.{executed}
use Rattle.millkettle.specs.Laws.{Way, standard_by}

-- A pattern that was compiled tidied: what it was read as, its code, and what the table holds.
pub record Neat (s table code : List ℕ) (n g : ℕ) : Type 1 where
  pub node : Node
  pub is_read : reading s (length table) ≡ pattern node g
  pub is_coded : Coded (code_at tidied s table code) n g (tidy node)
  pub table_holds : table_at tidied s table code ≡ table_by (pattern (tidy node) g) table
  pub alike : Alike node (tidy node)
  pub fewer : n ≤ rows_needed node
  pub clean : (a : Around) (q : Node) → fill a q ≡ tidy node → Stands none a q → All (λ W. W q → ⊥) words

-- A reply without its count.
abbrev pub outcome : Reply → Reply
outcome (found executed) = found 0
outcome (missing executed) = missing 0
outcome (refused number) = refused number

-- Code of one pattern, plain and tidied, of no more rows.
pub record Twins (code' code'' : List ℕ) (n m g : ℕ) (r : Node) : Type 0 where
  pub as_read : Coded code' n g r
  pub as_tidied : Coded code'' m g (tidy r)
  pub fewer : m ≤ n

-- What two calls of a run leave in registers of their own: the spans of one result, before what stood behind them.
pub record SameSpans (g : ℕ) (registers registers' registers₂ registers'' : List ℤ) : Type 0 where
  pub result : Option Regs
  pub first : registers' ≡ spans g result ++ drop (registers_of g) registers
  pub second : registers'' ≡ spans g result ++ drop (registers_of g) registers₂

-- A law makes no difference: wherever a part stands, and whatever it becomes by the law's words, the standard's algorithm
-- matches and finds the same in any text, with every group.
abbrev pub SameStandard : Node → Node → Type 0
SameStandard r q = (a : Around) (n : ℕ) → Numbers 1 (fill a r) n → (way : Way) (text : List ℕ) → Bytes text → (g start : ℕ)
    → start ≤ length text → standard_by way text g (fill a r) start ≡ standard_by way text g (fill a q) start
