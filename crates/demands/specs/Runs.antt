-- What the promises of a run say of any code, and of code that says a pattern: the bound, the count, and the answer of the
-- standard.
-- The definitions stand here; proofs/Runs.antt has the theorems.
use Rattle.std.specs.Prelude.{◌≡◌, Bool, List, [], ◌∷◌, ◌++◌, ℕ, suc, ℤ, length, drop}
use Rattle.meaning.specs.Text.{registers_of}
use Rattle.meaning.specs.Bytes.{text_of}
use Rattle.meaning.specs.Node.{Node}
use Rattle.machine.specs.Steps.{Machine, steps, begun, first_thread, move_of}
use Rattle.machine.specs.Words.{decode}
use Rattle.machine.specs.Replies.{Reply, Reply.found, Reply.missing, Reply.refused, lent_by, turned_away}
use Rattle.machine.specs.Replies.{answer_of, spans}
use Rattle.reading_items.specs.Reading.{Reading.pattern, reading}
use Rattle.compiler.specs.Compiling.{shaped}
use Rattle.engine.specs.Answers.{reply_of, executed}
use Rattle.engine.specs.Answers.{Answer}
use Rattle.engine.specs.Answers.{Answer.Found, Answer.Missing, Answer.Refused}
use Rattle.millkettle.specs.Laws.{Way, standard_by}
use Rattle.reading_grammar.specs.Grammar.{Derives}

-- Answers of one reply are the same, and a run's reply has its count.
unfoldable pub answer_as : Reply → Answer
answer_as (found n) = Found n
answer_as (missing n) = Missing n
answer_as (refused n) = Refused n

-- The machine of a run after so many steps: the run itself is the one after enough of them.
abbrev pub steps_of : List ℕ → List ℕ → ℕ → ℕ → ℕ → Machine
steps_of code text start row m =
    steps (move_of (text_of text) (decode code).rows) m (begun start (first_thread (decode code) row ∷ []))

-- Demand 2: code that says the program of a pattern, as `compile` leaves it, answers as the standard's algorithm does on that
-- pattern: found with every group's span, or none exactly if that finds nothing; it is turned away only by 21 to 24.
pub record Standard (way : Way) (r : Node) (n g : ℕ) (text : List ℕ) (start : ℕ) (registers registers' : List ℤ)
    (workspace : List ℕ)
    (answer : Answer) : Type 0 where
  pub answers : turned_away n g (lent_by text start registers workspace) ≡ 0
      → reply_of answer ≡ answer_of (standard_by way text g r start) (executed answer)
  pub spans_are : turned_away n g (lent_by text start registers workspace) ≡ 0
      → registers' ≡ spans g (standard_by way text g r start) ++ drop (registers_of g) registers
  pub refuses : (k : ℕ) → turned_away n g (lent_by text start registers workspace) ≡ suc k → answer ≡ Refused (suc k)

-- So do the calls on what was compiled, plain or tidied.
pub record SomeStandard (tidying : Bool) (way : Way) (s table text : List ℕ) (start n g : ℕ) (registers registers' : List ℤ)
    (workspace : List ℕ) (answer : Answer) : Type 0 where
  pub node : Node
  pub is_read : reading s (length table) ≡ pattern node g
  pub is_derived : Derives s node g
  pub standard : Standard way (shaped tidying node) n g text start registers registers' workspace answer
