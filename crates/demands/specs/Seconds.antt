-- The second engine, over the promises of the public calls: `Answered` of `match_at` and `search`, `Seconded` of `second_match` and
-- `second_search`.
-- The definitions stand here; proofs/Seconds.antt has the theorems.
use Rattle.std.specs.Prelude.{◌≡◌, Bool, List, ◌++◌, ℕ, ℤ, length, drop}
use Rattle.meaning.specs.Text.{registers_of}
use Rattle.meaning.specs.Node.{Node}
use Rattle.machine.specs.Replies.{answer_of, spans}
use Rattle.reading_items.specs.Reading.{Reading.pattern, reading}
use Rattle.compiler.specs.Compiling.{shaped}
use Rattle.engine.specs.Answers.{reply_of, executed}
use Rattle.engine.specs.Answers.{Answer}
use Rattle.millkettle.specs.Laws.{Way, standard_by}

-- Demand 2 of the second engine: of what `compile` or `compile_tidied` leaves it answers as the standard's algorithm does on the
-- pattern that was read, or on that tidied.
pub record SecondStandard (tidying : Bool) (way : Way) (s table text : List ℕ) (start g : ℕ) (registers registers' : List ℤ)
    (answer : Answer) : Type 0 where
  pub node : Node
  pub is_read : reading s (length table) ≡ pattern node g
  pub answers : reply_of answer ≡ answer_of (standard_by way text g (shaped tidying node) start) (executed answer)
  pub spans_are : registers' ≡ spans g (standard_by way text g (shaped tidying node) start) ++ drop (registers_of g) registers
