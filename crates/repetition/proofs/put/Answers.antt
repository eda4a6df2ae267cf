-- Without room the list stays; with room the words are written into its rest.
use mathlib.Core.Path.{◌≡◌, refl, ◌∙◌}
use mathlib.Core.List.{List, map}
use native.Mathlib.Omega.{arith}
use lib.IntN.{ℤ}
use lib.ListN.{length, length-map}
use Rattle.running_threads.specs.Words.{words_at}
use Rattle.running_threads.specs.Laws.{words_length}
use Rattle.engine.specs.Answers.{shown_word}
use Rattle.repetition.specs.Laws.{placed_not, placed_there}
use Rattle.repetition.proofs.put.Goals.{Start}
use Rattle.repetition.proofs.put.Goals as goal

-- The words of a match are as many as its width.
abbrev new : Start → List ℤ
new s = map shown_word (words_at s.args.work.now s.args.from s.args.width)

many : (s : Start) → length (new s) ≡ s.args.width
many s =
    length-map (words_at s.args.work.now s.args.from s.args.width) shown_word
    ∙ words_length s.args.work.now s.args.from s.args.width s.requires.0

pub returns-then-list-filled : goal.returns-then-list-filled
returns-then-list-filled c =
    placed_not c.args.filled c.args.width (new (goal.at.returns-then-list-filled c).Start) c.args.list.now (many (goal.at.returns-then-list-filled c).Start) c.if-list-filled.true

pub returns : goal.returns
returns c =
    placed_there c.args.filled c.args.width (new (goal.at.returns c).Start) c.args.list.now (many (goal.at.returns c).Start) (omega (arith, c.if-list-filled.false))
    c.copy_out.new.registers _ refl c.copy_out.ensures
