-- The first registers show the words so far, and later ones are as they were.
use mathlib.Core.Path.{◌≡◌}
use mathlib.Core.List.{◌++◌, map}
use lib.ListN.{drop}
use Rattle.running_threads.specs.Words.{words_at}
use Rattle.engine.specs.Answers.{shown_word}
use Rattle.engine.proofs.copy_out.Given as goal

abbrev pub invariant-loop-i : goal.invariant-loop-i
invariant-loop-i l =
    l.registers ≡ map shown_word (words_at l.work l.from l.i) ++ drop l.i l.initial.registers
