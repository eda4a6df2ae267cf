-- Before byte n the runs above the open one are written; a byte that is not in closes it.
use Rattle.std.proofs.Common.{◌≡◌, ◌≤◌, List, ◌++◌, ℕ}
use Rattle.sets.specs.Sets.{has}
use Rattle.showing_spelling.specs.Spelling.{runs_text, runs_of}
use Rattle.showing_spelling.specs.Wrote.{Wrote}
use Rattle.showing_spelling.proofs.room.Room.put_runs.Given as goal

abbrev pub invariant-loop-n : goal.invariant-loop-n
invariant-loop-n l =
    (l.n ≤ l.last) × (l.last ≤ 256)
    × ((x : List ℕ) × Wrote l.initial.self x l.self × (runs_of l.set ≡ runs_text (has l.set) l.n l.last ++ x))
