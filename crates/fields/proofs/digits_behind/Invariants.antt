-- What is left to read, behind the digits so far, comes to the same; where it stops, that is all.
use Rattle.std.specs.Prelude.{◌≡◌, ◌+◌, drop}
use Rattle.fields.specs.Scanning.{digits_from}
use Rattle.fields.specs.Laws.{Running}
use Rattle.fields.proofs.digits_behind.Given as goal

abbrev pub invariant-loop-b : goal.invariant-loop-b
invariant-loop-b l =
    Running l.s (digits_from l.initial.run.number l.initial.run.room (drop l.initial.run.end l.s)) l.run
    × (l.run.end ≡ l.initial.run.end + l.b-index)
