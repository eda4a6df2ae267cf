-- The walk goes on as the loop does, whatever the items are; those passed are in order.
use Rattle.std.proofs.Common.{List, ℕ, ◌-◌, true}
use Rattle.meaning.specs.Node.{Node}
use Rattle.table.specs.Stands.{Series}
use Rattle.showing_form.specs.Walked.{Walked}
use Rattle.showing_form.proofs.ordered.Given as goal

abbrev pub invariant-loop : goal.invariant-loop
invariant-loop l =
    (before : List ℕ) (m : List Node) → Series l.table l.top l.items before m
    → Walked l.not l.table before m true l.next l.at (l.items - l.counter)
