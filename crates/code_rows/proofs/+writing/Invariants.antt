-- A call goes to a part that ends before, or to a lower rank for the same part.
use mathlib.Core.List.{List}
use Prim.Native.Nat.{ℕ, ◌+◌, ◌≤◌, ◌<◌, suc, ◌*◌}
use Rattle.meaning.specs.Node.{Node}
use Rattle.meaning.specs.Flat.{Kind.alternation}
use Rattle.machine.specs.Layout.{size_of, rows_of, past, past_turn}
use Rattle.code_rows.specs.Emits.{Part, alternative_size, alternative_rows, fresh_size, turn_size, fresh_rows, turn_of}
use Rattle.code_rows.specs.Cases.{IsPair}
use Rattle.code_rows.specs.Lines.{Lined, Looped}
use Rattle.code_rows.specs.Shapes.{last_alternative}
use Rattle.table.specs.Laws.{inner}
use mathlib.Core.Bool.{Bool}
use Rattle.machine.specs.Rows.{Row}
use Rattle.code_rows.proofs.+writing.Given as goal

abbrev pub decreases-alternation : goal.decreases-alternation
decreases-alternation l = 8 * l.top + 6

abbrev pub decreases-alternative : goal.decreases-alternative
decreases-alternative l = 8 * l.top + 8

abbrev pub decreases-fresh : goal.decreases-fresh
decreases-fresh l = 8 * l.top + 8

abbrev pub decreases-group : goal.decreases-group
decreases-group l = 8 * l.top + 6

abbrev pub decreases-part : goal.decreases-part
decreases-part l = 8 * l.top + 7

abbrev pub decreases-quantifier : goal.decreases-quantifier
decreases-quantifier l = 8 * l.top + 6

abbrev pub decreases-repeats : goal.decreases-repeats
decreases-repeats l = 8 * l.top + 9

abbrev pub decreases-sequence : goal.decreases-sequence
decreases-sequence l = 8 * l.top + 6

abbrev pub decreases-turn : goal.decreases-turn
decreases-turn l = 8 * l.top + 9

abbrev pub decreases-turns : goal.decreases-turns
decreases-turns l = 8 * l.top + 10

abbrev pub invariant-alternation-loop : goal.invariant-alternation-loop
invariant-alternation-loop l =
    ((r : Node) (p : Part l.table l.top r) (i : IsPair alternation r) → size_of r ≤ l.end
    → Lined alternative_size (alternative_rows l.end) l.table l.initial.code l.code l.item l.items l.counter l.at l.initial.at (last_alternative p i).front) × (l.item < l.top)

abbrev pub invariant-repeats-loop : goal.invariant-repeats-loop
invariant-repeats-loop l =
    Looped fresh_size fresh_rows (λ r p. past r (suc p)) l.table l.top l.initial.code l.code l.n l.counter l.at l.end

abbrev pub invariant-sequence-loop : goal.invariant-sequence-loop
invariant-sequence-loop l =
    ((r : Node) → Part l.table l.top r → size_of r ≤ l.end
    → Lined size_of rows_of l.table l.initial.code l.code l.item l.items l.counter l.at l.end (inner r)) × (l.item < l.top)

-- A turn of those that go on at the next, or out to row `out`.
abbrev pub one : Bool → ℕ → Node → ℕ → List Row
one lazy out r q = turn_of lazy out (past_turn (past r) q) r q

abbrev pub next : Node → ℕ → ℕ
next r q = past_turn (past r) q

abbrev pub invariant-turns-loop : goal.invariant-turns-loop
invariant-turns-loop l =
    Looped turn_size (one l.lazy l.end) next l.table l.top l.initial.code l.code l.n l.counter l.at l.end
