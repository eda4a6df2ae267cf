-- One pass over the records; each answer is exact.
use Rattle.std.proofs.Common.{◌≡◌, ℕ, ◌+◌, ◌-◌, ◌*◌, ◌<◌, get_or}
use Rattle.table.specs.Table.{record_words, kind_word}
use Rattle.table.specs.Derived.{record_limit}
use Rattle.showing_form.specs.Stack.{SomeStack}
use Rattle.showing_form.proofs.form.Given as goal

abbrev pub invariant-loop-count : goal.invariant-loop-count
invariant-loop-count l =
    SomeStack l.table l.top l.count × (l.top < record_limit)
    × ((i : ℕ) → i < l.top → get_or l.table (record_words * i + kind_word) 0 ≡ 0 → ⊥)

abbrev pub decreases-loop-count : goal.decreases-loop-count
decreases-loop-count l = record_limit - l.top
