use mathlib.Core.Path.{◌≡◌}
use mathlib.Core.List.{List}
use Prim.Native.Nat.{ℕ, ◌+◌, ◌-◌, ◌*◌}
use native.Mathlib.Omega.{arith}
use lib.ListN.{take, drop}
use Rattle.meaning.specs.Limits.{set_words}
use Rattle.table.specs.Table.{record_words, set_word}
use Rattle.tidying_shapes.proofs.Refreshing.{starts, putting, passes, refreshed}
use Rattle.tidying_shapes.proofs.refresh.Goals as goal

-- The last words of record `at`.
here : (table last : List ℕ) (at : ℕ) → last ≡ take set_words (drop (record_words * (at + 1 - 1) + set_word) table)
    → last ≡ take set_words (drop (record_words * at + set_word) table)
here table last at e = let same : at + 1 - 1 ≡ at = omega arith in rw same at e

pub loop-at-init : goal.loop-at-init
loop-at-init c = starts c.requires

pub put-requires : goal.put-requires
put-requires c =
    putting c.loop-at.invariant c.loop-at-test.true (here c.loop-at.table _ c.loop-at.at c.last_words-last.ensures)
    c.requires

pub loop-at-preserved : goal.loop-at-preserved
loop-at-preserved c =
    passes c.loop-at.invariant c.loop-at-test.true
    (here c.loop-at.table _ c.loop-at.at c.last_words-last.ensures)
    c.put.auto.table c.put.ensures

pub returns : goal.returns
returns c = refreshed c.loop-at.invariant c.loop-at-test.false
