-- The invariant: of the items behind those still to be walked the filled ones are left.
use mathlib.Core.Path.{◌≡◌}
use Prim.Native.Nat.{◌-◌, ◌≤◌}
use lib.ListN.{length}
use Rattle.tidying_rewriting.proofs.Filling.{Fills}
use Rattle.tidying_rewriting.proofs.drop_empty.Given as goal

abbrev pub invariant-loop : goal.invariant-loop
invariant-loop l =
    Fills l.initial.table l.n l.top l.table l.count l.end (l.items - l.counter) l.kept
    × (length l.table ≡ length l.initial.table)
    × (l.kept ≤ l.counter)
