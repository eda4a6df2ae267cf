-- The search of the whole is the search from the part and the law that are tried next. Assumes nothing.
use mathlib.Core.Path.{◌≡◌}
use Prim.Native.Nat.{◌+◌, ◌≤◌}
use Rattle.std.proofs.Common.{None}
use Rattle.tidying.specs.Search.{Before, Lower}
use Rattle.tidying.proofs.search.Given as goal

abbrev pub invariant-loop-law : goal.invariant-loop-law
invariant-loop-law l = Lower l.table l.n l.top (l.law-index + 1) × (l.found ≡ l.initial.found)

abbrev pub invariant-search : goal.invariant-search
invariant-search l = Before l.table l.n l.top × (l.found ≡ None) × (l.top ≤ l.n + 1)
