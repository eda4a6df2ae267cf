use mathlib.Core.Path.{◌≡◌}
use mathlib.Core.Bool.{false, ◌||◌}
use Prim.Native.Nat.{ℕ, ◌+◌, ◌≤◌, ◌<◌, max}
use native.Mathlib.Omega.{arith}
use lib.Dec.{eqb}
use borrow.Author.Rules.{rules}
use Rattle.std.proofs.lemmas.Bool.Decides.{nat_tests}
use Rattle.sets.specs.Sets.{between}
use Rattle.sets.specs.Laws.{holds_to, holds_more}
use Rattle.sets.proofs.range.Invariants.{up_to}
use Rattle.sets.proofs.range.Goals as goal

-- At `first` they are none.
begun : (first x : ℕ) → false ≡ up_to first first x
begun first x = grind (arith, nat_tests)

-- At b + 1 they are those at b, and b.
next : (first b x : ℕ) → first ≤ b → (up_to first b x || eqb x b) ≡ up_to first (b + 1) x
next first b x h = grind (arith, nat_tests)

-- Past `last` they are the range.
ended : (first last b x : ℕ) → last < b → b ≤ max first (last + 1) → up_to first b x ≡ between first last x
ended first last b x h k = grind (arith, nat_tests)

pub loop-b-init : goal.loop-b-init
loop-b-init c = (search rules, holds_to c.none-r.ensures (λ x h. begun c.args.first x))

pub loop-b-preserved : goal.loop-b-preserved
loop-b-preserved c = (
  search rules,
  holds_to (holds_more c.loop-b.b c.loop-b.invariant.1 c.with-more.ensures) (λ x h. next c.args.first c.loop-b.b x (search rules)),
)

pub returns : goal.returns
returns c =
    holds_to c.loop-b.invariant.1 (λ x h. ended c.args.first c.args.last c.loop-b.b x (search rules) c.loop-b.invariant.0)
