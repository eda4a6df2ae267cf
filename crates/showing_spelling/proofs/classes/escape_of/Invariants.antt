-- The escapes passed take other bytes.
use Rattle.std.proofs.Common.{◌≡◌, ◌<◌, ℕ, false}
use Rattle.sets.specs.Sets.{same_bytes, set_of, in_escape}
use Rattle.showing_spelling.proofs.classes.escape_of.Given as goal

abbrev pub invariant-loop-number : goal.invariant-loop-number
invariant-loop-number l = (k : ℕ) → k < l.number → same_bytes l.set (set_of (in_escape k)) ≡ false
