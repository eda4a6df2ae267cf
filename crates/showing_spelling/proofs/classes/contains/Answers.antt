-- A set with what it has already is the same.
use Rattle.std.proofs.Common.{ap, ◌∙◌, Bool, ◌||◌, List, ℕ}
use Rattle.sets.specs.Sets.{has, same_bytes}
use Rattle.sets.specs.Laws.{words_of, holds_to}
use Rattle.showing_spelling.proofs.classes.contains.Goals as goal

pub returns : goal.returns
returns c =
    c.same.ensures ∙ ap (λ (u : List ℕ). same_bytes u c.args.set)
    (words_of (holds_to c.union.ensures (λ x h. ap (λ (t : Bool). has c.args.set x || t) (c.set.ensures.bytes x h))))
