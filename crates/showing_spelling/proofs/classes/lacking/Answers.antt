-- What neither the complement nor the escape has.
use Rattle.std.proofs.Common.{rules, sym, ap, ◌∙◌, not, ◌||◌, ◌&&◌}
use mathlib.Core.Path.{ap₂}
use mathlib.Core.Bool.{and-true}
use Rattle.sets.specs.Sets.{has, in_escape}
use Rattle.sets.specs.Laws.{words_of, holds_to, set_of_cong, set_of_has, formed_of}
use Rattle.showing_spelling.specs.Escapes.{or_six}
use Rattle.showing_spelling.specs.Spelling.{lacking}
use Rattle.showing_spelling.specs.Texts.{not_or}
use Rattle.showing_spelling.proofs.classes.lacking.Goals as goal

pub returns-in-Some : goal.returns-in-Some
returns-in-Some c =
    words_of (holds_to c.complement-in-Some.ensures (λ x h.
    ap not (c.union.ensures.bytes x h ∙ ap₂ ◌||◌ (c.complement.ensures.bytes x h) (c.set.ensures.bytes x h))
    ∙ not_or (has c.args.set x) (in_escape c.in-Some.e.number x)))
    ∙ ap (λ e. lacking c.args.set (or_six e)) (sym c.in-Some.is)

pub returns-in-None : goal.returns-in-None
returns-in-None c =
    sym (set_of_cong (λ x. has c.args.set x && not (in_escape 6 x)) (has c.args.set) (λ x h. and-true (has c.args.set x))
    ∙ set_of_has c.args.set (search (rules, formed_of)))
    ∙ ap (λ e. lacking c.args.set (or_six e)) (sym c.in-None.is)
