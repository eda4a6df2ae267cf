-- The bytes are those of the texts.
use Rattle.std.proofs.Common.{sym, ap, ◌∙◌, Bool, true, false, rules}
use Rattle.showing_spelling.specs.Spelling.{guarded}
use Rattle.showing_spelling.specs.Texts.{guarded_lem}
use Rattle.showing_spelling.proofs.guarded.Goals as goal

pub returns-then-in_class : goal.returns-then-in_class
returns-then-in_class c =
    c.contains.ensures.value ∙ guarded_lem true c.args.b (search rules)
    ∙ ap (λ (t : Bool). guarded t c.args.b) (sym c.if-in_class.true)

pub returns-else-in_class : goal.returns-else-in_class
returns-else-in_class c =
    c.contains-else-in_class.ensures.value ∙ guarded_lem false c.args.b (search rules)
    ∙ ap (λ (t : Bool). guarded t c.args.b) (sym c.if-in_class.false)
