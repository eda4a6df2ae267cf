-- Each tells whether the words are the same.
use mathlib.Core.Path.{ap, sym, ◌∙◌}
use borrow.Author.Rules.{rules}
use Rattle.std.proofs.lemmas.Bool.Decides.{Decides-eqb, same_from_decides}
use Rattle.std.proofs.lemmas.Slice.Eq.{slice_eq-Decides}
use Rattle.sets.specs.Sets.{same_bytes}
use Rattle.sets.specs.Laws.{formed_of, same_refl, same_words}
use Rattle.sets.proofs.same.Goals as goal

pub returns : goal.returns
returns c =
    let a = c.args.a in
    same_from_decides _ _ (slice_eq-Decides Decides-eqb _ _ _ c.eq.ensures)
    (same_words a c.args.b (search (rules, formed_of)) (search (rules, formed_of)), λ e. ap (same_bytes a) (sym e) ∙ same_refl a)
