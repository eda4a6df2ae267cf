use mathlib.Core.Path.{refl, sym, ap, ◌∙◌}
use mathlib.Core.Logic.{inl, inr, ⊎_elim}
use Prim.Native.Nat.{◌+◌}
use native.Mathlib.Omega.{arith}
use lib.ListN.{get_or}
use Rattle.sets.specs.Sets.{is_dot}
use Rattle.sets.specs.Laws.{set_of_holds}
use Rattle.reading_atoms.specs.Chars.{close_bracket, close_brace}
use Rattle.reading_atoms.specs.Classes.{takes}
use Rattle.reading_atoms.specs.Places.{byte_there}
use Rattle.reading_items.specs.Reading.{set_item}
use Rattle.reading_items.proofs.Singles.{meet, meet_no, fine_on, no_atom_lem, class_item_lem, escape_item_lem, dot_item, caret_item}
use Rattle.reading_items.proofs.Singles.{dollar_item, stray_item, other_item}
use Rattle.reading_items.proofs.leaves.single.Goals as goal

pub returns-then-is_quantifier : goal.returns-then-is_quantifier
returns-then-is_quantifier c =
    rw c.at.ensures
    (meet_no (no_atom_lem c.args.s.now c.args.from.at c.args.from.groups c.requires.1 _ refl
    (sym c.is_quantifier.ensures ∙ c.if-is_quantifier.true)) (omega arith))

pub set_item-requires : goal.set_item-requires
set_item-requires c =
    (fine_on (c.args.from.at + 1) c.requires.0 (omega arith) (omega (arith, c.requires.1)), rw c.dot_set.ensures (set_of_holds is_dot).formed)

pub set_item-requires-in_default : goal.set_item-requires-in_default
set_item-requires-in_default c = (
  fine_on (c.args.from.at + 1) c.requires.0 (omega arith) (omega (arith, c.requires.1)),
  rw c.literal_set.ensures
      (set_of_holds (takes (get_or c.args.s.now c.args.from.at 0))).formed,
)

pub returns-in-91 : goal.returns-in-91
returns-in-91 c =
    meet _ (class_item_lem c.args.s.now c.args.from.at c.args.from.groups c.requires.1 c.in-91.is)
    c.class_item.ensures

pub returns-in-92 : goal.returns-in-92
returns-in-92 c =
    meet _ (escape_item_lem c.args.s.now c.args.from.at c.args.from.groups c.requires.1 c.in-92.is)
    c.escape_item.ensures

pub returns-in-46 : goal.returns-in-46
returns-in-46 c =
    meet (set_item c.args.s.now c.dot_set.result (c.args.from.at + 1) c.args.from.groups)
    (dot_item c.args.s.now c.args.from.at c.args.from.groups c.requires.1 c.in-46.is
    ∙ ap (λ set. set_item c.args.s.now set (c.args.from.at + 1) c.args.from.groups) (sym c.dot_set.ensures))
    c.set_item.ensures

pub returns-in-94 : goal.returns-in-94
returns-in-94 c =
    meet _ (caret_item c.args.s.now c.args.from.at c.args.from.groups c.requires.1 c.in-94.is)
    c.assertion.ensures

pub returns-in-36 : goal.returns-in-36
returns-in-36 c =
    meet _ (dollar_item c.args.s.now c.args.from.at c.args.from.groups c.requires.1 c.in-36.is)
    c.assertion-in-36.ensures

pub returns-in-93 : goal.returns-in-93
returns-in-93 c =
    rw c.at-in-93.ensures
    (⊎_elim
    (λ e. meet_no (stray_item c.args.s.now c.args.from.at c.args.from.groups c.requires.1 close_bracket refl refl refl refl refl refl refl refl e)
    (omega arith))
    (λ e. meet_no (stray_item c.args.s.now c.args.from.at c.args.from.groups c.requires.1 close_brace refl refl refl refl refl refl refl refl e)
    (omega arith)) c.in-93.is)

pub returns-in_default : goal.returns-in_default
returns-in_default c =
    meet (set_item c.args.s.now c.literal_set.result (c.args.from.at + 1) c.args.from.groups)
    (other_item c.args.s.now c.args.from.at c.args.from.groups c.requires.1 _ refl
    (sym c.is_quantifier.ensures
    ∙ c.if-is_quantifier.false)
    (λ e. c.requires.2 (byte_there c.args.s.now c.args.from.at c.requires.1 ∙ e)) c.in_default.in_default-own.rest.0.0.0.0.0.1 c.in_default.in_default-own.rest.0.0.0.0.1
    c.in_default.in_default-own.rest.0.0.0.1 c.in_default.in_default-own.rest.0.0.1 c.in_default.in_default-own.rest.0.1 (λ e. c.in_default.in_default-own.rest.1 (inl e)) (λ e. c.in_default.in_default-own.rest.1 (inr e))
    ∙ ap (λ set. set_item c.args.s.now set (c.args.from.at + 1) c.args.from.groups) (sym c.literal_set.ensures))
    c.set_item-in_default.ensures
