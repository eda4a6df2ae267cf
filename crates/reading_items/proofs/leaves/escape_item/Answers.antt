use mathlib.Core.Path.{sym, ap, ◌∙◌}
use mathlib.Core.Bool.{false}
use Prim.Native.Nat.{◌+◌}
use native.Mathlib.Omega.{arith}
use Rattle.sets.specs.Sets.{in_escape}
use Rattle.sets.specs.Laws.{set_of_holds}
use Rattle.reading_atoms.specs.Classes.{takes}
use Rattle.reading_atoms.specs.Laws.{escape_byte, escape_named, escape_assertion}
use Rattle.reading_items.specs.Reading.{set_item, escape_item}
use Rattle.reading_items.specs.Numbers.{wrong_late}
use Rattle.reading_items.proofs.Singles.{meet, meet_no, fine_on, fine_room}
use Rattle.reading_items.proofs.leaves.escape_item.Goals as goal

pub set_item-requires : goal.set_item-requires
set_item-requires c =
    let fits = escape_byte false c.args.s.now c.args.from.at c.requires.0.bytes (sym (rw c.in-Ok-Byte.field-0-is at c.in-Ok-Byte.ensures)) in (
      fine_on c.in-Ok-Byte.end c.requires.0 (omega (arith, fits.0)) fits.1,
      rw c.literal_set.ensures (set_of_holds (takes c.in-Ok-Byte.b)).formed,
    )

pub named_set-requires : goal.named_set-requires
named_set-requires c =
    (escape_named false c.args.s.now c.args.from.at c.requires.0.bytes (sym (rw c.in-Ok-Named.field-0-is at c.in-Ok-Named.ensures))).0

pub set_item-requires-in-Ok-Named : goal.set_item-requires-in-Ok-Named
set_item-requires-in-Ok-Named c =
    let fits = escape_named false c.args.s.now c.args.from.at c.requires.0.bytes (sym (rw c.in-Ok-Named.field-0-is at c.in-Ok-Named.ensures)) in (
      fine_on (c.args.from.at + 2) c.requires.0 (omega arith) fits.1,
      rw c.named_set.ensures (set_of_holds (in_escape c.in-Ok-Named.k)).formed,
    )

pub assertion-requires : goal.assertion-requires
assertion-requires c =
    let is = sym (rw c.in-Ok-Assertion.field-0-is at c.in-Ok-Assertion.ensures) in
    (fine_room c.requires.0, (escape_assertion false c.args.s.now c.args.from.at c.requires.0.bytes is).0)

pub returns-in-Ok-Byte : goal.returns-in-Ok-Byte
returns-in-Ok-Byte c =
    meet (set_item c.args.s.now c.literal_set.result c.in-Ok-Byte.end c.args.from.groups)
    (ap (escape_item c.args.s.now c.args.from.at c.args.from.groups) (sym (rw c.in-Ok-Byte.field-0-is at c.in-Ok-Byte.ensures))
    ∙ ap (λ set. set_item c.args.s.now set c.in-Ok-Byte.end c.args.from.groups) (sym c.literal_set.ensures)) c.set_item.ensures

pub returns-in-Ok-Named : goal.returns-in-Ok-Named
returns-in-Ok-Named c =
    meet (set_item c.args.s.now c.named_set.result (c.args.from.at + 2) c.args.from.groups)
    (ap (escape_item c.args.s.now c.args.from.at c.args.from.groups) (sym (rw c.in-Ok-Named.field-0-is at c.in-Ok-Named.ensures))
    ∙ ap (λ set. set_item c.args.s.now set (c.args.from.at + 2) c.args.from.groups) (sym c.named_set.ensures))
    c.set_item-in-Ok-Named.ensures

pub returns-in-Ok-Assertion : goal.returns-in-Ok-Assertion
returns-in-Ok-Assertion c =
    meet _ (ap (escape_item c.args.s.now c.args.from.at c.args.from.groups) (sym (rw c.in-Ok-Assertion.field-0-is at c.in-Ok-Assertion.ensures)))
    c.assertion.ensures

pub returns-in-Err : goal.returns-in-Err
returns-in-Err c =
    rw c.at.ensures
    (let bad = sym c.in-Err.ensures in
    meet_no (ap (escape_item c.args.s.now c.args.from.at c.args.from.groups) bad) (wrong_late false c.args.s.now c.args.from.at bad))
