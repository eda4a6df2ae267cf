use mathlib.Core.Path.{sym, ap}
use Prim.Native.Nat.{◌*◌}
use native.Mathlib.Omega.{arith}
use lib.ListN.{take}
use Rattle.table.specs.Table.{record_words}
use Rattle.std.proofs.Common.{rules}
use Rattle.reading_atoms.specs.Laws.{class_holds}
use Rattle.reading_items.specs.Reading.{class_part}
use Rattle.reading_items.specs.Numbers.{broken_late}
use Rattle.reading_items.proofs.Singles.{meet, meet_no, fine_on}
use Rattle.reading_items.proofs.leaves.class_item.Goals as goal

pub set_item-requires : goal.set_item-requires
set_item-requires c =
    let fits = class_holds c.args.s.now c.args.from.at c.requires.0.bytes (sym c.in_ok-set.ensures) in
    (fine_on _ c.requires.0 (omega (arith, fits.1)) fits.2, fits.0)

pub returns-in_err-set : goal.returns-in_err-set
returns-in_err-set c =
    let bad = sym c.in_err-set.ensures in
    let h = meet_no {before = take (record_words * c.args.from.top) c.args.table.now} {table' = c.args.table.now}
    (ap (class_part c.args.s.now c.args.from.groups) bad) (broken_late c.args.s.now c.args.from.at bad) in
    search (rules, h)

pub returns : goal.returns
returns c = meet _ (ap (class_part c.args.s.now c.args.from.groups) (sym c.in_ok-set.ensures)) c.set_item.ensures
