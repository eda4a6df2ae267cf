use Prim.Native.Nat.{◌*◌}
use lib.ListN.{take}
use Rattle.meaning.specs.Node.{Node.bset}
use Rattle.table.specs.Table.{record_words}
use Rattle.reading_items.proofs.Putting.{set_putting, set_stands}
use Rattle.reading_items.proofs.Singles.{fine_room, behind_set}
use Rattle.reading_items.proofs.leaves.set_item.Goals as goal

pub put-requires : goal.put-requires
put-requires c = set_putting c.requires.1 (fine_room c.requires.0)

pub quantified-requires : goal.quantified-requires
quantified-requires c =
    let (fine, formed) = c.requires in (
      behind_set fine c.put.auto.table,
      record {
        before = take (record_words * c.args.from.top) c.args.table.now;
        part = bset c.args.set;
        ends = record { stands = set_stands formed (fine_room fine) c.put.ensures; proper = formed };
      },
    )

pub returns : goal.returns
returns c =
    let (fine, formed) = c.requires in
    c.quantified.ensures.by (take (record_words * c.args.from.top) c.args.table.now)
    (bset c.args.set)
    (record {
      stands = set_stands formed (fine_room fine) c.put.ensures;
      proper = formed;
    })
