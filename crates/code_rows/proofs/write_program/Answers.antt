-- The rows are written one before the other, and then the header row.
use Prim.Native.Nat.{◌+◌}
use native.Mathlib.Omega.{arith}
use Rattle.code_words.specs.Wrote.{Room, room_before}
use Rattle.code_rows.specs.Asking.{word_there, row_first, row_next, size_word_lem}
use Rattle.code_rows.specs.Program.{tabled_part, wrote_program}
use Rattle.code_rows.proofs.write_program.Goals as goal

pub word-n-requires : goal.word-n-requires
word-n-requires c =
    word_there _ (omega arith) (tabled_part c.requires.tabled)

pub overflow_add-n : goal.overflow_add-n
overflow_add-n c =
    let e = size_word_lem (tabled_part c.requires.tabled) c.word-n.ensures (omega (arith, c.requires.roomy.short)) in
    omega (arith, c.requires.roomy.short)

pub row_before-accept-requires : goal.row_before-accept-requires
row_before-accept-requires c =
    let e = size_word_lem (tabled_part c.requires.tabled) c.word-n.ensures (omega (arith, c.requires.roomy.short)) in
    let room : Room c.args.code.now (8 + c.word-n.result)
    = record { few = omega (arith, c.requires.roomy.short); long = omega (arith, c.requires.roomy.long) } in
    row_first 0 (omega arith) room

pub row_before-close-requires : goal.row_before-close-requires
row_before-close-requires c =
    let e = size_word_lem (tabled_part c.requires.tabled) c.word-n.ensures (omega (arith, c.requires.roomy.short)) in
    let room : Room c.args.code.now (8 + c.word-n.result)
    = record { few = omega (arith, c.requires.roomy.short); long = omega (arith, c.requires.roomy.long) } in
    row_next c.row_before-accept.ensures (omega arith) room

pub part-first-requires : goal.part-first-requires
part-first-requires c =
    let e = size_word_lem (tabled_part c.requires.tabled) c.word-n.ensures (omega (arith, c.requires.roomy.short)) in
    let room : Room c.args.code.now (8 + c.word-n.result)
    = record { few = omega (arith, c.requires.roomy.short); long = omega (arith, c.requires.roomy.long) } in
    record {
      node = c.requires.node;
      part = tabled_part c.requires.tabled;
      fits = omega (arith, c.row_before-accept.ensures.counts, c.row_before-close.ensures.counts);
      room = room_before c.row_before-close.ensures (room_before c.row_before-accept.ensures room);
    }

pub row_before-requires : goal.row_before-requires
row_before-requires c =
    let e = size_word_lem (tabled_part c.requires.tabled) c.word-n.ensures (omega (arith, c.requires.roomy.short)) in
    let room : Room c.args.code.now (8 + c.word-n.result)
    = record { few = omega (arith, c.requires.roomy.short); long = omega (arith, c.requires.roomy.long) } in
    row_next (c.part-first.ensures.by c.requires.node (tabled_part c.requires.tabled) (omega (arith, c.row_before-accept.ensures.counts, c.row_before-close.ensures.counts)))
    (omega (arith, c.row_before-accept.ensures.counts, c.row_before-close.ensures.counts)) (room_before c.row_before-close.ensures (room_before c.row_before-accept.ensures room))

pub place-requires : goal.place-requires
place-requires c =
    omega (
      arith,
      c.requires.roomy.long,
      c.row_before-accept.auto,
      c.row_before-close.auto,
      c.part-first.auto,
      c.row_before.auto,
      c.prefix.auto,
    )

pub returns : goal.returns
returns c =
    record {
      by = λ r t m.
          let e = size_word_lem (tabled_part t) c.word-n.ensures (omega (arith, m.short)) in
          let room : Room c.args.code.now (8 + c.word-n.result)
          = record { few = omega (arith, m.short); long = omega (arith, m.long) } in
          let w'' = c.part-first.ensures.by r (tabled_part t) (omega (arith, c.row_before-accept.ensures.counts, c.row_before-close.ensures.counts)) in
          wrote_program r room (omega arith) c.row_before-accept.ensures c.row_before-close.ensures w'' c.row_before.ensures c.prefix.ensures
          (rw c.plain.ensures at c.place.ensures);
    }
