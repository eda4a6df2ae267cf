-- By the tests in their order.
use Rattle.std.proofs.Common.{false, sym, ap, ◌∙◌, arith}
use Rattle.sets.specs.Sets.{same_bytes}
use Rattle.sets.specs.Laws.{words_of}
use Rattle.reading_items.specs.Reading.{literal_set}
use Rattle.showing_spelling.specs.Spelling.{byte_text}
use Rattle.showing_spelling.specs.Wrote.{wrote_as}
use Rattle.showing_spelling.specs.Texts.{plain_byte, plain_best, plain_none}
use Rattle.showing_spelling.proofs.room.Room.put_plain.Goals.{in_default-via-in-Some+else-same, in_default-via-in_default}
use Rattle.showing_spelling.proofs.room.Room.put_plain.Goals as goal

pub returns-in-Some : goal.returns-in-Some
returns-in-Some c =
    wrote_as c.put_byte.ensures
    (ap (byte_text false) c.in-Some.ensures ∙ sym (plain_byte c.args.set (omega (arith, c.in-Some.ensures))
    (ap (same_bytes c.args.set) (sym (words_of c.one.ensures ∙ ap literal_set c.in-Some.ensures)) ∙ sym c.if-same.ensures)))

pub returns-in_default : goal.returns-in_default
returns-in_default c =
    wrote_as c.put_best.ensures (elim c.in_default.branch [
      | in_default-via-in-Some+else-same w ↦
          sym (plain_best c.args.set (omega (arith, w.in-Some.ensures))
          (ap (same_bytes c.args.set) (sym (words_of w.one.ensures ∙ ap literal_set w.in-Some.ensures)) ∙ sym w.if-same.ensures))
      | in_default-via-in_default w ↦ sym (plain_none c.args.set (omega (arith, w.in_default.ensures)))
    ])
