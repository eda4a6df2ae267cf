-- Both are written in the same place; the one that begins later is the shorter.
use Rattle.std.proofs.Common.{refl, true, false}
use Rattle.showing_spelling.specs.Spelling.{either_text, best_text}
use Rattle.showing_spelling.specs.Put.{put_longer}
use Rattle.showing_spelling.specs.Wrote.{wrote_over, wrote_as, wrote_shorter}
use Rattle.showing_spelling.proofs.room.Room.put_best.Goals as goal

pub returns-then-self-named : goal.returns-then-self-named
unfolding best_text
returns-then-self-named c =
    let named = c.put_either.ensures in
    let plain = c.put_either-2.ensures in
    wrote_as (wrote_over (wrote_over named refl refl plain) refl refl c.put_either-then-self-named.ensures)
    (put_longer (either_text false c.args.set) (either_text true c.args.set) _ _ _ plain.put.next named.put.next
    c.if-self-named.true)

pub returns-else-self-named : goal.returns-else-self-named
unfolding best_text
returns-else-self-named c =
    let named = c.put_either.ensures in
    let plain = c.put_either-2.ensures in
    wrote_shorter (either_text true c.args.set) _ (wrote_over named refl refl plain) named.put.next c.if-self-named.false
