-- Both are written in the same place; the one that begins later is the shorter.
use Rattle.std.proofs.Common.{ap, ◌∙◌, refl, true, false, List, ℕ}
use Rattle.sets.specs.Laws.{words_of}
use Rattle.showing_spelling.specs.Spelling.{class_text, shorter}
use Rattle.showing_spelling.specs.Put.{put_longer}
use Rattle.showing_spelling.specs.Wrote.{wrote_over, wrote_as, wrote_shorter}
use Rattle.showing_spelling.proofs.room.Room.put_either.Goals as goal

pub returns-then-self-second : goal.returns-then-self-second
returns-then-self-second c =
    let x = class_text false c.args.named c.args.set in
    let y = class_text true c.args.named c.complement-others.result in
    let second = c.put_class.ensures in
    let first = c.put_class-2.ensures in
    wrote_as (wrote_over (wrote_over second refl refl first) refl refl c.put_class-then-self-second.ensures)
    (put_longer x y _ _ _ first.put.next second.put.next c.if-self-second.true
    ∙ ap (λ (o : List ℕ). shorter x (class_text true c.args.named o)) (words_of c.complement-others.ensures))

pub returns-else-self-second : goal.returns-else-self-second
returns-else-self-second c =
    let x = class_text false c.args.named c.args.set in
    let y = class_text true c.args.named c.complement-others.result in
    let second = c.put_class.ensures in
    let first = c.put_class-2.ensures in
    wrote_as (wrote_shorter y _ (wrote_over second refl refl first) second.put.next c.if-self-second.false)
    (ap (λ (o : List ℕ). shorter x (class_text true c.args.named o)) (words_of c.complement-others.ensures))
