-- By the tests in their order.
use Rattle.std.proofs.Common.{◌≡◌, [], ◌∷◌, sym, ap, ◌∙◌, arith, lt-ltb}
use Rattle.sets.specs.Sets.{same_bytes}
use Rattle.sets.specs.Laws.{words_of}
use Rattle.reading_atoms.specs.Chars.{backslash}
use Rattle.showing_spelling.specs.Spelling.{escape_letter, escape_text}
use Rattle.showing_spelling.specs.Wrote.{wrote_as}
use Rattle.showing_spelling.specs.Texts.{set_dot, set_escape, set_plain}
use Rattle.showing_spelling.proofs.room.Room.put_set.Goals as goal

pub returns-then-same : goal.returns-then-same
returns-then-same c =
    let e = ap (same_bytes c.args.set) (sym (words_of c.dot.ensures)) ∙ sym c.if-same.ensures in
    wrote_as c.put.ensures (sym (set_dot c.args.set e))

pub returns-in-Some : goal.returns-in-Some
returns-in-Some c =
    let k = c.in-Some.escape.number in
    let e = ap (same_bytes c.args.set) (sym (words_of c.dot.ensures)) ∙ sym c.if-same.ensures in
    let text : backslash ∷ escape_letter k ∷ [] ≡ escape_text k = rw (lt-ltb k 6 c.in-Some.escape.known) in
    wrote_as c.put_escaped.ensures
    (ap (λ b. backslash ∷ b ∷ []) c.letter.ensures ∙ text ∙ ap escape_text c.in-Some.ensures
    ∙ sym (set_escape c.args.set e (omega (arith, c.in-Some.ensures, c.in-Some.escape.known))))

pub returns-in-None : goal.returns-in-None
returns-in-None c =
    let e = ap (same_bytes c.args.set) (sym (words_of c.dot.ensures)) ∙ sym c.if-same.ensures in
    wrote_as c.put_plain.ensures (sym (set_plain c.args.set e (omega (arith, c.in-None.ensures))))
