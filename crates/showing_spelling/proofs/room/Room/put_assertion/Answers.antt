-- By its number.
use Rattle.std.proofs.Common.{◌≡◌, sym, ap, arith}
use Rattle.showing_spelling.specs.Spelling.{assertion_text}
use Rattle.showing_spelling.specs.Wrote.{wrote_as}
use Rattle.showing_spelling.proofs.room.Room.put_assertion.Goals as goal

pub returns-in-0 : goal.returns-in-0
unfolding assertion_text
returns-in-0 c = wrote_as c.put.ensures (ap assertion_text (sym c.in-0.is))

pub returns-in-1 : goal.returns-in-1
unfolding assertion_text
returns-in-1 c = wrote_as c.put-in-1.ensures (ap assertion_text (sym c.in-1.is))

pub returns-in-2 : goal.returns-in-2
unfolding assertion_text
returns-in-2 c = wrote_as c.put_escaped.ensures (ap assertion_text (sym c.in-2.is))

pub returns-in_default : goal.returns-in_default
unfolding assertion_text
returns-in_default c =
    let e : c.args.a ≡ 3 = omega arith in
    wrote_as c.put_escaped-in_default.ensures (ap assertion_text (sym e))
