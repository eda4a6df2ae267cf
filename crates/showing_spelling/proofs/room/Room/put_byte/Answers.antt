-- By the tests of the spelling.
use Rattle.std.proofs.Common.{sym, arith}
use Rattle.std.proofs.lemmas.Bool.Decides.{nat_tests}
use Rattle.showing_spelling.specs.Wrote.{wrote_as}
use Rattle.showing_spelling.specs.Texts.{byte_control, byte_guarded, byte_plain, byte_hexed}
use Rattle.showing_spelling.proofs.room.Room.put_byte.Goals as goal

pub returns-in-9-to-13 : goal.returns-in-9-to-13
returns-in-9-to-13 c = wrote_as c.put_escaped.ensures (sym (byte_control c.args.in_class c.args.b (grind (arith, nat_tests))))

pub returns-in-32-to-126 : goal.returns-in-32-to-126
returns-in-32-to-126 c =
    wrote_as c.put_escaped-in-32-to-126.ensures
    (sym (byte_guarded c.args.in_class c.args.b (grind (arith, nat_tests)) (grind (arith, nat_tests))
    (sym c.if-guarded.ensures)))

pub returns-in-32-to-126-2 : goal.returns-in-32-to-126-2
returns-in-32-to-126-2 c =
    wrote_as c.put.ensures
    (sym (byte_plain c.args.in_class c.args.b (grind (arith, nat_tests)) (grind (arith, nat_tests)) (sym c.if-guarded.ensures)))

pub returns-in_default : goal.returns-in_default
returns-in_default c =
    wrote_as c.put_hex.ensures (sym (byte_hexed c.args.in_class c.args.b (grind (arith, nat_tests)) (grind (arith, nat_tests))))
