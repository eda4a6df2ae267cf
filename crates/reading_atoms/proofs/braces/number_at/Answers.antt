use mathlib.Core.Path.{◌≡◌, refl, ◌∙◌}
use mathlib.Core.Bool.{true, false}
use mathlib.Core.List.{List}
use Prim.Native.Nat.{ℕ, ◌≤◌}
use native.Mathlib.Omega.{arith}
use borrow.Author.Tests.{le-leb}
use Rattle.std.proofs.lemmas.Grind.{common_steps}
use Rattle.sets.specs.Sets.{is_digit}
use Rattle.reading_atoms.specs.Chars.{byte_at}
use Rattle.reading_atoms.specs.Braces.{number_at}
use Rattle.reading_atoms.specs.Places.{digit_none}
use Rattle.reading_atoms.specs.Answers.{Capped}
use Rattle.reading_atoms.specs.BraceLaws.{Digits, digits_none, digits_more, digits_end}
use Rattle.reading_atoms.proofs.braces.number_at.Goals as goal

-- A byte from 0 to 9 is a digit.
is-digit : (b : ℕ) → 0x30 ≤ b → b ≤ 0x39 → is_digit b ≡ true
unfolding is_digit
is-digit b l h = rw (le-leb 0x30 b l, le-leb b 0x39 h)

-- Where no digit stands the number ends.
ends : {s : List ℕ} {from value end : ℕ} → Digits s from value end → is_digit (byte_at s end) ≡ false
    → Capped (record { value = value; end = end }) (number_at s from)
ends {s} {end = end} d e = rw (d.same ∙ digits_end s d.fuel d.exact end e) (record { value = d.capped; end = refl })

pub loop-digit-init : goal.loop-digit-init
loop-digit-init c = digits_none c.args.s.now c.args.at

pub loop-digit-preserved : goal.loop-digit-preserved
loop-digit-preserved c =
    let e : is_digit c.in-Some-48-to-57.digit ≡ true = is-digit _ (omega arith) (omega arith) in
    rw (c.min-value.ensures, c.from.ensures, c.in-Some-48-to-57.ensures)
    (digits_more c.loop-digit.invariant (rw (← c.in-Some-48-to-57.ensures) e))

pub returns-in_default : goal.returns-in_default
unfolding is_digit
returns-in_default c = ends c.loop-digit.invariant (grind (arith, common_steps))

pub returns-in_default-2 : goal.returns-in_default-2
unfolding is_digit
returns-in_default-2 c = ends c.loop-digit.invariant (grind (arith, common_steps))

pub returns-in_default-3 : goal.returns-in_default-3
returns-in_default-3 c = ends c.loop-digit.invariant (rw (← (rw c.in_default.is at c.byte_at.ensures)) digit_none)
