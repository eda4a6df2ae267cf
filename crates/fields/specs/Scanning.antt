-- A number read from left to right, and so what reading a span answers. Definitions only; `Grammar` shows that exactly what is
-- written as a number is read.
use Rattle.std.specs.Prelude.{Bool, true, false, cond, ◌&&◌, List, [], ◌∷◌, ℕ, zero, suc, ◌+◌, ◌-◌, ◌*◌, eqb, ltb, ℤ, length}
use Rattle.std.proofs.Math.Option.{Option, none, some}
use Rattle.sets.specs.Sets.{is_digit}
use Rattle.meaning.specs.Limits.{digit_limit}
use Rattle.fields.specs.Fields.{minus_sign, point, span_of, Numeral, numeral, field_by}
use Rattle.fields.specs.Field.{Field}

-- Digits that were read: the number, how many more there may be, and the bytes behind them.
pub record Scanned : Type 0 where
  pub number : ℕ
  pub room : ℕ
  pub rest : List ℕ

abbrev pub scanned : ℕ → ℕ → List ℕ → Scanned
scanned number room rest = record { number = number; room = room; rest = rest }

-- Digits from the first byte on, behind a number, as far as there may be more.
unfoldable pub digits_from : ℕ → ℕ → List ℕ → Scanned
digits_from number zero s = scanned number zero s
digits_from number (suc room) [] = scanned number (suc room) []
digits_from number (suc room) (b ∷ s) =
    cond (is_digit b) (digits_from (10 * number + (b - 0x30)) room s) (scanned number (suc room) (b ∷ s))

-- Behind the point: one or more digits, and nothing else.
abbrev pub ended : Bool → ℕ → Scanned → Option Numeral
ended minus room r =
    cond (ltb r.room room && eqb (length r.rest) 0) (some (numeral minus r.number (room - r.room))) none

-- Behind the first digits: nothing, or a point.
abbrev pub after_digits : Bool → ℕ → ℕ → List ℕ → Option Numeral
after_digits minus n room [] = some (numeral minus n 0)
after_digits minus n room (b ∷ s) = cond (eqb b point) (ended minus room (digits_from n room s)) none

-- Behind the sign: one or more digits.
abbrev pub begun : Bool → Scanned → Option Numeral
begun minus r = cond (ltb r.room digit_limit) (after_digits minus r.number r.room r.rest) none

unfoldable pub unsigned : Bool → List ℕ → Option Numeral
unsigned minus s = begun minus (digits_from 0 digit_limit s)

-- The number that bytes are written as, if they are.
unfoldable pub numeral_in : List ℕ → Option Numeral
unfolding unsigned
numeral_in [] = unsigned false []
numeral_in (b ∷ s) = cond (eqb b minus_sign) (unsigned true s) (unsigned false (b ∷ s))

-- The number that a span holds, if it does.
abbrev pub numeral_of : Option (List ℕ) → Option Numeral
numeral_of none = none
numeral_of (some s) = numeral_in s

-- What reading a span of a text answers.
abbrev pub field_of : List ℕ → ℤ → ℤ → Field
field_of text start end = field_by (numeral_of (span_of text start end))
