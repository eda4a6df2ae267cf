-- Spans and gates, computed: bits from an independent conversion, forms of 28, both sides of 15 digits, gates at their ends.
use Rattle.std.specs.Prelude.{◌≡◌, refl, Bool, true, false, ◌&&◌, List, [], ◌∷◌, ℕ, ◌+◌, ◌-◌, eqb, pos, negsuc, length, Float}
use Prim.Native.String.{String}
use Rattle.std.specs.Float.{binary64}
use Rattle.std.specs.Float.Ieee.{to_bits, of_bits, of_fields, div, of_int, neg, round, units, odd, size, span, climb, le, lt, eq, is_nan}
use Rattle.std.specs.Int.Count.{count_trailing_zeros}
use Rattle.sets.specs.Sets.{is_digit}
use Rattle.meaning.specs.Quoted.{bytes}
use Rattle.fields.specs.Scanning.{digits_from, unsigned, numeral_in, field_of}
use Rattle.fields.specs.Gates.{passing_value, passing_field}
use Rattle.fields.specs.Field.{Field, Number, Refused}
use Rattle.fields.specs.declared.Gate.TheVariants.{AtMost, AtLeast, Between}
use Rattle.fields.specs.Passing.{Passing, Passes, Stopped, Refused as Unpassed}

-- Whether an answer is a number of such bits and decimals, or 28 at place 0.
abbrev is : Field → ℕ → ℕ → Bool
is (Number r) bits decimals = eqb (to_bits binary64 r.value) bits && eqb r.decimals decimals
is (Refused number place) bits decimals = false

abbrev refused : Field → Bool
refused (Number r) = false
refused (Refused number place) = eqb number 28 && eqb place 0

-- All bytes of a text.
abbrev read : List ℕ → Field
read s = field_of s (pos 0) (pos (length s))

-- A number as it is written, its bits and its decimals.
record Line : Type 0 where
  text : List ℕ
  bits : ℕ
  decimals : ℕ

abbrev line : String → ℕ → ℕ → Line
line text bits decimals = record { text = bytes text; bits = bits; decimals = decimals }

abbrev all_read : List Line → Bool
all_read [] = true
all_read (l ∷ more) = is (read l.text) l.bits l.decimals && all_read more

abbrev numbers : List Line
numbers =
    line "0" 0x0000000000000000 0
    ∷ line "7" 0x401C000000000000 0
    ∷ line "-48.25" 0xC048200000000000 2
    ∷ line "0.1" 0x3FB999999999999A 1
    ∷ line "-0" 0x8000000000000000 0
    ∷ line "-0.00" 0x8000000000000000 2
    ∷ line "0.0" 0x0000000000000000 1
    ∷ line "007.50" 0x401E000000000000 2
    ∷ line "999999999999999" 0x430C6BF52633FFF8 0
    ∷ line "-999999999999999" 0xC30C6BF52633FFF8 0
    ∷ line "99999999999999.9" 0x42D6BCC41E8FFFFA 1
    ∷ line "0.00000000000001" 0x3D06849B86A12B9B 14
    ∷ line "9.99999999999999" 0x4023FFFFFFFFFFFA 14
    ∷ line "123456789012.345" 0x423CBE991A145852 3
    ∷ line "000000000000000" 0x0000000000000000 0
    ∷ line "0.3" 0x3FD3333333333333 1
    ∷ line "-40.0" 0xC044000000000000 1
    ∷ line "1.005" 0x3FF0147AE147AE14 3
    ∷ []

numbers_read : all_read numbers ≡ true
unfolding is_digit digits_from unsigned numeral_in div of_int neg round units odd size span climb to_bits count_trailing_zeros
numbers_read = refl

-- No number: 16 digits with a point and without, and each way not to be one.
abbrev all_refused : List String → Bool
all_refused [] = true
all_refused (s ∷ more) = refused (read (bytes s)) && all_refused more

no_numbers : all_refused
    ("" ∷ "-" ∷ "." ∷ "-." ∷ "1." ∷ ".5" ∷ "-.5" ∷ "+1" ∷ "--1" ∷ "1-" ∷ "1e3" ∷ " 1" ∷ "1 " ∷ "1.2.3" ∷ "1..2" ∷ "1,5" ∷ "0x1"
    ∷ "nan" ∷ "inf" ∷ "1.-2" ∷ "/" ∷ ":" ∷ "1/" ∷ "1:" ∷ "1.:" ∷ "1234567890123456" ∷ "0000000000000000" ∷ "-1234567890123456"
    ∷ "12345678901234.56" ∷ "1.234567890123456" ∷ "123456789012345." ∷ "123456789012345.6" ∷ []) ≡ true
unfolding is_digit digits_from unsigned numeral_in
no_numbers = refl

-- Spans of "a-1.5b": those that have no bytes, those of other bytes, and the number's own.
abbrev text : List ℕ
text = bytes "a-1.5b"

spans : (refused (field_of text (negsuc 0) (negsuc 0)) && refused (field_of text (negsuc 0) (pos 3))
    && refused (field_of text (pos 1) (negsuc 0)) && refused (field_of text (pos 3) (pos 2))
    && refused (field_of text (pos 2) (pos 2))
    && refused (field_of text (pos 6) (pos 6)) && refused (field_of text (pos 6) (pos 7)) && refused (field_of text (pos 2) (pos 7))
    && refused (field_of text (pos 2147483647) (pos 2147483647)) && refused (field_of text (negsuc 2147483647) (pos 2147483647))
    && refused (field_of text (pos 1) (pos 6)) && is (field_of text (pos 1) (pos 5)) 0xBFF8000000000000 1
    && is (field_of text (pos 4) (pos 5)) 0x4014000000000000 0) ≡ true
unfolding is_digit digits_from unsigned numeral_in div of_int neg round units odd size span climb to_bits count_trailing_zeros
spans = refl

-- Gates, by the bits of limits and value: 2 passes, 1 stopped, else the number of the refusal.
abbrev said : Passing → ℕ
said Passes = 2
said Stopped = 1
said (Unpassed number place) = number + place

abbrev x : ℕ → Float
x b = of_bits binary64 b

abbrev at_most : ℕ → ℕ → ℕ
at_most limit value = said (passing_value (AtMost (x limit)) (x value))

abbrev at_least : ℕ → ℕ → ℕ
at_least limit value = said (passing_value (AtLeast (x limit)) (x value))

abbrev between : ℕ → ℕ → ℕ → ℕ
between low high value = said (passing_value (Between (x low) (x high)) (x value))

-- -40.0, 40.0 and the floats beside them; both zeros and the least float; both infinities and a NaN.
abbrev cold : ℕ
cold = 0xC044000000000000

abbrev warm : ℕ
warm = 0x4044000000000000

abbrev zero⁻ : ℕ
zero⁻ = 0x8000000000000000

abbrev inf⁻ : ℕ
inf⁻ = 0xFFF0000000000000

abbrev inf⁺ : ℕ
inf⁺ = 0x7FF0000000000000

abbrev none : ℕ
none = 0x7FF8000000000000

at_most_lem : (at_most warm warm ∷ at_most warm (warm + 1) ∷ at_most warm (warm - 1) ∷ at_most cold cold ∷ at_most cold (cold + 1)
    ∷ at_most cold (cold - 1) ∷ at_most 0 zero⁻ ∷ at_most zero⁻ 0 ∷ at_most zero⁻ 1 ∷ at_most inf⁺ inf⁺ ∷ at_most inf⁺ cold
    ∷ at_most inf⁻ inf⁻ ∷ at_most inf⁻ cold ∷ at_most none warm ∷ at_most warm none ∷ [])
    ≡ (2 ∷ 1 ∷ 2 ∷ 2 ∷ 2 ∷ 1 ∷ 2 ∷ 2 ∷ 1 ∷ 2 ∷ 2 ∷ 2 ∷ 1 ∷ 29 ∷ 1 ∷ [])
unfolding of_bits of_fields odd count_trailing_zeros le lt eq is_nan
at_most_lem = refl

at_least_lem : (at_least warm warm ∷ at_least warm (warm + 1) ∷ at_least warm (warm - 1) ∷ at_least 0 zero⁻ ∷ at_least 1 0
    ∷ at_least inf⁻ inf⁻ ∷ at_least inf⁺ warm ∷ at_least none warm ∷ at_least cold none ∷ [])
    ≡ (2 ∷ 2 ∷ 1 ∷ 2 ∷ 1 ∷ 2 ∷ 1 ∷ 29 ∷ 1 ∷ [])
unfolding of_bits of_fields odd count_trailing_zeros le lt eq is_nan
at_least_lem = refl

-- Both ends are in; reversed limits stop everything; a NaN at either place is refused, also where the other is beyond the value.
between_both : (between cold warm cold ∷ between cold warm warm ∷ between cold warm (cold + 1) ∷ between cold warm (warm + 1)
    ∷ between warm warm warm ∷ between warm cold 0 ∷ between warm cold warm ∷ between 0 zero⁻ 0 ∷ between inf⁻ inf⁺ inf⁺
    ∷ between inf⁺ inf⁻ 0 ∷ between none warm 0 ∷ between cold none 0 ∷ between warm none 0 ∷ between none none 0
    ∷ between cold warm none ∷ [])
    ≡ (2 ∷ 2 ∷ 1 ∷ 1 ∷ 2 ∷ 1 ∷ 1 ∷ 2 ∷ 2 ∷ 1 ∷ 29 ∷ 29 ∷ 29 ∷ 29 ∷ 1 ∷ [])
unfolding of_bits of_fields odd count_trailing_zeros le lt eq is_nan
between_both = refl

-- Span and gate in one call: 28 goes before 29.
both : (said (passing_field (AtMost (x cold)) (bytes "-48.25") (pos 0) (pos 6))
    ∷ said (passing_field (AtMost (x cold)) (bytes "-39.99") (pos 0) (pos 6))
    ∷ said (passing_field (AtMost (x cold)) (bytes "-40.0") (pos 0) (pos 5))
    ∷ said (passing_field (AtMost (x none)) (bytes "-40.0") (pos 0) (pos 5))
    ∷ said (passing_field (AtMost (x none)) (bytes "-40.0") (pos 0) (pos 6)) ∷ [])
    ≡ (2 ∷ 1 ∷ 2 ∷ 29 ∷ 28 ∷ [])
unfolding is_digit digits_from unsigned numeral_in div of_int neg round units odd size span climb of_bits of_fields count_trailing_zeros le
    lt eq is_nan
both = refl
