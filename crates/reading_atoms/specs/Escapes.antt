-- Escapes: `\` and what follows it, outside a class and inside one. Definitions only.
use Rattle.std.specs.Prelude.{Bool, cond, ◌||◌, ◌&&◌, List, ℕ, ◌+◌, ◌*◌, ◌%◌, eqb}
use Rattle.sets.specs.Sets.{is_digit, is_word}
use Rattle.meaning.specs.Refusals as No
use Rattle.reading_atoms.specs.Chars.{no_byte, byte_at, is_letter, is_hex, hex_value}

-- What an escape says: a byte, with the place behind it; a set, by its number; an assertion, by its number; or a refusal.
pub data Escape : Type 0 where
  byte : ℕ → ℕ → Escape
  named : ℕ → Escape
  assertion : ℕ → Escape
  wrong : ℕ → Escape

-- \f \n \r \t \v, and the bytes they stand for; 0 for any other letter.
abbrev pub control : ℕ → ℕ
control b =
    cond (eqb b 0x66) 0x0C
    (cond (eqb b 0x6E) 0x0A
    (cond (eqb b 0x72) 0x0D
    (cond (eqb b 0x74) 0x09
    (cond (eqb b 0x76) 0x0B 0))))

-- \d \D \w \W \s \S by their number from 0; 6 for any other letter.
abbrev pub set_number : ℕ → ℕ
set_number b =
    cond (eqb b 0x64) 0
    (cond (eqb b 0x44) 1
    (cond (eqb b 0x77) 2
    (cond (eqb b 0x57) 3
    (cond (eqb b 0x73) 4
    (cond (eqb b 0x53) 5 6)))))

-- `\c` and a letter: the letter mod 32.
abbrev pub letter_escape : List ℕ → ℕ → Escape
letter_escape s at = cond (is_letter (byte_at s (at + 2))) (byte (byte_at s (at + 2) % 32) (at + 3)) (wrong No.bad_escape)

-- `\x` and two hex digits.
abbrev pub hex_escape : List ℕ → ℕ → Escape
hex_escape s at =
    cond (is_hex (byte_at s (at + 2)) && is_hex (byte_at s (at + 3)))
    (byte (hex_value (byte_at s (at + 2)) * 16 + hex_value (byte_at s (at + 3))) (at + 4)) (wrong No.bad_escape)

-- `\0` before no digit.
abbrev pub zero_escape : List ℕ → ℕ → Escape
zero_escape s at = cond (is_digit (byte_at s (at + 2))) (wrong No.bad_escape) (byte 0 (at + 2))

-- What is not listed: outside a class `\1` to `\9` and `\k` are left out; any other letter, digit or `_` is wrong; the rest is
-- itself.
abbrev pub other_escape : Bool → ℕ → ℕ → Escape
other_escape inClass b end =
    cond (is_digit b || eqb b 0x6B) (wrong (cond inClass No.bad_escape No.left_out))
    (cond (is_word b || eqb b no_byte) (wrong No.bad_escape) (byte b end))

-- The escape whose `\` stands at a place: a listed one; 5 for `\u` anywhere and outside a class for `\1` to `\9` and `\k`; 4
-- for any other letter, digit or `_`, and for `\` at the end; any other byte is itself. `\b` is 08 in a class and `\B` is not
-- listed there.
unfoldable pub escape_at : Bool → List ℕ → ℕ → Escape
escape_at inClass s at =
    let b : ℕ = byte_at s (at + 1) in
    cond (eqb (set_number b) 6)
    (cond (eqb (control b) 0)
    (cond (eqb b 0x63) (letter_escape s at)
    (cond (eqb b 0x78) (hex_escape s at)
    (cond (eqb b 0x30) (zero_escape s at)
    (cond (eqb b 0x62) (cond inClass (byte 0x08 (at + 2)) (assertion 2))
    (cond (eqb b 0x42) (cond inClass (wrong No.bad_escape) (assertion 3))
    (cond (eqb b 0x75) (wrong No.left_out)
    (other_escape inClass b (at + 2))))))))
    (byte (control b) (at + 2)))
    (named (set_number b))
