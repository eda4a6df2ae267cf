-- An escape lies within the pattern, and its byte, its set and its assertion are of their kind.
use Rattle.std.specs.Prelude.{◌≡◌, Bool, ◌||◌, ◌&&◌, List}
use Rattle.std.proofs.Math.Path.{refl}
use Rattle.std.proofs.Math.Bool.{true, false, not}
use Prim.Native.Nat.{ℕ, ◌+◌, ◌≤◌, ◌<◌}
use native.Mathlib.Omega.{arith}
use Rattle.std.proofs.Math.Dec.{eqb}
use Rattle.std.proofs.Math.ListN.{length}
use borrow.Author.Tests.{eqb-false}
use Rattle.sets.specs.Sets.{is_digit, is_word}
use Rattle.meaning.specs.Bytes.{Bytes}
use Rattle.reading_atoms.specs.Chars.{no_byte, byte_at, is_letter, is_hex}
use Rattle.reading_atoms.specs.Escapes.{Escape, Escape.byte, Escape.named, Escape.assertion, Escape.wrong, control}
use Rattle.reading_atoms.specs.Escapes.{set_number}
use Rattle.reading_atoms.specs.Escapes.{letter_escape, hex_escape, zero_escape, other_escape, escape_at}
use Rattle.reading_atoms.specs.Places.{by_cond, byte_within, byte_passes, byte_fits, both, neither, hex_small}

-- What an escape answers.
abbrev pub EscapeBy : List ℕ → ℕ → Escape → Type 0
EscapeBy s at (byte b end) = (at + 2 ≤ end) × (end ≤ length s) × (b < 256)
EscapeBy s at (named k) = (k < 6) × (at + 2 ≤ length s)
EscapeBy s at (assertion a) = (a ≤ 3) × (at + 2 ≤ length s)
EscapeBy s at (wrong number) = Unit {0}

pub record EscapeFine (s : List ℕ) (at : ℕ) (x : Escape) : Type 0 where
  pub by : EscapeBy s at x

-- The number of a set, and the byte of a control.
set_number_small : (b : ℕ) → set_number b ≤ 6
set_number_small b =
    by_cond (λ n. n ≤ 6) (eqb b 0x64) (λ e. omega arith) (λ e.
    by_cond (λ n. n ≤ 6) (eqb b 0x44) (λ e. omega arith) (λ e.
    by_cond (λ n. n ≤ 6) (eqb b 0x77) (λ e. omega arith) (λ e.
    by_cond (λ n. n ≤ 6) (eqb b 0x57) (λ e. omega arith) (λ e.
    by_cond (λ n. n ≤ 6) (eqb b 0x73) (λ e. omega arith) (λ e.
    by_cond (λ n. n ≤ 6) (eqb b 0x53) (λ e. omega arith) (λ e. omega arith))))))

control_small : (b : ℕ) → control b < 256
control_small b =
    by_cond (λ n. n < 256) (eqb b 0x66) (λ e. omega arith) (λ e.
    by_cond (λ n. n < 256) (eqb b 0x6E) (λ e. omega arith) (λ e.
    by_cond (λ n. n < 256) (eqb b 0x72) (λ e. omega arith) (λ e.
    by_cond (λ n. n < 256) (eqb b 0x74) (λ e. omega arith) (λ e.
    by_cond (λ n. n < 256) (eqb b 0x76) (λ e. omega arith) (λ e. omega arith)))))

-- An escape lies within the pattern, and its byte, set and assertion are of their kind.
module _ (inClass : Bool) (s : List ℕ) (at : ℕ) (fine : Bytes s) where
  letter_fine : EscapeFine s at (letter_escape s at)
  letter_fine =
      by_cond (EscapeFine s at) (is_letter (byte_at s (at + 2)))
      (λ e. let h = byte_passes is_letter s (at + 2) refl e in record { by = (omega arith, omega arith, omega arith) })
      (λ e. record { by = tt })

  hex_fine : EscapeFine s at (hex_escape s at)
  unfolding is_digit
  hex_fine =
      by_cond (EscapeFine s at) (is_hex (byte_at s (at + 2)) && is_hex (byte_at s (at + 3)))
      (λ e.
      let digits = both (is_hex (byte_at s (at + 2))) (is_hex (byte_at s (at + 3))) e in
      let high = hex_small (byte_at s (at + 2)) digits.0 in
      let low = hex_small (byte_at s (at + 3)) digits.1 in
      let h = byte_passes is_hex s (at + 3) refl digits.1 in
      record { by = (omega arith, omega arith, omega arith) })
      (λ e. record { by = tt })

  zero_fine : at + 1 < length s → EscapeFine s at (zero_escape s at)
  zero_fine h =
      by_cond (EscapeFine s at) (is_digit (byte_at s (at + 2))) (λ e. record { by = tt })
      (λ e. record { by = (omega arith, omega arith, omega arith) })

  other_fine : EscapeFine s at (other_escape inClass (byte_at s (at + 1)) (at + 2))
  other_fine =
      let b = byte_at s (at + 1) in
      by_cond (EscapeFine s at) (is_digit b || eqb b 0x6B) (λ e. record { by = tt }) (λ e.
      by_cond (EscapeFine s at) (is_word b || eqb b no_byte) (λ e. record { by = tt }) (λ e.
      let there = eqb-false b no_byte (neither (is_word b) (eqb b no_byte) e).1 in
      let h = byte_within s (at + 1) there in
      record { by = (omega arith, omega arith, byte_fits s (at + 1) fine there) }))

  pub escape_fine : EscapeFine s at (escape_at inClass s at)
  unfolding escape_at
  escape_fine =
      let b = byte_at s (at + 1) in
      by_cond (EscapeFine s at) (eqb (set_number b) 6) (λ e.
      by_cond (EscapeFine s at) (eqb (control b) 0) (λ e.
      by_cond (EscapeFine s at) (eqb b 0x63) (λ e. letter_fine) (λ e.
      by_cond (EscapeFine s at) (eqb b 0x78) (λ e. hex_fine) (λ e.
      by_cond (EscapeFine s at) (eqb b 0x30) (λ e. zero_fine (next (λ x. eqb x 0x30) refl e)) (λ e.
      by_cond (EscapeFine s at) (eqb b 0x62) (λ e. let h = next (λ x. eqb x 0x62) refl e in
      by_cond (EscapeFine s at) inClass (λ c. record { by = (omega arith, omega arith, omega arith) })
      (λ c. record { by = (omega arith, omega arith) }))
      (λ e.
      by_cond (EscapeFine s at) (eqb b 0x42) (λ e. let h = next (λ x. eqb x 0x42) refl e in
      by_cond (EscapeFine s at) inClass (λ c. record { by = tt }) (λ c. record { by = (omega arith, omega arith) }))
      (λ e.
      by_cond (EscapeFine s at) (eqb b 0x75) (λ e. record { by = tt }) (λ e. other_fine)))))))
      (λ e.
      let h = next (λ x. not (eqb (control x) 0)) refl (rw e) in
      record { by = (omega arith, omega arith, control_small b) }))
      (λ e.
      let h = next (λ x. not (eqb (set_number x) 6)) refl (rw e) in
      let small = set_number_small b in
      let other = eqb-false (set_number b) 6 e in
      record { by = (omega arith, omega arith) })
    where
      next : (test : ℕ → Bool) → test no_byte ≡ false → test (byte_at s (at + 1)) ≡ true → at + 1 < length s
      next test f e = byte_passes test s (at + 1) f e
