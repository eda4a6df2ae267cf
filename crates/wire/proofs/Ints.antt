-- Signed numbers of 32 bits by their bits, both ways round, alone and in lists.
use Rattle.std.specs.Prelude.{◌≡◌, refl, List, [], ◌∷◌, ◌++◌, map, ℕ, zero, suc, ◌+◌, ◌*◌, ◌-◌, ◌^◌, ◌≤◌, ◌<◌, ltb, ℤ, pos, negsuc, ◌+ℤ◌, ◌-ℤ◌, length, get_or, take}
use Rattle.std.proofs.Common.{sym, ap, ◌∙◌, arith, lt-ltb, le-ltb, ltb-true, to_z-of_z}
use mathlib.Core.Bool.{Bool, true, false, cond}
use Rattle.std.proofs.lemmas.List.{length-map}
use Rattle.std.specs.Int.Signed.{mag, lt_z}
use Rattle.std.specs.Int.{w32}
use mir.Val.{sel, to_z, of_z, SFits}
use Rattle.std.proofs.Math.Facts.{of_z-to_z, sfits_to_z, Fits-of_z}
use Rattle.wire.specs.Wire.{word_of4, words_of, bytes_of_word, bytes_of_words, bits_of, int_of, bytes_of_ints, ints_of, loaded, stored}
use Rattle.wire.proofs.Passing.{loaded_more, stored_more, loaded_back}
use Rattle.wire.specs.Words.{words_length, words_back, bytes_back}

-- The bits are the machine's, those of x as u32, and so is the number that is read from them.
pub bits_machine : (z : ℤ) → bits_of z ≡ of_z w32 z
unfolding bits_of
bits_machine (pos n) = refl
bits_machine (negsuc n) = refl

pub int_machine : (w : ℕ) → int_of w ≡ to_z w32 w
unfolding int_of
int_machine w = by (ltb w (2 ^ 31))
  where
    by : (t : Bool) → cond t (pos w) (negsuc (2 ^ 32 - suc w)) ≡ sel t (pos w) (negsuc (2 ^ 32 - suc w))
    by true = refl
    by false = refl

-- Both ways round, and within the width.
pub int_back : (z : ℤ) → mag z < 2 ^ 31 → int_of (bits_of z) ≡ z
int_back z h = int_machine (bits_of z) ∙ ap (to_z w32) (bits_machine z) ∙ to_z-of_z {w = w32} (record { sfits = h })

pub bits_back : (w : ℕ) → w < 2 ^ 32 → bits_of (int_of w) ≡ w
bits_back w h = bits_machine (int_of w) ∙ ap (of_z w32) (int_machine w) ∙ of_z-to_z {w = w32} (record { fits = h })

pub bits_fit : (z : ℤ) → mag z < 2 ^ 31 → bits_of z < 2 ^ 32
bits_fit z h = rw (bits_machine z) (Fits-of_z {w = w32} {z = z} (record { sfits = h })).fits

pub int_fits : (w : ℕ) → w < 2 ^ 32 → SFits w32 (int_of w)
int_fits w h = rw (int_machine w) (sfits_to_z (record { fits = h }))

-- A negative number and 2 ^ 32 are its bits; bits of 2 ^ 31 or more less 2 ^ 32 are their number.
pub bits_raised : (z : ℤ) → mag z < 2 ^ 31 → lt_z z (pos 0) ≡ true → z +ℤ pos 4294967296 ≡ pos (bits_of z)
unfolding bits_of
bits_raised (pos n) h e = absurd (omega (arith, ltb-true n 0 e))
bits_raised (negsuc n) h e = rw (le-ltb 4294967296 (suc n) (omega arith))

pub bits_plain : (z : ℤ) → lt_z z (pos 0) ≡ false → z ≡ pos (bits_of z)
unfolding bits_of
bits_plain (pos n) e = refl
bits_plain (negsuc n) e = absurd (mathlib.Core.Bool.true≢false e)

pub int_lowered : (w : ℕ) → 2 ^ 31 ≤ w → w < 2 ^ 32 → pos w -ℤ pos 4294967296 ≡ int_of w
unfolding int_of
int_lowered w h k = rw (le-ltb w (2 ^ 31) h, lt-ltb w 4294967296 k)

-- The bytes of one number more.
pub ints_more : (ints : List ℤ) (n w : ℕ) → w ≡ bits_of (get_or ints n (pos 0)) → n < length ints
    → bytes_of_ints (take n ints) ++ bytes_of_word w ≡ bytes_of_ints (take (n + 1) ints)
ints_more ints n w e h = rw e (stored_more bits_of ints n (pos 0) h)

-- One number more of bytes.
pub read_more : (bytes : List ℕ) (n : ℕ) {z : ℤ} → z ≡ int_of (word_of4 bytes n) → ints_of bytes n ++ z ∷ [] ≡ ints_of bytes (n + 1)
read_more = loaded_more int_of

-- Numbers that are passed as the machine's bits are passed as their bits.
pub loaded_ints : (bytes : List ℕ) (n : ℕ) → loaded (to_z w32) bytes n ≡ ints_of bytes n
loaded_ints bytes n = by (words_of bytes n)
  where
    by : (l : List ℕ) → map (to_z w32) l ≡ map int_of l
    by [] = refl
    by (w ∷ l) = rw (int_machine w, by l)

pub stored_ints : (ints : List ℤ) → stored (of_z w32) ints ≡ bytes_of_ints ints
stored_ints ints = ap bytes_of_words (by ints)
  where
    by : (l : List ℤ) → map (of_z w32) l ≡ map bits_of l
    by [] = refl
    by (z ∷ l) = rw (bits_machine z, by l)

pub ints_length : (bytes : List ℕ) (n : ℕ) → length (ints_of bytes n) ≡ n
ints_length bytes n = length-map (words_of bytes n) int_of ∙ words_length bytes n

bits_of_map : (l : List ℤ) → ((k : ℕ) → mag (get_or l k (pos 0)) < 2 ^ 31) → (k : ℕ) → get_or (map bits_of l) k 0 < 2 ^ 32
bits_of_map [] small k = omega arith
bits_of_map (z ∷ l) small zero = bits_fit z (small 0)
bits_of_map (z ∷ l) small (suc k) = bits_of_map l (λ i. small (suc i)) k

ints_of_map : (l : List ℤ) → ((k : ℕ) → mag (get_or l k (pos 0)) < 2 ^ 31) → map int_of (map bits_of l) ≡ l
ints_of_map [] small = refl
ints_of_map (z ∷ l) small = rw (int_back z (small 0), ints_of_map l (λ i. small (suc i)))

-- Signed numbers to bytes and back.
pub ints_back : (ints : List ℤ) (rest : List ℕ) → ((k : ℕ) → mag (get_or ints k (pos 0)) < 2 ^ 31)
    → ints_of (bytes_of_ints ints ++ rest) (length ints) ≡ ints
ints_back ints rest small =
    ap (λ n. ints_of (bytes_of_ints ints ++ rest) n) (sym (length-map ints bits_of))
    ∙ ap (map int_of) (words_back (map bits_of ints) rest (bits_of_map ints small)) ∙ ints_of_map ints small

pub words_of_map : (bytes : List ℕ) (n : ℕ) → ((k : ℕ) → get_or bytes k 0 < 256) → map bits_of (ints_of bytes n) ≡ words_of bytes n
words_of_map = loaded_back bits_of int_of bits_back

-- Bytes to signed numbers and back.
pub ints_bytes : (bytes : List ℕ) (n : ℕ) → ((k : ℕ) → get_or bytes k 0 < 256) → 4 * n ≤ length bytes
    → bytes_of_ints (ints_of bytes n) ≡ take (4 * n) bytes
ints_bytes bytes n small h = ap bytes_of_words (words_of_map bytes n small) ∙ bytes_back bytes n small h
