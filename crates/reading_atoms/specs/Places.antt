-- The byte at a place, and the tests that the definitions put to it.
use Rattle.std.specs.Prelude.{◌≡◌, refl, ◌⊎◌, Bool, true, false, cond, ◌||◌, ◌&&◌, List, [], ◌∷◌, ℕ, zero, suc, ◌≤◌, ◌<◌, eqb, leb, ltb, length, get_or, Option, Some, None}
use Rattle.std.proofs.Common.{sym, ap, ◌∙◌, inl, inr, ⊎_elim, true≢false, not-suc-le-zero, le_of_suc-le-suc, arith, Fits, eqb-true, leb-true, ltb-true, ltb-false}
use Rattle.std.proofs.Math.Bool.{or_assoc}
use Rattle.std.proofs.Math.ListN.{get_or-eq_default}
use Rattle.std.specs.Int.{w8}
use Rattle.sets.specs.Sets.{between, is_digit, is_word}
use Rattle.meaning.specs.Bytes.{Bytes}
use Rattle.std.proofs.lemmas.Bool.{eqb-false}
use Rattle.std.specs.Option.{option_eq}
use Rattle.reading_atoms.specs.Answers.{byte_of}
use Rattle.reading_atoms.specs.Chars.{no_byte, byte_at, is_upper, is_lower, is_letter, is_hex, hex_value}

-- What holds of both sides of a choice holds of the choice; each side may use which way the test went.
pub by_cond : {A : Type 0} (P : A → Type 0) (p : Bool) {a b : A} → (p ≡ true → P a) → (p ≡ false → P b) → P (cond p a b)
by_cond P true f g = f refl
by_cond P false f g = g refl

-- Within the pattern the byte at a place is its element; past the end it is no byte.
pub byte_there : (s : List ℕ) (i : ℕ) → i < length s → byte_at s i ≡ get_or s i 0
byte_there [] i h = absurd (not-suc-le-zero h)
byte_there (b ∷ s) zero h = refl
byte_there (b ∷ s) (suc i) h = byte_there s i (le_of_suc-le-suc h)

pub byte_none : (s : List ℕ) (i : ℕ) → length s ≤ i → byte_at s i ≡ no_byte
byte_none s i h = get_or-eq_default s no_byte h

-- A place with a byte is within the pattern.
pub byte_within : (s : List ℕ) (i : ℕ) → (byte_at s i ≡ no_byte → ⊥) → i < length s
byte_within s i h = go (ltb i (length s)) refl
  where
    go : (p : Bool) → ltb i (length s) ≡ p → i < length s
    go true e = ltb-true i (length s) e
    go false e = absurd (h (byte_none s i (ltb-false i (length s) e)))

-- A place whose byte passes a test that no byte fails is within the pattern.
pub byte_passes : (test : ℕ → Bool) (s : List ℕ) (i : ℕ) → test no_byte ≡ false → test (byte_at s i) ≡ true → i < length s
byte_passes test s i f e = byte_within s i (λ n. true≢false (sym e ∙ ap test n ∙ f))

-- A byte is below 256.
pub byte_fits : (s : List ℕ) (i : ℕ) → Bytes s → (byte_at s i ≡ no_byte → ⊥) → byte_at s i < 256
byte_fits s i fine h = rw (byte_there s i (byte_within s i h)) (fine.byte i)

pub byte_some : (s : List ℕ) (i : ℕ) → Bytes s → i < length s → byte_at s i ≡ no_byte → ⊥
byte_some s i fine h e = omega (arith, e, byte_there s i h, fine.byte i)

-- What a slice of bytes holds.
pub bytes_of : (s : List ℕ) → ((i : ℕ) → Fits w8 (get_or s i 0)) → Bytes s
bytes_of s fits = record { byte = λ i. (fits i).fits }

-- A test of two parts.
pub both : (p q : Bool) → (p && q) ≡ true → (p ≡ true) × (q ≡ true)
both true q e = (refl, e)
both false q e = absurd (true≢false (sym e))

pub either : (p q : Bool) → (p || q) ≡ true → (p ≡ true) ⊎ (q ≡ true)
either true q e = inl refl
either false q e = inr e

pub neither : (p q : Bool) → (p || q) ≡ false → (p ≡ false) × (q ≡ false)
neither true q e = absurd (true≢false e)
neither false q e = (refl, e)

pub between_true : (a b x : ℕ) → between a b x ≡ true → (a ≤ x) × (x ≤ b)
between_true a b x e = let h = both (leb a x) (leb x b) e in (leb-true a x h.0, leb-true x b h.1)

-- No byte is no digit.
pub digit_none : is_digit no_byte ≡ false
unfolding is_digit
digit_none = refl

-- A word byte is a letter, a digit or `_`.
pub word_byte : (b : ℕ) → is_word b ≡ (is_letter b || (is_digit b || eqb b 0x5F))
unfolding is_word
word_byte b = sym (or_assoc (is_upper b) (is_lower b) (is_digit b || eqb b 0x5F))

-- A digit's value.
pub digit_bounds : (b : ℕ) → is_digit b ≡ true → (0x30 ≤ b) × (b ≤ 0x39)
unfolding is_digit
digit_bounds b e = between_true 0x30 0x39 b e

-- A hex digit's value.
pub hex_small : (b : ℕ) → is_hex b ≡ true → hex_value b ≤ 15
hex_small b e = by_cond (λ n. n ≤ 15) (is_digit b) (λ d. omega (arith, digit_bounds b d))
    (λ d. ⊎_elim
    (λ l. ⊎_elim (λ x. absurd (true≢false (sym x ∙ d))) (λ x. omega (arith, between_true 0x41 0x46 b x))
    (either (is_digit b) (between 0x41 0x46 b) l))
    (λ x. omega (arith, between_true 0x61 0x66 b x))
    (either (is_digit b || between 0x41 0x46 b) (between 0x61 0x66 b) e))

-- A byte that is the one looked for, and one that is not, or none.
pub byte_is : (o : Option ℕ) (b : ℕ) → option_eq eqb o (Some b) ≡ true → byte_of o ≡ b
byte_is None b e = absurd (true≢false (sym e))
byte_is (Some x) b e = eqb-true x b e

pub byte_other : (o : Option ℕ) (b : ℕ) → option_eq eqb o (Some b) ≡ false → b < no_byte → byte_of o ≡ b → ⊥
byte_other None b e h f = omega arith
byte_other (Some x) b e h f = eqb-false x b e f
