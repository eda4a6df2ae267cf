-- Byte sets: eight 32-bit words, bit b mod 32 of word b div 32. Definitions only.
use Rattle.std.specs.Prelude.{◌≡◌, Bool, true, false, cond, not, ◌||◌, ◌&&◌, List, [], ◌∷◌, ℕ, zero, suc, ◌+◌, ◌*◌, ◌/◌, ◌%◌, ◌^◌, ◌<◌, length, get_or, eqb, leb}
use Rattle.std.specs.Bool.{beq}

-- Bit k of a word.
unfoldable pub bit : ℕ → ℕ → Bool
bit word k = eqb (word / 2 ^ k % 2) 1

-- Whether byte b is in a set: bit b mod 32 of word b div 32.
unfoldable pub has : List ℕ → ℕ → Bool
has set b = bit (get_or set (b / 32) 0) (b % 32)

-- A well-formed set: eight words of 32 bits.
pub record Formed (set : List ℕ) : Type 0 where
  pub eight : length set ≡ 8
  pub words : (i : ℕ) → get_or set i 0 < 2 ^ 32

-- A well-formed set that holds exactly the bytes which pass a test, for all 256 bytes at once.
pub record Holds (set : List ℕ) (test : ℕ → Bool) : Type 0 where
  pub formed : Formed set
  pub bytes : (b : ℕ) → b < 256 → has set b ≡ test b

-- The word whose bits are a test's answers at n numbers, from b on.
unfoldable pub word_of : (ℕ → Bool) → ℕ → ℕ → ℕ
word_of test zero b = 0
word_of test (suc n) b = cond (test b) 1 0 + 2 * word_of test n (suc b)

-- The set of the bytes that pass a test.
unfoldable pub set_of : (ℕ → Bool) → List ℕ
set_of test = word_of test 32 0 ∷ word_of test 32 32 ∷ word_of test 32 64 ∷ word_of test 32 96
    ∷ word_of test 32 128 ∷ word_of test 32 160 ∷ word_of test 32 192 ∷ word_of test 32 224 ∷ []

-- Whether a test passes at each of the first n numbers.
abbrev pub below : ℕ → (ℕ → Bool) → Bool
below zero test = true
below (suc n) test = test n && below n test

-- Whether two sets hold the same bytes.
unfoldable pub same_bytes : List ℕ → List ℕ → Bool
same_bytes set other = below 256 (λ b. beq (has set b) (has other b))

-- Whether a byte lies between two others, both included.
abbrev pub between : ℕ → ℕ → ℕ → Bool
between first last b = leb first b && leb b last

-- The digits 0-9.
unfoldable pub is_digit : ℕ → Bool
is_digit b = between 0x30 0x39 b

-- The word bytes A-Z a-z 0-9 and _.
unfoldable pub is_word : ℕ → Bool
is_word b = between 0x41 0x5A b || (between 0x61 0x7A b || (is_digit b || eqb b 0x5F))

-- The spaces 09 to 0D, 20 and A0.
unfoldable pub is_space : ℕ → Bool
is_space b = between 0x09 0x0D b || (eqb b 0x20 || eqb b 0xA0)

-- What the dot takes: all but 0A and 0D.
unfoldable pub is_dot : ℕ → Bool
is_dot b = not (eqb b 0x0A || eqb b 0x0D)

-- What the set escapes take, by their number: \d \D \w \W \s \S.
abbrev pub in_escape : ℕ → ℕ → Bool
in_escape k b = get_or (is_digit b ∷ not (is_digit b) ∷ is_word b ∷ not (is_word b) ∷ is_space b ∷ not (is_space b) ∷ []) k false
