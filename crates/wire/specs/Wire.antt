-- Words of 32 bits as bytes, four to a word, low byte first. Definitions only.
use Rattle.std.specs.Prelude.{cond, List, [], ◌∷◌, ◌++◌, map, ℕ, zero, suc, ◌+◌, ◌*◌, ◌-◌, ◌/◌, ◌%◌, ◌^◌, ltb, ℤ, pos, negsuc, length, drop, get_or}

-- The byte at a place, 0 behind the end.
abbrev pub byte_at : List ℕ → ℕ → ℕ
byte_at bytes i = get_or bytes i 0

-- Word i of bytes: the four from 4i on, low byte first.
unfoldable pub word_of4 : List ℕ → ℕ → ℕ
word_of4 bytes i =
    byte_at bytes (4 * i) + 256 * byte_at bytes (4 * i + 1) + 65536 * byte_at bytes (4 * i + 2)
    + 16777216 * byte_at bytes (4 * i + 3)

-- The first n words of bytes.
unfoldable pub words_of : List ℕ → ℕ → List ℕ
words_of bytes zero = []
words_of bytes (suc n) = words_of bytes n ++ word_of4 bytes n ∷ []

-- The four bytes of a word, low byte first.
unfoldable pub bytes_of_word : ℕ → List ℕ
bytes_of_word w = w % 256 ∷ w / 256 % 256 ∷ w / 65536 % 256 ∷ w / 16777216 % 256 ∷ []

-- The bytes of words, one word after the other.
unfoldable pub bytes_of_words : List ℕ → List ℕ
bytes_of_words [] = []
bytes_of_words (w ∷ l) = bytes_of_word w ++ bytes_of_words l

-- The bits of a signed number, in two's complement: those of x as u32.
unfoldable pub bits_of : ℤ → ℕ
bits_of (pos n) = n
bits_of (negsuc n) = 2 ^ 32 - suc n

-- The signed number of bits.
unfoldable pub int_of : ℕ → ℤ
int_of w = cond (ltb w (2 ^ 31)) (pos w) (negsuc (2 ^ 32 - suc w))

-- The bytes of a signed number, and of signed numbers one after the other.
abbrev pub bytes_of_int : ℤ → List ℕ
bytes_of_int z = bytes_of_word (bits_of z)

abbrev pub bytes_of_ints : List ℤ → List ℕ
bytes_of_ints l = bytes_of_words (map bits_of l)

-- The first n signed numbers of bytes.
abbrev pub ints_of : List ℕ → ℕ → List ℤ
ints_of bytes n = map int_of (words_of bytes n)

-- The bytes of numbers one after the other, where each is passed as the word of its bits; and the first n numbers of bytes.
abbrev pub stored : {A : Type 0} → (A → ℕ) → List A → List ℕ
stored bits l = bytes_of_words (map bits l)

abbrev pub loaded : {A : Type 0} → (ℕ → A) → List ℕ → ℕ → List A
loaded of_bits bytes n = map of_bits (words_of bytes n)

-- Bytes with others written over the first of them; later ones stay.
abbrev pub written : List ℕ → List ℕ → List ℕ
written front bytes = front ++ drop (length front) bytes
