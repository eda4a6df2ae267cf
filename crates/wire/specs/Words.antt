-- Words to bytes and bytes to words: one more, and both ways round.
use Rattle.std.specs.Prelude.{◌≡◌, refl, List, [], ◌∷◌, ◌++◌, ℕ, zero, suc, ◌+◌, ◌*◌, ◌/◌, ◌%◌, ◌^◌, ◌≤◌, ◌<◌, length, get_or, take}
use Rattle.std.proofs.Common.{sym, ◌∙◌, append-nil, append_assoc, mod-eq_of_lt, add-one, arith, length-append, take-suc}
use Rattle.std.proofs.Math.Nat.{div-div-eq-div-mul, div-add-mod}
use Rattle.std.proofs.Math.Seq.{take-length}
use Rattle.wire.specs.Wire.{word_of4, words_of, bytes_of_word, bytes_of_words}

-- One word more.
pub words_more : (bytes : List ℕ) (n : ℕ) {w : ℕ} → w ≡ word_of4 bytes n → words_of bytes n ++ w ∷ [] ≡ words_of bytes (n + 1)
unfolding words_of
words_more bytes n e = rw (e, add-one)

pub words_length : (bytes : List ℕ) (n : ℕ) → length (words_of bytes n) ≡ n
unfolding words_of
words_length bytes zero = refl
words_length bytes (suc n) =
    length-append (words_of bytes n) (word_of4 bytes n ∷ []) ∙ omega (arith, words_length bytes n)

pub bytes_snoc : (l : List ℕ) (w : ℕ) → bytes_of_words (l ++ w ∷ []) ≡ bytes_of_words l ++ bytes_of_word w
unfolding bytes_of_words
bytes_snoc [] w = append-nil (bytes_of_word w)
bytes_snoc (v ∷ l) w = rw (bytes_snoc l w) (sym (append_assoc (bytes_of_word v) (bytes_of_words l) (bytes_of_word w)))

-- The bytes of one word more.
pub bytes_more : (words : List ℕ) (n : ℕ) → n < length words
    → bytes_of_words (take n words) ++ bytes_of_word (get_or words n 0) ≡ bytes_of_words (take (n + 1) words)
bytes_more words n h = sym (rw (add-one, take-suc words n 0) (bytes_snoc (take n words) (get_or words n 0)))

pub word_length : (w : ℕ) → length (bytes_of_word w) ≡ 4
unfolding bytes_of_word
word_length w = refl

pub bytes_length : (l : List ℕ) → length (bytes_of_words l) ≡ 4 * length l
unfolding bytes_of_words
bytes_length [] = refl
bytes_length (w ∷ l) =
    length-append (bytes_of_word w) (bytes_of_words l) ∙ omega (arith, word_length w, bytes_length l)

-- The first word, and the words behind it.
word_first : (w : ℕ) (l : List ℕ) → w < 2 ^ 32 → word_of4 (bytes_of_word w ++ l) 0 ≡ w
unfolding word_of4 bytes_of_word
word_first w l h =
    let b : 256 * (w / 65536) + w / 256 % 256 ≡ w / 256 = rw (← div-div-eq-div-mul w 256 256) (div-add-mod (w / 256) 256) in
    let c : 256 * (w / 16777216) + w / 65536 % 256 ≡ w / 65536
    = rw (← div-div-eq-div-mul w 65536 256) (div-add-mod (w / 65536) 256) in
    let d : w / 16777216 % 256 ≡ w / 16777216 = mod-eq_of_lt (omega arith) in
    omega (arith, div-add-mod w 256)

skip : (w : ℕ) (l : List ℕ) (i j : ℕ) → i ≡ suc (suc (suc (suc j))) → get_or (bytes_of_word w ++ l) i 0 ≡ get_or l j 0
unfolding bytes_of_word
skip w l i j e = rw e

word_behind : (w : ℕ) (l : List ℕ) (i : ℕ) → word_of4 (bytes_of_word w ++ l) (suc i) ≡ word_of4 l i
unfolding word_of4
word_behind w l i =
    let a = skip w l (4 * suc i) (4 * i) (omega arith) in
    let b = skip w l (4 * suc i + 1) (4 * i + 1) (omega arith) in
    let c = skip w l (4 * suc i + 2) (4 * i + 2) (omega arith) in
    let d = skip w l (4 * suc i + 3) (4 * i + 3) (omega arith) in
    omega arith

-- Word i of the bytes of words is word i.
pub word_back : (words rest : List ℕ) (i : ℕ) → ((k : ℕ) → get_or words k 0 < 2 ^ 32) → i < length words
    → word_of4 (bytes_of_words words ++ rest) i ≡ get_or words i 0
unfolding bytes_of_words
word_back [] rest i fits h = absurd (omega arith)
word_back (w ∷ l) rest zero fits h = rw (append_assoc (bytes_of_word w) (bytes_of_words l) rest) (word_first w _ (fits 0))
word_back (w ∷ l) rest (suc i) fits h =
    rw (append_assoc (bytes_of_word w) (bytes_of_words l) rest)
    (word_behind w (bytes_of_words l ++ rest) i ∙ word_back l rest i (λ k. fits (suc k)) (omega arith))

words_are : (bytes words : List ℕ) (n : ℕ) → n ≤ length words → ((i : ℕ) → i < n → word_of4 bytes i ≡ get_or words i 0)
    → words_of bytes n ≡ take n words
unfolding words_of
words_are bytes words zero h e = refl
words_are bytes words (suc n) h e =
    rw (words_are bytes words n (omega arith) (λ i l. e i (omega arith)), e n (omega arith), take-suc words n 0 h)

-- Words to bytes and back: nothing is lost, whatever stands behind them.
pub words_back : (words rest : List ℕ) → ((k : ℕ) → get_or words k 0 < 2 ^ 32)
    → words_of (bytes_of_words words ++ rest) (length words) ≡ words
words_back words rest fits =
    words_are (bytes_of_words words ++ rest) words (length words) (omega arith) (λ i l. word_back words rest i fits l)
    ∙ take-length words

-- A word that bytes make has those bytes.
word_bytes : (a b c d : ℕ) → a < 256 → b < 256 → c < 256 → d < 256
    → bytes_of_word (a + 256 * b + 65536 * c + 16777216 * d) ≡ a ∷ b ∷ c ∷ d ∷ []
unfolding bytes_of_word
word_bytes a b c d ha hb hc hd =
    let w : ℕ = a + 256 * b + 65536 * c + 16777216 * d in
    let q : w / 256 ≡ b + 256 * c + 65536 * d = omega arith in
    let r : w / 65536 ≡ c + 256 * d = omega arith in
    let s : w / 16777216 ≡ d = omega arith in
    let a' : w % 256 ≡ a = omega arith in
    let b' : (b + 256 * c + 65536 * d) % 256 ≡ b = omega arith in
    let c' : (c + 256 * d) % 256 ≡ c = omega arith in
    rw (q, r, s, a', b', c', mod-eq_of_lt hd)

-- Four elements more of a list.
take_four : (l : List ℕ) (j : ℕ) → j + 4 ≤ length l → take (suc (suc (suc (suc j)))) l
    ≡ take j l ++ get_or l j 0 ∷ get_or l (suc j) 0 ∷ get_or l (suc (suc j)) 0 ∷ get_or l (suc (suc (suc j))) 0 ∷ []
take_four l j h =
    rw (
      take-suc l (suc (suc (suc j))) 0 (omega arith),
      take-suc l (suc (suc j)) 0 (omega arith),
      take-suc l (suc j) 0 (omega arith),
      take-suc l j 0 (omega arith),
    ) (simp append_assoc)

-- The bytes of word i are the four of it.
pub bytes_at : (bytes : List ℕ) (i : ℕ) → ((k : ℕ) → get_or bytes k 0 < 256) → 4 * i + 4 ≤ length bytes
    → take (4 * i) bytes ++ bytes_of_word (word_of4 bytes i) ≡ take (4 * suc i) bytes
unfolding word_of4
bytes_at bytes i small h =
    let e : 4 * suc i ≡ suc (suc (suc (suc (4 * i)))) = omega arith in
    let one : 4 * i + 1 ≡ suc (4 * i) = omega arith in
    let two : 4 * i + 2 ≡ suc (suc (4 * i)) = omega arith in
    let three : 4 * i + 3 ≡ suc (suc (suc (4 * i))) = omega arith in
    rw (word_bytes _ _ _ _ (small (4 * i)) (small (4 * i + 1)) (small (4 * i + 2)) (small (4 * i + 3)), e, one, two, three)
    (sym (take_four bytes (4 * i) h))

-- Bytes to words and back: nothing is lost of the bytes that make whole words.
pub bytes_back : (bytes : List ℕ) (n : ℕ) → ((k : ℕ) → get_or bytes k 0 < 256) → 4 * n ≤ length bytes
    → bytes_of_words (words_of bytes n) ≡ take (4 * n) bytes
unfolding words_of bytes_of_words
bytes_back bytes zero small h = refl
bytes_back bytes (suc n) small h =
    bytes_snoc (words_of bytes n) (word_of4 bytes n)
    ∙ rw (bytes_back bytes n small (omega arith)) (bytes_at bytes n small (omega arith))

-- A word of bytes fits.
pub word_fits : (bytes : List ℕ) (i : ℕ) → ((k : ℕ) → get_or bytes k 0 < 256) → word_of4 bytes i < 2 ^ 32
unfolding word_of4
word_fits bytes i small = omega (arith, small (4 * i), small (4 * i + 1), small (4 * i + 2), small (4 * i + 3))
