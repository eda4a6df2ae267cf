-- Numbers that are passed as words: what the machine reads and writes, one more, and back.
use Rattle.std.specs.Prelude.{◌≡◌, refl, List, [], ◌∷◌, ◌++◌, map, ℕ, zero, suc, ◌+◌, ◌*◌, ◌^◌, ◌<◌, length, get_or, take, drop}
use Rattle.std.proofs.Common.{sym, ap, ◌∙◌, add-one, arith, take-suc}
use Rattle.std.proofs.lemmas.List.{map-append, map-id, get_or-take, get_or-drop}
use Rattle.std.specs.Int.{w32, to_le_bytes, from_le_bytes}
use Rattle.std.specs.Simd.{first_chunks}
use Rattle.wire.specs.Wire.{word_of4, words_of, bytes_of_word, bytes_of_words, loaded, stored}
use Rattle.wire.specs.Words.{words_more, bytes_snoc, word_fits}

-- The bytes of a word are the machine's, and so is the word that is read from them.
pub bytes_machine : (w : ℕ) → bytes_of_word w ≡ to_le_bytes w32 w
unfolding bytes_of_word
bytes_machine w = refl

pub word_machine : (bytes : List ℕ) → word_of4 bytes 0 ≡ from_le_bytes w32 bytes
unfolding word_of4
word_machine bytes = omega arith

-- A word is read from the four bytes that are cut out for it.
pub word_cut : (bytes : List ℕ) (n i : ℕ) → i < n → word_of4 (get_or (first_chunks 4 n bytes) i []) 0 ≡ word_of4 bytes i
unfolding word_of4
word_cut bytes zero i h = absurd (omega arith)
word_cut bytes (suc n) zero h =
    let a = get_or-take 4 bytes 0 0 (omega arith) in
    let b = get_or-take 4 bytes 1 0 (omega arith) in
    let c = get_or-take 4 bytes 2 0 (omega arith) in
    let d = get_or-take 4 bytes 3 0 (omega arith) in
    omega (arith, a, b, c, d)
word_cut bytes (suc n) (suc i) h =
    let at = λ (j k : ℕ) (e : 4 + j ≡ k). get_or-drop 4 bytes j 0 ∙ ap (λ t. get_or bytes t 0) e in
    let a = at (4 * i) (4 * suc i) (omega arith) in
    let b = at (4 * i + 1) (4 * suc i + 1) (omega arith) in
    let c = at (4 * i + 2) (4 * suc i + 2) (omega arith) in
    let d = at (4 * i + 3) (4 * suc i + 3) (omega arith) in
    word_cut (drop 4 bytes) n i (omega arith) ∙ omega (arith, a, b, c, d)

module _ {A : Type 0} where
  -- One number more of bytes.
  pub loaded_more : (of_bits : ℕ → A) (bytes : List ℕ) (n : ℕ) {x : A} → x ≡ of_bits (word_of4 bytes n)
      → loaded of_bits bytes n ++ x ∷ [] ≡ loaded of_bits bytes (n + 1)
  loaded_more of_bits bytes n e =
      rw e (sym (map-append of_bits (words_of bytes n) (word_of4 bytes n ∷ [])) ∙ ap (map of_bits) (words_more bytes n refl))

  -- The bytes of one number more.
  pub stored_more : (bits : A → ℕ) (l : List A) (n : ℕ) (x : A) → n < length l
      → stored bits (take n l) ++ bytes_of_word (bits (get_or l n x)) ≡ stored bits (take (n + 1) l)
  stored_more bits l n x h =
      sym (rw (add-one, take-suc l n x, map-append)
      (bytes_snoc (map bits (take n l)) (bits (get_or l n x))))

  -- Numbers that are read and written again are the words that were there.
  pub loaded_back : (bits : A → ℕ) (of_bits : ℕ → A) → ((w : ℕ) → w < 2 ^ 32 → bits (of_bits w) ≡ w) → (bytes : List ℕ) (n : ℕ)
      → ((k : ℕ) → get_or bytes k 0 < 256) → map bits (loaded of_bits bytes n) ≡ words_of bytes n
  unfolding words_of
  loaded_back bits of_bits back bytes zero small = refl
  loaded_back bits of_bits back bytes (suc n) small =
      rw (
        map-append of_bits (words_of bytes n),
        map-append bits (map of_bits (words_of bytes n)),
        loaded_back bits of_bits back bytes n small,
        back (word_of4 bytes n) (word_fits bytes n small),
      )

-- Words are passed as they are.
pub loaded_words : (bytes : List ℕ) (n : ℕ) → loaded (λ w. w) bytes n ≡ words_of bytes n
loaded_words bytes n = map-id (words_of bytes n)

pub stored_words : (words : List ℕ) → stored (λ w. w) words ≡ bytes_of_words words
stored_words words = ap bytes_of_words (map-id words)
