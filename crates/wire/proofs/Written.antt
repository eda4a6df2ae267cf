-- Words and signed numbers written over bytes: what was there is written back as it was, and only what is new is seen.
use Rattle.std.specs.Prelude.{◌≡◌, ℕ, zero, suc, ◌*◌, ◌^◌, ◌≤◌, ◌<◌, ℤ, length, get_or, take, drop}
use Rattle.std.proofs.Math.Path.{refl}
use Rattle.std.proofs.Common.{sym, ap, ◌∙◌, arith, take-append-drop, length-append, length-drop, length-take-le}
use mathlib.Core.List.{List, [], ◌∷◌, ◌++◌, map, map-append, append_assoc}
use Rattle.std.proofs.lemmas.List.{length-map, drop-append-le}
use Rattle.std.proofs.Math.Seq.{drop-nil}
use Rattle.wire.specs.Wire.{words_of, bytes_of_word, bytes_of_words, bits_of, int_of, bytes_of_ints, ints_of, loaded, stored, written}
use Rattle.wire.specs.Words.{bytes_length, bytes_back}
use Rattle.wire.proofs.Ints.{bits_back}
use Rattle.wire.proofs.Passing.{loaded_back}

-- A new front, with what followed it written back.
written_over : (bytes x : List ℕ) (w n : ℕ) → length x ≡ w → w ≤ n → n ≤ length bytes
    → written (x ++ drop w (take n bytes)) bytes ≡ written x bytes
written_over bytes x w n e h k =
    let long : length (take n bytes) ≡ n = length-take-le n bytes k in
    let all : length (x ++ drop w (take n bytes)) ≡ n
    = length-append x (drop w (take n bytes)) ∙ omega (arith, length-drop w (take n bytes)) in
    ap (λ m. (x ++ drop w (take n bytes)) ++ drop m bytes) all ∙ append_assoc x (drop w (take n bytes)) (drop n bytes)
    ∙ ap (λ t. x ++ t)
    (sym (drop-append-le w (take n bytes) (drop n bytes) (omega arith)) ∙ ap (drop w) (take-append-drop n bytes))
    ∙ ap (λ m. x ++ drop m bytes) (sym e)

bytes_append : (l m : List ℕ) → bytes_of_words (l ++ m) ≡ bytes_of_words l ++ bytes_of_words m
unfolding bytes_of_words
bytes_append [] m = refl
bytes_append (w ∷ l) m = rw (bytes_append l m) (sym (append_assoc (bytes_of_word w) (bytes_of_words l) (bytes_of_words m)))

drop_four : (w : ℕ) (l : List ℕ) (n m : ℕ) → n ≡ suc (suc (suc (suc m))) → drop n (bytes_of_word w ++ l) ≡ drop m l
unfolding bytes_of_word
drop_four w l n m e = rw e

bytes_drop : (w : ℕ) (l : List ℕ) → bytes_of_words (drop w l) ≡ drop (4 * w) (bytes_of_words l)
unfolding bytes_of_words
bytes_drop zero l = refl
bytes_drop (suc w) [] = sym (drop-nil (4 * suc w))
bytes_drop (suc w) (v ∷ l) = bytes_drop w l ∙ sym (drop_four v (bytes_of_words l) (4 * suc w) (4 * w) (omega arith))

drop_map : {A B : Type 0} (f : A → B) (w : ℕ) (l : List A) → map f (drop w l) ≡ drop w (map f l)
drop_map f zero l = refl
drop_map f (suc w) [] = refl
drop_map f (suc w) (x ∷ l) = drop_map f w l

module _ (bytes : List ℕ) (n : ℕ) (small : (k : ℕ) → get_or bytes k 0 < 256) (h : 4 * n ≤ length bytes) where
  -- The words of bytes, with a new front.
  pub words_over : (x : List ℕ) (w : ℕ) → length x ≡ w → w ≤ n
      → written (bytes_of_words (x ++ drop w (words_of bytes n))) bytes ≡ written (bytes_of_words x) bytes
  words_over x w e k =
      ap (λ t. written t bytes) (bytes_append x (drop w (words_of bytes n))
      ∙ ap (λ t. bytes_of_words x ++ t) (bytes_drop w (words_of bytes n) ∙ ap (drop (4 * w)) (bytes_back bytes n small h)))
      ∙ written_over bytes (bytes_of_words x) (4 * w) (4 * n) (bytes_length x ∙ ap (λ m. 4 * m) e) (omega arith) h

  -- The words of bytes, written back.
  pub words_same : written (bytes_of_words (words_of bytes n)) bytes ≡ bytes
  unfolding bytes_of_words
  words_same = words_over [] 0 refl (omega arith)

  -- The same of numbers that are passed as words, where no word is lost.
  module _ {A : Type 0} (bits : A → ℕ) (of_bits : ℕ → A) (back : (w : ℕ) → w < 2 ^ 32 → bits (of_bits w) ≡ w) where
    pub loaded_over : (x : List A) (w : ℕ) → length x ≡ w → w ≤ n
        → written (stored bits (x ++ drop w (loaded of_bits bytes n))) bytes ≡ written (stored bits x) bytes
    loaded_over x w e k =
        ap (λ t. written (bytes_of_words t) bytes) (map-append bits x (drop w (loaded of_bits bytes n))
        ∙ ap (λ t. map bits x ++ t)
        (drop_map bits w (loaded of_bits bytes n) ∙ ap (drop w) (loaded_back bits of_bits back bytes n small)))
        ∙ words_over (map bits x) w (length-map x bits ∙ e) k

    pub loaded_same : written (stored bits (loaded of_bits bytes n)) bytes ≡ bytes
    loaded_same = ap (λ t. written (bytes_of_words t) bytes) (loaded_back bits of_bits back bytes n small) ∙ words_same

  -- And so of signed numbers.
  pub ints_over : (x : List ℤ) (w : ℕ) → length x ≡ w → w ≤ n
      → written (bytes_of_ints (x ++ drop w (ints_of bytes n))) bytes ≡ written (bytes_of_ints x) bytes
  ints_over = loaded_over bits_of int_of bits_back

  pub ints_same : written (bytes_of_ints (ints_of bytes n)) bytes ≡ bytes
  ints_same = loaded_same bits_of int_of bits_back
