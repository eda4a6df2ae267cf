-- Laws of byte sets, each for all 256 bytes at once.
use Rattle.std.specs.Prelude.{◌≡◌, refl, Bool, true, false, ◌||◌, List, [], ◌∷◌, ℕ, zero, suc, ◌+◌, ◌*◌, ◌/◌, ◌%◌, ◌^◌, ◌≤◌, ◌<◌, length, get_or, take, drop, set, eqb, ltb}
use Rattle.std.proofs.Common.{sym, ap, ◌∙◌, true≢false, not-suc-le-zero, le_of_suc-le-suc, arith, length-set, length-drop, ext_get_or, get_or-set_same, get_or-set_other, get_or-take, get_or-drop, length-take-le, Fits, below_none, below_more, ltb-true, ltb-false}
use Rattle.std.specs.Bool.{beq}
use Rattle.std.proofs.Math.ListN.{get_or-eq_default}
use Rattle.std.specs.Int.{w32}
use Rattle.sets.specs.Sets.{bit, has, Formed, Holds, word_of, set_of, same_bytes}
use Rattle.sets.specs.Bits.{below_at, below_all, beq_eq, beq_refl, bits_same, word_of_fits, word_of_bit}

-- The list of f 0, .., f (n - 1).
abbrev pub tab {ℓ} : {A : Type ℓ} → (ℕ → A) → ℕ → List A
tab f zero = []
tab f (suc n) = f zero ∷ tab (λ i. f (suc i)) n

-- Its element i is f i.
pub tab_at {ℓ} : {A : Type ℓ} (f : ℕ → A) (n i : ℕ) (d : A) → i < n → get_or (tab f n) i d ≡ f i
tab_at f zero i d h = absurd (not-suc-le-zero h)
tab_at f (suc n) zero d h = refl
tab_at f (suc n) (suc i) d h = tab_at (λ j. f (suc j)) n i d (le_of_suc-le-suc h)

-- Eight words, of which those below n are f's: what a loop over the words has done before turn n.
pub record Words (f : ℕ → ℕ) (words : List ℕ) (n : ℕ) : Type 0 where
  pub eight : length words ≡ 8
  pub at : (i : ℕ) → i < n → get_or words i 0 ≡ f i

-- Before the first turn any eight words do.
pub words_none : {f : ℕ → ℕ} {words : List ℕ} → length words ≡ 8 → Words f words 0
words_none {f} {words} e = record { eight = e; at = below_none (λ i. get_or words i 0 ≡ f i) }

-- A turn stores its own word.
pub words_more : {f : ℕ → ℕ} {words : List ℕ} {n : ℕ} → Words f words n → n < 8 → Words f (set words n (f n)) (n + 1)
words_more {f} {words} {n} w h = record {
  eight = length-set words n (f n) ∙ w.eight;
  at = below_more (λ i. get_or (set words n (f n)) i 0 ≡ f i) n
      (λ i l. get_or-set_other words n i (f n) 0 (λ e. omega arith) ∙ w.at i l)
      (get_or-set_same words n (f n) 0 (omega (arith, w.eight)));
}

-- Eight words whose bits are a test's answers hold the bytes that pass it.
pub words_hold : {f : ℕ → ℕ} {words : List ℕ} {n : ℕ} {test : ℕ → Bool} → Words f words n → 8 ≤ n
    → ((i : ℕ) → f i < 2 ^ 32) → ((b : ℕ) → b < 256 → bit (f (b / 32)) (b % 32) ≡ test b) → Holds words test
unfolding has
words_hold {f} {words} w h fits bits = record {
  formed = record { eight = w.eight; words = λ i. word i (ltb i 8) refl };
  bytes = λ b l. rw (w.at (b / 32) (omega arith)) (bits b l);
}
  where
    word : (i : ℕ) (p : Bool) → ltb i 8 ≡ p → get_or words i 0 < 2 ^ 32
    word i true e = rw (w.at i (omega (arith, ltb-true i 8 e))) (fits i)
    word i false e = rw (get_or-eq_default words 0 {n = i} (omega (arith, ltb-false i 8 e, w.eight))) (omega arith)

-- The set of a test holds the bytes that pass it.
pub set_of_holds : (test : ℕ → Bool) → Holds (set_of test) test
unfolding set_of
set_of_holds test =
    words_hold {n = 8} (record { eight = refl; at = λ i. tab_at (λ j. word_of test 32 (32 * j)) 8 i 0 }) (omega arith)
    (λ i. word_of_fits test 32 (32 * i))
    (λ b h. word_of_bit test 32 (32 * (b / 32)) (b % 32) (omega arith) ∙ ap test (omega arith))

-- An array of eight 32-bit words is well-formed.
pub formed_of : (words : List ℕ) → length words ≡ 8 → ((i : ℕ) → Fits w32 (get_or words i 0)) → Formed words
formed_of words e fits = record { eight = e; words = λ i. (fits i).fits }

-- Bit k of word i says whether byte 32 i + k is in.
pub has_word : (words : List ℕ) (i k : ℕ) → k < 32 → bit (get_or words i 0) k ≡ has words (32 * i + k)
unfolding has
has_word words i k h =
    let word : (32 * i + k) / 32 ≡ i = omega arith in
    let place : (32 * i + k) % 32 ≡ k = omega arith in
    rw (word, place)

-- Well-formed sets of the same bytes are the same words.
pub formed_same : (a b : List ℕ) → Formed a → Formed b → ((x : ℕ) → x < 256 → has a x ≡ has b x) → a ≡ b
formed_same a b fa fb same =
    ext_get_or 0 a b (fa.eight ∙ sym fb.eight)
    (λ i h. bits_same 32 (get_or a i 0) (get_or b i 0) (fa.words i) (fb.words i)
    (λ k l. has_word a i k l ∙ same (32 * i + k) (omega (arith, fa.eight)) ∙ sym (has_word b i k l)))

-- What holds a test's bytes holds those of a test that agrees with it.
pub holds_to : {words : List ℕ} {f g : ℕ → Bool} → Holds words f → ((x : ℕ) → x < 256 → f x ≡ g x) → Holds words g
holds_to h e = record { formed = h.formed; bytes = λ x l. h.bytes x l ∙ e x l }

-- One byte more than a set is one byte more than its test.
pub holds_more : {words more : List ℕ} {test : ℕ → Bool} (b : ℕ) → Holds words test
    → Holds more (λ x. has words x || eqb x b) → Holds more (λ x. test x || eqb x b)
holds_more b w m = holds_to m (λ x h. ap (λ p. p || eqb x b) (w.bytes x h))

-- What holds a test's bytes is the test's set.
pub words_of : {set : List ℕ} {test : ℕ → Bool} → Holds set test → set ≡ set_of test
words_of {set} {test} h =
    let s = set_of_holds test in
    formed_same set (set_of test) h.formed s.formed (λ x l. h.bytes x l ∙ sym (s.bytes x l))

-- What is a test's set holds the test's bytes.
pub of_words : {set : List ℕ} {test : ℕ → Bool} → set ≡ set_of test → Holds set test
of_words {test = test} e = rw e (set_of_holds test)

-- Tests that agree on the bytes have one set.
pub set_of_cong : (f g : ℕ → Bool) → ((x : ℕ) → x < 256 → f x ≡ g x) → set_of f ≡ set_of g
set_of_cong f g e = words_of (holds_to (set_of_holds f) e)

-- A well-formed set is the set of its own bytes.
pub set_of_has : (set : List ℕ) → Formed set → set_of (has set) ≡ set
set_of_has set f = sym (words_of (record { formed = f; bytes = λ b h. refl }))

-- Sets that compare as the same hold the same bytes.
pub same_true : (a b : List ℕ) → same_bytes a b ≡ true → (x : ℕ) → x < 256 → has a x ≡ has b x
unfolding same_bytes
same_true a b e x h = beq_eq (has a x) (has b x) (below_at 256 (λ y. beq (has a y) (has b y)) e x h)

-- A set compares as the same with itself.
pub same_refl : (a : List ℕ) → same_bytes a a ≡ true
unfolding same_bytes
same_refl a = below_all 256 (λ x. beq (has a x) (has a x)) (λ x h. beq_refl (has a x))

-- Well-formed sets that compare as the same are the same words.
pub same_words : (a b : List ℕ) → Formed a → Formed b → same_bytes a b ≡ true → a ≡ b
same_words a b fa fb e = formed_same a b fa fb (same_true a b e)

-- Sets that compare as different are different words.
pub same_false : (a b : List ℕ) → same_bytes a b ≡ false → a ≡ b → ⊥
same_false a b e p = true≢false (sym (same_refl a) ∙ ap (same_bytes a) p ∙ e)

-- Well-formed sets of different words compare as different.
pub same_differ : (a b : List ℕ) → Formed a → Formed b → (a ≡ b → ⊥) → same_bytes a b ≡ false
same_differ a b fa fb h = go (same_bytes a b) refl
  where
    go : (p : Bool) → same_bytes a b ≡ p → p ≡ false
    go true e = absurd (h (same_words a b fa fb e))
    go false e = refl

-- Eight words that are those of a list from a place on.
pub eight_words : (list : List ℕ) (at : ℕ) {set : List ℕ} {n : ℕ} → Words (λ j. get_or list (at + j) 0) set n → 8 ≤ n
    → at + 8 ≤ length list → set ≡ take 8 (drop at list)
eight_words list at {set} w h room =
    let long : length (take 8 (drop at list)) ≡ 8 = length-take-le 8 (drop at list) (simp length-drop (omega arith)) in
    ext_get_or 0 set (take 8 (drop at list)) (w.eight ∙ sym long)
    (λ i l. w.at i (omega (arith, w.eight))
    ∙ sym (get_or-take 8 (drop at list) i 0 (omega (arith, w.eight)) ∙ get_or-drop at list i 0))

-- Eight words are those that stand in them, one by one.
pub one_by_one : (l : List ℕ) → length l ≡ 8
    → get_or l 0 0 ∷ get_or l 1 0 ∷ get_or l 2 0 ∷ get_or l 3 0 ∷ get_or l 4 0 ∷ get_or l 5 0 ∷ get_or l 6 0 ∷ get_or l 7 0 ∷ [] ≡ l
one_by_one l e = ext_get_or 0 (tab (λ i. get_or l i 0) 8) l (sym e) (λ i h. tab_at (λ i. get_or l i 0) 8 i 0 h)
