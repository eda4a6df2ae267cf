-- What holds of code that passes the check; and such code is, over the words that it needs, the code of the program it says.
use Rattle.std.specs.Prelude.{◌≡◌, refl, Bool, true, false, cond, ◌||◌, ◌&&◌, List, ◌∷◌, ◌++◌, eqb, leb, ltb, length, get_or, take, drop, replicate}
use Rattle.std.proofs.Math.Path.{sym}
use Rattle.std.proofs.Common.{ap, ap₂, ◌∙◌, arith, length-drop, length-take-le, get_or-take, get_or-drop, take-add, drop-drop, ext_get_or, leb-true, le-ltb, eqb-true}
use Rattle.std.proofs.Math.Bool.{and-eq-true_iff}
use Prim.Native.Nat.{ℕ, zero, suc, ◌+◌, ◌*◌, ◌≤◌, ◌<◌}
use Rattle.std.proofs.lemmas.List.{get_or-replicate}
use Rattle.sets.specs.Sets.{below}
use Rattle.sets.specs.Bits.{below_at}
use Rattle.meaning.specs.Results.{concat_map}
use Rattle.meaning.specs.Limits.{row_words, set_words, code_words}
use Rattle.machine.specs.Kinds.{header_used, header_zeros, first_word, second_word, set_word, accept_kind, assert_kind, listed, used}
use Rattle.machine.specs.Words.{word_at, rows_said, groups_said, row_start, decode_row, row_in, rows_in, decode, words_of, code_of}
use Rattle.machine.specs.Words.{rows_pass, header_passes, header_clean, row_clean, code_clean, code_passes}
use Rattle.machine.proofs.Coded.{rows_in_length}
use Rattle.machine.specs.Checked.{Checked}

pub checked : (code : List ℕ) → code_passes code ≡ true → Checked code
unfolding code_passes code_clean
checked code pass =
    let n : ℕ = rows_said code in
    let fits : Bool = leb (code_words n) (length code) in
    let within : Bool = header_passes n (groups_said code) in
    let kinds : Bool = below n (λ q. listed (word_at code (row_start q))) in
    let rows : Bool = rows_pass (decode code) in
    let (most, tidy) = (and-eq-true_iff (fits && within && kinds && rows) (code_clean code)).0 pass in
    let (e₁, pass) = (and-eq-true_iff (fits && within && kinds) rows).0 most in
    let (e₂, each) = (and-eq-true_iff (fits && within) kinds).0 e₁ in
    let (e₃, header) = (and-eq-true_iff fits within).0 e₂ in
    let (zeros, clean) = (and-eq-true_iff (header_clean code) (below n (row_clean code))).0 tidy in
    record {
      long = leb-true (code_words n) (length code) e₃;
      header = header;
      kinds = below_at n (λ q. listed (word_at code (row_start q))) each;
      rows = pass;
      header_clean_lem = zeros;
      clean = below_at n (row_clean code) clean;
    }

-- A row's words by its kind: those that the kind does not use are zero.
row_words_lem : (k a b : ℕ) (s : List ℕ) → listed k ≡ true → words_of (decode_row k a b s)
    ≡ k ∷ cond (used k first_word) a 0 ∷ cond (used k second_word) b 0 ∷ 0 ∷ cond (used k set_word) s (replicate set_words 0)
row_words_lem zero a b s l = absurd (omega (arith, leb-true 1 0 ((and-eq-true_iff (leb accept_kind 0) (leb 0 assert_kind)).0 l).0))
row_words_lem (suc zero) a b s l = refl
row_words_lem (suc (suc zero)) a b s l = refl
row_words_lem (suc (suc (suc zero))) a b s l = refl
row_words_lem (suc (suc (suc (suc zero)))) a b s l = refl
row_words_lem (suc (suc (suc (suc (suc zero))))) a b s l = refl
row_words_lem (suc (suc (suc (suc (suc (suc zero)))))) a b s l = refl
row_words_lem (suc (suc (suc (suc (suc (suc (suc zero))))))) a b s l = refl
row_words_lem (suc (suc (suc (suc (suc (suc (suc (suc zero)))))))) a b s l = refl
row_words_lem (suc (suc (suc (suc (suc (suc (suc (suc (suc zero))))))))) a b s l = refl
row_words_lem (suc (suc (suc (suc (suc (suc (suc (suc (suc (suc zero)))))))))) a b s l = refl
row_words_lem (suc (suc (suc (suc (suc (suc (suc (suc (suc (suc (suc k))))))))))) a b s l =
    let kind : ℕ = suc (suc (suc (suc (suc (suc (suc (suc (suc (suc (suc k)))))))))) in
    absurd (omega (arith, leb-true kind assert_kind ((and-eq-true_iff (leb accept_kind kind) (leb kind assert_kind)).0 l).1))

-- A word that is zero unless it is used.
or_zero : (u : Bool) (w : ℕ) → (u || eqb w 0) ≡ true → cond u w 0 ≡ w
or_zero true w e = refl
or_zero false w e = sym (eqb-true w 0 e)

set_zero : (u : Bool) (s : List ℕ) (i w : ℕ) → i < set_words → get_or s i 0 ≡ w → (u || eqb w 0) ≡ true
    → get_or (cond u s (replicate set_words 0)) i 0 ≡ w
set_zero true s i w h e c = e
set_zero false s i w h e c = get_or-replicate set_words i 0 0 h ∙ sym (eqb-true w 0 c)

module _ (code : List ℕ) (ok : Checked code) where
  abbrev n : ℕ
  n = rows_said code

  -- Twelve words of code are a list with the same words at each place.
  twelve : (at : ℕ) (l : List ℕ) → at + row_words ≤ length code → length l ≡ row_words
      → ((j : ℕ) → j < row_words → get_or l j 0 ≡ word_at code (at + j)) → take row_words (drop at code) ≡ l
  twelve at l h e same =
      let long : length (take row_words (drop at code)) ≡ row_words
      = length-take-le row_words (drop at code) (omega (arith, length-drop at code)) in
      ext_get_or 0 (take row_words (drop at code)) l (long ∙ sym e)
      (λ j k. get_or-take row_words (drop at code) j 0 (omega arith) ∙ get_or-drop at code j 0 ∙ sym (same j (omega arith)))

  -- The words of a row are those of the row that they say.
  module _ (q : ℕ) (h : q < n) where
    abbrev at : ℕ
    at = row_start q

    abbrev kind : ℕ
    kind = word_at code at

    abbrev set : List ℕ
    set = take set_words (drop (at + set_word) code)

    -- Those words, zero where the kind does not use them.
    abbrev words : List ℕ
    words =
        kind ∷ cond (used kind first_word) (word_at code (at + first_word)) 0
        ∷ cond (used kind second_word) (word_at code (at + second_word)) 0 ∷ 0 ∷ cond (used kind set_word) set (replicate set_words 0)

    unused : (j : ℕ) → j < row_words → (used kind j || eqb (word_at code (at + j)) 0) ≡ true
    unused = below_at row_words (λ i. used kind i || eqb (word_at code (at + i)) 0) (ok.clean q h)

    set_length : (u : Bool) → length (cond u set (replicate set_words 0)) ≡ set_words
    set_length true =
        length-take-le set_words (drop (at + set_word) code) (omega (arith, length-drop (at + set_word) code, ok.long))
    set_length false = refl

    set_at : (i : ℕ) → i < set_words → get_or set i 0 ≡ word_at code (at + (set_word + i))
    set_at i l =
        get_or-take set_words (drop (at + set_word) code) i 0 l ∙ get_or-drop (at + set_word) code i 0 ∙ ap (word_at code) (omega arith)

    word_same : (j : ℕ) → j < row_words → get_or words j 0 ≡ word_at code (at + j)
    word_same zero l = ap (word_at code) (omega arith)
    word_same (suc zero) l = or_zero (used kind 1) (word_at code (at + 1)) (unused 1 l)
    word_same (suc (suc zero)) l = or_zero (used kind 2) (word_at code (at + 2)) (unused 2 l)
    word_same (suc (suc (suc zero))) l = or_zero false (word_at code (at + 3)) (unused 3 l)
    word_same (suc (suc (suc (suc i)))) l =
        set_zero (used kind set_word) set i (word_at code (at + suc (suc (suc (suc i))))) (omega arith)
        (set_at i (omega arith) ∙ ap (word_at code) (omega arith)) (unused (suc (suc (suc (suc i)))) l)

    row_same : take row_words (drop at code) ≡ words_of (row_in code q)
    unfolding row_in
    row_same =
        twelve at words (omega (arith, ok.long)) (ap (λ k. suc (suc (suc (suc k)))) (set_length (used kind set_word))) word_same
        ∙ sym (row_words_lem kind (word_at code (at + first_word)) (word_at code (at + second_word)) set (ok.kinds q h))

  -- The words of m rows from row q on are those of the rows that they say.
  rows_same : (m q : ℕ) → q + m ≤ n → take (row_words * m) (drop (row_start q) code) ≡ concat_map words_of (rows_in code m q)
  rows_same zero q h = refl
  rows_same (suc m) q h =
      let rest : List ℕ = drop (row_start q) code in
      let one : row_words * suc m ≡ row_words + row_words * m = omega arith in
      let next : row_start q + row_words ≡ row_start (suc q) = omega arith in
      ap (λ k. take k rest) one ∙ take-add row_words (row_words * m) rest
      ∙ ap₂ ◌++◌ (row_same q (omega arith)) (ap (take (row_words * m)) (drop-drop row_words (row_start q) code
      ∙ ap (λ k. drop k code) next) ∙ rows_same m (suc q) (omega arith))

  -- The header row is n, g and zeros.
  header_same : take row_words (drop 0 code) ≡ n ∷ groups_said code ∷ replicate header_zeros 0
  header_same = twelve 0 (n ∷ groups_said code ∷ replicate header_zeros 0) (omega (arith, ok.long)) refl go
    where
      zeros : (j : ℕ) → j < row_words → (ltb j header_used || eqb (word_at code j) 0) ≡ true
      zeros = below_at row_words (λ i. ltb i header_used || eqb (word_at code i) 0) ok.header_clean_lem

      go : (j : ℕ) → j < row_words → get_or (n ∷ groups_said code ∷ replicate header_zeros 0) j 0 ≡ word_at code (0 + j)
      go zero l = refl
      go (suc zero) l = refl
      go (suc (suc j)) l =
          let k : ℕ = suc (suc j) in
          get_or-replicate header_zeros j 0 0 (omega arith)
          ∙ sym (eqb-true (word_at code k) 0 (rw (le-ltb k header_used (omega arith)) at (zeros k l)))
          ∙ ap (word_at code) (omega arith)

-- Code that passes is, over its first 12(n+1) words, the code of the program that it says: no two codes say one program.
pub passes_canonical : (code : List ℕ) → code_passes code ≡ true → take (code_words (rows_said code)) code ≡ code_of (decode code)
unfolding code_of
passes_canonical code pass =
    let ok : Checked code = checked code pass in
    let n : ℕ = rows_said code in
    let one : code_words n ≡ row_words + row_words * n = omega arith in
    ap (λ k. take k code) one ∙ take-add row_words (row_words * n) code
    ∙ ap₂ ◌++◌ (header_same code ok) (rows_same code ok n 0 (omega arith))
    ∙ ap (λ k. k ∷ groups_said code ∷ (replicate header_zeros 0 ++ concat_map words_of (rows_in code n 0)))
    (sym (rows_in_length code n 0))
