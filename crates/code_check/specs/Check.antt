-- The check, row by row: what it asks of one row, and how that and the last row decide it.
use Rattle.std.specs.Prelude.{◌≡◌, refl, false, not, ◌||◌, ◌&&◌, List, eqb, leb, ltb, length, take, drop}
use Rattle.std.proofs.Math.Path.{sym, ap}
use Rattle.std.proofs.Common.{◌∙◌, true≢false, arith, zero-add, suc-add, add-one}
use Rattle.std.proofs.Math.Bool.{Bool, true, and-eq-true_iff, and-true, and-false, and_assoc}
use Prim.Native.Nat.{ℕ, zero, suc, ◌+◌, ◌-◌, ◌*◌, ◌≤◌, ◌<◌}
use Rattle.std.specs.Int.Bits.{bit_or, or_add_and}
use Rattle.std.proofs.lemmas.Nat.{and_le_r}
use borrow.Author.Tests.{le-leb, lt-leb, leb-true, ne_eqb}
use Rattle.sets.specs.Sets.{below, between}
use Rattle.sets.specs.Bits.{below_all, below_at}
use Rattle.meaning.specs.Limits.{group_limit, row_limit, least_rows, row_words, code_words}
use Rattle.machine.specs.Rows.{Row, row_at}
use Rattle.machine.specs.Kinds.{accept_kind, consume_kind, jump_kind, fork_kind, open_kind, close_kind, reset_kind, begin_kind, end_kind}
use Rattle.machine.specs.Kinds.{assert_kind, header_used, first_word, second_word, fourth_word, listed, used}
use Rattle.machine.specs.Words.{word_at, rows_said, groups_said, row_start, decode_row, row_in, rows_in, decode}
use Rattle.machine.specs.Words.{row_passes, may_be_last, rows_pass, header_passes, header_clean, row_clean, code_clean, code_passes}
use Rattle.machine.specs.Checked.{Checked}
use Rattle.machine.proofs.Checked.{checked}
use Rattle.machine.proofs.Coded.{rows_in_length, rows_in_at}

-- What the check asks of row q of code with n rows and g groups: its kind is listed, the row passes, and no word is set that
-- it does not use.
unfoldable pub row_checked : List ℕ → ℕ → ℕ → ℕ → Bool
row_checked code n g q = listed (word_at code (row_start q)) && row_passes n g (row_in code q) && row_clean code q

-- A row's fourth word and its set words, the rest behind its operands: how many, and whether they are zero, by its start.
abbrev pub rest_words : ℕ
rest_words = row_words - fourth_word

abbrev pub rest_zero : List ℕ → ℕ → ℕ → Bool
rest_zero code start i = eqb (word_at code (start + (i + fourth_word))) 0

abbrev pub rest_clean : List ℕ → ℕ → Bool
rest_clean code start = below rest_words (rest_zero code start)

-- What is not true is false.
not_so : (p : Bool) → (p ≡ true → ⊥) → p ≡ false
not_so true h = absurd (h refl)
not_so false h = refl

-- A test that passes at each number up to the last kind passes at a listed kind.
among : (k : ℕ) (test : ℕ → Bool) → below (assert_kind + 1) test ≡ true → listed k ≡ true → test k ≡ true
among k test all l =
    below_at (assert_kind + 1) test all k
    (omega (arith, leb-true k assert_kind ((and-eq-true_iff (leb accept_kind k) (leb k assert_kind)).0 l).1))

-- A kind that is none of the ten is not listed.
pub unlisted : (k : ℕ) → (k ≡ accept_kind → ⊥) → (k ≡ consume_kind → ⊥) → (k ≡ jump_kind → ⊥) → (k ≡ fork_kind → ⊥)
    → (k ≡ open_kind → ⊥) → (k ≡ close_kind → ⊥) → (k ≡ reset_kind → ⊥) → (k ≡ begin_kind → ⊥) → (k ≡ end_kind → ⊥)
    → (k ≡ assert_kind → ⊥) → listed k ≡ false
unlisted k h₁ h₂ h₃ h₄ h₅ h₆ h₇ h₈ h₉ h₁₀ =
    let test : ℕ → Bool
    = λ k. not (listed k) || eqb k accept_kind || eqb k consume_kind || eqb k jump_kind || eqb k fork_kind || eqb k open_kind
    || eqb k close_kind || eqb k reset_kind || eqb k begin_kind || eqb k end_kind || eqb k assert_kind in
    let high : Bool = eqb k close_kind || eqb k reset_kind || eqb k begin_kind || eqb k end_kind || eqb k assert_kind in
    let low : (l : listed k ≡ true) → test k ≡ high
    = λ l. rw (
      l,
      ne_eqb k accept_kind h₁,
      ne_eqb k consume_kind h₂,
      ne_eqb k jump_kind h₃,
      ne_eqb k fork_kind h₄,
      ne_eqb k open_kind h₅,
    ) in
    let none : high ≡ false
    = rw (ne_eqb k close_kind h₆, ne_eqb k reset_kind h₇, ne_eqb k begin_kind h₈, ne_eqb k end_kind h₉, ne_eqb k assert_kind h₁₀) in
    not_so (listed k) (λ l. true≢false (sym (among k test refl l) ∙ low l ∙ none))

-- A listed kind that is none of the four may not be last.
pub not_last : (k : ℕ) → listed k ≡ true → (k ≡ accept_kind → ⊥) → (k ≡ jump_kind → ⊥) → (k ≡ fork_kind → ⊥) → (k ≡ end_kind → ⊥)
    → (a b : ℕ) (s : List ℕ) → may_be_last (decode_row k a b s) ≡ false
not_last k l h₁ h₃ h₄ h₉ a b s =
    let test : ℕ → Bool
    = λ k. not (listed k) || not (may_be_last (decode_row k a b s)) || eqb k accept_kind || eqb k jump_kind || eqb k fork_kind
    || eqb k end_kind in
    let fails : may_be_last (decode_row k a b s) ≡ true → test k ≡ false
    = λ m. rw (l, m, ne_eqb k accept_kind h₁, ne_eqb k jump_kind h₃, ne_eqb k fork_kind h₄, ne_eqb k end_kind h₉) in
    not_so (may_be_last (decode_row k a b s)) (λ m. true≢false (sym (among k test refl l) ∙ fails m))

-- A test at each number below a sum, cut at its first part.
below_cut : (m k : ℕ) (test : ℕ → Bool) → below (m + k) test ≡ (below m (λ i. test (i + k)) && below k test)
below_cut zero k test = ap (λ n. below n test) (zero-add k)
below_cut (suc m) k test =
    ap (λ n. below n test) (suc-add m k) ∙ ap (λ b. test (m + k) && b) (below_cut m k test)
    ∙ sym (and_assoc (test (m + k)) (below m (λ i. test (i + k))) (below k test))

-- One word or another is zero exactly if both are.
pub or_zero : (a b : ℕ) → eqb (bit_or a b) 0 ≡ (eqb a 0 && eqb b 0)
or_zero zero b = refl
or_zero (suc a) b =
    ne_eqb (bit_or (suc a) b) 0 (λ e. omega (arith, e, or_add_and (suc a) b, and_le_r (suc a) b))
    ∙ ap (λ x. x && eqb b 0) (sym (ne_eqb (suc a) 0 (λ e. omega (arith, e))))

-- One word of the rest more.
pub rest_more : (code : List ℕ) (start i rest : ℕ) → eqb rest 0 ≡ below i (rest_zero code start)
    → eqb (bit_or (word_at code (start + (i + fourth_word))) rest) 0 ≡ below (i + 1) (rest_zero code start)
rest_more code start i rest e =
    or_zero (word_at code (start + (i + fourth_word))) rest ∙ ap (λ r. rest_zero code start i && r) e
    ∙ ap (λ n. below n (rest_zero code start)) (sym (add-one i))

swap : (x r : Bool) → (x && r) ≡ (r && (x && true))
swap true r = sym (and-true r)
swap false r = sym (and-false r)

-- The second operand and the rest of a row are zero, or both operands and the rest.
pub one_unused : (b rest : ℕ) (r : Bool) → eqb rest 0 ≡ r → eqb (bit_or b rest) 0 ≡ (r && (eqb b 0 && true))
one_unused b rest r e = or_zero b rest ∙ ap (λ r. eqb b 0 && r) e ∙ swap (eqb b 0) r

pub two_unused : (a b rest : ℕ) (r : Bool) → eqb rest 0 ≡ r
    → eqb (bit_or a (bit_or b rest)) 0 ≡ (r && (eqb b 0 && (eqb a 0 && true)))
two_unused a b rest r e =
    or_zero a (bit_or b rest) ∙ ap (λ r. eqb a 0 && r) (one_unused b rest r e) ∙ last (eqb a 0) r (eqb b 0)
  where
    last : (x r y : Bool) → (x && (r && (y && true))) ≡ (r && (y && (x && true)))
    last true r y = refl
    last false r y = sym (ap (λ z. r && z) (and-false y) ∙ and-false r)

-- Row q's words, if it is of a kind: each is used or zero.
abbrev used_or_zero : List ℕ → ℕ → ℕ → ℕ → Bool
used_or_zero code q kind i = used kind i || eqb (word_at code (row_start q + i)) 0

cut_row : (code : List ℕ) (q kind : ℕ) → below row_words (used_or_zero code q kind)
    ≡ (below rest_words (λ i. used_or_zero code q kind (i + fourth_word)) && below fourth_word (used_or_zero code q kind))
cut_row code q kind = below_cut rest_words fourth_word (used_or_zero code q kind)

-- What a row leaves unused, by its kind: as Accept and Begin all; as Jump, Open, Close, End and Assert all but the first
-- operand; as Fork and Reset all but both; as Consume all but the set.
module _ (code : List ℕ) (q rest : ℕ) (e : eqb rest 0 ≡ rest_clean code (row_start q)) where
  abbrev a : ℕ
  a = word_at code (row_start q + first_word)

  abbrev b : ℕ
  b = word_at code (row_start q + second_word)

  pub as_accept : eqb (bit_or a (bit_or b rest)) 0 ≡ below row_words (used_or_zero code q accept_kind)
  as_accept = two_unused a b rest (rest_clean code (row_start q)) e ∙ sym (cut_row code q accept_kind)

  pub as_jump : eqb (bit_or b rest) 0 ≡ below row_words (used_or_zero code q jump_kind)
  as_jump = one_unused b rest (rest_clean code (row_start q)) e ∙ sym (cut_row code q jump_kind)

  pub as_fork : eqb rest 0 ≡ below row_words (used_or_zero code q fork_kind)
  as_fork = e ∙ sym (and-true (rest_clean code (row_start q))) ∙ sym (cut_row code q fork_kind)

  pub as_consume : eqb (bit_or a (bit_or b (word_at code (row_start q + fourth_word)))) 0
      ≡ below row_words (used_or_zero code q consume_kind)
  as_consume =
      let fourth : ℕ = word_at code (row_start q + fourth_word) in
      two_unused a b fourth (eqb fourth 0 && true) (sym (and-true (eqb fourth 0))) ∙ sym (cut_row code q consume_kind)

pub header_rest : (code : List ℕ) (rest : ℕ) → eqb rest 0 ≡ rest_clean code 0
    → eqb (bit_or (word_at code header_used) rest) 0 ≡ header_clean code
header_rest code rest e =
    one_unused (word_at code header_used) rest (rest_clean code 0) e
    ∙ sym (below_cut rest_words fourth_word (λ i. ltb i header_used || eqb (word_at code i) 0))

-- A Reset with highest 0 passes exactly if it is 1, 0.
pub reset_none : (l g : ℕ) → eqb l 1 ≡ ((leb 1 l && leb l 0 && leb 0 g) || (eqb l 1 && eqb 0 0))
reset_none zero g = refl
reset_none (suc l) g = rw (lt-leb (suc l) 0 (omega arith), and-false, and-true)

module _ (code : List ℕ) where
  abbrev n : ℕ
  n = rows_said code

  abbrev g : ℕ
  g = groups_said code

  -- The rows that code says.
  abbrev said : ℕ → Row
  said q = row_at (rows_in code n 0) q

  abbrev kinds : Bool
  kinds = below n (λ q. listed (word_at code (row_start q)))

  -- What the check asks of them, by the code's own number of rows.
  rows_pass_lem : rows_pass (decode code) ≡ (below n (λ q. row_passes n g (said q)) && may_be_last (said (n - 1)))
  unfolding rows_pass
  rows_pass_lem = ap (λ m. below m (λ q. row_passes m g (said q)) && may_be_last (said (m - 1))) (rows_in_length code n 0)

  row_at_lem : (q : ℕ) → q < n → said q ≡ row_in code q
  row_at_lem q h = rows_in_at code n 0 q h ∙ ap (row_in code) (omega arith)

  row_checked_lem : Checked code → (q : ℕ) → q < n → row_checked code n g q ≡ true
  unfolding row_checked rows_pass
  row_checked_lem ok q h =
      let test : ℕ → Bool = λ q. row_passes n g (said q) in
      let each : below n test ≡ true
      = ((and-eq-true_iff (below n test) (may_be_last (said (n - 1)))).0 (sym rows_pass_lem ∙ ok.rows)).0 in
      rw (ok.kinds q h, sym (row_at_lem q h), below_at n test each q h) (ok.clean q h)

  -- Too few words, a number of the header row beyond the limits, a word of it that is not used, or a row that fails: the check
  -- fails.
  pub too_short : length code < code_words n → code_passes code ≡ false
  too_short h = not_so (code_passes code) (λ e. omega (arith, (checked code e).long))

  pub header_fails : header_passes n g ≡ false → code_passes code ≡ false
  header_fails h = not_so (code_passes code) (λ e. true≢false (sym (checked code e).header ∙ h))

  pub header_stray : header_clean code ≡ false → code_passes code ≡ false
  header_stray h = not_so (code_passes code) (λ e. true≢false (sym (checked code e).header_clean_lem ∙ h))

  pub row_fails : (q : ℕ) → q < n → row_checked code n g q ≡ false → code_passes code ≡ false
  row_fails q l h = not_so (code_passes code) (λ e. true≢false (sym (row_checked_lem (checked code e) q l) ∙ h))

  -- Otherwise the kind of the last row decides.
  module _ (header : header_passes n g ≡ true) where
    pub some_rows : (0 < n) × (n ≤ row_limit)
    some_rows =
        let rows : between least_rows row_limit n ≡ true
        = ((and-eq-true_iff (between least_rows row_limit n) (leb g group_limit)).0 header).0 in
        let (low, high) = (and-eq-true_iff (leb least_rows n) (leb n row_limit)).0 rows in
        (omega (arith, leb-true least_rows n low), leb-true n row_limit high)

    last_row : row_start (n - 1) ≡ row_words * n
    last_row = omega (arith, some_rows)

    module _ (long : code_words n ≤ length code) (clean : header_clean code ≡ true)
        (rows : (q : ℕ) → q < n → row_checked code n g q ≡ true) where
      apart : (q : ℕ) → q < n
          → ((listed (word_at code (row_start q)) && row_passes n g (row_in code q)) ≡ true) × (row_clean code q ≡ true)
      unfolding row_checked
      apart q h =
          (and-eq-true_iff (listed (word_at code (row_start q)) && row_passes n g (row_in code q)) (row_clean code q)).0 (rows q h)

      both : (q : ℕ) → q < n → (listed (word_at code (row_start q)) ≡ true) × (row_passes n g (row_in code q) ≡ true)
      both q h = (and-eq-true_iff (listed (word_at code (row_start q))) (row_passes n g (row_in code q))).0 (apart q h).0

      pub last_listed : listed (word_at code (row_words * n)) ≡ true
      last_listed = ap (λ i. listed (word_at code i)) (sym last_row) ∙ (both (n - 1) (omega (arith, some_rows))).0

      pub last_decides : (r : Bool) → ((a b : ℕ) (s : List ℕ) → r ≡ may_be_last (decode_row (word_at code (row_words * n)) a b s))
          → r ≡ code_passes code
      unfolding code_passes code_clean row_in
      last_decides r h =
          let q : ℕ = row_start (n - 1) in
          let row : ℕ → Row
          = λ i. decode_row (word_at code i) (word_at code (q + 1)) (word_at code (q + 2)) (take 8 (drop (q + 4) code)) in
          let all : kinds ≡ true = below_all n _ (λ q h. (both q h).0) in
          let each : below n (λ q. row_passes n g (said q)) ≡ true
          = below_all n _ (λ q h. ap (row_passes n g) (row_at_lem q h) ∙ (both q h).1) in
          let tidy : below n (row_clean code) ≡ true = below_all n _ (λ q h. (apart q h).1) in
          rw (
            rows_pass_lem,
            le-leb (code_words n) (length code) long,
            header,
            all,
            each,
            clean,
            tidy,
            row_at_lem (n - 1) (omega (arith, some_rows)),
          )
          (h (word_at code (q + 1)) (word_at code (q + 2)) (take 8 (drop (q + 4) code))
          ∙ ap (λ i. may_be_last (row i)) (sym last_row) ∙ sym (and-true _))
