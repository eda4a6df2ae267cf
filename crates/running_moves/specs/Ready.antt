-- What the check says of code: its header row, and each of its rows.
use Rattle.std.specs.Prelude.{◌≡◌, refl, Bool, true, false, cond, ◌||◌, ◌&&◌, List, ℕ, suc, ◌+◌, ◌-◌, ◌≤◌, ◌<◌, eqb, leb, ltb, length}
use Rattle.std.proofs.Common.{sym, ap, subst, ◌∙◌, arith, ltb-true, leb-true, eqb-true}
use Rattle.std.proofs.lemmas.Bool.{false≢true}
use Rattle.std.proofs.Math.Option.{Option}
use Rattle.std.proofs.Math.Decide.{dec_lt}
use Rattle.sets.specs.Sets.{between, has}
use Rattle.sets.specs.Bits.{below_at}
use Rattle.meaning.specs.Tests.{and_true, by_test}
use Rattle.meaning.specs.Text.{passes, registers_of}
use Rattle.meaning.specs.Bytes.{asserts}
use Rattle.meaning.specs.Limits.{group_limit, row_limit, least_rows, code_words}
use Rattle.machine.specs.Rows.{Row, Row.accept, Row.consume, Row.jump, Row.fork, Row.opens, Row.closes, Row.reset}
use Rattle.machine.specs.Rows.{Row.begin, Row.end, Row.assertion}
use Rattle.machine.specs.Rows.{row_count, row_at}
use Rattle.machine.specs.Kinds.{first_word, second_word, accept_kind, assert_kind}
use Rattle.machine.specs.Words.{word_at, rows_said, groups_said, row_start, decode_row, row_in, rows_in, decode, row_passes}
use Rattle.machine.specs.Words.{may_be_last, each_passes, last_passes, rows_pass, code_passes}
use Rattle.machine.specs.Checked.{Checked}
use Rattle.machine.proofs.Checked.{checked}
use Rattle.machine.proofs.Coded.{rows_in_at, rows_in_length}
use Rattle.running_moves.specs.Keys.{key_number, keys_of, row_of, flag_of, next_key}
use Rattle.running_moves.specs.Chosen.{set_in, chosen, Ranged}
use Rattle.running_moves.specs.declared.Move.{Move}

-- What the check says.
pub record Ready (code : List ℕ) : Type 0 where
  pub size : code_words (rows_said code) ≤ length code
  pub least : least_rows ≤ rows_said code
  pub most : rows_said code ≤ row_limit
  pub groups : groups_said code ≤ group_limit
  pub listed : (q : ℕ) → q < rows_said code → (accept_kind ≤ word_at code (row_start q)) × (word_at code (row_start q) ≤ assert_kind)
  pub passing : (q : ℕ) → q < rows_said code → row_passes (rows_said code) (groups_said code) (row_in code q) ≡ true
  pub next : (q : ℕ) → q < rows_said code → may_be_last (row_in code q) ≡ false → suc q < rows_said code
  pub rows : rows_pass (decode code) ≡ true

within : (a b x : ℕ) → between a b x ≡ true → (a ≤ x) × (x ≤ b)
within a b x e = let h = and_true (leb a x) (leb x b) e in (leb-true a x h.0, leb-true x b h.1)

module _ (code : List ℕ) (pass : code_passes code ≡ true) where
  abbrev n : ℕ
  n = rows_said code

  abbrev g : ℕ
  g = groups_said code

  ok : Checked code
  ok = checked code pass

  header : (between least_rows row_limit n ≡ true) × (leb g group_limit ≡ true)
  header = and_true (between least_rows row_limit n) (leb g group_limit) ok.header

  both_pass : (each_passes (decode code) ≡ true) × (last_passes (decode code) ≡ true)
  unfolding rows_pass
  both_pass = and_true (each_passes (decode code)) (last_passes (decode code)) ok.rows

  here : (q : ℕ) → q < n → row_at (rows_in code n 0) q ≡ row_in code q
  here q h = rows_in_at code n 0 q h ∙ ap (row_in code) (omega arith)

  each : (q : ℕ) → q < n → row_passes n g (row_in code q) ≡ true
  each q h =
      let e : length (rows_in code n 0) ≡ n = rows_in_length code n 0 in
      let p = below_at (row_count (decode code)) (λ k. row_passes (row_count (decode code)) g (row_at (rows_in code n 0) k))
      both_pass.0 q (omega arith) in
      subst (λ (r : Row). row_passes n g r ≡ true) (here q h)
      (subst (λ (k : ℕ). row_passes k g (row_at (rows_in code n 0) q) ≡ true) e p)

  after : (q : ℕ) → q < n → may_be_last (row_in code q) ≡ false → suc q < n
  after q h e = go (dec_lt (suc q) n)
    where
      go : Dec (suc q < n) → suc q < n
      go (yes l) = l
      go (no l) =
          let k : length (rows_in code n 0) ≡ n = rows_in_length code n 0 in
          let same : row_count (decode code) - 1 ≡ q = omega arith in
          absurd (false≢true (sym e ∙ ap may_be_last (sym (here q h))
          ∙ subst (λ (z : ℕ). may_be_last (row_at (rows_in code n 0) z) ≡ true) same both_pass.1))

  pub ready : Ready code
  ready = record {
    size = ok.long;
    least = (within least_rows row_limit n header.0).0;
    most = (within least_rows row_limit n header.0).1;
    groups = leb-true g group_limit header.1;
    listed = λ q h. within accept_kind assert_kind (word_at code (row_start q)) (ok.kinds q h);
    passing = each;
    next = after;
    rows = ok.rows;
  }

-- Row q as a row of a kind, and that it is the row of the kind that the code says.
abbrev pub row_of_kind : List ℕ → ℕ → ℕ → Row
row_of_kind code q kind =
    decode_row kind (word_at code (row_start q + first_word)) (word_at code (row_start q + second_word)) (set_in code q)

pub row_is : (code : List ℕ) (q : ℕ) {kind : ℕ} → word_at code (row_start q) ≡ kind → row_in code q ≡ row_of_kind code q kind
unfolding row_in
row_is code q e = rw e

-- The registers of a Reset.
resets : (l h g : ℕ) → ((leb 1 l && leb l h && leb h g) || (eqb l 1 && eqb h 0)) ≡ true → (1 ≤ l) × (h ≤ g)
resets l h g e = go (leb 1 l && leb l h && leb h g) refl e
  where
    go : (t : Bool) → (leb 1 l && leb l h && leb h g) ≡ t → (t || (eqb l 1 && eqb h 0)) ≡ true → (1 ≤ l) × (h ≤ g)
    go true e d =
        let a = and_true (leb 1 l && leb l h) (leb h g) e in
        (leb-true 1 l (and_true (leb 1 l) (leb l h) a.0).0, leb-true h g a.1)
    go false e d =
        let a = and_true (eqb l 1) (eqb h 0) d in
        let u : l ≡ 1 = eqb-true l 1 a.0 in
        let v : h ≡ 0 = eqb-true h 0 a.1 in
        (omega arith, omega arith)

-- Rows that pass lead to keys of the program and write its registers.
module _ (n g key : ℕ) (before after : Option ℕ) (low : key < keys_of n) where
  may : (b : Bool) (k : ℕ) → k < keys_of n → Ranged n (registers_of g) (cond b (Move.On k) Move.Lose)
  may b k h = by_test (Ranged n (registers_of g)) b (λ e. h) (λ e. tt)

  pub ranged : (row : Row) → row_passes n g row ≡ true → (may_be_last row ≡ false → suc (row_of key) < n)
      → Ranged n (registers_of g) (chosen before after key row)
  ranged accept e next = tt
  ranged (consume s) e next =
      by_test (Ranged n (registers_of g)) (passes (has s) after) (λ t. let h = next refl in omega arith) (λ t. tt)
  ranged (jump t) e next = omega (arith, ltb-true t n e)
  ranged (fork t u) e next =
      let h = and_true (ltb t n) (ltb u n) e in
      (omega (arith, ltb-true t n h.0), omega (arith, ltb-true u n h.1))
  ranged (opens k) e next = let h = next refl in (omega (arith, leb-true k g e), omega arith)
  ranged (closes k) e next = let h = next refl in (omega (arith, leb-true k g e), omega arith)
  ranged (reset l h) e next = let m = next refl in let r = resets l h g e in (omega arith, omega arith, omega arith)
  ranged begin e next = let h = next refl in omega arith
  ranged (end t) e next = may (eqb (flag_of key) 1) (key_number t (flag_of key)) (omega (arith, ltb-true t n e))
  ranged (assertion a) e next = let h = next refl in may (asserts a before after) (next_key key) (omega arith)

-- The same of code that passes.
pub ranged_in : {code : List ℕ} → Ready code → (key : ℕ) (before after : Option ℕ) → key < keys_of (rows_said code)
    → Ranged (rows_said code) (registers_of (groups_said code)) (chosen before after key (row_in code (row_of key)))
ranged_in {code} r key before after h =
    ranged (rows_said code) (groups_said code) key before after h (row_in code (row_of key)) (r.passing (row_of key) (omega arith))
    (r.next (row_of key) (omega arith))
