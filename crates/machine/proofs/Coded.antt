-- What code says: each row of the decoded program, and that code which was written from a program says that program.
use Rattle.std.specs.Prelude.{◌≡◌, refl, Bool, ◌||◌, ◌&&◌, eqb, leb, get_or, take, drop}
use Rattle.std.proofs.Common.{sym, ap₂, ◌∙◌, arith, get_or-append-add, take_at}
use Rattle.std.proofs.Math.Path.{ap}
use Rattle.std.proofs.Math.Bool.{true}
use mathlib.Core.List.{List, [], ◌∷◌, ◌++◌, append_assoc}
use Prim.Native.Nat.{ℕ, zero, suc, ◌+◌, ◌*◌, ◌≤◌, ◌<◌}
use Rattle.std.proofs.Math.ListN.{length, replicate, length-append}
use Rattle.std.proofs.Math.Seq.{drop-append-add, ext_get_or}
use borrow.Author.Tests.{le-leb}
use Rattle.sets.specs.Sets.{below}
use Rattle.sets.specs.Bits.{below_all}
use Rattle.meaning.specs.Node.{Node, Proper}
use Rattle.meaning.specs.Numbering.{Numbers}
use Rattle.meaning.specs.Results.{concat_map}
use Rattle.meaning.specs.Limits.{group_limit, row_limit, least_rows, row_words, code_words}
use Rattle.machine.specs.Rows.{Row, Row.accept, Row.consume, Row.jump, Row.fork, Row.opens, Row.closes, Row.reset}
use Rattle.machine.specs.Rows.{Row.begin, Row.end, Row.assertion}
use Rattle.machine.specs.Rows.{Program, row_count, row_at}
use Rattle.machine.specs.Layout.{size_of, program_of}
use Rattle.machine.specs.Laid.{program_stands}
use Rattle.machine.specs.Compiled.{Rules, every_row, compiled_passes}
use Rattle.machine.specs.Kinds.{header_zeros, listed, used}
use Rattle.machine.specs.Words.{word_at, row_start, decode_row, row_in, rows_in, decode, words_of, code_of, rows_pass}
use Rattle.machine.specs.Words.{header_passes, row_clean, code_clean, code_passes}

-- The rows of decoded code, by their address.
pub rows_in_length : (code : List ℕ) (n q : ℕ) → length (rows_in code n q) ≡ n
rows_in_length code zero q = refl
rows_in_length code (suc n) q = ap suc (rows_in_length code n (suc q))

pub rows_in_at : (code : List ℕ) (n q j : ℕ) → j < n → row_at (rows_in code n q) j ≡ row_in code (q + j)
rows_in_at code zero q j h = absurd (omega arith)
rows_in_at code (suc n) q zero h = ap (row_in code) (omega arith)
rows_in_at code (suc n) q (suc j) h = rows_in_at code n (suc q) j (omega arith) ∙ ap (row_in code) (omega arith)

-- Row q from the words that stand from its start on.
says : (before words : List ℕ) (q : ℕ) → length before ≡ row_start q
    → row_in (before ++ words) q ≡ decode_row (get_or words 0 0) (get_or words 1 0) (get_or words 2 0) (take 8 (drop 4 words))
unfolding row_in
says before words q e =
    let at : (j : ℕ) → word_at (before ++ words) (row_start q + j) ≡ get_or words j 0
    = λ j. ap (λ k. word_at (before ++ words) (k + j)) (sym e) ∙ get_or-append-add before words j 0 in
    let at0 : word_at (before ++ words) (row_start q) ≡ get_or words 0 0 = ap (word_at (before ++ words)) (omega arith) ∙ at 0 in
    let set : drop (row_start q + 4) (before ++ words) ≡ drop 4 words
    = ap (λ k. drop (k + 4) (before ++ words)) (sym e) ∙ drop-append-add before words 4 in
    rw (at0, at 1, at 2, set)

-- A row as 12 words; then it is what they say.
abbrev pub Whole : Row → Type 0
Whole row = length (words_of row) ≡ row_words

said : (row : Row) → Whole row → (rest : List ℕ) → let words : List ℕ = words_of row ++ rest in
    decode_row (get_or words 0 0) (get_or words 1 0) (get_or words 2 0) (take 8 (drop 4 words)) ≡ row
said accept e rest = refl
said (consume s) e rest = ap consume (take_at s rest 8 (omega arith))
said (jump t) e rest = refl
said (fork t u) e rest = refl
said (opens k) e rest = refl
said (closes k) e rest = refl
said (reset l h) e rest = refl
said begin e rest = refl
said (end t) e rest = refl
said (assertion a) e rest = refl

-- The kind of a row is listed.
row_listed : (row : Row) (rest : List ℕ) → listed (get_or (words_of row ++ rest) 0 0) ≡ true
row_listed accept rest = refl
row_listed (consume s) rest = refl
row_listed (jump t) rest = refl
row_listed (fork t u) rest = refl
row_listed (opens k) rest = refl
row_listed (closes k) rest = refl
row_listed (reset l h) rest = refl
row_listed begin rest = refl
row_listed (end t) rest = refl
row_listed (assertion a) rest = refl

-- The words of a row that its kind does not use are zero.
row_clean_lem : (row : Row) (rest : List ℕ) → let words : List ℕ = words_of row ++ rest in
    below row_words (λ i. used (get_or words 0 0) i || eqb (get_or words i 0) 0) ≡ true
row_clean_lem accept rest = refl
row_clean_lem (consume s) rest = refl
row_clean_lem (jump t) rest = refl
row_clean_lem (fork t u) rest = refl
row_clean_lem (opens k) rest = refl
row_clean_lem (closes k) rest = refl
row_clean_lem (reset l h) rest = refl
row_clean_lem begin rest = refl
row_clean_lem (end t) rest = refl
row_clean_lem (assertion a) rest = refl

below_same : (n : ℕ) (test other : ℕ → Bool) → ((i : ℕ) → test i ≡ other i) → below n test ≡ below n other
below_same zero test other h = refl
below_same (suc n) test other h = ap₂ ◌&&◌ (h n) (below_same n test other h)

and_all : (a b c d e : Bool) → a ≡ true → b ≡ true → c ≡ true → d ≡ true → e ≡ true → (a && b && c && d && e) ≡ true
and_all a b c d e ha hb hc hd he = rw (ha, hb, hc, hd, he)

-- Words cut at the place where a row's words stand.
record Cut (words : List ℕ) (row : Row) (place : ℕ) : Type 0 where
  before : List ℕ
  after : List ℕ
  parts : words ≡ before ++ (words_of row ++ after)
  long : length before ≡ place

cut : (rows : List Row) → ((q : ℕ) → q < length rows → Whole (row_at rows q)) → (q : ℕ) → q < length rows
    → Cut (concat_map words_of rows) (row_at rows q) (row_words * q)
cut [] h q l = absurd (omega arith)
cut (row ∷ rows) h zero l = record { before = []; after = concat_map words_of rows; parts = refl; long = refl }
cut (row ∷ rows) h (suc q) l =
    let c : Cut (concat_map words_of rows) (row_at rows q) (row_words * q)
    = cut rows (λ j k. h (suc j) (omega arith)) q (omega arith) in
    record {
      before = words_of row ++ c.before;
      after = c.after;
      parts = ap (λ x. words_of row ++ x) c.parts
          ∙ sym (append_assoc (words_of row) c.before (words_of (row_at rows q) ++ c.after));
      long = rw length-append (omega (arith, h 0 (omega arith), c.long));
    }

length_rows : (rows : List Row) → ((q : ℕ) → q < length rows → Whole (row_at rows q))
    → length (concat_map words_of rows) ≡ row_words * length rows
length_rows [] h = refl
length_rows (row ∷ rows) h = rw length-append
    (omega (arith, h 0 (omega arith), length_rows rows (λ q l. h (suc q) (omega arith))))

module _ (p : Program) (whole : (q : ℕ) → q < row_count p → Whole (row_at p.rows q)) where
  -- Code has 12(n+1) words.
  pub code_length : length (code_of p) ≡ code_words (row_count p)
  unfolding code_of
  code_length = omega (arith, length_rows p.rows whole)

  module _ (rest : List ℕ) where
    abbrev code : List ℕ
    code = code_of p ++ rest

    cut_code : (q : ℕ) → q < row_count p → Cut code (row_at p.rows q) (row_start q)
    unfolding code_of
    cut_code q h =
        let c : Cut (concat_map words_of p.rows) (row_at p.rows q) (row_words * q) = cut p.rows whole q h in
        let header : List ℕ = row_count p ∷ p.groups ∷ replicate header_zeros 0 in
        let words : List ℕ = words_of (row_at p.rows q) in
        record {
          before = header ++ c.before;
          after = c.after ++ rest;
          parts = ap (λ l. header ++ (l ++ rest)) c.parts
              ∙ ap (λ l. header ++ l) (append_assoc c.before (words ++ c.after) rest
              ∙ ap (λ l. c.before ++ l) (append_assoc words c.after rest));
          long = omega (arith, c.long);
        }

    -- Each row of code is the program's, and its kind is listed.
    row_back : (q : ℕ) → q < row_count p → row_in code q ≡ row_at p.rows q
    row_back q h =
        let c : Cut code (row_at p.rows q) (row_start q) = cut_code q h in
        ap (λ l. row_in l q) c.parts ∙ says c.before (words_of (row_at p.rows q) ++ c.after) q c.long
        ∙ said (row_at p.rows q) (whole q h) c.after

    kind_back : (q : ℕ) → q < row_count p → listed (word_at code (row_start q)) ≡ true
    kind_back q h =
        let c : Cut code (row_at p.rows q) (row_start q) = cut_code q h in
        let words : List ℕ = words_of (row_at p.rows q) ++ c.after in
        let e : word_at code (row_start q) ≡ get_or words 0 0
        = ap₂ word_at c.parts (omega (arith, c.long)) ∙ get_or-append-add c.before words 0 0 in
        ap listed e ∙ row_listed (row_at p.rows q) c.after

    clean_back : (q : ℕ) → q < row_count p → row_clean code q ≡ true
    clean_back q h =
        let c : Cut code (row_at p.rows q) (row_start q) = cut_code q h in
        let words : List ℕ = words_of (row_at p.rows q) ++ c.after in
        let at : (i : ℕ) → word_at code (row_start q + i) ≡ get_or words i 0
        = λ i. ap₂ (λ l k. word_at l (k + i)) c.parts (sym c.long) ∙ get_or-append-add c.before words i 0 in
        let kind : word_at code (row_start q) ≡ get_or words 0 0 = ap (word_at code) (omega arith) ∙ at 0 in
        below_same row_words _ _ (λ i. ap₂ (λ k w. used k i || eqb w 0) kind (at i)) ∙ row_clean_lem (row_at p.rows q) c.after

    -- Code says the program that it was written from.
    pub code_says : decode code ≡ p
    unfolding code_of
    code_says =
        let n : ℕ = row_count p in
        let rows : rows_in code n 0 ≡ p.rows
        = ext_get_or accept (rows_in code n 0) p.rows (rows_in_length code n 0)
        (λ j h. let l : j < n = omega (arith, rows_in_length code n 0) in
        rows_in_at code n 0 j l ∙ ap (row_in code) (omega arith) ∙ row_back j l) in
        λ i. record { groups = p.groups; rows = rows i }

    -- It passes the check if its rows do and its numbers are within the limits.
    pub code_passes_lem : rows_pass p ≡ true → least_rows ≤ row_count p → row_count p ≤ row_limit → p.groups ≤ group_limit
        → code_passes code ≡ true
    unfolding code_passes code_clean code_of
    code_passes_lem pass low high few =
        let n : ℕ = row_count p in
        let long : code_words n ≤ length code = omega (arith, length-append (code_of p) rest, code_length) in
        let header : header_passes n p.groups ≡ true
        = rw (le-leb least_rows n low, le-leb n row_limit high, le-leb p.groups group_limit few) in
        and_all (leb (code_words n) (length code)) (header_passes n p.groups)
        (below n (λ q. listed (word_at code (row_start q)))) (rows_pass (decode code)) (code_clean code)
        (le-leb (code_words n) (length code) long) header (below_all n _ kind_back) (ap rows_pass code_says ∙ pass)
        (below_all n _ clean_back)

-- Each row of a pattern's program is 12 words.
whole_rules : (n g : ℕ) → Rules n g Whole
whole_rules n g = record {
  accepts = refl;
  consumes = λ s f. ap (λ k. suc (suc (suc (suc k)))) f.eight;
  jumps = λ t h. refl;
  forks = λ t u h h'. refl;
  groups = λ k h. (refl, refl);
  resets = λ l h e. refl;
  begins = refl;
  ends = λ t h. refl;
  asserts = λ a h. refl;
}

pub compiled_whole : (g : ℕ) (r : Node) → Numbers 1 r (suc g) → Proper r
    → (q : ℕ) → q < row_count (program_of g r) → Whole (row_at (program_of g r).rows q)
compiled_whole g r num ok = every_row g r num ok Whole (whole_rules (row_count (program_of g r)) g)

-- The code of a pattern says its program and passes the check, whatever words stand behind it.
pub compiled_says : (g : ℕ) (r : Node) → Numbers 1 r (suc g) → Proper r
    → (rest : List ℕ) → decode (code_of (program_of g r) ++ rest) ≡ program_of g r
compiled_says g r num ok = code_says (program_of g r) (compiled_whole g r num ok)

pub compiled_code_passes : (g : ℕ) (r : Node) → Numbers 1 r (suc g) → Proper r → g ≤ group_limit → least_rows + size_of r ≤ row_limit
    → (rest : List ℕ) → code_passes (code_of (program_of g r) ++ rest) ≡ true
compiled_code_passes g r num ok few short rest =
    let n : row_count (program_of g r) ≡ least_rows + size_of r = (program_stands g r).counts in
    code_passes_lem (program_of g r) (compiled_whole g r num ok) rest (compiled_passes g r num ok) (omega arith) (omega arith) few
