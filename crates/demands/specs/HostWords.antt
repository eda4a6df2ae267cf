-- The words of a program's code fit in 32 bits, so that bytes which begin with the bytes of that code lend that code.
use Rattle.std.specs.Prelude.{◌≡◌, ◌⊎◌, List, [], ◌∷◌, ◌++◌, ℕ, zero, suc, ◌+◌, ◌*◌, ◌-◌, ◌/◌, ◌^◌, ◌≤◌, ◌<◌, length, get_or, take, drop, replicate}
use Rattle.std.proofs.Common.{sym, ap, ◌∙◌, inl, inr, append-nil, append_assoc, arith, length-take, take-append-drop}
use Rattle.meaning.specs.All.{All, all_append}
use Rattle.meaning.specs.Limits.{group_limit, row_limit, set_words}
use Rattle.meaning.specs.Results.{concat_map}
use Rattle.meaning.specs.Node.{Node, Proper}
use Rattle.meaning.specs.Numbering.{Numbers}
use Rattle.machine.specs.Rows.{Row, Row.reset, row_count, row_at}
use Rattle.machine.specs.Kinds.{header_zeros, reset_kind}
use Rattle.machine.specs.Layout.{program_of}
use Rattle.machine.specs.Compiled.{Rules, every_row}
use Rattle.machine.specs.Words.{plain_words, code_of}
use Rattle.machine.specs.Words as Rows
use Rattle.wire.specs.Wire.{word_of4, words_of, bytes_of_words}
use Rattle.wire.specs.Words.{bytes_length, words_back}
use Rattle.host.specs.Surface.{all_words}

-- A word that fits, and words that do: all of them, and by their places.
abbrev Small : ℕ → Type 0
Small w = w < 2 ^ 32

abbrev Fit : List ℕ → Type 0
Fit words = All Small words

all_fit : (l : List ℕ) → ((i : ℕ) → get_or l i 0 < 2 ^ 32) → Fit l
all_fit [] h = tt
all_fit (w ∷ l) h = (h 0, all_fit l (λ i. h (suc i)))

fit_at : (l : List ℕ) → Fit l → (i : ℕ) → get_or l i 0 < 2 ^ 32
fit_at [] h i = omega arith
fit_at (w ∷ l) h zero = h.0
fit_at (w ∷ l) h (suc i) = fit_at l h.1 i

zeros_fit : (n : ℕ) → Fit (replicate n 0)
zeros_fit zero = tt
zeros_fit (suc n) = (omega arith, zeros_fit n)

-- The words of each row that is written for a pattern, whose numbers are below its rows or at most its groups,
plain_fit : (kind a b : ℕ) → Small kind × Small a × Small b → Fit (plain_words kind a b)
plain_fit kind a b h = (h.0, (h.1, (h.2, zeros_fit (suc set_words))))

module _ (n g : ℕ) (rows : n ≤ row_limit) (groups : g ≤ group_limit) where
  reset_fit : (l h : ℕ) → ((1 ≤ l) × (l ≤ h) × (h ≤ g)) ⊎ ((l ≡ 1) × (h ≡ 0)) → Fit (Rows.words_of (reset l h))
  reset_fit l h (inl e) = plain_fit reset_kind l h (omega arith)
  reset_fit l h (inr e) = plain_fit reset_kind l h (omega arith)

  fit_rules : Rules n g (λ row. Fit (Rows.words_of row))
  fit_rules = record {
    accepts = plain_fit _ _ _ (omega arith);
    consumes = λ s f. (omega arith, (omega arith, (omega arith, (omega arith, all_fit s f.words))));
    jumps = λ t h. plain_fit _ _ _ (omega arith);
    forks = λ t u h k. plain_fit _ _ _ (omega arith);
    groups = λ k h. (plain_fit _ _ _ (omega arith), plain_fit _ _ _ (omega arith));
    resets = reset_fit;
    begins = plain_fit _ _ _ (omega arith);
    ends = λ t h. plain_fit _ _ _ (omega arith);
    asserts = λ a h. plain_fit _ _ _ (omega arith);
  }

rows_fit : (rows : List Row) → ((q : ℕ) → q < length rows → Fit (Rows.words_of (row_at rows q))) → Fit (concat_map Rows.words_of rows)
rows_fit [] h = tt
rows_fit (row ∷ rows) h =
    all_append Small (Rows.words_of row) (concat_map Rows.words_of rows) (h 0 (omega arith))
    (rows_fit rows (λ q l. h (suc q) (omega arith)))

-- and so all words of its code.
pub code_fits : (g : ℕ) (r : Node) → Numbers 1 r (suc g) → Proper r → row_count (program_of g r) ≤ row_limit → g ≤ group_limit
    → (i : ℕ) → get_or (code_of (program_of g r)) i 0 < 2 ^ 32
unfolding code_of
code_fits g r numbers proper few groups =
    let rows : List Row = (program_of g r).rows in
    let each = every_row g r numbers proper (λ row. Fit (Rows.words_of row)) (fit_rules (length rows) g few groups) in
    let behind : Fit (replicate header_zeros 0 ++ concat_map Rows.words_of rows)
    = all_append Small (replicate header_zeros 0) (concat_map Rows.words_of rows) (zeros_fit header_zeros) (rows_fit rows each) in
    fit_at (code_of (program_of g r)) (omega arith, (omega arith, behind))

-- More words of bytes are those and others behind them.
words_behind : (bytes : List ℕ) (m k n : ℕ) → k + m ≡ n → (rest : List ℕ) × (words_of bytes n ≡ words_of bytes m ++ rest)
unfolding words_of
words_behind bytes m zero n e = let same : n ≡ m = omega arith in ([], rw (same, append-nil))
words_behind bytes m (suc k) zero e = absurd (omega arith)
words_behind bytes m (suc k) (suc n) e =
    let (rest, f) = words_behind bytes m k n (omega arith) in
    (rest ++ word_of4 bytes n ∷ [], rw f (append_assoc (words_of bytes m) rest (word_of4 bytes n ∷ [])))

-- Bytes that begin with those of words lend those words, and others behind them.
pub words_begin : (x bytes : List ℕ) → ((i : ℕ) → get_or x i 0 < 2 ^ 32) → take (4 * length x) bytes ≡ bytes_of_words x
    → (rest : List ℕ) × (all_words bytes ≡ x ++ rest)
words_begin x bytes fits e =
    let whole : bytes_of_words x ++ drop (4 * length x) bytes ≡ bytes
    = ap (λ l. l ++ drop (4 * length x) bytes) (sym e) ∙ take-append-drop (4 * length x) bytes in
    let first : words_of bytes (length x) ≡ x
    = ap (λ l. words_of l (length x)) (sym whole) ∙ words_back x (drop (4 * length x) bytes) fits in
    let enough : length x ≤ length bytes / 4
    = omega (arith, ap length e, bytes_length x, length-take (4 * length x) bytes) in
    let (rest, more) = words_behind bytes (length x) (length bytes / 4 - length x) (length bytes / 4) (omega arith) in
    (rest, more ∙ ap (λ l. l ++ rest) first)
