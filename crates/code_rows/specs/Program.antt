-- A whole program as code: its rows, from the last one back, and then the header row.
use Rattle.std.specs.Prelude.{◌≡◌, refl, true, List, [], ◌∷◌, ◌++◌, ℕ, ◌+◌, ◌≤◌, length, take, drop, replicate}
use Rattle.std.proofs.Common.{sym, ap, ap₂, subst, ◌∙◌, append-nil, arith, length-take-le, drop_at}
use Rattle.sets.specs.Sets.{Holds}
use Rattle.sets.specs.Laws.{words_of}
use Rattle.meaning.specs.Limits.{row_limit, least_rows, row_words, code_words}
use Rattle.meaning.specs.Node.{Node}
use Rattle.machine.specs.Kinds.{header_zeros}
use Rattle.machine.specs.Rows.{Row, Row.accept, Row.consume, Row.fork, Row.opens, Row.closes}
use Rattle.machine.specs.Rows.{Row.reset, Row.begin, Row.end as ends, row_count}
use Rattle.machine.specs.Layout.{size_of, rows_of, any_byte, program_of}
use Rattle.machine.specs.Laid.{program_stands}
use Rattle.machine.specs.Words.{plain_words, code_of}
use Rattle.table.specs.Stands.{Ends}
use Rattle.code_rows.specs.Emits.{Part}
use Rattle.code_words.specs.Wrote.{Room, Wrote}
use Rattle.code_words.specs.Wrote.{wrote_as}
use Rattle.code_rows.specs.Lines.{in_words, rows_then}

-- The first records of a table, up to record number `top`, are a pattern's.
abbrev pub Tabled : List ℕ → ℕ → Node → Type 0
Tabled table top r = Ends table top [] r

pub tabled_part : {table : List ℕ} {top : ℕ} {r : Node} → Tabled table top r → Part table top r
tabled_part t = record { before = []; ends = t }

-- Code has room for a pattern's program, which has no more rows than there may be.
pub record Roomy (code : List ℕ) (r : Node) : Type 0 where
  pub short : least_rows + size_of r ≤ row_limit
  pub long : code_words (least_rows + size_of r) ≤ length code

-- What is asked, and what is answered: the code of the program, and behind it the words that stood there.
pub record Compiling (table : List ℕ) (top : ℕ) (code : List ℕ) : Type 0 where
  pub node : Node
  pub tabled : Tabled table top node
  pub roomy : Roomy code node

pub record Compiles (table : List ℕ) (top groups : ℕ) (code code' : List ℕ) : Type 0 where
  pub by : (r : Node) → Tabled table top r → Roomy code r
      → code' ≡ code_of (program_of groups r) ++ drop (code_words (least_rows + size_of r)) code

-- The prefix.
abbrev pub prefix_rows : List Row
prefix_rows = fork 5 1 ∷ begin ∷ reset 1 0 ∷ consume any_byte ∷ ends 0 ∷ []

pub wrote_prefix : {code c₁ c₂ c₃ c₄ c₅ set : List ℕ} {at₁ at₂ at₃ at₄ at₅ : ℕ} → Room code 5 → Holds set (λ x. true)
    → Wrote code c₁ at₁ 5 1 (plain_words 9 0 0) → Wrote c₁ c₂ at₂ at₁ 1 (2 ∷ 0 ∷ 0 ∷ 0 ∷ set)
    → Wrote c₂ c₃ at₃ at₂ 1 (plain_words 7 1 0)
    → Wrote c₃ c₄ at₄ at₃ 1 (plain_words 8 0 0) → Wrote c₄ c₅ at₅ at₄ 1 (plain_words 4 5 1)
    → Wrote code c₅ 0 5 5 (in_words prefix_rows)
unfolding any_byte
wrote_prefix {code} {c₅ = c₅} {at₅ = at₅} room set w₁ w₂ w₃ w₄ w₅ =
    let any = ap (λ s. 2 ∷ 0 ∷ 0 ∷ 0 ∷ s) (words_of set ∙ sym (append-nil any_byte)) in
    let two = rows_then (consume any_byte ∷ []) (ends 0 ∷ []) room w₁ (wrote_as w₂ refl any) in
    let three = rows_then (reset 1 0 ∷ []) (consume any_byte ∷ ends 0 ∷ []) room two w₃ in
    let four = rows_then (begin ∷ []) (reset 1 0 ∷ consume any_byte ∷ ends 0 ∷ []) room three w₄ in
    let five = rows_then (fork 5 1 ∷ []) (begin ∷ reset 1 0 ∷ consume any_byte ∷ ends 0 ∷ []) room four w₅ in
    subst (λ q. Wrote code c₅ q 5 5 (in_words prefix_rows)) (omega (arith, five.counts)) five

-- The header row goes before all.
headed : {code c₁ c₂ : List ℕ} {n g : ℕ} (rows : List Row) → code_words n ≤ length code → Wrote code c₁ 0 n n (in_words rows)
    → c₂ ≡ take 0 c₁ ++ (plain_words n g 0 ++ drop (0 + row_words) c₁)
    → c₂ ≡ (n ∷ g ∷ (replicate header_zeros 0 ++ in_words rows)) ++ drop (code_words n) code
headed {code} {c₁} {c₂} {n} {g} rows long w e =
    let rest : List ℕ = in_words rows ++ drop (code_words n) code in
    let tail : drop row_words c₁ ≡ rest
    = ap (drop row_words) w.result ∙ drop_at (take row_words code) rest row_words (length-take-le row_words code (omega arith)) in
    e ∙ ap (λ l. plain_words n g 0 ++ l) tail

-- A program: Accept, Close, the pattern, Open, the prefix, and the header row.
pub wrote_program : {code c₁ c₂ c₃ c₄ c₅ c₆ : List ℕ} {n at₁ at₂ at₃ at₄ g : ℕ} (r : Node) → Room code n
    → n ≡ least_rows + size_of r
    → Wrote code c₁ at₁ n 1 (plain_words 1 0 0) → Wrote c₁ c₂ at₂ at₁ 1 (plain_words 6 0 0)
    → Wrote c₂ c₃ at₃ at₂ (size_of r) (in_words (rows_of r at₃)) → Wrote c₃ c₄ at₄ at₃ 1 (plain_words 5 0 0)
    → Wrote c₄ c₅ 0 5 5 (in_words prefix_rows) → c₆ ≡ take 0 c₅ ++ (plain_words n g 0 ++ drop (0 + row_words) c₅)
    → c₆ ≡ code_of (program_of g r) ++ drop (code_words (least_rows + size_of r)) code
unfolding code_of
wrote_program {code} {c₄ = c₄} {c₅ = c₅} {n = n} {at₃ = at₃} {at₄ = at₄} {g = g} r room size w₁ w₂ w₃ w₄ w₅ e =
    let stop : List Row = closes 0 ∷ accept ∷ [] in
    let two = rows_then (closes 0 ∷ []) (accept ∷ []) room w₁ w₂ in
    let body = rows_then (rows_of r at₃) stop room two w₃ in
    let whole = rows_then (opens 0 ∷ []) (rows_of r at₃ ++ stop) room body w₄ in
    let first : at₃ ≡ 6 = omega (arith, w₃.counts, two.counts, size) in
    let five : at₄ ≡ 5 = omega (arith, w₄.counts, first) in
    let whole' : Wrote code c₄ 5 n (1 + (size_of r + 2)) (in_words (opens 0 ∷ (rows_of r 6 ++ stop)))
    = subst (λ q. Wrote code c₄ q n (1 + (size_of r + 2)) (in_words (opens 0 ∷ (rows_of r 6 ++ stop)))) five
    (wrote_as whole refl (ap (λ q. in_words (opens 0 ∷ (rows_of r q ++ stop))) first)) in
    let all : Wrote code c₅ 0 n n (in_words (program_of g r).rows)
    = wrote_as (rows_then prefix_rows (opens 0 ∷ (rows_of r 6 ++ stop)) room whole' w₅) (omega (arith, size)) refl in
    let count : n ≡ row_count (program_of g r) = size ∙ sym (program_stands g r).counts in
    headed (program_of g r).rows room.long all e
    ∙ ap₂ (λ k m. (k ∷ g ∷ (replicate header_zeros 0 ++ in_words (program_of g r).rows)) ++ drop (code_words m) code) count size
