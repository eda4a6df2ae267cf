-- Codes that pass the check and codes that fail it by one clause alone, on both sides of each limit, computed.
use Rattle.std.specs.Prelude.{◌≡◌, refl, Bool, true, false, not, ◌||◌, ◌&&◌, List, [], ◌∷◌, ◌++◌, ℕ, ◌+◌, take, drop, replicate}
use Rattle.sets.specs.Sets.{below}
use Rattle.meaning.specs.Limits.{row_words}
use Rattle.machine.specs.Rows.{Row, Row.accept, Row.consume, Row.jump, Row.fork, Row.opens, Row.closes, Row.reset}
use Rattle.machine.specs.Rows.{Row.begin, Row.end, Row.assertion}
use Rattle.machine.specs.Kinds.{header_used, header_zeros, used}
use Rattle.machine.specs.Words.{word_at, code_of, row_in, rows_pass, header_passes, code_clean, code_passes}

-- Eight rows with a row before all others, or as the last one.
abbrev first : ℕ → Row → List ℕ
first g r = code_of (record { groups = g; rows = r ∷ (replicate 6 begin ++ (accept ∷ [])) })

abbrev last : Row → List ℕ
last r = code_of (record { groups = 2; rows = replicate 7 begin ++ (r ∷ []) })

-- Code with another word in the place of one.
abbrev changed : ℕ → ℕ → List ℕ → List ℕ
changed i word code = take i code ++ (word ∷ drop (i + 1) code)

abbrev each : (List ℕ → Bool) → List (List ℕ) → Bool
each test [] = true
each test (code ∷ more) = test code && each test more

-- These pass. Words behind the rows are not read.
abbrev passed : List (List ℕ)
passed =
    last accept ∷ last (jump 0) ∷ last (fork 0 0) ∷ last (end 0)
    ∷ first 2 (jump 7) ∷ first 2 (fork 7 7) ∷ first 2 (end 7)
    ∷ first 2 (opens 2) ∷ first 2 (closes 2) ∷ first 0 (opens 0) ∷ first 31 (opens 31)
    ∷ first 2 (reset 1 0) ∷ first 2 (reset 1 1) ∷ first 2 (reset 1 2) ∷ first 2 (reset 2 2) ∷ first 0 (reset 1 0)
    ∷ first 2 (assertion 0) ∷ first 2 (assertion 3)
    ∷ first 2 (consume (replicate 8 0)) ∷ (first 2 begin ++ (999 ∷ []))
    ∷ []

-- These fail: the last row; targets; groups; a Reset's range; an assertion; kinds; 7 rows; 32 groups; too few words.
abbrev failed : List (List ℕ)
failed =
    last (consume (replicate 8 0)) ∷ last (opens 0) ∷ last (closes 0) ∷ last (reset 1 0) ∷ last begin ∷ last (assertion 0)
    ∷ first 2 (jump 8) ∷ first 2 (fork 8 7) ∷ first 2 (fork 7 8) ∷ first 2 (end 8)
    ∷ first 2 (opens 3) ∷ first 2 (closes 3) ∷ first 0 (opens 1)
    ∷ first 2 (reset 2 1) ∷ first 2 (reset 0 1) ∷ first 2 (reset 1 3) ∷ first 2 (reset 0 0)
    ∷ first 2 (reset 2 0) ∷ first 0 (reset 1 1)
    ∷ first 2 (assertion 4)
    ∷ changed 12 0 (first 2 begin) ∷ changed 12 11 (first 2 begin)
    ∷ code_of (record { groups = 2; rows = replicate 6 begin ++ (accept ∷ []) }) ∷ first 32 begin
    ∷ take 107 (first 2 begin) ∷ []
    ∷ []

passed_pass : each code_passes passed ≡ true
unfolding code_passes code_clean code_of rows_pass row_in
passed_pass = refl

failed_fail : each (λ code. not (code_passes code)) failed ≡ true
unfolding code_passes code_clean code_of rows_pass row_in
failed_fail = refl

-- A row of each kind passes, and fails with a 1 in any word that its kind does not use; so does the header row.
abbrev rows : List Row
rows =
    accept ∷ consume (replicate 8 0) ∷ jump 7 ∷ fork 7 7 ∷ opens 2 ∷ closes 2 ∷ reset 1 0 ∷ begin ∷ end 7 ∷ assertion 3 ∷ []

abbrev stray : Row → Bool
stray r = code_passes (first 2 r)
    && below row_words (λ i. used (word_at (first 2 r) row_words) i || not (code_passes (changed (row_words + i) 1 (first 2 r))))

abbrev each_row : List Row → Bool
each_row [] = true
each_row (r ∷ more) = stray r && each_row more

strays_fail : each_row rows ≡ true
unfolding code_passes code_clean code_of rows_pass row_in
strays_fail = refl

header_strays : below header_zeros (λ i. not (code_passes (changed (header_used + i) 1 (first 2 begin)))) ≡ true
unfolding code_passes code_clean code_of rows_pass row_in
header_strays = refl

-- The header row's limits.
header_limits : (header_passes 8 0 ≡ true) × (header_passes 7 0 ≡ false) × (header_passes 1024 31 ≡ true)
    × (header_passes 1025 31 ≡ false) × (header_passes 1024 32 ≡ false)
header_limits = (refl, refl, refl, refl, refl)
