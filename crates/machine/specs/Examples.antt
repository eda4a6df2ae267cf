-- The outline's own examples of rows and counts, computed.
use Rattle.std.specs.Prelude.{◌≡◌, refl, true, false, [], ◌∷◌, ℕ, eqb, length}
use Rattle.std.proofs.Math.Option.{none, some}
use Rattle.sets.specs.Sets.{bit, has, word_of, set_of}
use Rattle.meaning.specs.Text.{unset, fits, opened, closed, cleared, wiped}
use Rattle.meaning.specs.Bytes.{text_of}
use Rattle.meaning.specs.Node.{Node, Node.empty, Node.bset, Node.seq, Node.many, lo, hi}
use Rattle.machine.specs.Rows.{Row.accept, Row.consume, Row.fork, Row.opens, Row.closes, Row.reset, Row.begin, Row.end}
use Rattle.machine.specs.Rows.{row_count}
use Rattle.machine.specs.Steps.{best, count, seen, move_of, begun, first_thread, steps, run, match_row, search_row}
use Rattle.machine.specs.Inner.{open_at, inner_below, inner_rows, counting, inner, fixed}
use Rattle.machine.specs.Layout.{past, rows_of, size_of, any_byte, program_of}

-- The byte `a`, and `a*`.
abbrev pub letter_a : Node
letter_a = bset (set_of (λ b. eqb b 97))

abbrev star : Node
star = many 0 none false letter_a

-- `a*` gives 13 rows, whole.
star_rows : (program_of 0 star).rows
    ≡ fork 5 1 ∷ begin ∷ reset 1 0 ∷ consume any_byte ∷ end 0 ∷ opens 0
    ∷ fork 7 11 ∷ begin ∷ reset 1 0 ∷ consume (set_of (λ b. eqb b 97)) ∷ end 6 ∷ closes 0 ∷ accept ∷ []
unfolding rows_of past lo hi
star_rows = refl

-- `a{508}` is 1,024 rows, and `a{2,4}` is 22: eight more than the size.
sized : (size_of (many 508 (some 0) false letter_a) ≡ 1016) × (size_of (many 2 (some 2) false letter_a) ≡ 14)
unfolding size_of
sized = (refl, refl)

-- Empty pattern and text: 0,0; 3 rows executed matched, 4 searched.
empty_matched : (best (run (text_of []) (program_of 0 empty) 0 match_row) ≡ some (some 0 ∷ some 0 ∷ []))
    × (count (run (text_of []) (program_of 0 empty) 0 match_row) ≡ 3) ×
    (count (run (text_of []) (program_of 0 empty) 0 search_row) ≡ 4)
unfolding run steps rows_of unset fits opened closed cleared wiped
empty_matched = (refl, refl, refl)

-- `a` searched in "b": none, 13.
a_in_b : (best (run (text_of (98 ∷ [])) (program_of 0 letter_a) 0 search_row) ≡ none) ×
    (count (run (text_of (98 ∷ [])) (program_of 0 letter_a) 0 search_row) ≡ 13)
unfolding run steps rows_of unset fits opened closed cleared wiped any_byte set_of word_of has bit
a_in_b = (refl, refl)

-- Where a loop stands in a loop a row may run twice at a position: `(?:a*b*)*c` has 23 rows, 12 of them inner, and searched in
-- "a" it executes 25 rows at position 1. `(?:a*){0}b` writes no Begin, and has no inner row.
abbrev letter : ℕ → Node
letter c = bset (set_of (λ b. eqb b c))

abbrev loops : Node
loops = seq (many 0 none false (seq star (many 0 none false (letter 98)))) (letter 99)

abbrev never : Node
never = seq (many 0 (some 0) false star) (letter 98)

not_once : (row_count (program_of 0 loops) ≡ 23) × (inner_rows (program_of 0 loops) ≡ 12)
    × (length (seen (steps (move_of (text_of (97 ∷ [])) (program_of 0 loops).rows) 47
    (begun 0 (first_thread (program_of 0 loops) search_row ∷ [])))) ≡ 25)
unfolding steps rows_of past lo hi unset fits opened closed cleared wiped any_byte set_of word_of has bit inner_below open_at
not_once = (refl, refl, refl)

straight : (inner loops ≡ 12) × (inner never ≡ 0) × (fixed never ≡ true) × (fixed (many 3 (some 0) false letter_a) ≡ true)
    × (fixed (many 0 (some 1) false letter_a) ≡ false) × (fixed loops ≡ false)
unfolding counting size_of fixed
straight = (refl, refl, refl, refl, refl, refl)
