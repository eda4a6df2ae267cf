-- Repetitions computed: matches of patterns and of code that no compiler writes, and their counts.
use Rattle.std.specs.Prelude.{◌≡◌, refl, false, List, [], ◌∷◌, ℕ, eqb, length}
use Rattle.std.proofs.Math.Option.{Option, none, some}
use Rattle.sets.specs.Sets.{bit, has, word_of, set_of}
use Rattle.meaning.specs.Text.{Regs, unset, fits, holds_at, opened, closed, cleared, wiped}
use Rattle.meaning.specs.Bytes.{asserts, text_of}
use Rattle.meaning.specs.Node.{Node, Node.empty, Node.bset, Node.assert, Node.seq, Node.alt, Node.group, Node.many, lo, hi}
use Rattle.machine.specs.Rows.{Row.accept, Row.consume, Row.opens, Row.closes, Program}
use Rattle.machine.specs.Steps.{best, count, steps, run, search_row}
use Rattle.machine.specs.Layout.{past, rows_of, any_byte, program_of}
use Rattle.machine.specs.Examples.{letter_a}
use Rattle.machine.specs.Repetition.{next_start, starts_in, starts_from, repeated, sum}

-- What a program finds from a start, and its repetition from start 0: matches, and the sum of the counts.
abbrev finds : Program → List ℕ → ℕ → Option Regs
finds p text s = best (run (text_of text) p s search_row)

abbrev matches : Program → List ℕ → ℕ → List Regs
matches p text start = repeated (finds p text) (length text) start

abbrev executed : Program → List ℕ → ℕ → ℕ
executed p text start =
    sum (λ s. count (run (text_of text) p s search_row)) (starts_from (finds p text) (length text) start)

abbrev span : ℕ → ℕ → Regs
span from to = some from ∷ some to ∷ []

-- `a*` on "baaac": 0,0 1,4 4,4 5,5, with 53 rows.
star_repeated : (matches (program_of 0 (many 0 none false letter_a)) (98 ∷ 97 ∷ 97 ∷ 97 ∷ 99 ∷ []) 0
    ≡ span 0 0 ∷ span 1 4 ∷ span 4 4 ∷ span 5 5 ∷ [])
    × (executed (program_of 0 (many 0 none false letter_a)) (98 ∷ 97 ∷ 97 ∷ 97 ∷ 99 ∷ []) 0 ≡ 53)
unfolding run steps rows_of past lo hi unset fits opened closed cleared wiped any_byte set_of word_of has bit starts_in next_start
star_repeated = (refl, refl)

-- The empty pattern on "": 0,0, with 4. `a` on "b": none, with 13.
empty_repeated : (matches (program_of 0 empty) [] 0 ≡ span 0 0 ∷ []) × (executed (program_of 0 empty) [] 0 ≡ 4)
unfolding run steps rows_of unset fits opened closed cleared wiped starts_in next_start
empty_repeated = (refl, refl)

a_repeated : (matches (program_of 0 letter_a) (98 ∷ []) 0 ≡ []) × (executed (program_of 0 letter_a) (98 ∷ []) 0 ≡ 13)
unfolding run steps rows_of unset fits opened closed cleared wiped any_byte set_of word_of has bit starts_in next_start
a_repeated = (refl, refl)

-- `(a)|b` on "ab": 0,1,0,1 1,2,-1,-1, with 33.
abbrev either : Node
either = alt (group 1 letter_a) (bset (set_of (λ b. eqb b 98)))

either_repeated : (matches (program_of 1 either) (97 ∷ 98 ∷ []) 0
    ≡ (some 0 ∷ some 1 ∷ some 0 ∷ some 1 ∷ []) ∷ (some 1 ∷ some 2 ∷ none ∷ none ∷ []) ∷ [])
    × (executed (program_of 1 either) (97 ∷ 98 ∷ []) 0 ≡ 33)
unfolding run steps rows_of past unset fits opened closed cleared wiped any_byte set_of word_of has bit starts_in next_start
either_repeated = (refl, refl)

-- `^a` on "aaa": 0,1, with 29. `^` on "ab" from 1: none, with 13.
anchored : (matches (program_of 0 (seq (assert 0) letter_a)) (97 ∷ 97 ∷ 97 ∷ []) 0 ≡ span 0 1 ∷ [])
    × (executed (program_of 0 (seq (assert 0) letter_a)) (97 ∷ 97 ∷ 97 ∷ []) 0 ≡ 29)
    × (matches (program_of 0 (assert 0)) (97 ∷ 98 ∷ []) 1 ≡ []) × (executed (program_of 0 (assert 0)) (97 ∷ 98 ∷ []) 1 ≡ 13)
unfolding run steps rows_of unset fits holds_at asserts opened closed cleared wiped any_byte set_of word_of has bit starts_in next_start
anchored = (refl, refl, refl, refl)

-- Code on "abc". Accept first: -1,-1 four times, with 4.
abbrev accepting : Program
accepting = record { groups = 0; rows = accept ∷ [] }

accept_repeated : (matches accepting (97 ∷ 98 ∷ 99 ∷ []) 0
    ≡ (none ∷ none ∷ []) ∷ (none ∷ none ∷ []) ∷ (none ∷ none ∷ []) ∷ (none ∷ none ∷ []) ∷ [])
    × (executed accepting (97 ∷ 98 ∷ 99 ∷ []) 0 ≡ 4)
unfolding run steps unset starts_in next_start
accept_repeated = (refl, refl)

-- Consume all, Close 0, Open 0: 1,1 3,3, with 8. Close 0, Consume all, Open 0: 1,0 2,1 3,2, with 14.
abbrev behind_it : Program
behind_it = record { groups = 0; rows = consume any_byte ∷ closes 0 ∷ opens 0 ∷ accept ∷ [] }

abbrev backwards : Program
backwards = record { groups = 0; rows = closes 0 ∷ consume any_byte ∷ opens 0 ∷ accept ∷ [] }

made_repeated : (matches behind_it (97 ∷ 98 ∷ 99 ∷ []) 0 ≡ span 1 1 ∷ span 3 3 ∷ [])
    × (executed behind_it (97 ∷ 98 ∷ 99 ∷ []) 0 ≡ 8)
    × (matches backwards (97 ∷ 98 ∷ 99 ∷ []) 0 ≡ span 1 0 ∷ span 2 1 ∷ span 3 2 ∷ [])
    × (executed backwards (97 ∷ 98 ∷ 99 ∷ []) 0 ≡ 14)
unfolding run steps unset fits opened closed any_byte set_of word_of has bit starts_in next_start
made_repeated = (refl, refl, refl, refl)
