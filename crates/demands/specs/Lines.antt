-- The outline's lines marked (P): pattern, text and spans, as one table under a single claim, computed over `reading` and the
-- standard's algorithm, not over the machine.
use Rattle.std.specs.Prelude.{◌≡◌, refl, List, [], ◌∷◌, map, ℕ, ℤ, pos, negsuc, length}
use Prim.Native.String.{String}
use Rattle.sets.specs.Sets.{bit, has, word_of, set_of, is_digit, is_word, is_dot}
use Rattle.meaning.specs.Quoted.{bytes}
use Rattle.meaning.specs.Limits.{table_words}
use Rattle.meaning.specs.Text.{unset, fits, holds_at, opened, closed, cleared, wiped}
use Rattle.meaning.specs.Bytes.{asserts, text_of}
use Rattle.meaning.specs.Node.{lo, hi}
use Rattle.meaning.specs.Flat.{parts}
use Rattle.meaning.specs.Standard.{repeat_matcher, matcher, match_at, search_from}
use Rattle.machine.specs.Replies.{spans}
use Rattle.reading_atoms.specs.Escapes.{escape_at}
use Rattle.reading_atoms.specs.Classes.{class_atom, class_go, class_at}
use Rattle.reading_atoms.specs.Braces.{number_go, number_at, braces_at, quantifier_at}
use Rattle.reading_items.specs.Reading.{Reading, Reading.pattern, Reading.refused, opening_at, item_by, item_at}
use Rattle.reading_items.specs.Reading.{sequence_go, alternatives_go, reading}

-- A line: a pattern matched at the start of a text, or searched in it from 0, and the numbers that come out, group by group.
pub data Line : Type 0 where
  matched : String → String → List ℤ → Line
  searched : String → String → List ℤ → Line

-- What the standard's algorithm answers for the pattern that is read.
abbrev pub match_by : List ℕ → Reading → List ℤ
match_by text (pattern r g) = spans g (match_at (text_of text) g r 0)
match_by text (refused number place) = []

abbrev pub search_by : List ℕ → Reading → List ℤ
search_by text (pattern r g) = spans g (search_from (text_of text) g r 0)
search_by text (refused number place) = []

abbrev pub read_it : String → Reading
read_it p = reading (bytes p) (table_words (length (bytes p)))

abbrev pub answer : Line → List ℤ
answer (matched p text numbers) = match_by (bytes text) (read_it p)
answer (searched p text numbers) = search_by (bytes text) (read_it p)

abbrev pub expected : Line → List ℤ
expected (matched p text numbers) = numbers
expected (searched p text numbers) = numbers

-- The number -1, for a group that took no part.
abbrev pub minus1 : ℤ
minus1 = negsuc 0

abbrev pub lines : List Line
lines =
    matched "a|ab" "ab" (pos 0 ∷ pos 1 ∷ [])
    ∷ matched "(?:(a)|b)*" "ab" (pos 0 ∷ pos 2 ∷ minus1 ∷ minus1 ∷ [])
    ∷ matched "a(b*)c" "abbcd" (pos 0 ∷ pos 4 ∷ pos 1 ∷ pos 3 ∷ [])
    ∷ searched "(a*)b" "caabd" (pos 1 ∷ pos 4 ∷ pos 1 ∷ pos 3 ∷ [])
    ∷ matched "(a|a*)" "aa" (pos 0 ∷ pos 1 ∷ pos 0 ∷ pos 1 ∷ [])
    ∷ matched "(?:a?b??)*" "ab" (pos 0 ∷ pos 2 ∷ [])
    ∷ matched "(a*)*" "b" (pos 0 ∷ pos 0 ∷ minus1 ∷ minus1 ∷ [])
    ∷ matched "(a*)+" "b" (pos 0 ∷ pos 0 ∷ pos 0 ∷ pos 0 ∷ [])
    ∷ matched "(a*)?" "b" (pos 0 ∷ pos 0 ∷ minus1 ∷ minus1 ∷ [])
    ∷ matched "(?:a*)*?(ab|b)" "aab" (pos 0 ∷ pos 3 ∷ pos 2 ∷ pos 3 ∷ [])
    ∷ matched "a*?(ab|b)" "aab" (pos 0 ∷ pos 3 ∷ pos 1 ∷ pos 3 ∷ [])
    ∷ []

-- Every line comes out as the outline says.
pub lines_hold : map answer lines ≡ map expected lines
unfolding reading alternatives_go sequence_go item_at item_by opening_at quantifier_at braces_at number_at number_go class_at
    class_go class_atom escape_at parts is_digit is_word is_dot
    match_at search_from matcher repeat_matcher unset fits holds_at asserts opened closed cleared wiped lo hi has bit set_of word_of
lines_hold = refl
