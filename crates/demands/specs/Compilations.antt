-- Rows and refusals 15 and 16 on both sides of their limits, of the pattern as it is and tidied; `a*` as code; and the table of a
-- tidied pattern: computed.
use Rattle.std.specs.Prelude.{◌≡◌, refl, List, [], ◌∷◌, ◌++◌, ℕ, length, replicate}
use Prim.Native.String.{String}
use Rattle.sets.specs.Sets.{set_of, word_of, is_digit}
use Rattle.meaning.specs.Quoted.{bytes}
use Rattle.meaning.specs.Limits.{table_words, code_size}
use Rattle.meaning.specs.Node.{lo, hi}
use Rattle.meaning.specs.Flat.{parts}
use Rattle.machine.specs.Layout.{size_of, rows_of, past, any_byte}
use Rattle.machine.specs.Words.{code_of}
use Rattle.table.specs.Table.{records_in, own_record, words_in}
use Rattle.tidying_laws.specs.Vectors.{computed}
use Rattle.reading_atoms.specs.Braces.{number_go, number_at, braces_at, quantifier_at}
use Rattle.reading_items.specs.Reading.{Reading, opening_at, item_by, item_at, sequence_go, alternatives_go, reading}
use Rattle.compiler.specs.Compiling.{plain, tidied, answer_by, table_left, code_left}
use Rattle.compiler.specs.Compiling.{Compilation}
use Rattle.compiler.specs.Compiling.{Compilation.Rows, Compilation.Refused}

-- What a pattern is read as, with a table that is large enough; what is answered with so many words of code; and with those
-- of the outline's program, which 96 rows need, about the pattern as it is and about the tidied one.
abbrev read_of : String → Reading
read_of s = reading (bytes s) (table_words (length (bytes s)))

abbrev answered : String → ℕ → Compilation
answered s words = answer_by plain (read_of s) words

abbrev either : String → Compilation × Compilation
either s = (answered s code_size, answer_by tidied (read_of s) code_size)

-- 1,024 rows need 12,300 words; one word fewer is 16, and one row more is 15 whatever the words.
at_the_limits : (answered "a{508}" 12300 ≡ Rows 1024 0) × (answered "a{508}" 12299 ≡ Refused 16 0)
    × (answered "a{509}" 100000 ≡ Refused 15 0) × (answered "a{509}" 0 ≡ Refused 15 0)
unfolding reading alternatives_go sequence_go item_at item_by opening_at quantifier_at braces_at number_at number_go parts
    is_digit size_of
at_the_limits = (refl, refl, refl, refl)

-- Counts in counts do not wrap, and what is repeated no times has no rows, but its groups.
nested : (answered "a{2,4}" 276 ≡ Rows 22 0) × (answered "(?:(?:a{1000}){1000}){1000}" 100000 ≡ Refused 15 0)
    × (answered "(?:(?:a{1000}){1000}){0}" 108 ≡ Rows 8 0) × (answered "(?:(a){1000}){0}" 108 ≡ Rows 8 1)
unfolding reading alternatives_go sequence_go item_at item_by opening_at quantifier_at braces_at number_at number_go parts
    is_digit size_of
nested = (refl, refl, refl, refl)

-- A row without a byte set, and a Consume.
abbrev row : ℕ → ℕ → ℕ → List ℕ
row kind a b = kind ∷ a ∷ b ∷ 0 ∷ 0 ∷ 0 ∷ 0 ∷ 0 ∷ 0 ∷ 0 ∷ 0 ∷ 0 ∷ []

abbrev consuming : List ℕ → List ℕ
consuming set = 2 ∷ 0 ∷ 0 ∷ 0 ∷ set

-- `a*` as code, whole, with two words behind it that stay.
star_code : code_left plain (read_of "a*") (replicate 170 7)
    ≡ row 13 0 0 ++ row 4 5 1 ++ row 8 0 0 ++ row 7 1 0 ++ consuming (replicate 8 4294967295) ++ row 9 0 0 ++ row 5 0 0
    ++ row 4 7 11 ++ row 8 0 0 ++ row 7 1 0 ++ consuming (0 ∷ 0 ∷ 0 ∷ 2 ∷ 0 ∷ 0 ∷ 0 ∷ 0 ∷ []) ++ row 9 6 0 ++ row 6 0 0
    ++ row 1 0 0 ++ 7 ∷ 7 ∷ []
unfolding reading alternatives_go sequence_go item_at item_by opening_at quantifier_at parts size_of rows_of past lo hi
    code_of any_byte set_of word_of
star_code = refl

-- `a{1}?` is `a`, `(?:a?)??` stays, and `a|abc|d` is `a(?:|bc)|d`, which takes two records more and a row less. `(?:a*)+` is
-- `a*`, and `(?:a*)+?` stays.
either_way : (either "a{1}?" ≡ (Rows 10 0, Rows 9 0)) × (either "(?:a?)??" ≡ (Rows 17 0, Rows 17 0))
    × (either "a|abc|d" ≡ (Rows 17 0, Rows 16 0)) × (either "(?:a*)+" ≡ (Rows 23 0, Rows 13 0))
    × (either "(?:a*)+?" ≡ (Rows 23 0, Rows 23 0))
unfolding reading alternatives_go sequence_go item_at item_by opening_at quantifier_at braces_at number_at number_go parts is_digit size_of
    computed set_of word_of
either_way = (refl, refl, refl, refl, refl)

-- 16 is by the tidied rows: 108 need more words than there are, and 8 do not. 15 is by the plain ones: 2,008, and not 8.
limits : (either "(?:){100}" ≡ (Refused 16 0, Rows 8 0)) × (either "(?:){1000}(?:){1000}" ≡ (Refused 15 0, Refused 15 0))
unfolding reading alternatives_go sequence_go item_at item_by opening_at quantifier_at braces_at number_at number_go parts is_digit size_of
    computed
limits = (refl, refl)

-- The table of `a{1}?` holds the one record of `a`, and its code is that of `a`.
abbrev set : List ℕ
set = 0 ∷ 0 ∷ 0 ∷ 2 ∷ 0 ∷ 0 ∷ 0 ∷ 0 ∷ []

one_record : table_left tidied (read_of "a{1}?") code_size (replicate 192 7)
    ≡ 2 ∷ 0 ∷ 1 ∷ 0 ∷ 1 ∷ 1 ∷ 0 ∷ 0 ∷ (set ++ replicate 176 0)
unfolding reading alternatives_go sequence_go item_at item_by opening_at quantifier_at braces_at number_at number_go parts is_digit size_of
    computed set_of word_of records_in own_record words_in lo hi
one_record = refl

same_code : code_left tidied (read_of "a{1}?") (replicate 130 7) ≡ code_left plain (read_of "a") (replicate 130 7)
unfolding reading alternatives_go sequence_go item_at item_by opening_at quantifier_at braces_at number_at number_go parts is_digit size_of
    computed set_of word_of
same_code = refl
