-- Worked readings, computed: the outline's lines on patterns, each escape and class corner, and both sides of each limit.
use Rattle.std.specs.Prelude.{◌≡◌, refl, Bool, true, ◌&&◌, List, [], ◌∷◌, ℕ, eqb, length, replicate}
use Prim.Native.String.{String}
use Rattle.sets.specs.Sets.{is_digit, is_word, is_space, is_dot}
use Rattle.meaning.specs.Quoted.{bytes}
use Rattle.meaning.specs.Flat.{parts}
use Rattle.meaning.specs.Limits.{table_words}
use Rattle.reading_atoms.specs.Escapes.{escape_at}
use Rattle.reading_atoms.specs.Classes.{class_atom, class_go, class_at}
use Rattle.reading_atoms.specs.Braces.{number_go, number_at, braces_at, quantifier_at}
use Rattle.reading_items.specs.Reading.{Reading, Reading.pattern, Reading.refused, opening_at, item_by, item_at}
use Rattle.reading_items.specs.Reading.{sequence_go, alternatives_go, reading}

-- A pattern and what its reading says: a refusal's number and place, or a number of groups.
data Line : Type 0 where
  bad : String → ℕ → ℕ → Line
  fine : String → ℕ → Line

-- Whether a reading says so.
abbrev says : Reading → ℕ → ℕ → Bool
says (pattern r g) number place = eqb number 0 && eqb g place
says (refused n p) number place = eqb number n && eqb place p

abbrev read_with_room : List ℕ → Reading
read_with_room s = reading s (table_words (length s))

abbrev holds : Line → Bool
holds (bad s number place) = says (read_with_room (bytes s)) number place
holds (fine s groups) = says (read_with_room (bytes s)) 0 groups

abbrev all : List Line → Bool
all [] = true
all (l ∷ ls) = holds l && all ls

-- Readings that are refused: a pattern, the number, the place.
abbrev refusals : List Line
refusals =
    bad "a**" 6 2
    ∷ bad "a{2000,1}" 8 1
    ∷ bad "\\q" 4 0
    ∷ bad "a\\" 4 1
    ∷ bad "\\c1" 4 0
    ∷ bad "\\c" 4 0
    ∷ bad "\\x1" 4 0
    ∷ bad "\\xg0" 4 0
    ∷ bad "\\00" 4 0
    ∷ bad "\\_" 4 0
    ∷ bad "\\e" 4 0
    ∷ bad "[\\B]" 4 1
    ∷ bad "[\\1]" 4 1
    ∷ bad "[\\9]" 4 1
    ∷ bad "[\\k]" 4 1
    ∷ bad "[\\c_]" 4 1
    ∷ bad "[\\x4]" 4 1
    ∷ bad "[\\01]" 4 1
    ∷ bad "[a\\" 4 2
    ∷ bad "\\1" 5 0
    ∷ bad "a\\9" 5 1
    ∷ bad "\\k" 5 0
    ∷ bad "\\u0041" 5 0
    ∷ bad "[\\u]" 5 1
    ∷ bad "(?=a)" 5 0
    ∷ bad "a(?!b)" 5 1
    ∷ bad "(?<n>a)" 5 0
    ∷ bad "*" 6 0
    ∷ bad "+a" 6 0
    ∷ bad "?" 6 0
    ∷ bad "{1}" 6 0
    ∷ bad "a|*" 6 2
    ∷ bad "(*)" 6 1
    ∷ bad "({1})" 6 1
    ∷ bad "|{" 6 1
    ∷ bad "^*" 6 1
    ∷ bad "^{2}" 6 1
    ∷ bad "$+" 6 1
    ∷ bad "\\b?" 6 2
    ∷ bad "\\B*" 6 2
    ∷ bad "a*{1}" 6 2
    ∷ bad "a+*" 6 2
    ∷ bad "a???" 6 3
    ∷ bad "a{1}{1}" 6 4
    ∷ bad "(?" 6 1
    ∷ bad "(?a)" 6 1
    ∷ bad "(?)" 6 1
    ∷ bad "a{" 7 1
    ∷ bad "a{}" 7 1
    ∷ bad "a{,1}" 7 1
    ∷ bad "a{1" 7 1
    ∷ bad "a{1001" 7 1
    ∷ bad "a{1," 7 1
    ∷ bad "a{1,2" 7 1
    ∷ bad "a{ 1}" 7 1
    ∷ bad "a{1x}" 7 1
    ∷ bad "a{1,x}" 7 1
    ∷ bad "a{1001}" 8 1
    ∷ bad "a{1001,}" 8 1
    ∷ bad "a{0,1001}" 8 1
    ∷ bad "a{99999999999999999999}" 8 1
    ∷ bad "a{00000000000000000002000}" 8 1
    ∷ bad "a{2,1}" 9 1
    ∷ bad "ab{1000,999}" 9 2
    ∷ bad "[z-a]" 10 1
    ∷ bad "[z-a" 10 1
    ∷ bad "x[b-a]" 10 2
    ∷ bad "[\\d-a]" 10 1
    ∷ bad "[a-\\d]" 10 1
    ∷ bad "[\\d-\\w]" 10 1
    ∷ bad "[a--]" 10 1
    ∷ bad "[ab--c]" 10 2
    ∷ bad "[\\d-\\q]" 4 4
    ∷ bad "[" 10 1
    ∷ bad "[^" 10 2
    ∷ bad "[a" 10 2
    ∷ bad "[a-" 10 3
    ∷ bad "([" 10 2
    ∷ bad ")" 11 0
    ∷ bad "a)" 11 1
    ∷ bad "(a" 11 2
    ∷ bad "((a)" 11 4
    ∷ bad "(" 11 1
    ∷ bad "(?:a" 11 4
    ∷ bad "a(b|" 11 4
    ∷ bad "]" 12 0
    ∷ bad "a}" 12 1
    ∷ bad "}" 12 0
    ∷ bad "(])" 12 1
    ∷ bad "(?:(?:(?:(?:(?:(?:(?:(?:(?:(?:(?:(?:(?:(?:(?:(?:(?:(?:(?:(?:(?:(?:(?:(?:(?:(?:(?:(?:(?:(?:(?:(?:(?:" 13 96
    ∷ bad "(?:(?:(?:(?:(?:(?:(?:(?:(?:(?:(?:(?:(?:(?:(?:(?:(?:(?:(?:(?:(?:(?:(?:(?:(?:(?:(?:(?:(?:(?:(?:(?:(" 13 96
    ∷ bad "(?:(?:(?:(?:(?:(?:(?:(?:(?:(?:(?:(?:(?:(?:(?:(?:(?:(?:(?:(?:(?:(?:(?:(?:(?:(?:(?:(?:(?:(?:(?:(?:(?=" 5 96
    ∷ bad "()()()()()()()()()()()()()()()()()()()()()()()()()()()()()()()()" 14 62
    ∷ []

-- Readings that succeed: a pattern and its number of groups.
abbrev readings : List Line
readings =
    fine "" 0
    ∷ fine "a" 0
    ∷ fine "|" 0
    ∷ fine "()" 1
    ∷ fine "(?:)" 0
    ∷ fine "(a)(b)" 2
    ∷ fine "((a)b(c))" 3
    ∷ fine "(?:^)*" 0
    ∷ fine "(?:a*)*" 0
    ∷ fine "^$\\b\\B" 0
    ∷ fine "a{00000000000000000000001}" 0
    ∷ fine "a{1000}" 0
    ∷ fine "a{0,1000}" 0
    ∷ fine "a{1000,}" 0
    ∷ fine "a{0}" 0
    ∷ fine "a{2}?" 0
    ∷ fine "a*?b+?c??" 0
    ∷ fine "a{1,2}?" 0
    ∷ fine "[]" 0
    ∷ fine "[^]" 0
    ∷ fine "[\\b]" 0
    ∷ fine "[--a]" 0
    ∷ fine "[-a]" 0
    ∷ fine "[a-]" 0
    ∷ fine "[\\d-]" 0
    ∷ fine "[--]" 0
    ∷ fine "[+--]" 0
    ∷ fine "[a-z-9]" 0
    ∷ fine "[a-z--9]" 0
    ∷ fine "[(?:*+{}|$.^]" 0
    ∷ fine "[\\]\\-]" 0
    ∷ fine "[\\cA\\x41\\0]" 0
    ∷ fine "\\0a" 0
    ∷ fine "\\cj\\cJ\\x7F\\f\\n\\r\\t\\v\\.\\-\\/" 0
    ∷ fine "\\d\\D\\w\\W\\s\\S" 0
    ∷ fine "-,:=!<>\"'~" 0
    ∷ fine "()()()()()()()()()()()()()()()()()()()()()()()()()()()()()()()" 31
    ∷ fine "((((((((((((((((?:(?:(?:(?:(?:(?:(?:(?:(?:(?:(?:(?:(?:(?:(?:(?:(?:a))))))))))))))))))))))))))))))))" 15
    ∷ []

refusals_hold : all refusals ≡ true
unfolding reading alternatives_go sequence_go item_at item_by opening_at quantifier_at braces_at number_at number_go class_at
    class_go class_atom escape_at parts is_digit is_word is_space is_dot
refusals_hold = refl

readings_hold : all readings ≡ true
unfolding reading alternatives_go sequence_go item_at item_by opening_at quantifier_at braces_at number_at number_go class_at
    class_go class_atom escape_at parts is_digit is_word is_space is_dot
readings_hold = refl

-- The checks that come first, on both sides: 2,048 and 2,049 bytes, 32(p+1) words and one fewer, bytes up to 7F and above.
first_checks : (reading (replicate 2049 0x80) 0 ≡ refused 1 0) × (reading (replicate 2048 0x80) 65567 ≡ refused 2 0)
    × (reading (replicate 2048 0x80) 65568 ≡ refused 3 0) × (reading (bytes "ab") 95 ≡ refused 2 0)
    × (says (reading (bytes "ab") 96) 0 0 ≡ true) × (reading (0x61 ∷ 0x7F ∷ 0x80 ∷ []) 128 ≡ refused 3 2)
    × (reading (0xFF ∷ []) 64 ≡ refused 3 0) × (says (reading (0x7F ∷ []) 64) 0 0 ≡ true)
unfolding reading alternatives_go sequence_go item_at item_by opening_at quantifier_at parts
first_checks = (refl, refl, refl, refl, refl, refl, refl, refl)
