-- The one spelling of a byte, a byte set, an assertion and a quantifier. Definitions only.
use Rattle.std.specs.Prelude.{Bool, true, false, cond, not, ◌||◌, ◌&&◌, List, [], ◌∷◌, ◌++◌, ℕ, zero, suc, ◌+◌, ◌-◌, ◌/◌, ◌%◌, eqb, leb, ltb, length, get_or}
use Rattle.sets.specs.Sets.{has, set_of, same_bytes, between, in_escape}
use Rattle.meaning.specs.Limits.{no_maximum}
use Rattle.meaning.specs.Quoted.{bytes}
use Rattle.intake_report.specs.Texts.{decimal}
use Rattle.reading_atoms.specs.Chars.{caret, backslash, dot, star, plus, question, open_bracket, close_bracket, open_brace, close_brace}
use Rattle.reading_atoms.specs.Chars.{comma, hyphen}
use Rattle.reading_atoms.specs.Classes.{added}
use Rattle.reading_items.specs.Reading.{literal_set, dot_set}
use Rattle.reading_grammar.specs.Grammar.{special}

-- The bytes that stand behind `\`: those that are no literals; in a class `\ ] ^ -`.
unfoldable pub guarded : Bool → ℕ → Bool
guarded inClass b =
    cond inClass (eqb b backslash || eqb b close_bracket || eqb b caret || eqb b hyphen) (special b)

-- \t \n \v \f \r, from 09 on.
abbrev pub control_letter : ℕ → ℕ
control_letter b = get_or (bytes "tnvfr") (b - 0x09) 0

-- A hex digit, with capitals.
abbrev pub hex_digit : ℕ → ℕ
hex_digit n = cond (ltb n 10) (0x30 + n) (0x37 + n)

-- A byte: \t \n \v \f \r; 20 to 7E plain, behind `\` if it must be; else `\x` and two hex digits.
unfoldable pub byte_text : Bool → ℕ → List ℕ
byte_text inClass b =
    cond (between 0x09 0x0D b) (backslash ∷ control_letter b ∷ [])
    (cond (between 0x20 0x7E b) (cond (guarded inClass b) (backslash ∷ b ∷ []) (b ∷ []))
    (backslash ∷ 0x78 ∷ hex_digit (b / 16) ∷ hex_digit (b % 16) ∷ []))

-- The run of bytes from `first` to before `end`: one or two are themselves, more are a range.
unfoldable pub run_text : ℕ → ℕ → List ℕ
run_text first end =
    cond (leb end first) []
    (cond (eqb end (first + 1)) (byte_text true first)
    (cond (eqb end (first + 2)) (byte_text true first ++ byte_text true (first + 1))
    (byte_text true first ++ hyphen ∷ byte_text true (end - 1))))

-- The runs of the bytes below n that pass a test, in rising order, where the last of them reaches up to before `end`.
unfoldable pub runs_text : (ℕ → Bool) → ℕ → ℕ → List ℕ
runs_text test zero end = run_text zero end
runs_text test (suc n) end = cond (test n) (runs_text test n end) (runs_text test n n ++ run_text (suc n) end)

-- A set holds all that a set escape takes, by its number.
abbrev pub contains : List ℕ → ℕ → Bool
contains set k = same_bytes (added set (in_escape k)) set

-- A set without what a set escape takes; number 6 takes nothing.
abbrev pub lacking : List ℕ → ℕ → List ℕ
lacking set k = set_of (λ x. has set x && not (in_escape k x))

-- The set escapes by their number: \d \D \w \W \s \S; nothing for 6.
abbrev pub escape_letter : ℕ → ℕ
escape_letter k = get_or (bytes "dDwWsS") k 0

abbrev pub escape_text : ℕ → List ℕ
escape_text k = cond (ltb k 6) (backslash ∷ escape_letter k ∷ []) []

-- What is named of a set: `\w`, else `\d`, where it is contained; and `\s`.
abbrev pub words_in : List ℕ → ℕ
words_in set = cond (contains set 2) 2 (cond (contains set 0) 0 6)

abbrev pub spaces_in : List ℕ → ℕ
spaces_in set = cond (contains set 4) 4 6

-- The runs of a set.
abbrev pub runs_of : List ℕ → List ℕ
runs_of set = runs_text (has set) 256 256

-- What stands in a class for a set: names, and then the runs of the rest; or the runs of all of it.
abbrev pub named_text : List ℕ → ℕ → ℕ → List ℕ
named_text set words spaces = escape_text words ++ escape_text spaces ++ runs_of (lacking (lacking set words) spaces)

abbrev pub inside_text : Bool → List ℕ → List ℕ
inside_text named set = cond named (named_text set (words_in set) (spaces_in set)) (named_text set 6 6)

-- A class that lists a set, or one that lists what it lacks.
abbrev pub class_text : Bool → Bool → List ℕ → List ℕ
class_text negated named set = (open_bracket ∷ cond negated (caret ∷ []) []) ++ inside_text named set ++ close_bracket ∷ []

-- The shorter of two texts, the first on ties.
abbrev pub shorter : List ℕ → List ℕ → List ℕ
shorter x y = cond (ltb (length y) (length x)) y x

-- The bytes that are not in a set.
abbrev pub others : List ℕ → List ℕ
others set = set_of (λ x. not (has set x))

-- The shortest, the first on ties, of `[R]`, `[^R']`, `[N]` and `[^N']`.
abbrev pub either_text : Bool → List ℕ → List ℕ
either_text named set = shorter (class_text false named set) (class_text true named (others set))

unfoldable pub best_text : List ℕ → List ℕ
best_text set = shorter (either_text false set) (either_text true set)

-- The number of the set escape that takes just these bytes, of `turns` numbers from k on; the number behind them if none does.
unfoldable pub escape_of : List ℕ → ℕ → ℕ → ℕ
escape_of set zero k = k
escape_of set (suc turns) k = cond (same_bytes set (set_of (in_escape k))) k (escape_of set turns (suc k))

-- The lowest byte below n that passes a test; `other` if there is none.
unfoldable pub lowest : (ℕ → Bool) → ℕ → ℕ → ℕ
lowest test zero other = other
lowest test (suc n) other = lowest test n (cond (test n) n other)

-- A byte set: the dot, a set escape, one byte, or a class.
unfoldable pub plain_text : List ℕ → List ℕ
plain_text set =
    let first : ℕ = lowest (has set) 256 256 in
    cond (ltb first 256 && same_bytes set (literal_set first)) (byte_text false first) (best_text set)

unfoldable pub set_text : List ℕ → List ℕ
set_text set =
    cond (same_bytes set dot_set) (dot ∷ [])
    (cond (ltb (escape_of set 6 0) 6) (escape_text (escape_of set 6 0)) (plain_text set))

-- The assertions `^` `$` `\b` `\B` by their number.
unfoldable pub assertion_text : ℕ → List ℕ
assertion_text a = get_or (bytes "^" ∷ bytes "$" ∷ bytes "\\b" ∷ bytes "\\B" ∷ []) a []

-- Counts in braces, with 1,001 for no maximum: {n} where both are the same, {n,} and {n,m}.
abbrev pub most_text : ℕ → ℕ → List ℕ
most_text least most = cond (eqb most least) [] (cond (eqb most no_maximum) (comma ∷ []) (comma ∷ decimal most))

abbrev pub braces_text : ℕ → ℕ → List ℕ
braces_text least most = open_brace ∷ decimal least ++ most_text least most ++ close_brace ∷ []

-- Counts: * + ? where they say it.
unfoldable pub counts_text : ℕ → ℕ → List ℕ
counts_text least most =
    cond (eqb least 0 && eqb most no_maximum) (star ∷ [])
    (cond (eqb least 1 && eqb most no_maximum) (plus ∷ [])
    (cond (eqb least 0 && eqb most 1) (question ∷ []) (braces_text least most)))

-- A quantifier: its counts, and then `?` if it is lazy.
unfoldable pub quantifier_text : ℕ → ℕ → Bool → List ℕ
quantifier_text least most lazy = counts_text least most ++ cond lazy (question ∷ []) []
