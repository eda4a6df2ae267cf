-- What the intake program writes, as bytes. Definitions only.
use Rattle.std.specs.Prelude.{cond, List, [], ◌∷◌, ◌++◌, ℕ, zero, suc, ◌+◌, ◌/◌, ◌%◌, ltb, ℤ, pos, negsuc}
use Rattle.meaning.specs.Limits.{line_feed}
use Rattle.meaning.specs.Quoted.{bytes}

-- LF, which ends a line.
abbrev pub lf : List ℕ
lf = line_feed ∷ []

-- The ASCII digit of a number below ten.
abbrev pub digit : ℕ → List ℕ
digit n = (48 + n) ∷ []

-- The digits of a number: the last is its remainder by ten, those before it are of its tenth. Each turn takes one digit.
unfoldable pub digits : ℕ → ℕ → List ℕ
digits zero n = []
digits (suc turns) n = cond (ltb n 10) (digit n) (digits turns (n / 10) ++ digit (n % 10))

-- A number in decimal, without leading zeros; 0 is "0". There are fewer digits than n + 1, or one.
unfoldable pub decimal : ℕ → List ℕ
decimal n = digits (suc n) n

-- A signed number: a minus sign before a negative one.
unfoldable pub shown_number : ℤ → List ℕ
shown_number (pos n) = decimal n
shown_number (negsuc n) = bytes "-" ++ decimal (suc n)

-- Each number with a space before it.
unfoldable pub further : List ℤ → List ℕ
further [] = []
further (z ∷ l) = bytes " " ++ shown_number z ++ further l

-- Numbers separated by single spaces.
unfoldable pub spaced : List ℤ → List ℕ
spaced [] = []
spaced (z ∷ l) = shown_number z ++ further l

-- The line for a match: its starts and ends.
unfoldable pub spans_line : List ℤ → List ℕ
spans_line l = spaced l ++ lf

-- A line of two numbers, each after a text.
abbrev pub two_numbers : List ℕ → ℕ → List ℕ → ℕ → List ℕ
two_numbers first m second n = first ++ decimal m ++ second ++ decimal n ++ lf

-- The first line: how many rows and groups the pattern has.
unfoldable pub header_line : ℕ → ℕ → List ℕ
header_line rows groups = two_numbers (bytes "rows ") rows (bytes " groups ") groups

-- The line for a pattern that was refused: the number and the place.
unfoldable pub refused_at : ℕ → ℕ → List ℕ
refused_at number place = two_numbers (bytes "refused ") number (bytes " at ") place

-- The line for a run that was refused.
unfoldable pub refused_run : ℕ → List ℕ
refused_run number = bytes "refused " ++ decimal number ++ lf

-- The line for a text that the pattern does not match.
unfoldable pub none_line : List ℕ
none_line = bytes "none" ++ lf
