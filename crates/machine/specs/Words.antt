-- Code as words: the header row and rows of 12 words, what they say, and the check that stands before every run. Definitions
-- only.
use Rattle.std.specs.Prelude.{Bool, true, false, ◌||◌, ◌&&◌, List, [], ◌∷◌, ◌++◌, ℕ, zero, suc, ◌+◌, ◌*◌, ◌-◌, eqb, leb, ltb, length, get_or, take, drop, replicate}
use Rattle.sets.specs.Sets.{below, between}
use Rattle.meaning.specs.Results.{concat_map}
use Rattle.meaning.specs.Limits.{group_limit, row_limit, least_rows, row_words, set_words, code_words, last_assertion}
use Rattle.machine.specs.Kinds.{rows_word, groups_word, header_used, header_zeros, first_word, second_word, set_word, listed, used}
use Rattle.machine.specs.Kinds.{accept_kind, consume_kind, jump_kind, fork_kind, open_kind, close_kind, reset_kind, begin_kind}
use Rattle.machine.specs.Kinds.{end_kind, assert_kind}
use Rattle.machine.specs.Rows.{Row, Row.accept, Row.consume, Row.jump, Row.fork, Row.opens, Row.closes, Row.reset}
use Rattle.machine.specs.Rows.{Row.begin, Row.end, Row.assertion}
use Rattle.machine.specs.Rows.{Program, row_count, row_at}

-- The word at an address.
abbrev pub word_at : List ℕ → ℕ → ℕ
word_at code i = get_or code i 0

-- The header row's n and g.
abbrev pub rows_said : List ℕ → ℕ
rows_said code = word_at code rows_word

abbrev pub groups_said : List ℕ → ℕ
groups_said code = word_at code groups_word

-- Where row q begins: behind the header row and q rows.
abbrev pub row_start : ℕ → ℕ
row_start q = row_words * (q + 1)

-- A row from its kind, its two operands and its byte set. A kind that is not listed never passes the check.
abbrev pub decode_row : ℕ → ℕ → ℕ → List ℕ → Row
decode_row kind a b s =
    get_or (accept ∷ accept ∷ consume s ∷ jump a ∷ fork a b ∷ opens a ∷ closes a ∷ reset a b ∷ begin ∷ end a ∷ assertion a
    ∷ []) kind accept

-- Row q of code: kind, two operands, zero, byte set.
unfoldable pub row_in : List ℕ → ℕ → Row
row_in code q =
    decode_row (word_at code (row_start q)) (word_at code (row_start q + first_word)) (word_at code (row_start q + second_word))
    (take set_words (drop (row_start q + set_word) code))

-- n rows of code from row q on.
abbrev pub rows_in : List ℕ → ℕ → ℕ → List Row
rows_in code zero q = []
rows_in code (suc n) q = row_in code q ∷ rows_in code n (suc q)

-- What code says.
abbrev pub decode : List ℕ → Program
decode code = record { groups = groups_said code; rows = rows_in code (rows_said code) 0 }

-- A row as words: operands and set words that its kind doesn't use are zero.
abbrev pub plain_words : ℕ → ℕ → ℕ → List ℕ
plain_words kind a b = kind ∷ a ∷ b ∷ 0 ∷ replicate set_words 0

abbrev pub words_of : Row → List ℕ
words_of accept = plain_words accept_kind 0 0
words_of (consume s) = consume_kind ∷ 0 ∷ 0 ∷ 0 ∷ s
words_of (jump t) = plain_words jump_kind t 0
words_of (fork t u) = plain_words fork_kind t u
words_of (opens k) = plain_words open_kind k 0
words_of (closes k) = plain_words close_kind k 0
words_of (reset l h) = plain_words reset_kind l h
words_of begin = plain_words begin_kind 0 0
words_of (end t) = plain_words end_kind t 0
words_of (assertion a) = plain_words assert_kind a 0

-- A program as code: the header row n, g and ten zeros, and its rows.
unfoldable pub code_of : Program → List ℕ
code_of p = row_count p ∷ p.groups ∷ (replicate header_zeros 0 ++ concat_map words_of p.rows)

-- What the check asks of a row of a program of n rows and g groups: targets below n; groups at most g; a Reset has
-- 1 ≤ lowest ≤ highest ≤ g or is 1, 0; Assert operands 0 to 3.
abbrev pub row_passes : ℕ → ℕ → Row → Bool
row_passes n g accept = true
row_passes n g (consume s) = true
row_passes n g (jump t) = ltb t n
row_passes n g (fork t u) = ltb t n && ltb u n
row_passes n g (opens k) = leb k g
row_passes n g (closes k) = leb k g
row_passes n g (reset l h) = (leb 1 l && leb l h && leb h g) || (eqb l 1 && eqb h 0)
row_passes n g begin = true
row_passes n g (end t) = ltb t n
row_passes n g (assertion a) = leb a last_assertion

-- What it asks of the last row: Accept, Jump, Fork or End.
abbrev pub may_be_last : Row → Bool
may_be_last accept = true
may_be_last (consume s) = false
may_be_last (jump t) = true
may_be_last (fork t u) = true
may_be_last (opens k) = false
may_be_last (closes k) = false
may_be_last (reset l h) = false
may_be_last begin = false
may_be_last (end t) = true
may_be_last (assertion a) = false

-- What it asks of all rows: each passes, and the last may be last.
abbrev pub each_passes : Program → Bool
each_passes p = below (row_count p) (λ q. row_passes (row_count p) p.groups (row_at p.rows q))

abbrev pub last_passes : Program → Bool
last_passes p = may_be_last (row_at p.rows (row_count p - 1))

unfoldable pub rows_pass : Program → Bool
rows_pass p = each_passes p && last_passes p

-- What it asks of the numbers in the header row: n is 8 to 1,024, g at most 31.
abbrev pub header_passes : ℕ → ℕ → Bool
header_passes n g = between least_rows row_limit n && leb g group_limit

-- What it asks of the words that the header row does not use, and of those that row q does not use: they are zero.
abbrev pub header_clean : List ℕ → Bool
header_clean code = below row_words (λ i. ltb i header_used || eqb (word_at code i) 0)

abbrev pub row_clean : List ℕ → ℕ → Bool
row_clean code q = below row_words (λ i. used (word_at code (row_start q)) i || eqb (word_at code (row_start q + i)) 0)

unfoldable pub code_clean : List ℕ → Bool
code_clean code = header_clean code && below (rows_said code) (row_clean code)

-- The check: 12(n+1) words or more, those behind the rows unread, the header row's numbers, kinds listed, what is asked of the
-- rows, and no word set that is not used.
unfoldable pub code_passes : List ℕ → Bool
code_passes code =
    leb (code_words (rows_said code)) (length code) && header_passes (rows_said code) (groups_said code)
    && below (rows_said code) (λ q. listed (word_at code (row_start q))) && rows_pass (decode code) && code_clean code
