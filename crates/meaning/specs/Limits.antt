-- The outline's limits and sizes, each under one name.
use Rattle.std.specs.Prelude.{ℕ, ◌+◌, ◌*◌}

-- The longest pattern, in bytes (refusal 1).
abbrev pub pattern_limit : ℕ
pattern_limit = 2048

-- The table words that a pattern of p bytes needs (refusal 2).
abbrev pub table_words : ℕ → ℕ
table_words p = 32 * (p + 1)

-- The highest count (refusal 8).
abbrev pub count_limit : ℕ
count_limit = 1000

-- A maximum as a word where there is none: above every count.
abbrev pub no_maximum : ℕ
no_maximum = count_limit + 1

-- The highest of the assertions 0 `^`, 1 `$`, 2 `\b`, 3 `\B`.
abbrev pub last_assertion : ℕ
last_assertion = 3

-- The deepest parentheses (refusal 13).
abbrev pub depth_limit : ℕ
depth_limit = 32

-- The most groups (refusals 14 and 20).
abbrev pub group_limit : ℕ
group_limit = 31

-- The most rows, and the fewest (refusals 15 and 20).
abbrev pub row_limit : ℕ
row_limit = 1024

abbrev pub least_rows : ℕ
least_rows = 8

-- The words of a row and of a byte set, and those that code of n rows needs with its header row (refusals 16 and 20).
abbrev pub row_words : ℕ
row_words = 12

abbrev pub set_words : ℕ
set_words = 8

abbrev pub code_words : ℕ → ℕ
code_words n = row_words * (n + 1)

-- The longest text, in bytes (refusal 21).
abbrev pub text_limit : ℕ
text_limit = 16777216

-- A register's word is a position below this number, and -1 from it on.
abbrev pub position_limit : ℕ
position_limit = 2147483648

-- How many values a word has.
abbrev pub word_limit : ℕ
word_limit = 4294967296

-- LF, which ends a line.
abbrev pub line_feed : ℕ
line_feed = 0x0A

-- The workspace words that a run of n rows and g groups needs (refusal 24).
abbrev pub workspace_words : ℕ → ℕ → ℕ
workspace_words n g = 16 * n * (g + 2)

-- The longest text that the second engine takes, in bytes (refusal 21), and the workspace words that it needs for n rows, g
-- groups and a text of some length (refusal 24): for each position from 0 to the end 2n marks and 2n choices of 2(g+1) + 2
-- words, and the running thread's registers.
abbrev pub second_limit : ℕ
second_limit = 4096

abbrev pub second_words : ℕ → ℕ → ℕ → ℕ
second_words n g size = n * (4 * g + 10) * (size + 1) + 2 * (g + 1)

-- The buffers of the intake program and of the host: words of table, code and workspace.
abbrev pub table_size : ℕ
table_size = 4128

abbrev pub code_size : ℕ
code_size = 1164

abbrev pub workspace_size : ℕ
workspace_size = 8000

-- The most digits of a number (refusal 28).
abbrev pub digit_limit : ℕ
digit_limit = 15
