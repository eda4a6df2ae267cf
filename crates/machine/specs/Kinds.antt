-- The numbers of code: the words of its header row and of its rows, the kinds of rows, the assertions. Definitions only.
use Rattle.std.specs.Prelude.{Bool, true, false, ◌||◌, [], ◌∷◌, ℕ, ◌-◌, eqb, get_or}
use Rattle.sets.specs.Sets.{between}
use Rattle.meaning.specs.Limits.{row_words}

-- The words of the header row that are used, n and g; the others are zero.
abbrev pub rows_word : ℕ
rows_word = 0

abbrev pub groups_word : ℕ
groups_word = 1

abbrev pub header_used : ℕ
header_used = 2

abbrev pub header_zeros : ℕ
header_zeros = row_words - header_used

-- The words of a row: its kind, two operands, zero, and a byte set.
abbrev pub kind_word : ℕ
kind_word = 0

abbrev pub first_word : ℕ
first_word = 1

abbrev pub second_word : ℕ
second_word = 2

abbrev pub fourth_word : ℕ
fourth_word = 3

abbrev pub set_word : ℕ
set_word = 4

-- The kinds of rows.
abbrev pub accept_kind : ℕ
accept_kind = 1

abbrev pub consume_kind : ℕ
consume_kind = 2

abbrev pub jump_kind : ℕ
jump_kind = 3

abbrev pub fork_kind : ℕ
fork_kind = 4

abbrev pub open_kind : ℕ
open_kind = 5

abbrev pub close_kind : ℕ
close_kind = 6

abbrev pub reset_kind : ℕ
reset_kind = 7

abbrev pub begin_kind : ℕ
begin_kind = 8

abbrev pub end_kind : ℕ
end_kind = 9

abbrev pub assert_kind : ℕ
assert_kind = 10

-- The kinds that are listed: from the first to the last.
abbrev pub listed : ℕ → Bool
listed kind = between accept_kind assert_kind kind

-- Whether a kind uses its first operand, and whether its second.
abbrev pub uses_first : ℕ → Bool
uses_first kind =
    eqb kind jump_kind || eqb kind fork_kind || eqb kind open_kind || eqb kind close_kind || eqb kind reset_kind || eqb kind end_kind
    || eqb kind assert_kind

abbrev pub uses_second : ℕ → Bool
uses_second kind = eqb kind fork_kind || eqb kind reset_kind

-- Whether a kind uses a word of its row: every kind itself, some their operands, none the fourth, Consume the set.
abbrev pub used : ℕ → ℕ → Bool
used kind word = get_or (true ∷ uses_first kind ∷ uses_second kind ∷ false ∷ []) word (eqb kind consume_kind)
