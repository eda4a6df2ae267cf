-- The table: the records of a pattern, 16 words each, a part after the parts inside it (docs/TABLE.md). Definitions only.
use Rattle.std.specs.Prelude.{Bool, cond, List, [], ◌∷◌, ◌++◌, ℕ, ◌+◌, ◌-◌, ◌*◌, min, length, get_or, replicate}
use Rattle.std.proofs.Math.Option.{Option, none, some}
use Rattle.meaning.specs.Limits.{row_limit, no_maximum, set_words}
use Rattle.meaning.specs.Node.{Node, Node.empty, Node.bset, Node.assert, Node.group, Node.seq, Node.alt, Node.many, lo, hi}
use Rattle.meaning.specs.Flat.{Kind, Kind.sequence, Kind.alternation, parts}
use Rattle.machine.specs.Layout.{size_of}

-- The words of a record, and which they are: kind, operand, how many records and items, size in rows, lowest and highest
-- group; then a byte set, or a quantifier's minimum, maximum and laziness.
abbrev pub record_words : ℕ
record_words = 16

abbrev pub kind_word : ℕ
kind_word = 0

abbrev pub operand_word : ℕ
operand_word = 1

abbrev pub records_word : ℕ
records_word = 2

abbrev pub items_word : ℕ
items_word = 3

abbrev pub size_word : ℕ
size_word = 4

abbrev pub lowest_word : ℕ
lowest_word = 5

abbrev pub highest_word : ℕ
highest_word = 6

abbrev pub set_word : ℕ
set_word = 8

abbrev pub least_word : ℕ
least_word = set_word

abbrev pub most_word : ℕ
most_word = set_word + 1

abbrev pub lazy_word : ℕ
lazy_word = set_word + 2

-- Word `which` of the record before record number `top`.
abbrev pub word_of : List ℕ → ℕ → ℕ → ℕ
word_of table top which = get_or table (record_words * (top - 1) + which) 0

-- The kinds of records.
abbrev pub empty_kind : ℕ
empty_kind = 1

abbrev pub set_kind : ℕ
set_kind = 2

abbrev pub assertion_kind : ℕ
assertion_kind = 3

abbrev pub group_kind : ℕ
group_kind = 4

abbrev pub sequence_kind : ℕ
sequence_kind = 5

abbrev pub alternation_kind : ℕ
alternation_kind = 6

abbrev pub quantifier_kind : ℕ
quantifier_kind = 7

-- The size in rows is held at a cap just above the limit of rows.
abbrev pub size_cap : ℕ
size_cap = row_limit + 1

-- A maximum as a word.
abbrev pub maximum : ℕ → Option ℕ → ℕ
maximum min none = no_maximum
maximum min (some extra) = min + extra

abbrev pub bit_of : Bool → ℕ
bit_of b = cond b 1 0

-- What a record adds where its pattern does not go on in a row of parts of its kind.
abbrev pub unless : {A : Type 0} → Option Kind → Kind → A → A → A
unless none k none-of-it it = it
unless (some sequence) sequence none-of-it it = none-of-it
unless (some sequence) alternation none-of-it it = it
unless (some alternation) sequence none-of-it it = it
unless (some alternation) alternation none-of-it it = none-of-it

-- How many records a pattern has; where it goes on in a row of parts of a kind, without the record of that row.
unfoldable pub records_in : Option Kind → Node → ℕ
records_in t empty = 1
records_in t (bset s) = 1
records_in t (assert a) = 1
records_in t (group k r) = records_in none r + 1
records_in t (seq r q) = records_in none r + records_in (some sequence) q + unless t sequence 0 1
records_in t (alt r q) = records_in none r + records_in (some alternation) q + unless t alternation 0 1
records_in t (many n e lazy r) = records_in none r + 1

abbrev pub record_count : Node → ℕ
record_count r = records_in none r

-- A record: kind, operand, how many records the part has, how many items, its size in rows, lowest and highest group, zero, and
-- eight words that are a byte set or a quantifier's minimum, maximum and laziness.
abbrev pub record_of : ℕ → ℕ → ℕ → Node → List ℕ → List ℕ
record_of kind operand items r set =
    kind ∷ operand ∷ record_count r ∷ items ∷ min (size_of r) size_cap ∷ lo r ∷ hi r ∷ 0 ∷ set

-- The last words of a record that has neither set nor counts.
abbrev pub no_set : List ℕ
no_set = replicate set_words 0

-- The own record of a pattern, by its kind.
unfoldable pub own_record : Node → List ℕ
own_record empty = record_of empty_kind 0 0 empty no_set
own_record (bset s) = record_of set_kind 0 0 (bset s) s
own_record (assert a) = record_of assertion_kind a 0 (assert a) no_set
own_record (group k r) = record_of group_kind k 1 (group k r) no_set
own_record (seq r q) = record_of sequence_kind 0 (length (parts sequence (seq r q))) (seq r q) no_set
own_record (alt r q) = record_of alternation_kind 0 (length (parts alternation (alt r q))) (alt r q) no_set
own_record (many n e lazy r) = record_of quantifier_kind 0 1 (many n e lazy r) (n ∷ maximum n e ∷ bit_of lazy ∷ replicate 5 0)

-- The records of a pattern, the parts inside it first, left to right.
unfoldable pub words_in : Option Kind → Node → List ℕ
words_in t empty = own_record empty
words_in t (bset s) = own_record (bset s)
words_in t (assert a) = own_record (assert a)
words_in t (group k r) = words_in none r ++ own_record (group k r)
words_in t (seq r q) = words_in none r ++ words_in (some sequence) q ++ unless t sequence [] (own_record (seq r q))
words_in t (alt r q) = words_in none r ++ words_in (some alternation) q ++ unless t alternation [] (own_record (alt r q))
words_in t (many n e lazy r) = words_in none r ++ own_record (many n e lazy r)

abbrev pub records : Node → List ℕ
records r = words_in none r
