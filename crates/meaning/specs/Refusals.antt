-- The outline's numbers for what is turned away, each under one name. A file that cites a number says `No.` before its name.
-- Definitions only.
use Rattle.std.specs.Prelude.{ℕ}

-- The checks that come before a pattern is read: over the longest; a table too small; a byte above 7F.
abbrev pub long_pattern : ℕ
long_pattern = 1

abbrev pub small_table : ℕ
small_table = 2

abbrev pub high_byte : ℕ
high_byte = 3

-- An escape neither listed nor left out, or `\` at the end.
abbrev pub bad_escape : ℕ
bad_escape = 4

-- What the standard has and this matcher leaves out.
abbrev pub left_out : ℕ
left_out = 5

-- A quantifier with no atom to repeat, and a `?` behind `(`.
abbrev pub no_atom : ℕ
no_atom = 6

-- A `{` that is not one of the three forms; a count above the limit; a minimum above the maximum.
abbrev pub bad_braces : ℕ
bad_braces = 7

abbrev pub high_count : ℕ
high_count = 8

abbrev pub reversed_counts : ℕ
reversed_counts = 9

-- A range reversed or with a set as an end; a class unclosed.
abbrev pub bad_class : ℕ
bad_class = 10

-- A `)` unmatched, or a `(` unclosed.
abbrev pub unmatched : ℕ
unmatched = 11

-- A stray `]` or `}`.
abbrev pub stray : ℕ
stray = 12

-- Parentheses too deep, and a group too many.
abbrev pub too_deep : ℕ
too_deep = 13

abbrev pub many_groups : ℕ
many_groups = 14

-- A pattern that was read and has no program: too many rows, and code too short for them.
abbrev pub many_rows : ℕ
many_rows = 15

abbrev pub short_code : ℕ
short_code = 16

-- A run: code fails its check; the text is too long; the start is beyond it; too few registers; too small a workspace.
abbrev pub code_fails : ℕ
code_fails = 20

abbrev pub long_text : ℕ
long_text = 21

abbrev pub start_beyond : ℕ
start_beyond = 22

abbrev pub few_registers : ℕ
few_registers = 23

abbrev pub small_workspace : ℕ
small_workspace = 24

-- A list too short for the matches of a repetition.
abbrev pub short_list : ℕ
short_list = 25

-- A table to be shown: it is outside the form; its text is too long, too deep or larger than the room.
abbrev pub outside_form : ℕ
outside_form = 26

abbrev pub unshown : ℕ
unshown = 27

-- A span that is no number, one of no bytes included; a gate whose limit is no number.
abbrev pub bad_field : ℕ
bad_field = 28

abbrev pub bad_gate : ℕ
bad_gate = 29
