-- The bytes that the grammar names, and the classes of bytes that it asks for. Definitions only.
use Rattle.std.specs.Prelude.{Bool, true, false, cond, ◌||◌, List, ℕ, ◌+◌, ◌-◌, ◌%◌, eqb, get_or}
use Rattle.sets.specs.Sets.{between, is_digit}

-- What stands past the end of a pattern: no byte.
abbrev pub no_byte : ℕ
no_byte = 256

-- The byte at a place.
abbrev pub byte_at : List ℕ → ℕ → ℕ
byte_at s at = get_or s at no_byte

-- A choice of which only the chosen side is computed.
abbrev pub choose : {A : Type 0} → Bool → (Unit {0} → A) → (Unit {0} → A) → A
choose true a b = a tt
choose false a b = b tt

-- The bytes that are no literals: ^ $ \ . * + ? ( ) [ ] { } |
abbrev pub caret : ℕ
caret = 0x5E

abbrev pub dollar : ℕ
dollar = 0x24

abbrev pub backslash : ℕ
backslash = 0x5C

abbrev pub dot : ℕ
dot = 0x2E

abbrev pub star : ℕ
star = 0x2A

abbrev pub plus : ℕ
plus = 0x2B

abbrev pub question : ℕ
question = 0x3F

abbrev pub open_paren : ℕ
open_paren = 0x28

abbrev pub close_paren : ℕ
close_paren = 0x29

abbrev pub open_bracket : ℕ
open_bracket = 0x5B

abbrev pub close_bracket : ℕ
close_bracket = 0x5D

abbrev pub open_brace : ℕ
open_brace = 0x7B

abbrev pub close_brace : ℕ
close_brace = 0x7D

abbrev pub bar : ℕ
bar = 0x7C

-- Bytes with a meaning in some places only.
abbrev pub comma : ℕ
comma = 0x2C

abbrev pub hyphen : ℕ
hyphen = 0x2D

abbrev pub colon : ℕ
colon = 0x3A

-- A letter, by its case.
abbrev pub is_upper : ℕ → Bool
is_upper b = between 0x41 0x5A b

abbrev pub is_lower : ℕ → Bool
is_lower b = between 0x61 0x7A b

abbrev pub is_letter : ℕ → Bool
is_letter b = is_upper b || is_lower b

-- A hex digit, and its value.
abbrev pub is_hex : ℕ → Bool
is_hex b = is_digit b || between 0x41 0x46 b || between 0x61 0x66 b

abbrev pub hex_value : ℕ → ℕ
hex_value b = cond (is_digit b) (b - 0x30) (b % 32 + 9)

-- A byte that begins a quantifier: * + ? {
abbrev pub is_quantifier : ℕ → Bool
is_quantifier b = eqb b star || eqb b plus || eqb b question || eqb b open_brace

-- A sequence ends at the end of the pattern, at | and at ).
abbrev pub ends_sequence : ℕ → Bool
ends_sequence b = eqb b no_byte || eqb b bar || eqb b close_paren
