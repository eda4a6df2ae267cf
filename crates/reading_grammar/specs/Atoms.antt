-- The grammar of the outline's "What a pattern may hold", first part: counts, quantifiers, escapes and classes. Relations
-- between the bytes of a pattern from one place up to another and what they mean: a rule for each line, no parser. Definitions
-- only.
use Rattle.std.specs.Prelude.{◌≡◌, Bool, true, false, List, ℕ, ◌+◌, ◌-◌, ◌*◌, ◌%◌, ◌≤◌}
use Rattle.std.proofs.Math.Option.{Option, none, some}
use Rattle.sets.specs.Sets.{set_of, between, is_digit, is_word, in_escape}
use Rattle.meaning.specs.Limits.{count_limit}
use Rattle.reading_atoms.specs.Chars.{no_byte, byte_at, caret, backslash, star, plus, question, open_brace, close_brace, open_bracket}
use Rattle.reading_atoms.specs.Chars.{close_bracket, comma, hyphen, is_letter, is_hex, hex_value}
use Rattle.reading_atoms.specs.Classes.{added, takes, class_set}

-- A byte stands at a place.
abbrev pub Is : List ℕ → ℕ → ℕ → Type 0
Is s a b = byte_at s a ≡ b

-- Decimal digits, one or more, and their value. Leading zeros are allowed.
pub data Digits (s : List ℕ) : ℕ → ℕ → ℕ → Type 0 where
  digit : {a : ℕ} → is_digit (byte_at s a) ≡ true → Digits s a (a + 1) (byte_at s a - 0x30)
  more : {a b v : ℕ} → Digits s a b v → is_digit (byte_at s b) ≡ true → Digits s a (b + 1) (10 * v + (byte_at s b - 0x30))

-- {n} {n,} {n,m}: a count above 1,000 (8) and n greater than m (9) are outside the limits.
pub data Counts (s : List ℕ) : ℕ → ℕ → ℕ → Option ℕ → Type 0 where
  exactly : {a b n : ℕ} → Is s a open_brace → Digits s (a + 1) b n → Is s b close_brace → n ≤ count_limit
      → Counts s a (b + 1) n (some 0)
  least : {a b n : ℕ} → Is s a open_brace → Digits s (a + 1) b n → Is s b comma → Is s (b + 1) close_brace → n ≤ count_limit
      → Counts s a (b + 2) n none
  range : {a b c n m : ℕ} → Is s a open_brace → Digits s (a + 1) b n → Is s b comma → Digits s (b + 1) c m → Is s c close_brace
      → n ≤ m → m ≤ count_limit → Counts s a (c + 1) n (some (m - n))

-- A quantifier without its laziness: the minimum, and what may be added to it.
pub data Times (s : List ℕ) : ℕ → ℕ → ℕ → Option ℕ → Type 0 where
  any : {a : ℕ} → Is s a star → Times s a (a + 1) 0 none
  some_times : {a : ℕ} → Is s a plus → Times s a (a + 1) 1 none
  maybe : {a : ℕ} → Is s a question → Times s a (a + 1) 0 (some 1)
  counted : {a b n : ℕ} {e : Option ℕ} → Counts s a b n e → Times s a b n e

-- Each is lazy with a ? after it.
pub data Quantified (s : List ℕ) : ℕ → ℕ → ℕ → Option ℕ → Bool → Type 0 where
  greedy : {a b n : ℕ} {e : Option ℕ} → Times s a b n e → (Is s b question → ⊥) → Quantified s a b n e false
  lazy : {a b n : ℕ} {e : Option ℕ} → Times s a b n e → Is s b question → Quantified s a (b + 1) n e true

-- \f \n \r \t \v and the bytes that they stand for.
pub data Control : ℕ → ℕ → Type 0 where
  feed : Control 0x66 0x0C
  newline : Control 0x6E 0x0A
  return : Control 0x72 0x0D
  tab : Control 0x74 0x09
  vertical : Control 0x76 0x0B

-- \d \D \w \W \s \S and their numbers.
pub data Named : ℕ → ℕ → Type 0 where
  digits : Named 0x64 0
  no_digits : Named 0x44 1
  words : Named 0x77 2
  no_words : Named 0x57 3
  spaces : Named 0x73 4
  no_spaces : Named 0x53 5

-- An escape that stands for a byte: a control letter; `\c` and a letter; `\x` and two hex digits; `\0` before no digit; in a
-- class `\b`; and any byte that is no letter, digit or _.
pub data EscapedByte (s : List ℕ) (inClass : Bool) : ℕ → ℕ → ℕ → Type 0 where
  control : {a c b : ℕ} → Is s a backslash → Is s (a + 1) c → Control c b → EscapedByte s inClass a (a + 2) b
  letter : {a c : ℕ} → Is s a backslash → Is s (a + 1) 0x63 → Is s (a + 2) c → is_letter c ≡ true
      → EscapedByte s inClass a (a + 3) (c % 32)
  hex : {a c e : ℕ} → Is s a backslash → Is s (a + 1) 0x78 → Is s (a + 2) c → is_hex c ≡ true → Is s (a + 3) e → is_hex e ≡ true
      → EscapedByte s inClass a (a + 4) (hex_value c * 16 + hex_value e)
  nul : {a : ℕ} → Is s a backslash → Is s (a + 1) 0x30 → is_digit (byte_at s (a + 2)) ≡ false → EscapedByte s inClass a (a + 2) 0
  backspace : {a : ℕ} → Is s a backslash → inClass ≡ true → Is s (a + 1) 0x62 → EscapedByte s inClass a (a + 2) 0x08
  itself : {a b : ℕ} → Is s a backslash → Is s (a + 1) b → (b ≡ no_byte → ⊥) → is_word b ≡ false
      → EscapedByte s inClass a (a + 2) b

-- An escape that stands for a set.
pub data EscapedSet (s : List ℕ) : ℕ → ℕ → Type 0 where
  named : {a c k : ℕ} → Is s a backslash → Is s (a + 1) c → Named c k → EscapedSet s a k

-- An atom of a class: a byte, or an escape's set. A `-` where an atom is due is itself.
pub data ByteAtom (s : List ℕ) : ℕ → ℕ → ℕ → Type 0 where
  plain : {a b : ℕ} → Is s a b → (b ≡ no_byte → ⊥) → (b ≡ backslash → ⊥) → (b ≡ close_bracket → ⊥) → ByteAtom s a (a + 1) b
  escaped : {a c b : ℕ} → EscapedByte s true a c b → ByteAtom s a c b

-- A `-` that makes a range: another atom stands behind it. A `-` that is last is itself.
abbrev pub Dash : List ℕ → ℕ → Type 0
Dash s a = Is s a hyphen × (Is s (a + 1) close_bracket → ⊥) × (Is s (a + 1) no_byte → ⊥)

-- The atoms and ranges of a class so far, and the set that they make.
pub data ClassItems (s : List ℕ) : ℕ → ℕ → List ℕ → Type 0 where
  nothing : {a : ℕ} → ClassItems s a a (set_of (λ x. false))
  single : {a b c v : ℕ} {set : List ℕ} → ClassItems s a b set → ByteAtom s b c v → (Dash s c → ⊥)
      → ClassItems s a c (added set (takes v))
  several : {a b k : ℕ} {set : List ℕ} → ClassItems s a b set → EscapedSet s b k → (Dash s (b + 2) → ⊥)
      → ClassItems s a (b + 2) (added set (in_escape k))
  range : {a b c e u v : ℕ} {set : List ℕ} → ClassItems s a b set → ByteAtom s b c u → Is s c hyphen → ByteAtom s (c + 1) e v
      → u ≤ v
      → ClassItems s a e (added set (between u v))

-- A class, complemented or not.
pub data Class (s : List ℕ) : ℕ → ℕ → List ℕ → Type 0 where
  holding : {a b : ℕ} {set : List ℕ} → Is s a open_bracket → (Is s (a + 1) caret → ⊥) → ClassItems s (a + 1) b set
      → Is s b close_bracket
      → Class s a (b + 1) (class_set false set)
  lacking : {a b : ℕ} {set : List ℕ} → Is s a open_bracket → Is s (a + 1) caret → ClassItems s (a + 2) b set → Is s b close_bracket
      → Class s a (b + 1) (class_set true set)
