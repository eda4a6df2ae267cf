-- What derives as an escape is read so.
use Rattle.std.specs.Prelude.{◌≡◌, refl, Bool, false, cond, ◌||◌, List, ℕ, ◌+◌, ◌<◌, eqb}
use Rattle.std.proofs.Common.{◌∙◌, arith, ne_eqb}
use Rattle.sets.specs.Sets.{between, is_digit, is_word}
use Rattle.reading_atoms.specs.Chars.{no_byte, backslash, is_letter}
use Rattle.reading_atoms.specs.Escapes.{Escape.byte, Escape.named, zero_escape, other_escape, escape_at}
use Rattle.reading_grammar.specs.Atoms.{Is, Control, Control.feed, Control.newline, Control.return, Control.tab}
use Rattle.reading_grammar.specs.Atoms.{Control.vertical}
use Rattle.reading_grammar.specs.Atoms.{Named.digits, Named.no_digits, Named.words, Named.no_words, Named.spaces}
use Rattle.reading_grammar.specs.Atoms.{Named.no_spaces}
use Rattle.reading_grammar.specs.Atoms.{EscapedByte, EscapedByte.control, EscapedByte.letter, EscapedByte.hex}
use Rattle.reading_grammar.specs.Atoms.{EscapedByte.nul}
use Rattle.reading_grammar.specs.Atoms.{EscapedByte.backspace, EscapedByte.itself, EscapedSet, EscapedSet.named}
use Rattle.reading_grammar.specs.AtomsSound.{not_both, apart}

-- A byte that is no letter is none of those that an escape may begin with.
no_letter : (b : ℕ) → is_letter b ≡ false
    → (eqb b 0x64 ≡ false) × (eqb b 0x44 ≡ false) × (eqb b 0x77 ≡ false) × (eqb b 0x57 ≡ false) × (eqb b 0x73 ≡ false) ×
    (eqb b 0x53 ≡ false) × (eqb b 0x66 ≡ false) × (eqb b 0x6E ≡ false) × (eqb b 0x72 ≡ false) × (eqb b 0x74 ≡ false) ×
    (eqb b 0x76 ≡ false) × (eqb b 0x63 ≡ false) × (eqb b 0x78 ≡ false) × (eqb b 0x62 ≡ false) × (eqb b 0x42 ≡ false) ×
    (eqb b 0x75 ≡ false)
no_letter b w = (
  apart is_letter b 0x64 false w refl,
  apart is_letter b 0x44 false w refl,
  apart is_letter b 0x77 false w refl,
  apart is_letter b 0x57 false w refl,
  apart is_letter b 0x73 false w refl,
  apart is_letter b 0x53 false w refl,
  apart is_letter b 0x66 false w refl,
  apart is_letter b 0x6E false w refl,
  apart is_letter b 0x72 false w refl,
  apart is_letter b 0x74 false w refl,
  apart is_letter b 0x76 false w refl,
  apart is_letter b 0x63 false w refl,
  apart is_letter b 0x78 false w refl,
  apart is_letter b 0x62 false w refl,
  apart is_letter b 0x42 false w refl,
  apart is_letter b 0x75 false w refl,
)

-- What is no word byte is neither a letter nor a digit.
no_word : (b : ℕ) → is_word b ≡ false → (is_letter b ≡ false) × (is_digit b ≡ false)
unfolding is_word
no_word b w =
    let (u, v) = not_both (between 0x41 0x5A b) (between 0x61 0x7A b || (is_digit b || eqb b 0x5F)) w in
    let (x, y) = not_both (between 0x61 0x7A b) (is_digit b || eqb b 0x5F) v in
    (rw (u, x), (not_both (is_digit b) (eqb b 0x5F) y).0)

no_zero : (b : ℕ) → is_digit b ≡ false → eqb b 0x30 ≡ false
unfolding is_digit
no_zero b h = apart is_digit b 0x30 false h refl

module _ (inClass : Bool) (s : List ℕ) where
  -- What begins with no letter is `\0` or one of the others.
  pub no_letter_escape : (a b : ℕ) → Is s (a + 1) b → is_letter b ≡ false
      → escape_at inClass s a ≡ cond (eqb b 0x30) (zero_escape s a) (other_escape inClass b (a + 2))
  unfolding escape_at
  no_letter_escape a b h w =
      let t = no_letter b w in
      rw (
        h,
        t.0,
        t.1,
        t.2,
        t.3,
        t.4,
        t.5,
        t.6,
        t.7,
        t.8,
        t.9,
        t.10,
        t.11,
        t.12,
        t.13,
        t.14,
        t.15,
      )

  -- A byte that is no letter, digit or _ is itself.
  itself_complete : (a b : ℕ) → Is s (a + 1) b → (b ≡ no_byte → ⊥) → is_word b ≡ false → escape_at inClass s a ≡ byte b (a + 2)
  itself_complete a b h n w =
      let (noLetter, noDigit) = no_word b w in
      no_letter_escape a b h noLetter ∙ rw (
        no_zero b noDigit,
        noDigit,
        apart is_letter b 0x6B false noLetter refl,
        w,
        ne_eqb b no_byte n,
      )

  control_complete : {c b : ℕ} (a : ℕ) → Is s (a + 1) c → Control c b → escape_at inClass s a ≡ byte b (a + 2)
  unfolding escape_at
  control_complete a h feed = rw h
  control_complete a h newline = rw h
  control_complete a h return = rw h
  control_complete a h tab = rw h
  control_complete a h vertical = rw h

  pub byte_complete : {a e b : ℕ} → EscapedByte s inClass a e b → escape_at inClass s a ≡ byte b e
  unfolding escape_at
  byte_complete (control {a = a} at h c) = control_complete a h c
  byte_complete (letter at h k e) = rw (h, k, e)
  byte_complete (hex at h k e k' e') = rw (h, k, k', e, e')
  byte_complete (nul at h e) = rw (h, e)
  byte_complete (backspace at i h) = rw (h, i)
  byte_complete (itself {a = a} {b = b} at h n w) = itself_complete a b h n w

  pub set_complete : {a k : ℕ} → EscapedSet s a k → escape_at inClass s a ≡ named k
  unfolding escape_at
  set_complete (named {a = a} at h digits) = rw h
  set_complete (named {a = a} at h no_digits) = rw h
  set_complete (named {a = a} at h words) = rw h
  set_complete (named {a = a} at h no_words) = rw h
  set_complete (named {a = a} at h spaces) = rw h
  set_complete (named {a = a} at h no_spaces) = rw h

-- Where an escape stands, and how far it goes.
pub escaped_at : {s : List ℕ} {inClass : Bool} {a e b : ℕ} → EscapedByte s inClass a e b → Is s a backslash × (a < e)
escaped_at (control at h c) = (at, omega arith)
escaped_at (letter at h k e) = (at, omega arith)
escaped_at (hex at h k e k' e') = (at, omega arith)
escaped_at (nul at h e) = (at, omega arith)
escaped_at (backspace at i h) = (at, omega arith)
escaped_at (itself at h n w) = (at, omega arith)
