-- The spelling of a byte reads back: it is an atom of its byte, in a class and outside one.
use Rattle.std.specs.Prelude.{◌≡◌, refl, Bool, true, false, not, ◌||◌, ◌&&◌, List, [], ◌∷◌, ℕ, zero, suc, ◌+◌, ◌-◌, ◌*◌, ◌/◌, ◌%◌, ◌<◌, length, get_or}
use Rattle.std.proofs.Common.{sym, ap, subst, ◌∙◌, arith, eqb-true}
use Rattle.std.proofs.lemmas.Bool.{false≢true, eqb-false}
use Rattle.std.proofs.Math.Dec.{eqb}
use Rattle.sets.specs.Sets.{below, between, is_word, is_digit}
use Rattle.sets.specs.Bits.{below_at}
use Rattle.meaning.specs.Quoted.{bytes}
use Rattle.meaning.specs.Tests.{and_true, by_test}
use Rattle.reading_atoms.specs.Chars.{backslash, close_bracket, caret, hyphen, is_hex, hex_value}
use Rattle.reading_atoms.specs.Places.{neither, between_true}
use Rattle.reading_items.specs.Reading.{literal_set}
use Rattle.reading_grammar.specs.Atoms.{Control, Control.feed, Control.newline, Control.return, Control.tab, Control.vertical}
use Rattle.reading_grammar.specs.Atoms.{EscapedByte, ByteAtom}
use Rattle.reading_grammar.specs.Grammar.{special, SetAtom}
use Rattle.showing_spelling.specs.Spelling.{guarded, control_letter, hex_digit, byte_text}
use Rattle.showing_spelling.specs.Texts.{At, at_first}

-- The four spellings of a byte, by what they need.
pub data Spelled (inClass : Bool) (b : ℕ) : List ℕ → Type 0 where
  letter : {c : ℕ} → Control c b → Spelled inClass b (backslash ∷ c ∷ [])
  itself : is_word b ≡ false → Spelled inClass b (backslash ∷ b ∷ [])
  plain : guarded inClass b ≡ false → Spelled inClass b (b ∷ [])
  hex : {c e : ℕ} → is_hex c ≡ true → is_hex e ≡ true → hex_value c * 16 + hex_value e ≡ b
      → Spelled inClass b (backslash ∷ 0x78 ∷ c ∷ e ∷ [])

controls : (k : ℕ) → k < 5 → Control (get_or (bytes "tnvfr") k 0) (0x09 + k)
controls zero h = tab
controls (suc zero) h = newline
controls (suc (suc zero)) h = vertical
controls (suc (suc (suc zero))) h = feed
controls (suc (suc (suc (suc zero)))) h = return
controls (suc (suc (suc (suc (suc k))))) h = absurd (omega arith)

-- No byte that stands behind `\` is a letter, a digit or _; and a hex digit is one, of its value. Computed.
no_word : Bool → ℕ → Bool
no_word inClass b = not (guarded inClass b && is_word b)

no_words : (inClass : Bool) → below 256 (no_word inClass) ≡ true
unfolding no_word guarded special is_word is_digit
no_words true = refl
no_words false = refl

guarded_no_word : (inClass : Bool) (b : ℕ) → b < 256 → guarded inClass b ≡ true → is_word b ≡ false
unfolding no_word
guarded_no_word inClass b h e = go (is_word b) (rw e at (below_at 256 (no_word inClass) (no_words inClass) b h))
  where
    go : (w : Bool) → not w ≡ true → w ≡ false
    go true f = absurd (false≢true f)
    go false f = refl

hexed : ℕ → Bool
hexed n = is_hex (hex_digit n) && eqb (hex_value (hex_digit n)) n

all_hexed : below 16 hexed ≡ true
unfolding hexed is_digit
all_hexed = refl

hex_digit_lem : (n : ℕ) → n < 16 → (is_hex (hex_digit n) ≡ true) × (hex_value (hex_digit n) ≡ n)
unfolding hexed
hex_digit_lem n h =
    let (p, q) = and_true (is_hex (hex_digit n)) (eqb (hex_value (hex_digit n)) n) (below_at 16 hexed all_hexed n h) in
    (p, eqb-true (hex_value (hex_digit n)) n q)

-- Every byte is spelled by one of them.
pub spelled : (inClass : Bool) (b : ℕ) → b < 256 → Spelled inClass b (byte_text inClass b)
unfolding byte_text
spelled inClass b h =
    by_test (Spelled inClass b) (between 0x09 0x0D b)
    (λ e. let (l, u) = between_true 0x09 0x0D b e in
    let same : 0x09 + (b - 0x09) ≡ b = omega arith in
    letter (subst (Control (control_letter b)) same (controls (b - 0x09) (omega arith)))) (λ e.
    by_test (Spelled inClass b) (between 0x20 0x7E b) (λ e.
    by_test (Spelled inClass b) (guarded inClass b) (λ g. itself (guarded_no_word inClass b h g)) (λ g. plain g)) (λ e.
    let high = hex_digit_lem (b / 16) (omega arith) in
    let low = hex_digit_lem (b % 16) (omega arith) in
    hex high.0 low.0 (omega (arith, high.1, low.1))))

module _ (s : List ℕ) {a b : ℕ} (h : b < 256) where
  -- An escape, in a class or not.
  letters : {inClass : Bool} {c : ℕ} → Control c b → At s a (backslash ∷ c ∷ []) → EscapedByte s inClass a (a + 2) b
  letters {c = c} k t = EscapedByte.control (at_first s a (backslash ∷ c ∷ []) (omega arith) t) (t 1 (omega arith)) k

  selves : {inClass : Bool} → is_word b ≡ false → At s a (backslash ∷ b ∷ []) → EscapedByte s inClass a (a + 2) b
  selves w t =
      EscapedByte.itself (at_first s a (backslash ∷ b ∷ []) (omega arith) t) (t 1 (omega arith)) (λ e. omega arith) w

  hexes : {inClass : Bool} {c e : ℕ} → is_hex c ≡ true → is_hex e ≡ true → hex_value c * 16 + hex_value e ≡ b
      → At s a (backslash ∷ 0x78 ∷ c ∷ e ∷ []) → EscapedByte s inClass a (a + 4) b
  hexes {inClass} {c} {e} u v q t =
      subst (EscapedByte s inClass a (a + 4)) q
      (EscapedByte.hex (at_first s a (backslash ∷ 0x78 ∷ c ∷ e ∷ []) (omega arith) t) (t 1 (omega arith)) (t 2 (omega arith)) u
      (t 3 (omega arith)) v)

  byte_in : {t : List ℕ} → Spelled true b t → At s a t → ByteAtom s a (a + length t) b
  unfolding guarded
  byte_in (letter k) t = ByteAtom.escaped (letters k t)
  byte_in (itself w) t = ByteAtom.escaped (selves w t)
  byte_in (plain g) t =
      let (f, d) = neither (eqb b backslash || eqb b close_bracket || eqb b caret) (eqb b hyphen) g in
      let (k, c) = neither (eqb b backslash || eqb b close_bracket) (eqb b caret) f in
      let (x, y) = neither (eqb b backslash) (eqb b close_bracket) k in
      ByteAtom.plain (at_first s a (b ∷ []) (omega arith) t) (λ e. omega arith) (eqb-false b backslash x)
      (eqb-false b close_bracket y)
  byte_in (hex u v q) t = ByteAtom.escaped (hexes u v q t)

  byte_out : {t : List ℕ} → Spelled false b t → At s a t → SetAtom s a (a + length t) (literal_set b)
  unfolding guarded
  byte_out (letter k) t = SetAtom.escape (letters k t)
  byte_out (itself w) t = SetAtom.escape (selves w t)
  byte_out (plain g) t = SetAtom.literal (at_first s a (b ∷ []) (omega arith) t) (λ e. omega arith) g
  byte_out (hex u v q) t = SetAtom.escape (hexes u v q t)

  -- The spelling of a byte in a class, and outside one.
  pub byte_atom : At s a (byte_text true b) → ByteAtom s a (a + length (byte_text true b)) b
  byte_atom t = byte_in (spelled true b h) t

  pub byte_set_lem : At s a (byte_text false b) → SetAtom s a (a + length (byte_text false b)) (literal_set b)
  byte_set_lem t = byte_out (spelled false b h) t

-- In a class no spelling begins with a byte that stands behind `\`, unless that is `\`; and none is empty.
free_first : {b : ℕ} {t : List ℕ} (x : ℕ) → guarded true x ≡ true → (x ≡ backslash → ⊥) → Spelled true b t → get_or t 0 0 ≡ x → ⊥
free_first x g n (letter k) e = n (sym e)
free_first x g n (itself w) e = n (sym e)
free_first x g n (plain f) e = false≢true (sym f ∙ ap (guarded true) e ∙ g)
free_first x g n (hex u v q) e = n (sym e)

long : {inClass : Bool} {b : ℕ} {t : List ℕ} → Spelled inClass b t → 0 < length t
long (letter k) = omega arith
long (itself w) = omega arith
long (plain f) = omega arith
long (hex u v q) = omega arith

pub byte_long : (inClass : Bool) (b : ℕ) → b < 256 → 0 < length (byte_text inClass b)
byte_long inClass b h = long (spelled inClass b h)

pub byte_free : (b x : ℕ) → b < 256 → guarded true x ≡ true → (x ≡ backslash → ⊥) → get_or (byte_text true b) 0 0 ≡ x → ⊥
byte_free b x h g n = free_first x g n (spelled true b h)
