-- What derives lies inside the pattern.
use Rattle.std.specs.Prelude.{◌≡◌, refl, Bool, true, false, List, [], ◌∷◌, ℕ, zero, suc, ◌+◌, ◌≤◌, ◌<◌, length, get_or}
use Rattle.std.proofs.Common.{sym, subst, ◌∙◌, arith}
use Rattle.std.proofs.lemmas.Bool.{false≢true}
use Rattle.std.proofs.Math.Option.{Option}
use Rattle.std.proofs.Math.Decide.{dec_lt}
use Rattle.sets.specs.Sets.{is_digit}
use Rattle.meaning.specs.Limits.{depth_limit}
use Rattle.meaning.specs.Node.{Node}
use Rattle.reading_atoms.specs.Chars.{no_byte, byte_at, backslash, close_bracket, is_letter, is_hex}
use Rattle.reading_items.specs.Facts.{byte_within}
use Rattle.reading_grammar.specs.Atoms.{Is, Counts, Counts.exactly, Counts.least, Counts.range, Times, Times.any}
use Rattle.reading_grammar.specs.Atoms.{Times.some_times, Times.maybe, Times.counted, Quantified, Quantified.greedy}
use Rattle.reading_grammar.specs.Atoms.{Quantified.lazy, Control, Control.feed, Control.newline, Control.return}
use Rattle.reading_grammar.specs.Atoms.{Control.tab}
use Rattle.reading_grammar.specs.Atoms.{Control.vertical, Named, Named.digits, Named.no_digits, Named.words, Named.no_words}
use Rattle.reading_grammar.specs.Atoms.{Named.spaces, Named.no_spaces, EscapedByte, EscapedByte.control, EscapedByte.letter}
use Rattle.reading_grammar.specs.Atoms.{EscapedByte.hex, EscapedByte.nul, EscapedByte.backspace, EscapedByte.itself}
use Rattle.reading_grammar.specs.Atoms.{EscapedSet}
use Rattle.reading_grammar.specs.Atoms.{EscapedSet.named, ByteAtom, ByteAtom.plain, ByteAtom.escaped, ClassItems}
use Rattle.reading_grammar.specs.Atoms.{ClassItems.nothing, ClassItems.single, ClassItems.several, ClassItems.range, Class}
use Rattle.reading_grammar.specs.Atoms.{Class.holding, Class.lacking}
use Rattle.reading_grammar.specs.Grammar.{Assertion, Assertion.begins, Assertion.ends, Assertion.edge, Assertion.inner}
use Rattle.reading_grammar.specs.Grammar.{SetAtom}
use Rattle.reading_grammar.specs.Grammar.{SetAtom.literal, SetAtom.dots, SetAtom.escape, SetAtom.named, SetAtom.class}
use Rattle.reading_grammar.specs.Grammar.{Sort, Rule}
use Rattle.reading_grammar.specs.Grammar.{Rule.first, Rule.next, Rule.nothing, Rule.more, Rule.assertion, Rule.once}
use Rattle.reading_grammar.specs.Grammar.{Rule.repeated, Rule.bytes, Rule.grouped, Rule.plain}
use Rattle.reading_grammar.specs.EscapesComplete.{escaped_at}
use Rattle.reading_grammar.specs.Refusals.{Due, Due.start, Due.behind, Due.bars, Due.grouped, Due.plain, ClassOpens}
use Rattle.reading_grammar.specs.Refusals.{ClassOpens.holding, ClassOpens.lacking}

module _ (s : List ℕ) where
  -- The first byte of a class atom, and how far it goes.
  pub atom_first : {a c v : ℕ} → ByteAtom s a c v → (byte_at s a ≡ no_byte → ⊥) × (byte_at s a ≡ close_bracket → ⊥) × (a < c)
  atom_first (plain h n b c) = (λ x. n (sym h ∙ x), λ x. c (sym h ∙ x), omega arith)
  atom_first (escaped t) =
      let (at, l) = escaped_at t in (
        λ x. let z : ◌≡◌ {A = ℕ} backslash no_byte = sym at ∙ x in
            omega arith,
        λ x. let z : ◌≡◌ {A = ℕ} backslash close_bracket = sym at ∙ x in omega arith,
        l,
      )

  pub set_first : {a k : ℕ} → EscapedSet s a k → Is s a backslash
  set_first (named at h c) = at

  -- A byte that is known, or that a test takes, lies inside.
  pub known : (a b : ℕ) → Is s a b → (b ≡ no_byte → ⊥) → a < length s
  known a b h n = byte_within s a b h n

  tested : (test : ℕ → Bool) (a b : ℕ) → Is s a b → test b ≡ true → test no_byte ≡ false → a < length s
  tested test a b h e f = byte_within s a b h (λ x. false≢true (sym f ∙ subst (λ (y : ℕ). test y ≡ true) x e))

  control_within : {a c b : ℕ} → Is s a c → Control c b → a < length s
  control_within {a} h feed = known a 0x66 h (λ x. omega arith)
  control_within {a} h newline = known a 0x6E h (λ x. omega arith)
  control_within {a} h return = known a 0x72 h (λ x. omega arith)
  control_within {a} h tab = known a 0x74 h (λ x. omega arith)
  control_within {a} h vertical = known a 0x76 h (λ x. omega arith)

  named_within : {a c k : ℕ} → Is s a c → Named c k → a < length s
  named_within {a} h digits = known a 0x64 h (λ x. omega arith)
  named_within {a} h no_digits = known a 0x44 h (λ x. omega arith)
  named_within {a} h words = known a 0x77 h (λ x. omega arith)
  named_within {a} h no_words = known a 0x57 h (λ x. omega arith)
  named_within {a} h spaces = known a 0x73 h (λ x. omega arith)
  named_within {a} h no_spaces = known a 0x53 h (λ x. omega arith)

  escape_within : {inClass : Bool} {a e b : ℕ} → EscapedByte s inClass a e b → e ≤ length s
  unfolding is_digit
  escape_within (control {a = a} at h c) = omega (arith, control_within h c)
  escape_within (letter {a = a} {c = c} at h k e) = omega (arith, tested is_letter (a + 2) c k e refl)
  escape_within (hex {a = a} {e = c} at h k e k' e') = omega (arith, tested is_hex (a + 3) c k' e' refl)
  escape_within (nul {a = a} at h e) = omega (arith, known (a + 1) 0x30 h (λ x. omega arith))
  escape_within (backspace {a = a} at i h) = omega (arith, known (a + 1) 0x62 h (λ x. omega arith))
  escape_within (itself {a = a} {b = b} at h n w) = omega (arith, known (a + 1) b h n)

  pub set_within : {a k : ℕ} → EscapedSet s a k → a + 2 ≤ length s
  set_within (named {a = a} at h c) = omega (arith, named_within h c)

  pub atom_within : {a c v : ℕ} → ByteAtom s a c v → c ≤ length s
  atom_within (plain {a = a} {b = b} h n k c) = omega (arith, known a b h n)
  atom_within (escaped t) = escape_within t

  pub items_within : {a b : ℕ} {set : List ℕ} → ClassItems s a b set → a ≤ length s → b ≤ length s
  items_within nothing l = l
  items_within (single t x d) l = atom_within x
  items_within (several t x d) l = set_within x
  items_within (range t x i y le) l = atom_within y

  class_within : {a b : ℕ} {set : List ℕ} → Class s a b set → b ≤ length s
  class_within (holding {b = b} at n t c) = omega (arith, known b 0x5D c (λ x. omega arith))
  class_within (lacking {b = b} at n t c) = omega (arith, known b 0x5D c (λ x. omega arith))

  counts_within : {a b n : ℕ} {e : Option ℕ} → Counts s a b n e → b ≤ length s
  counts_within (exactly {b = b} at t c top) = omega (arith, known b 0x7D c (λ x. omega arith))
  counts_within (least {b = b} at t c d top) = omega (arith, known (b + 1) 0x7D d (λ x. omega arith))
  counts_within (range {c = c} at t k u d le top) = omega (arith, known c 0x7D d (λ x. omega arith))

  times_within : {a b n : ℕ} {e : Option ℕ} → Times s a b n e → b ≤ length s
  times_within (any {a = a} at) = omega (arith, known a 0x2A at (λ x. omega arith))
  times_within (some_times {a = a} at) = omega (arith, known a 0x2B at (λ x. omega arith))
  times_within (maybe {a = a} at) = omega (arith, known a 0x3F at (λ x. omega arith))
  times_within (counted t) = counts_within t

  quantified_within : {a b n : ℕ} {e : Option ℕ} {lazy : Bool} → Quantified s a b n e lazy → b ≤ length s
  quantified_within (greedy t q) = times_within t
  quantified_within (lazy {b = b} t q) = omega (arith, known b 0x3F q (λ x. omega arith))

  assertion_within : {a b k : ℕ} → Assertion s a b k → b ≤ length s
  assertion_within (begins {a = a} h) = omega (arith, known a 0x5E h (λ x. omega arith))
  assertion_within (ends {a = a} h) = omega (arith, known a 0x24 h (λ x. omega arith))
  assertion_within (edge {a = a} at h) = omega (arith, known (a + 1) 0x62 h (λ x. omega arith))
  assertion_within (inner {a = a} at h) = omega (arith, known (a + 1) 0x42 h (λ x. omega arith))

  bytes_within : {a b : ℕ} {set : List ℕ} → SetAtom s a b set → b ≤ length s
  bytes_within (literal {a = a} {b = b} h n sp) = omega (arith, known a b h n)
  bytes_within (dots {a = a} h) = omega (arith, known a 0x2E h (λ x. omega arith))
  bytes_within (escape t) = escape_within t
  bytes_within (named t) = set_within t
  bytes_within (class t) = class_within t

  pub rule_within : {t : Sort} {d a b g h : ℕ} {l : List Node} → Rule s t d a b g h l → a ≤ length s → b ≤ length s
  rule_within (first u) l = rule_within u l
  rule_within (next {b = b} u c v) l = rule_within v (omega (arith, known b 0x7C c (λ x. omega arith)))
  rule_within nothing l = l
  rule_within (more u i) l = rule_within i (rule_within u l)
  rule_within (assertion u) l = assertion_within u
  rule_within (once u e) l = rule_within u l
  rule_within (repeated u q) l = quantified_within q
  rule_within (bytes u) l = bytes_within u
  rule_within (grouped {b = b} at n k u c) l = omega (arith, known b 0x29 c (λ x. omega arith))
  rule_within (plain {b = b} at q k u c) l = omega (arith, known b 0x29 c (λ x. omega arith))

  -- Where an item is due lies inside, and so does where a class atom is.
  pub due_within : {d a g : ℕ} → Due s d a g → a ≤ length s
  due_within start = omega arith
  due_within (behind u t) = rule_within t (due_within u)
  due_within (bars {a = a} u c) = omega (arith, known a 0x7C c (λ x. omega arith))
  due_within (grouped {a = a} u at n k) = omega (arith, known a 0x28 at (λ x. omega arith))
  due_within (plain {a = a} u at q c) = omega (arith, known (a + 2) 0x3A c (λ x. omega arith))

  pub opens_within : {a b : ℕ} → ClassOpens s a b → b ≤ length s
  opens_within (holding {a = a} at n) = omega (arith, known a 0x5B at (λ x. omega arith))
  opens_within (lacking {a = a} at c) = omega (arith, known (a + 1) 0x5E c (λ x. omega arith))

-- How deep parentheses may be where an item is due.
pub due_deep : {s : List ℕ} {d a g : ℕ} → Due s d a g → d ≤ depth_limit
due_deep start = omega arith
due_deep (behind u t) = due_deep u
due_deep (bars u c) = due_deep u
due_deep (grouped u at n k) = omega (arith, due_deep u)
due_deep (plain u at q c) = omega (arith, due_deep u)

-- An element does not depend on what stands past the end.
get_d_any : (l : List ℕ) (i d e : ℕ) → i < length l → get_or l i d ≡ get_or l i e
get_d_any [] i d e h = absurd (omega arith)
get_d_any (x ∷ l) zero d e h = refl
get_d_any (x ∷ l) (suc i) d e h = get_d_any l i d e (omega arith)

-- Where no byte stands a pattern of bytes ends.
pub at_end : (s : List ℕ) → ((i : ℕ) → i < length s → get_or s i 0 ≤ 0x7F) → (a : ℕ) → byte_at s a ≡ no_byte → a ≤ length s
    → a ≡ length s
at_end s low a e l = go (dec_lt a (length s))
  where
    go : Dec (a < length s) → a ≡ length s
    go (yes h) = absurd (omega (arith, low a h, get_d_any s a no_byte 0 h))
    go (no h) = omega arith
