-- The first byte of what derives.
use Rattle.std.specs.Prelude.{◌≡◌, refl, false, ◌||◌, List, ℕ, eqb}
use Rattle.std.proofs.Common.{ap, ◌∙◌, ne_eqb}
use Rattle.meaning.specs.Node.{Node}
use Rattle.reading_atoms.specs.Chars.{no_byte, byte_at, caret, dollar, backslash, dot, open_paren, close_paren, open_bracket}
use Rattle.reading_atoms.specs.Chars.{close_bracket}
use Rattle.reading_atoms.specs.Chars.{close_brace, bar, is_quantifier, ends_sequence}
use Rattle.reading_grammar.specs.Atoms.{Is}
use Rattle.reading_grammar.specs.Atoms as grammar
use Rattle.reading_grammar.specs.AtomsSound.{not_both}
use Rattle.reading_grammar.specs.EscapesComplete.{escaped_at}
use Rattle.reading_grammar.specs.Within.{set_first}
use Rattle.reading_grammar.specs.Grammar.{special, Assertion, Assertion.begins, Assertion.ends, Assertion.edge}
use Rattle.reading_grammar.specs.Grammar.{Assertion.inner}
use Rattle.reading_grammar.specs.Grammar.{SetAtom, SetAtom.literal, SetAtom.dots, SetAtom.escape, SetAtom.named}
use Rattle.reading_grammar.specs.Grammar.{SetAtom.class}
use Rattle.reading_grammar.specs.Grammar.{Sort, Sort.alternatives, Sort.sequence, Sort.item, Sort.atom, Rule, Rule.first}
use Rattle.reading_grammar.specs.Grammar.{Rule.next, Rule.nothing, Rule.more, Rule.assertion, Rule.once, Rule.repeated}
use Rattle.reading_grammar.specs.Grammar.{Rule.bytes, Rule.grouped, Rule.plain}

-- A literal is none of the bytes that mean something else.
pub record Plain (b : ℕ) : Type 0 where
  pub no_caret : eqb b caret ≡ false
  pub no_dollar : eqb b dollar ≡ false
  pub no_backslash : eqb b backslash ≡ false
  pub no_dot : eqb b dot ≡ false
  pub no_quantifier : is_quantifier b ≡ false
  pub no_open_paren : eqb b open_paren ≡ false
  pub no_close_paren : eqb b close_paren ≡ false
  pub no_open_bracket : eqb b open_bracket ≡ false
  pub no_close_bracket : eqb b close_bracket ≡ false
  pub no_close_brace : eqb b close_brace ≡ false
  pub no_bar : eqb b bar ≡ false

pub plain_of : (b : ℕ) → special b ≡ false → Plain b
unfolding special
plain_of b e =
    let t1 = eqb b caret in
    let t2 = t1 || eqb b dollar in
    let t3 = t2 || eqb b backslash in
    let t4 = t3 || eqb b dot in
    let t5 = t4 || is_quantifier b in
    let t6 = t5 || eqb b open_paren in
    let t7 = t6 || eqb b close_paren in
    let t8 = t7 || eqb b open_bracket in
    let t9 = t8 || eqb b close_bracket in
    let t10 = t9 || eqb b close_brace in
    let (e10, x11) = not_both t10 (eqb b bar) e in
    let (e9, x10) = not_both t9 (eqb b close_brace) e10 in
    let (e8, x9) = not_both t8 (eqb b close_bracket) e9 in
    let (e7, x8) = not_both t7 (eqb b open_bracket) e8 in
    let (e6, x7) = not_both t6 (eqb b close_paren) e7 in
    let (e5, x6) = not_both t5 (eqb b open_paren) e6 in
    let (e4, x5) = not_both t4 (is_quantifier b) e5 in
    let (e3, x4) = not_both t3 (eqb b dot) e4 in
    let (e2, x3) = not_both t2 (eqb b backslash) e3 in
    let (x1, x2) = not_both t1 (eqb b dollar) e2 in
    record {
      no_caret = x1;
      no_dollar = x2;
      no_backslash = x3;
      no_dot = x4;
      no_quantifier = x5;
      no_open_paren = x6;
      no_close_paren = x7;
      no_open_bracket = x8;
      no_close_bracket = x9;
      no_close_brace = x10;
      no_bar = x11;
    }

module _ (s : List ℕ) where
  -- The first byte of an item does not end a sequence, and an item takes a byte or more.
  pub class_first : {a b : ℕ} {set : List ℕ} → grammar.Class s a b set → Is s a open_bracket
  class_first (grammar.Class.holding at n t c) = at
  class_first (grammar.Class.lacking at n t c) = at

  known : (a b : ℕ) → Is s a b → ends_sequence b ≡ false → ends_sequence (byte_at s a) ≡ false
  known a b h e = ap ends_sequence h ∙ e

  set_begins : {a b : ℕ} {set : List ℕ} → SetAtom s a b set → ends_sequence (byte_at s a) ≡ false
  set_begins (literal {a = a} {b = b} h n sp) =
      let p : Plain b = plain_of b sp in
      known a b h (rw (ne_eqb b no_byte n, p.no_bar, p.no_close_paren))
  set_begins (dots {a = a} h) = known a dot h refl
  set_begins (escape {a = a} t) = known a backslash (escaped_at t).0 refl
  set_begins (named {a = a} t) = known a backslash (set_first s t) refl
  set_begins (class {a = a} t) = known a open_bracket (class_first t) refl

  assertion_begins : {a b k : ℕ} → Assertion s a b k → ends_sequence (byte_at s a) ≡ false
  assertion_begins (begins {a = a} h) = known a caret h refl
  assertion_begins (ends {a = a} h) = known a dollar h refl
  assertion_begins (edge {a = a} at h) = known a backslash at refl
  assertion_begins (inner {a = a} at h) = known a backslash at refl

  -- Alternatives and sequences may begin anywhere.
  abbrev Begins : Sort → ℕ → Type 0
  Begins alternatives a = Unit {0}
  Begins sequence a = Unit {0}
  Begins item a = ends_sequence (byte_at s a) ≡ false
  Begins atom a = ends_sequence (byte_at s a) ≡ false

  pub rule_begins : {t : Sort} {d a b g h : ℕ} {l : List Node} → Rule s t d a b g h l → Begins t a
  rule_begins (first u) = tt
  rule_begins (next u c v) = tt
  rule_begins nothing = tt
  rule_begins (more u i) = tt
  rule_begins (assertion u) = assertion_begins u
  rule_begins (once u e) = rule_begins u
  rule_begins (repeated u q) = rule_begins u
  rule_begins (bytes u) = set_begins u
  rule_begins (grouped {a = a} at n l u c) = known a open_paren at refl
  rule_begins (plain {a = a} at q k u c) = known a open_paren at refl
