-- So a rule derives from bytes that are alike up to its end what it derives, and an item is due there too.
use Rattle.std.specs.Prelude.{◌≡◌, refl, false, List, ℕ, ◌+◌, ◌≤◌, ◌<◌}
use Rattle.std.proofs.Common.{arith}
use Rattle.meaning.specs.Node.{Node}
use Rattle.reading_atoms.specs.Chars.{byte_at, caret, question, is_quantifier}
use Rattle.reading_grammar.specs.Atoms.{Is}
use Rattle.reading_grammar.specs.Grammar.{Assertion, Assertion.begins, Assertion.ends, Assertion.edge, Assertion.inner}
use Rattle.reading_grammar.specs.Grammar.{SetAtom}
use Rattle.reading_grammar.specs.Grammar.{SetAtom.literal, SetAtom.dots, SetAtom.escape, SetAtom.named, SetAtom.class}
use Rattle.reading_grammar.specs.Grammar.{Sort, Rule}
use Rattle.reading_grammar.specs.Grammar.{Rule.first, Rule.next, Rule.nothing, Rule.more, Rule.assertion, Rule.once}
use Rattle.reading_grammar.specs.Grammar.{Rule.repeated, Rule.bytes, Rule.grouped, Rule.plain}
use Rattle.reading_grammar.specs.CountsComplete.{quantified_on}
use Rattle.reading_grammar.specs.Forwards.{rule_on}
use Rattle.reading_grammar.specs.Refusals.{Due, Due.start, Due.behind, Due.bars, Due.grouped, Due.plain, ClassOpens}
use Rattle.reading_grammar.specs.Refusals.{ClassOpens.holding, ClassOpens.lacking}
use Rattle.reading_grammar.specs.Alike.{Alike, less, is, is_not, ahead}
use Rattle.reading_grammar.specs.Alike as alike

module _ (s s' : List ℕ) where
  abbrev Same : ℕ → Type 0
  Same = Alike s s'

  assertion_alike : {a b k : ℕ} → Assertion s a b k → Same b → Assertion s' a b k
  assertion_alike (begins {a = a} h) m = Assertion.begins (is s s' a 0x5E m (omega arith) h)
  assertion_alike (ends {a = a} h) m = Assertion.ends (is s s' a 0x24 m (omega arith) h)
  assertion_alike (edge {a = a} at h) m =
      Assertion.edge (is s s' a 0x5C m (omega arith) at) (is s s' (a + 1) 0x62 m (omega arith) h)
  assertion_alike (inner {a = a} at h) m =
      Assertion.inner (is s s' a 0x5C m (omega arith) at) (is s s' (a + 1) 0x42 m (omega arith) h)

  set_alike : {a b : ℕ} {set : List ℕ} → SetAtom s a b set → Same b → SetAtom s' a b set
  set_alike (literal {a = a} {b = b} h n sp) m = SetAtom.literal (is s s' a b m (omega arith) h) n sp
  set_alike (dots {a = a} h) m = SetAtom.dots (is s s' a 0x2E m (omega arith) h)
  set_alike (escape t) m = SetAtom.escape (alike.escape s s' t m)
  set_alike (named t) m = SetAtom.named (alike.set s s' t m)
  set_alike (class t) m = SetAtom.class (alike.class s s' t m)

  -- A byte that is no quantifier is followed by none.
  calm : {b : ℕ} → Same b → is_quantifier (byte_at s b) ≡ false → is_quantifier (byte_at s' b) ≡ false
  calm m e = ahead s s' (λ x. is_quantifier x ≡ false) m e refl refl refl

  no_question : {b : ℕ} → Same b → (Is s b question → ⊥) → Is s' b question → ⊥
  no_question m h = ahead s s' (λ x. x ≡ question → ⊥) m h (λ x. omega arith) (λ x. omega arith) (λ x. omega arith)

  pub rule_alike : {t : Sort} {d a b g h : ℕ} {l : List Node} → Rule s t d a b g h l → Same b → Rule s' t d a b g h l
  rule_alike (first u) m = Rule.first (rule_alike u m)
  rule_alike (next {b = b} {c = c} u at v) m =
      let on : b + 1 ≤ c = rule_on s v in
      Rule.next (rule_alike u (less s s' b m (omega arith))) (is s s' b 0x7C m (omega arith) at) (rule_alike v m)
  rule_alike nothing m = Rule.nothing
  rule_alike (more {b = b} {c = c} u x) m =
      let on : b < c = rule_on s x in
      Rule.more (rule_alike u (less s s' b m (omega arith))) (rule_alike x m)
  rule_alike (assertion u) m = Rule.assertion (assertion_alike u m)
  rule_alike (once u e) m = Rule.once (rule_alike u m) (calm m e)
  rule_alike (repeated {b = b} {c = c} u q) m =
      let on : b < c = quantified_on s q in
      Rule.repeated (rule_alike u (less s s' b m (omega arith))) (alike.quantified s s' q m)
  rule_alike (bytes u) m = Rule.bytes (set_alike u m)
  rule_alike (grouped {a = a} {b = b} at n k u c) m =
      let on : a + 1 ≤ b = rule_on s u in
      Rule.grouped (is s s' a 0x28 m (omega arith) at) (is_not s s' (a + 1) question m (omega arith) n) k
      (rule_alike u (less s s' b m (omega arith))) (is s s' b 0x29 m (omega arith) c)
  rule_alike (plain {a = a} {b = b} at q k u c) m =
      let on : a + 3 ≤ b = rule_on s u in
      Rule.plain (is s s' a 0x28 m (omega arith) at) (is s s' (a + 1) 0x3F m (omega arith) q)
      (is s s' (a + 2) 0x3A m (omega arith) k) (rule_alike u (less s s' b m (omega arith))) (is s s' b 0x29 m (omega arith) c)

  pub due_alike : {d a g : ℕ} → Due s d a g → Same a → Due s' d a g
  due_alike start m = Due.start
  due_alike (behind {a = a} {b = b} u t) m =
      let on : a < b = rule_on s t in
      Due.behind (due_alike u (less s s' a m (omega arith))) (rule_alike t m)
  due_alike (bars {a = a} u c) m = Due.bars (due_alike u (less s s' a m (omega arith))) (is s s' a 0x7C m (omega arith) c)
  due_alike (grouped {a = a} u at n k) m =
      Due.grouped (due_alike u (less s s' a m (omega arith))) (is s s' a 0x28 m (omega arith) at) (no_question m n) k
  due_alike (plain {a = a} u at q k) m =
      Due.plain (due_alike u (less s s' a m (omega arith))) (is s s' a 0x28 m (omega arith) at)
      (is s s' (a + 1) 0x3F m (omega arith) q) (is s s' (a + 2) 0x3A m (omega arith) k)

  pub opens_alike : {o a : ℕ} → ClassOpens s o a → Same a → ClassOpens s' o a
  opens_alike (holding {a = a} at n) m =
      ClassOpens.holding (is s s' a 0x5B m (omega arith) at)
      (ahead s s' (λ x. x ≡ caret → ⊥) m n (λ x. omega arith) (λ x. omega arith) (λ x. omega arith))
  opens_alike (lacking {a = a} at c) m =
      ClassOpens.lacking (is s s' a 0x5B m (omega arith) at) (is s s' (a + 1) 0x5E m (omega arith) c)
