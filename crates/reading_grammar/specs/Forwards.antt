-- Places go forwards.
use Rattle.std.specs.Prelude.{List, [], ◌∷◌, ℕ, ◌≤◌, ◌<◌}
use Rattle.std.proofs.Common.{arith}
use Rattle.meaning.specs.Node.{Node}
use Rattle.reading_grammar.specs.Refusals.{ClassOpens, ClassOpens.holding, ClassOpens.lacking}
use Rattle.reading_grammar.specs.EscapesComplete.{escaped_at}
use Rattle.reading_grammar.specs.ClassesComplete.{class_on}
use Rattle.reading_grammar.specs.CountsComplete.{quantified_on}
use Rattle.reading_grammar.specs.Grammar.{Assertion, Assertion.begins, Assertion.ends, Assertion.edge, Assertion.inner}
use Rattle.reading_grammar.specs.Grammar.{SetAtom}
use Rattle.reading_grammar.specs.Grammar.{SetAtom.literal, SetAtom.dots, SetAtom.escape, SetAtom.named, SetAtom.class}
use Rattle.reading_grammar.specs.Grammar.{Sort}
use Rattle.reading_grammar.specs.Grammar.{Sort.alternatives, Sort.sequence, Sort.item, Sort.atom, Rule, Rule.first}
use Rattle.reading_grammar.specs.Grammar.{Rule.next}
use Rattle.reading_grammar.specs.Grammar.{Rule.nothing, Rule.more, Rule.assertion, Rule.once, Rule.repeated, Rule.bytes}
use Rattle.reading_grammar.specs.Grammar.{Rule.grouped, Rule.plain}

module _ (s : List ℕ) where
  set_on : {a b : ℕ} {set : List ℕ} → SetAtom s a b set → a < b
  set_on (literal h n sp) = omega arith
  set_on (dots h) = omega arith
  set_on (escape t) = (escaped_at t).1
  set_on (named t) = omega arith
  set_on (class t) = class_on s t

  assertion_on : {a b k : ℕ} → Assertion s a b k → a < b
  assertion_on (begins h) = omega arith
  assertion_on (ends h) = omega arith
  assertion_on (edge at h) = omega arith
  assertion_on (inner at h) = omega arith

  abbrev pub Forwards : Sort → ℕ → ℕ → Type 0
  Forwards alternatives a b = a ≤ b
  Forwards sequence a b = a ≤ b
  Forwards item a b = a < b
  Forwards atom a b = a < b

  pub rule_on : {t : Sort} {d a b g h : ℕ} {l : List Node} → Rule s t d a b g h l → Forwards t a b
  rule_on (first u) = rule_on u
  rule_on (next u c v) = omega (arith, rule_on u, rule_on v)
  rule_on nothing = omega arith
  rule_on (more u i) = omega (arith, rule_on u, rule_on i)
  rule_on (assertion u) = assertion_on u
  rule_on (once u e) = rule_on u
  rule_on (repeated u q) = omega (arith, rule_on u, quantified_on s q)
  rule_on (bytes u) = set_on u
  rule_on (grouped at n l u c) = omega (arith, rule_on u)
  rule_on (plain at q k u c) = omega (arith, rule_on u)

  pub item_on : {d a b g h : ℕ} {r : Node} → Rule s item d a b g h (r ∷ []) → a < b
  item_on t = rule_on t

  pub sequence_on : {d a b g h : ℕ} {l : List Node} → Rule s sequence d a b g h l → a ≤ b
  sequence_on t = rule_on t

  pub opens_on : {o a : ℕ} → ClassOpens s o a → o < a
  opens_on (holding at n) = omega arith
  opens_on (lacking at n) = omega arith
