-- What is read is charged no more than the bytes that it was read from, so that its table has room for what it is tidied to.
use Rattle.std.specs.Prelude.{◌≡◌, ℕ, ◌+◌, ◌≤◌, length}
use Rattle.std.proofs.Common.{ap}
use mathlib.Core.List.{List, [], ◌∷◌, ◌++◌}
use native.Mathlib.Omega.{arith}
use Rattle.std.proofs.Math.ListN.{length-append}
use Rattle.meaning.specs.Node.{Node}
use Rattle.meaning.specs.Flat.{Kind, parts, join, adds_link, adds_parts}
use Rattle.tidying_laws.specs.Measures.{total}
use Rattle.tidying_laws.specs.Charge.{charge, extra, cost, cost_adds, extra_one}
use Rattle.tidying_fitting.specs.Parts.{length_parts}
use Rattle.reading_grammar.specs.CountsComplete.{quantified_on}
use Rattle.reading_grammar.specs.Forwards.{rule_on}
use Rattle.reading_grammar.specs.Grammar.{Sort, Sort.alternatives, Sort.sequence, Sort.item, Sort.atom, Rule, Derives}
use Rattle.reading_grammar.specs.Grammar.{Rule.first, Rule.next, Rule.nothing, Rule.more, Rule.assertion, Rule.once}
use Rattle.reading_grammar.specs.Grammar.{Rule.repeated}
use Rattle.reading_grammar.specs.Grammar.{Rule.bytes, Rule.grouped, Rule.plain}

total_append : (f : Node → ℕ) (l m : List Node) → total f (l ++ m) ≡ total f l + total f m
total_append f [] m = omega arith
total_append f (r ∷ l) m = omega (arith, total_append f l m)

-- A sequence costs no more than its items, and alternatives with a bar after each one as much as they do.
items_cost : (l : List Node) → charge (join Kind.sequence l) ≤ total (cost Kind.sequence) l
unfolding charge
items_cost [] = omega arith
items_cost (r ∷ l) = omega (arith, adds_link (cost_adds Kind.sequence) r l)

alternatives_cost : (l : List Node) → 1 ≤ length l → charge (join Kind.alternation l) + 1 ≡ total (cost Kind.alternation) l
alternatives_cost [] h = absurd (omega arith)
alternatives_cost (r ∷ l) h = adds_link (cost_adds Kind.alternation) r l

sequence_cost : (l : List Node)
    → total (cost Kind.alternation) (parts Kind.alternation (join Kind.sequence l)) ≤ total (cost Kind.sequence) l + 1
sequence_cost l = omega (arith, adds_parts (cost_adds Kind.alternation) (join Kind.sequence l), items_cost l)

-- What a rule derives from the bytes from one place up to another.
abbrev Charged : Sort → ℕ → ℕ → List Node → Type 0
Charged alternatives a b l = (1 ≤ length l) × (total (cost Kind.alternation) l + a ≤ b + 1)
Charged sequence a b l = total (cost Kind.sequence) l + a ≤ b
Charged item a b l = total (cost Kind.sequence) l + a ≤ b
Charged atom a b l = total (cost Kind.sequence) l + a ≤ b

module _ (s : List ℕ) where
  rule_charged : {t : Sort} {d a b g h : ℕ} {l : List Node} → Rule s t d a b g h l → Charged t a b l
  unfolding charge extra
  rule_charged (first {l = l} u) =
      (length_parts Kind.alternation (join Kind.sequence l), omega (arith, sequence_cost l, rule_charged u))
  rule_charged (next {l = l} {m = m} u c v) =
      let new : List Node = parts Kind.alternation (join Kind.sequence m) in
      let f = rule_charged u in (
        omega (arith, length-append l new, f.0),
        omega (arith, total_append (cost Kind.alternation) l new, sequence_cost m, f.1, rule_charged v),
      )
  rule_charged nothing = omega arith
  rule_charged (more {l = l} {r = r} u i) = omega (
    arith,
    total_append (cost Kind.sequence) l (parts Kind.sequence r),
    adds_parts (cost_adds Kind.sequence) r,
    rule_charged u,
    rule_charged i,
  )
  rule_charged (assertion u) = omega (arith, rule_on s (assertion {d = 0} {g = 0} u))
  rule_charged (once u e) = rule_charged u
  rule_charged (repeated u q) = omega (arith, rule_charged u, quantified_on s q)
  rule_charged (bytes u) = omega (arith, rule_on s (bytes {d = 0} {g = 0} u))
  rule_charged (grouped {l = l} at n few u c) =
      let f = rule_charged u in omega (arith, alternatives_cost l f.0, f.1)
  rule_charged (plain {l = l} at q k u c) =
      let f = rule_charged u in omega (arith, alternatives_cost l f.0, f.1, extra_one (join Kind.alternation l))

  pub derived_charge : {r : Node} {g : ℕ} → Derives s r g → charge r ≤ length s
  derived_charge d =
      let f = rule_charged d.derivation in
      omega (arith, ap charge d.tree, alternatives_cost d.list f.0, f.1)
