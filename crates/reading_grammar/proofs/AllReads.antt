-- Every rule is read as it says, whatever stands around it.
use Rattle.std.specs.Prelude.{◌≡◌, refl, true, List, [], ◌∷◌, ◌++◌, eqb, length}
use Rattle.std.proofs.Common.{ap, ◌∙◌}
use Rattle.std.proofs.Math.Bool.{false}
use Prim.Native.Nat.{ℕ, zero, suc, ◌+◌, ◌≤◌, ◌<◌}
use native.Mathlib.Omega.{arith}
use borrow.Author.Tests.{eq-eqb, ne_eqb, lt-leb}
use Rattle.meaning.specs.Limits.{group_limit}
use Rattle.meaning.specs.Node.{Node, Node.assert, Node.group}
use Rattle.meaning.specs.Flat.{Kind, parts, join}
use Rattle.reading_atoms.specs.Chars.{byte_at, choose, question, open_paren, close_paren, bar, colon, ends_sequence}
use Rattle.reading_atoms.specs.Escapes.{escape_at}
use Rattle.reading_atoms.specs.Braces.{quantifier_at}
use Rattle.reading_items.specs.Reading.{Part, Part.part, quantified, set_item, Opening, opening_at, too_deep, opened, item_by}
use Rattle.reading_items.specs.Reading.{sequence_go}
use Rattle.reading_items.specs.Reading.{alternatives_go, alternatives_by, item_at, alternatives_at}
use Rattle.reading_grammar.specs.Atoms.{Is}
use Rattle.reading_grammar.specs.EscapesComplete.{escaped_at, byte_complete, set_complete}
use Rattle.reading_grammar.specs.ClassesComplete.{class_complete}
use Rattle.reading_grammar.specs.Within.{set_first}
use Rattle.reading_grammar.specs.Begins.{Plain, plain_of, class_first, rule_begins}
use Rattle.reading_grammar.specs.Forwards.{rule_on}
use Rattle.reading_grammar.specs.CountsComplete.{quantifier_complete, once_complete, quantified_on}
use Rattle.reading_grammar.specs.Grammar.{Assertion, Assertion.begins, Assertion.ends, Assertion.edge, Assertion.inner}
use Rattle.reading_grammar.specs.Grammar.{SetAtom}
use Rattle.reading_grammar.specs.Grammar.{SetAtom.literal, SetAtom.dots, SetAtom.escape, SetAtom.named, SetAtom.class}
use Rattle.reading_grammar.specs.Grammar.{Sort}
use Rattle.reading_grammar.specs.Grammar.{Sort.alternatives, Sort.sequence, Sort.item, Sort.atom, Rule, Rule.first}
use Rattle.reading_grammar.specs.Grammar.{Rule.next}
use Rattle.reading_grammar.specs.Grammar.{Rule.nothing, Rule.more, Rule.assertion, Rule.once, Rule.repeated, Rule.bytes}
use Rattle.reading_grammar.specs.Grammar.{Rule.grouped, Rule.plain}

module _ (s : List ℕ) where
  -- What a byte set, or an assertion, is read as, whatever a `(` would be.
  module _ (paren : Opening → Part) (g : ℕ) where
    set_complete_item : {a b : ℕ} {set : List ℕ} → SetAtom s a b set → b ≤ length s → item_by paren s a g ≡ set_item s set b g
    unfolding item_by
    set_complete_item (literal {a = a} {b = b} h n sp) l =
        let p : Plain b = plain_of b sp in
        rw (
          h,
          p.no_open_paren,
          p.no_open_bracket,
          p.no_backslash,
          p.no_dot,
          p.no_caret,
          p.no_dollar,
          p.no_quantifier,
          p.no_close_bracket,
          p.no_close_brace,
        )
    set_complete_item (dots h) l = rw h
    set_complete_item (escape t) l = rw ((escaped_at t).0, byte_complete false s t)
    set_complete_item (named t) l = rw (set_first s t, set_complete false s t)
    set_complete_item (class t) l = rw (class_first s t, class_complete s t l)

    assertion_complete : {a b k : ℕ} → Assertion s a b k → item_by paren s a g ≡ part (assert k) b g
    unfolding item_by escape_at
    assertion_complete (begins h) = rw h
    assertion_complete (ends h) = rw h
    assertion_complete (edge at h) = rw (at, h)
    assertion_complete (inner at h) = rw (at, h)

  -- The readers of items and of sequences with d parentheses allowed, and what they come to.
  abbrev pub one : ℕ → ℕ → ℕ → Part
  one d a g = sequence_go s (item_at d s) (suc (length s)) [] a g

  record SequenceComes (d a g fuel b h : ℕ) (l : List Node) : Type 0 where
    left : ℕ
    same : sequence_go s (item_at d s) fuel [] a g ≡ sequence_go s (item_at d s) left l b h
    enough : a + fuel ≤ b + left

  -- Behind alternatives: another one, behind a bar, or none.
  abbrev pub goes : ℕ → ℕ → List Node → ℕ → ℕ → Part
  goes d left l b h =
      choose (eqb (byte_at s b) bar) (λ _. alternatives_go s (one d) left l (b + 1) h) (λ _. part (join Kind.alternation l) b h)

  record AlternativesCome (d a g fuel b h : ℕ) (l : List Node) : Type 0 where
    left : ℕ
    same : alternatives_go s (one d) fuel [] a g ≡ goes d left l b h
    enough : a + fuel ≤ b + 1 + left

  -- What each sort of rule is read as.
  abbrev Reads : Sort → ℕ → ℕ → ℕ → ℕ → ℕ → List Node → Type 0
  Reads alternatives d a b g h l = ends_sequence (byte_at s b) ≡ true → (fuel : ℕ) → b < a + fuel
      → AlternativesCome d a g fuel b h l
  Reads sequence d a b g h l = (fuel : ℕ) → b ≤ a + fuel → SequenceComes d a g fuel b h l
  Reads item d a b g h l = item_at d s a g ≡ part (join Kind.sequence l) b h
  Reads atom d a b g h l = item_at d s a g ≡ quantified (quantifier_at s b) (join Kind.sequence l) b h

  -- A sequence that ends is read.
  sequence_ends : (d a b g h : ℕ) (l : List Node) → ((fuel : ℕ) → b ≤ a + fuel → SequenceComes d a g fuel b h l)
      → ends_sequence (byte_at s b) ≡ true → b ≤ length s → one d a g ≡ part (join Kind.sequence l) b h
  unfolding sequence_go
  sequence_ends d a b g h l f e w = go (f (suc (length s)) (omega arith))
    where
      stops : (left : ℕ) → a + suc (length s) ≤ b + left → sequence_go s (item_at d s) left l b h ≡ part (join Kind.sequence l) b h
      stops zero q = absurd (omega arith)
      stops (suc left) q = rw e

      go : SequenceComes d a g (suc (length s)) b h l → one d a g ≡ part (join Kind.sequence l) b h
      go c = c.same ∙ stops c.left c.enough

  -- Alternatives that no bar follows are read.
  alternatives_end : (d a b g h : ℕ) (l : List Node) → ((fuel : ℕ) → b < a + fuel → AlternativesCome d a g fuel b h l)
      → eqb (byte_at s b) bar ≡ false → b ≤ length s → alternatives_at d s a g ≡ part (join Kind.alternation l) b h
  alternatives_end d a b g h l f e w = (f (suc (length s)) (omega arith)).same ∙ rw e

  -- One alternative more, which ends where a sequence may.
  one_more : (d a g fuel a' h b i : ℕ) (l m : List Node)
      → (left : ℕ) → alternatives_go s (one d) fuel [] a g ≡ alternatives_go s (one d) left l a' h → a + fuel ≤ a' + left → a' ≤ b
      → b < a + fuel
      → one d a' h ≡ part (join Kind.sequence m) b i
      → AlternativesCome d a g fuel b i (l ++ parts Kind.alternation (join Kind.sequence m))
  unfolding alternatives_go
  one_more d a g fuel a' h b i l m zero p q k k' e = absurd (omega arith)
  one_more d a g fuel a' h b i l m (suc left) p q k k' e = record { left = left; same = p ∙ rw e; enough = omega arith }

  -- One item more.
  item_more : (d a g fuel b h c i : ℕ) (l : List Node) (r : Node) (left : ℕ)
      → sequence_go s (item_at d s) fuel [] a g ≡ sequence_go s (item_at d s) left l b h → a + fuel ≤ b + left → b < c → c ≤ a + fuel
      → item_at d s b h ≡ part r c i → ends_sequence (byte_at s b) ≡ false
      → SequenceComes d a g fuel c i (l ++ parts Kind.sequence r)
  unfolding sequence_go
  item_more d a g fuel b h c i l r zero p q on k e f = absurd (omega arith)
  item_more d a g fuel b h c i l r (suc left) p q on k e f = record { left = left; same = p ∙ rw (f, e); enough = omega arith }

  pub any_depth : (d a g : ℕ) (p : Part) → ((paren : Opening → Part) → item_by paren s a g ≡ p) → item_at d s a g ≡ p
  unfolding item_at
  any_depth zero a g p f = f (too_deep a)
  any_depth (suc d) a g p f = f (opened s (alternatives_by (item_at d s) s) a g)

  -- What a `(` opens.
  group_complete : (d a b g h : ℕ) (l : List Node) → Is s a open_paren → (Is s (a + 1) question → ⊥) → g < group_limit
      → Is s b close_paren
      → alternatives_at d s (a + 1) (g + 1) ≡ part (join Kind.alternation l) b h
      → item_at (suc d) s a g ≡ quantified (quantifier_at s (b + 1)) (group (g + 1) (join Kind.alternation l)) (b + 1) h
  unfolding item_at item_by opening_at
  group_complete d a b g h l at n k c e =
      rw (at, ne_eqb (byte_at s (a + 1)) question n, lt-leb group_limit g k, e, eq-eqb (byte_at s b) close_paren c)

  plain_complete : (d a b g h : ℕ) (l : List Node) → Is s a open_paren → Is s (a + 1) question → Is s (a + 2) colon
      → Is s b close_paren
      → alternatives_at d s (a + 3) g ≡ part (join Kind.alternation l) b h
      → item_at (suc d) s a g ≡ quantified (quantifier_at s (b + 1)) (join Kind.alternation l) (b + 1) h
  unfolding item_at item_by opening_at
  plain_complete d a b g h l at q k c e = rw (at, q, k, e, eq-eqb (byte_at s b) close_paren c)

  pub shut : (b c : ℕ) → Is s b c → ends_sequence c ≡ true → ends_sequence (byte_at s b) ≡ true
  shut b c h e = ap ends_sequence h ∙ e

  -- Every rule is read as it says.
  reads : {t : Sort} {d a b g h : ℕ} {l : List Node} → Rule s t d a b g h l → b ≤ length s → Reads t d a b g h l
  reads (first {d = d} {a = a} {b = b} {g = g} {h = h} {l = l} u) w = λ e fuel k.
      one_more d a g fuel a g b h [] l fuel refl (omega arith) (rule_on s u) k (sequence_ends d a b g h l (reads u w) e w)
  reads (next {d = d} {a = a} {b = b} {c = c} {g = g} {h = h} {i = i} {l = l} {m = m} u at v) w = λ e fuel k.
      let on : b + 1 ≤ c = rule_on s v in
      let come : AlternativesCome d a g fuel b h l = reads u (omega arith) (shut b bar at refl) fuel (omega arith) in
      one_more d a g fuel (b + 1) h c i l m come.left (come.same ∙ rw at) come.enough on k
      (sequence_ends d (b + 1) c h i m (reads v w) e w)
  reads nothing w = λ fuel k. record { left = fuel; same = refl; enough = omega arith }
  reads (more {d = d} {a = a} {b = b} {c = c} {g = g} {h = h} {i = i} {l = l} {r = r} u x) w = λ fuel k.
      let on : b < c = rule_on s x in
      let come : SequenceComes d a g fuel b h l = reads u (omega arith) fuel (omega arith) in
      item_more d a g fuel b h c i l r come.left come.same come.enough on k (reads x w) (rule_begins s x)
  reads (assertion {d = d} {a = a} {b = b} {g = g} {k = k} u) w
      = any_depth d a g (part (assert k) b g) (λ paren. assertion_complete paren g u)
  reads (once {b = b} u e) w = reads u w ∙ rw (once_complete s b e)
  reads (repeated u q) w = reads u (omega (arith, quantified_on s q)) ∙ rw (quantifier_complete s q)
  reads (bytes {d = d} {a = a} {b = b} {g = g} {set = set} u) w
      = any_depth d a g (set_item s set b g) (λ paren. set_complete_item paren g u w)
  reads (grouped {d = d} {a = a} {b = b} {g = g} {h = h} {l = l} at n k u c) w =
      group_complete d a b g h l at n k c
      (alternatives_end d (a + 1) b (g + 1) h l (reads u (omega arith) (shut b close_paren c refl)) (ap (λ x. eqb x bar) c)
      (omega arith))
  reads (plain {d = d} {a = a} {b = b} {g = g} {h = h} {l = l} at q k u c) w =
      plain_complete d a b g h l at q k c
      (alternatives_end d (a + 3) b g h l (reads u (omega arith) (shut b close_paren c refl)) (ap (λ x. eqb x bar) c)
      (omega arith))

  -- So an item is read, and an atom up to its quantifier, and alternatives that end.
  pub item_read : {d a b g h : ℕ} {r : Node} → Rule s item d a b g h (r ∷ []) → b ≤ length s → item_at d s a g ≡ part r b h
  item_read t w = reads t w

  pub atom_read : {d a b g h : ℕ} {r : Node} → Rule s atom d a b g h (r ∷ []) → b ≤ length s
      → item_at d s a g ≡ quantified (quantifier_at s b) r b h
  atom_read t w = reads t w

  pub all_read : {d a b g h : ℕ} {l : List Node} → Rule s alternatives d a b g h l → ends_sequence (byte_at s b) ≡ true
      → eqb (byte_at s b) bar ≡ false → b ≤ length s → alternatives_at d s a g ≡ part (join Kind.alternation l) b h
  all_read {d} {a} {b} {g} {h} {l} t e n w = alternatives_end d a b g h l (reads t w e) n w
