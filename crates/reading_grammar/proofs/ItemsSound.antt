-- What the readers of items, sequences and alternatives read derives, and what they refuse is so by the table's words.
use Rattle.std.specs.Prelude.{◌≡◌, ◌⊎◌, Bool, true, false, cond, ◌||◌, leb, length, get_or}
use Rattle.std.proofs.Math.Path.{refl}
use Rattle.std.proofs.Common.{sym, subst, subst₂, inl, inr, arith}
use Rattle.std.proofs.Math.Bool.{or-false}
use mathlib.Core.List.{List, [], ◌∷◌, ◌++◌}
use Prim.Native.Nat.{ℕ, zero, suc, ◌+◌, ◌≤◌, ◌<◌}
use Rattle.std.proofs.Math.Dec.{eqb}
use borrow.Author.Tests.{eqb-true, eqb-false, leb-true, leb-false}
use Rattle.sets.specs.Sets.{set_of, in_escape}
use Rattle.meaning.specs.Limits.{depth_limit, group_limit}
use Rattle.meaning.specs.Tests.{by_test}
use Rattle.meaning.specs.Node.{Node, Node.bset, Node.group}
use Rattle.meaning.specs.Flat.{Kind.sequence, Kind.alternation, parts, join}
use Rattle.meaning.specs.Refusals as No
use Rattle.reading_atoms.specs.Chars.{no_byte, byte_at, choose, caret, dollar, backslash, dot, open_paren, close_paren, open_bracket}
use Rattle.reading_atoms.specs.Chars.{close_bracket, close_brace, bar, is_quantifier, ends_sequence}
use Rattle.reading_atoms.specs.Escapes.{Escape, Escape.byte, Escape.named, Escape.assertion, Escape.wrong, escape_at}
use Rattle.reading_atoms.specs.Classes.{Class, Class.holds, Class.broken, class_at}
use Rattle.reading_atoms.specs.Braces.{Quantifier, Quantifier.once, Quantifier.repeated, Quantifier.miscounted, quantifier_at}
use Rattle.reading_items.specs.Reading.{Part, Part.part, Part.turned, and_then, quantified, set_item, escape_item, class_part}
use Rattle.reading_items.specs.Reading.{literal_set}
use Rattle.reading_items.specs.Reading.{dot_set, Opening, Opening.capturing, Opening.plain, Opening.neither, opening_at, too_deep}
use Rattle.reading_items.specs.Reading.{closed}
use Rattle.reading_items.specs.Reading.{opened, item_by, sequence_go, alternatives_go, alternatives_by, item_at, alternatives_at}
use Rattle.reading_grammar.specs.Atoms.{Is}
use Rattle.reading_grammar.specs.AtomsSound.{Means, escape_sound, not_both}
use Rattle.reading_grammar.specs.ClassesSound.{ClassMeans, class_sound}
use Rattle.reading_grammar.specs.CountsSound.{QuantifierMeans, quantifier_sound}
use Rattle.reading_grammar.specs.WrongEscapes.{wrong_escape}
use Rattle.reading_grammar.specs.Openings.{OpeningMeans, opening_sound}
use Rattle.reading_grammar.specs.Within.{due_within, due_deep, at_end}
use Rattle.reading_grammar.specs.Forwards.{item_on, sequence_on}
use Rattle.reading_grammar.specs.Refusals.{Due, Due.plain, Inside, Refuses}
use Rattle.reading_grammar.specs.Grammar.{special, Assertion, SetAtom, Sort, Rule}

module _ (s : List ℕ) (low : (i : ℕ) → i < length s → get_or s i 0 ≤ 0x7F) where
  -- What holds of a part that was read, or why it was refused.
  abbrev pub Told : (Node → ℕ → ℕ → Type 0) → Part → Type 0
  Told P (part r b h) = P r b h
  Told P (turned number place) = Refuses s number place

  told_then : (P Q : Node → ℕ → ℕ → Type 0) (p : Part) (f : Node → ℕ → ℕ → Part)
      → Told P p → ((r : Node) (b h : ℕ) → P r b h → Told Q (f r b h)) → Told Q (and_then p f)
  told_then P Q (part r b h) f t k = k r b h t
  told_then P Q (turned number place) f t k = t

  told_choose : (P : Node → ℕ → ℕ → Type 0) (t : Bool) (x y : Unit {0} → Part)
      → (t ≡ true → Told P (x tt)) → (t ≡ false → Told P (y tt)) → Told P (choose t x y)
  told_choose P true x y h k = h refl
  told_choose P false x y h k = k refl

  -- An item that was read from a place on derives.
  abbrev Items : ℕ → ℕ → ℕ → Node → ℕ → ℕ → Type 0
  Items d a g r b h = Rule s Sort.item d a b g h (r ∷ [])

  -- A sequence that was read derives, and ends where an item would be due; so do alternatives, where no bar follows.
  pub record Sequences (d a g : ℕ) (r : Node) (b h : ℕ) : Type 0 where
    pub list : List Node
    pub rule : Rule s Sort.sequence d a b g h list
    pub same : join sequence list ≡ r
    pub due : Due s d b h
    pub ends : ends_sequence (byte_at s b) ≡ true

  pub record All (d a g : ℕ) (r : Node) (b h : ℕ) : Type 0 where
    pub list : List Node
    pub rule : Rule s Sort.alternatives d a b g h list
    pub same : join alternation list ≡ r
    pub due : Due s d b h
    pub ends : ends_sequence (byte_at s b) ≡ true
    pub last : eqb (byte_at s b) bar ≡ false

  quantified_sound : (d a b g h : ℕ) (r : Node) → Due s d a g → Rule s Sort.atom d a b g h (r ∷ [])
      → Told (Items d a g) (quantified (quantifier_at s b) r b h)
  quantified_sound d a b g h r due t =
      go (quantifier_at s b) (quantifier_sound s b (record { d = d; a = a; g = g; h = h; r = r; due = due; before = t }))
    where
      go : (q : Quantifier) → QuantifierMeans s b q → Told (Items d a g) (quantified q r b h)
      go once m = Rule.once t m
      go (repeated n e lazy c) m = Rule.repeated t m
      go (miscounted number place) m = subst (Refuses s number) (sym m.0) m.1

  set_sound : (d a b g : ℕ) (set : List ℕ) → Due s d a g → SetAtom s a b set → Told (Items d a g) (set_item s set b g)
  set_sound d a b g set due t = quantified_sound d a b g g (bset set) due (Rule.bytes t)

  escape_item_lem : (d a g : ℕ) → Due s d a g → Is s a backslash → Told (Items d a g) (escape_item s a g (escape_at false s a))
  escape_item_lem d a g due at = go (escape_at false s a) refl (escape_sound false s a at)
    where
      go : (x : Escape) → escape_at false s a ≡ x → Means false s a x → Told (Items d a g) (escape_item s a g x)
      go (byte b end) e m = set_sound d a end g (literal_set b) due (SetAtom.escape m)
      go (named k) e m = set_sound d a (a + 2) g (set_of (in_escape k)) due (SetAtom.named m)
      go (assertion k) e (f, inl (p, h)) = Rule.assertion (subst (Assertion s a (a + 2)) (sym p) (Assertion.edge at h))
      go (assertion k) e (f, inr (p, h)) = Rule.assertion (subst (Assertion s a (a + 2)) (sym p) (Assertion.inner at h))
      go (wrong number) e m = Refuses.escape due (wrong_escape false s a at number e)

  class_item_lem : (d a g : ℕ) → Due s d a g → Is s a open_bracket → Told (Items d a g) (class_part s g (class_at s a))
  class_item_lem d a g due at = go (class_at s a) (class_sound s low d a g due at)
    where
      go : (c : Class) → ClassMeans s a c → Told (Items d a g) (class_part s g c)
      go (holds set end) m = set_sound d a end g set due (SetAtom.class m)
      go (broken number place) m = m

  strays : (a : ℕ) (x : Bool) → eqb (byte_at s a) close_bracket ≡ x → (x || eqb (byte_at s a) close_brace) ≡ true
      → Is s a close_bracket ⊎ Is s a close_brace
  strays a true e h = inl (eqb-true (byte_at s a) close_bracket e)
  strays a false e h = inr (eqb-true (byte_at s a) close_brace h)

  item_by_lem : (d a g : ℕ) (paren : Opening → Part) → Due s d a g → ends_sequence (byte_at s a) ≡ false
      → (Is s a open_paren → Told (Items d a g) (paren (opening_at s a))) → Told (Items d a g) (item_by paren s a g)
  unfolding item_by special
  item_by_lem d a g paren due more inside =
      let b : ℕ = byte_at s a in
      let P = Items d a g in
      told_choose P (eqb b open_paren) _ _ (λ e. inside (eqb-true b open_paren e)) (λ e₁.
      told_choose P (eqb b open_bracket) _ _ (λ e. class_item_lem d a g due (eqb-true b open_bracket e)) (λ e₂.
      told_choose P (eqb b backslash) _ _ (λ e. escape_item_lem d a g due (eqb-true b backslash e)) (λ e₃.
      told_choose P (eqb b dot) _ _ (λ e. set_sound d a (a + 1) g dot_set due (SetAtom.dots (eqb-true b dot e))) (λ e₄.
      told_choose P (eqb b caret) _ _ (λ e. Rule.assertion (Assertion.begins (eqb-true b caret e))) (λ e₅.
      told_choose P (eqb b dollar) _ _ (λ e. Rule.assertion (Assertion.ends (eqb-true b dollar e))) (λ e₆.
      told_choose P (is_quantifier b) _ _ (λ e. Refuses.nothing due e) (λ e₇.
      told_choose P (eqb b close_bracket || eqb b close_brace) _ _ (λ e. Refuses.stray due (strays a (eqb b close_bracket) refl e))
      (λ e₈.
      let (n, c) = not_both (eqb b no_byte || eqb b bar) (eqb b close_paren) more in
      let (n', v) = not_both (eqb b no_byte) (eqb b bar) n in
      let (x, y) = not_both (eqb b close_bracket) (eqb b close_brace) e₈ in
      set_sound d a (a + 1) g (literal_set b) due
      (SetAtom.literal refl (λ z. eqb-false b no_byte n' z) (rw (e₅, e₆, e₃, e₄, e₇, e₁, c, e₂, x, y, v)))))))))))

  module _ (d : ℕ) (item : ℕ → ℕ → Part)
      (Item-ok : (a g : ℕ) → Due s d a g → ends_sequence (byte_at s a) ≡ false → Told (Items d a g) (item a g)) where
    sequence_sound : (fuel : ℕ) (l : List Node) (a0 a g0 g : ℕ) → Rule s Sort.sequence d a0 a g0 g l → Due s d a g
        → length s < a + fuel
        → Told (Sequences d a0 g0) (sequence_go s item fuel l a g)
    unfolding sequence_go
    sequence_sound zero l a0 a g0 g t due k = absurd (omega (arith, due_within s due))
    sequence_sound (suc fuel) l a0 a g0 g t due k =
        told_choose (Sequences d a0 g0) (ends_sequence (byte_at s a)) _ _
        (λ e. record { list = l; rule = t; same = refl; due = due; ends = e }) (λ e.
        told_then (Items d a g) (Sequences d a0 g0) (item a g) _ (Item-ok a g due e)
        (λ r b g' i. let on : a < b = item_on s i in
        sequence_sound fuel (l ++ parts sequence r) a0 b g0 g' (Rule.more t i) (Due.behind due i) (omega arith)))

    abbrev one : ℕ → ℕ → Part
    one a g = sequence_go s item (suc (length s)) [] a g

    -- One more alternative: the first, or one behind a bar.
    abbrev SoFar : ℕ → ℕ → List Node → ℕ → ℕ → Type 0
    SoFar a0 g0 l a g = ((l ≡ []) × (a ≡ a0) × (g ≡ g0)) ⊎
        ((b : ℕ) × Rule s Sort.alternatives d a0 b g0 g l × Is s b bar × (a ≡ b + 1))

    joins : (a0 g0 : ℕ) (l : List Node) (a g : ℕ) (r : Node) (b h : ℕ) → SoFar a0 g0 l a g → Sequences d a g r b h
        → Rule s Sort.alternatives d a0 b g0 h (l ++ parts alternation r)
    joins a0 g0 l a g r b h (inl (e, p, q)) t = rw (e, ← t.same, ← p, ← q) (Rule.first t.rule)
    joins a0 g0 l a g r b h (inr (c, f, line, p)) t =
        rw (← t.same) (Rule.next f line (subst (λ (x : ℕ). Rule s Sort.sequence d x b g h t.list) p t.rule))

    alternatives_sound : (fuel : ℕ) (l : List Node) (a0 a g0 g : ℕ) → SoFar a0 g0 l a g → Due s d a g → length s < a + fuel
        → Told (All d a0 g0) (alternatives_go s one fuel l a g)
    unfolding alternatives_go
    alternatives_sound zero l a0 a g0 g h due k = absurd (omega (arith, due_within s due))
    alternatives_sound (suc fuel) l a0 a g0 g h due k =
        told_then (Sequences d a g) (All d a0 g0) (one a g) _
        (sequence_sound (suc (length s)) [] a a g g Rule.nothing due (omega arith))
        (λ r b g' t. let all : Rule s Sort.alternatives d a0 b g0 g' (l ++ parts alternation r) = joins a0 g0 l a g r b g' h t in
        let on : a ≤ b = sequence_on s t.rule in
        told_choose (All d a0 g0) (eqb (byte_at s b) bar) _ _
        (λ e. let at : Is s b bar = eqb-true (byte_at s b) bar e in
        alternatives_sound fuel (l ++ parts alternation r) a0 (b + 1) g0 g' (inr (b, all, at, refl)) (Due.bars t.due at)
        (omega arith))
        (λ e. record { list = l ++ parts alternation r; rule = all; same = refl; due = t.due; ends = t.ends; last = e }))

    alternatives_by_lem : (a g : ℕ) → Due s d a g → Told (All d a g) (alternatives_by item s a g)
    alternatives_by_lem a g due = alternatives_sound (suc (length s)) [] a a g g (inl (refl, refl, refl)) due (omega arith)

  -- Behind alternatives that neither a bar nor a ) follows, the pattern ends.
  pub open_end : {d a g : ℕ} {r : Node} {b h : ℕ} → All d a g r b h → eqb (byte_at s b) close_paren ≡ false → b ≡ length s
  open_end {b = b} t e =
      let none-there : Bool = eqb (byte_at s b) no_byte in
      at_end s low b (eqb-true (byte_at s b) no_byte
      (rw (t.last, e, or-false (none-there || false), or-false none-there) at t.ends)) (due_within s t.due)

  -- What a `(` opens.
  closed_sound : (d a b g h : ℕ) (r : Node) → Due s (suc d) a g
      → (Is s b close_paren → Rule s Sort.atom (suc d) a (b + 1) g h (r ∷ []))
      → (eqb (byte_at s b) close_paren ≡ false → Refuses s No.unmatched b) → Told (Items (suc d) a g) (closed s r b h)
  closed_sound d a b g h r due t f = go (eqb (byte_at s b) close_paren) refl
    where
      go : (x : Bool) → eqb (byte_at s b) close_paren ≡ x
          → Told (Items (suc d) a g) (cond x (quantified (quantifier_at s (b + 1)) r (b + 1) h) (turned 11 b))
      go true e = quantified_sound (suc d) a (b + 1) g h r due (t (eqb-true (byte_at s b) close_paren e))
      go false e = f e

  opened_sound : (d : ℕ) (inside : ℕ → ℕ → Part) → ((a g : ℕ) → Due s d a g → Told (All d a g) (inside a g))
      → (a g : ℕ) → Due s (suc d) a g → Is s a open_paren → (o : Opening) → OpeningMeans s a o
      → Told (Items (suc d) a g) (opened s inside a g o)
  opened_sound d inside ok a g due at capturing m =
      told_choose (Items (suc d) a g) (leb group_limit g) _ _ (λ e. Refuses.full due at m (leb-true group_limit g e)) (λ e.
      let few : g < group_limit = leb-false group_limit g e in
      told_then (All d (a + 1) (g + 1)) (Items (suc d) a g) (inside (a + 1) (g + 1)) _
      (ok (a + 1) (g + 1) (Due.grouped due at m few))
      (λ r b h t. closed_sound d a b g h (group (g + 1) r) due (λ c. rw (← t.same) (Rule.grouped at m few t.rule c))
      (λ f. Refuses.unclosed (Inside.item t.due (omega (arith, due_deep due))) (open_end t f))))
  opened_sound d inside ok a g due at plain m =
      told_then (All d (a + 3) g) (Items (suc d) a g) (inside (a + 3) g) _ (ok (a + 3) g (Due.plain due at m.0 m.1))
      (λ r b h t. closed_sound d a b g h r due (λ c. rw (← t.same) (Rule.plain at m.0 m.1 t.rule c))
      (λ f. Refuses.unclosed (Inside.item t.due (omega (arith, due_deep due))) (open_end t f)))
  opened_sound d inside ok a g due at (neither number place) (q, inl (n, p, l)) =
      subst₂ (Refuses s) (sym n) (sym p) (Refuses.look due at q l)
  opened_sound d inside ok a g due at (neither number place) (q, inr (n, p, c, l)) =
      subst₂ (Refuses s) (sym n) (sym p) (Refuses.odd_group due at q c l)

  deep_sound : (a g : ℕ) → Due s zero a g → Is s a open_paren → (o : Opening) → OpeningMeans s a o
      → Told (Items zero a g) (too_deep a o)
  deep_sound a g due at capturing m = Refuses.deep due at
  deep_sound a g due at plain m = Refuses.deep due at
  deep_sound a g due at (neither number place) m
      = by_test (Told (Items zero a g)) (eqb place a) (λ e. here m (eqb-true place a e)) (λ e. Refuses.deep due at)
    where
      here : OpeningMeans s a (neither number place) → place ≡ a → Refuses s number a
      here (q, inl (n, p, l)) e = subst (λ (k : ℕ). Refuses s k a) (sym n) (Refuses.look due at q l)
      here (q, inr (n, p, c, l)) e = absurd (omega arith)

  item_sound : (d a g : ℕ) → Due s d a g → ends_sequence (byte_at s a) ≡ false → Told (Items d a g) (item_at d s a g)
  unfolding item_at
  item_sound zero a g due more = item_by_lem zero a g (too_deep a) due more
      (λ at. deep_sound a g due at (opening_at s a) (opening_sound s a))
  item_sound (suc d) a g due more =
      item_by_lem (suc d) a g (opened s (alternatives_by (item_at d s) s) a g) due more
      (λ at. opened_sound d (alternatives_by (item_at d s) s) (alternatives_by_lem d (item_at d s) (item_sound d)) a g due at
      (opening_at s a) (opening_sound s a))

  pub all_sound : Told (All depth_limit 0 0) (alternatives_at depth_limit s 0 0)
  all_sound = alternatives_by_lem depth_limit (item_at depth_limit s) (item_sound depth_limit) 0 0 Due.start
