-- What the reader of classes reads derives.
use Rattle.std.specs.Prelude.{◌≡◌, Bool, false, cond, not, ◌&&◌, eqb, leb, length, get_or}
use Rattle.std.proofs.Math.Path.{refl}
use Rattle.std.proofs.Common.{sym, subst, ◌∙◌, arith}
use Rattle.std.proofs.Math.Bool.{true}
use Rattle.std.proofs.lemmas.Bool.{false≢true}
use Rattle.std.proofs.Math.Option.{none}
use mathlib.Core.List.{List}
use Prim.Native.Nat.{ℕ, zero, suc, ◌+◌, ◌≤◌, ◌<◌}
use borrow.Author.Tests.{eqb-true, eqb-false, leb-true, leb-false, not-true, eq-eqb, ne_eqb}
use Rattle.sets.specs.Sets.{set_of, in_escape}
use Rattle.meaning.specs.Tests.{and_true, by_test}
use Rattle.reading_atoms.specs.Chars.{no_byte, byte_at, choose, caret, backslash, open_bracket, close_bracket, hyphen}
use Rattle.reading_atoms.specs.Escapes.{Escape, Escape.byte, Escape.named, Escape.assertion, Escape.wrong, escape_at}
use Rattle.reading_atoms.specs.Classes.{ClassAtom, ClassAtom.one, ClassAtom.several, ClassAtom.bad, escaped, class_atom, Class}
use Rattle.reading_atoms.specs.Classes.{Class.holds, Class.broken, added, ranged, begins_range, class_item, class_set, further}
use Rattle.reading_atoms.specs.Classes.{class_go}
use Rattle.reading_atoms.specs.Classes.{class_at}
use Rattle.reading_grammar.specs.Atoms.{Is, EscapedSet, ByteAtom, Dash, ClassItems}
use Rattle.reading_grammar.specs.Atoms as grammar
use Rattle.reading_grammar.specs.AtomsSound.{Means, escape_sound}
use Rattle.reading_grammar.specs.WrongEscapes.{wrong_escape}
use Rattle.reading_grammar.specs.Within.{items_within, opens_within, atom_first, at_end}
use Rattle.reading_grammar.specs.Refusals.{Due, ClassOpens, ClassDue, End, BadRange, WrongEscape, Refuses}

-- A choice, by what the test says.
pub by_choice : {A : Type 0} (P : A → Type 0) (d : Bool) (x y : Unit {0} → A) → (d ≡ true → P (x tt)) → (d ≡ false → P (y tt))
    → P (choose d x y)
by_choice P true x y h k = h refl
by_choice P false x y h k = k refl

module _ (s : List ℕ) where
  -- A class atom that was read.
  abbrev AtomMeans : ℕ → ClassAtom → Type 0
  AtomMeans a (one v end) = ByteAtom s a end v
  AtomMeans a (several k end) = EscapedSet s a k × (end ≡ a + 2)
  AtomMeans a (bad number place) = (place ≡ a) × WrongEscape s true a number

  escaped_means : (a : ℕ) → Is s a backslash → (x : Escape) → escape_at true s a ≡ x → Means true s a x
      → AtomMeans a (escaped a x)
  escaped_means a at (byte b end) e h = ByteAtom.escaped h
  escaped_means a at (named k) e h = (h, refl)
  escaped_means a at (assertion k) e h = absurd (false≢true (sym h.0))
  escaped_means a at (wrong number) e h = (refl, wrong_escape true s a at number e)

  atom_sound : (a : ℕ) → (byte_at s a ≡ no_byte → ⊥) → (byte_at s a ≡ close_bracket → ⊥) → AtomMeans a (class_atom s a)
  unfolding class_atom
  atom_sound a there more = by_test (AtomMeans a) (eqb (byte_at s a) backslash)
      (λ e. let at : Is s a backslash = eqb-true (byte_at s a) backslash e in
      escaped_means a at (escape_at true s a) refl (escape_sound true s a at))
      (λ e. ByteAtom.plain refl there (λ x. eqb-false (byte_at s a) backslash e x) more)

  -- Whether an atom begins a range, as the reader tests it.
  pub no_dash : (e : ℕ) → begins_range s e ≡ false → Dash s e → ⊥
  no_dash e f (h, g, n) =
      let t : begins_range s e ≡ true
      = rw (eq-eqb (byte_at s e) hyphen h, ne_eqb (byte_at s (e + 1)) close_bracket g, ne_eqb (byte_at s (e + 1)) no_byte n) in
      false≢true (sym f ∙ t)

  pub dash : (e : ℕ) → begins_range s e ≡ true → Dash s e
  dash e f =
      let h = eqb (byte_at s e) hyphen in
      let c = eqb (byte_at s (e + 1)) close_bracket in
      let n = eqb (byte_at s (e + 1)) no_byte in
      let (u, y) = and_true (h && not c) (not n) f in
      let (v, x) = and_true h (not c) u in (
        eqb-true (byte_at s e) hyphen v,
        λ p. eqb-false (byte_at s (e + 1)) close_bracket (not-true c x) p,
        λ p. eqb-false
            (byte_at s (e + 1)) no_byte (not-true n y) p,
      )

  module _ (low : (i : ℕ) → i < length s → get_or s i 0 ≤ 0x7F) (d g o a0 : ℕ) (due : Due s d o g)
      (opens : ClassOpens s o a0) where
    -- A set that was read so far, from a place on; or why it was refused.
    abbrev Holds : ℕ → Class → Type 0
    Holds a (holds set end) = ClassItems s a0 end set × (a < end)
    Holds a (broken number place) = Refuses s number place

    at_item : {a : ℕ} {set : List ℕ} → ClassItems s a0 a set → ClassDue s a
    at_item {a} {set} t = record { d = d; g = g; opening = o; first = a0; set = set; due = due; opens = opens; items = t }

    -- Where an atom ends.
    abbrev Ends-at : ClassAtom → ℕ → Type 0
    Ends-at (one v c) e = c ≡ e
    Ends-at (several k c) e = c ≡ e
    Ends-at (bad number place) e = Unit {0}

    set_end : (a e k c : ℕ) → EscapedSet s a k × (c ≡ a + 2) → c ≡ e → End s a e none
    set_end a e k c (f, q) j = subst (λ (z : ℕ). End s a z none) (sym q ∙ j) (End.set f)

    -- A range, once both ends are read.
    range_sound : (set : List ℕ) (a e : ℕ) (x y : ClassAtom) → ClassItems s a0 a set → AtomMeans a x → AtomMeans (e + 1) y
        → Dash s e
        → Ends-at x e → Holds a (ranged set a x y)
    range_sound set a e (one u c) (one v q) h f g' i j =
        let f' : ByteAtom s a e u = subst (λ (z : ℕ). ByteAtom s a z u) j f in
        by_test (Holds a) (leb u v)
        (λ t. (ClassItems.range h f' i.0 g' (leb-true u v t), omega (arith, (atom_first s f').2, (atom_first s g').2)))
        (λ t. Refuses.bad_range (at_item h) (End.byte f') i (End.byte g') (BadRange.reversed (leb-false u v t)))
    range_sound set a e (one u c) (several k q) h f g' i j =
        Refuses.bad_range (at_item h) (End.byte (subst (λ (z : ℕ). ByteAtom s a z u) j f)) i (End.set g'.0) BadRange.right
    range_sound set a e (one u c) (bad number place) h f g' i j =
        subst (Refuses s number) (sym g'.0) (Refuses.range_escape (at_item h)
        (End.byte (subst (λ (z : ℕ). ByteAtom s a z u) j f)) i g'.1)
    range_sound set a e (several k c) (one v q) h f g' i j =
        Refuses.bad_range (at_item h) (set_end a e k c f j) i (End.byte g') BadRange.left
    range_sound set a e (several k c) (several l q) h f g' i j =
        Refuses.bad_range (at_item h) (set_end a e k c f j) i (End.set g'.0) BadRange.left
    range_sound set a e (several k c) (bad number place) h f g' i j =
        subst (Refuses s number) (sym g'.0) (Refuses.range_escape (at_item h) (set_end a e k c f j) i g'.1)
    range_sound set a e (bad number place) y h f g' i j
        = subst (Refuses s number) (sym f.0) (Refuses.class_escape (at_item h) f.1)

    item_sound : (set : List ℕ) (a : ℕ) (x : ClassAtom) → ClassItems s a0 a set → AtomMeans a x → Holds a (class_item s set a x)
    item_sound set a (one v e) h f =
        by_choice (Holds a) (begins_range s e) _ _
        (λ t. let i : Dash s e = dash e t in
        range_sound set a e (one v e) (class_atom s (e + 1)) h f (atom_sound (e + 1) i.2 i.1) i refl)
        (λ t. (ClassItems.single h f (no_dash e t), (atom_first s f).2))
    item_sound set a (several k e) h (f, q) =
        by_choice (Holds a) (begins_range s e) _ _
        (λ t. let i : Dash s e = dash e t in
        range_sound set a e (several k e) (class_atom s (e + 1)) h (f, q) (atom_sound (e + 1) i.2 i.1) i refl)
        (λ t. (
          subst (λ (z : ℕ). ClassItems s a0 z (added set (in_escape k))) (sym q)
              (ClassItems.several h f (λ d'. no_dash e t (subst (Dash s) (sym q) d'))),
          omega arith,
        ))
    item_sound set a (bad number place) h f = subst (Refuses s number) (sym f.0) (Refuses.class_escape (at_item h) f.1)

    -- A class up to its `]`.
    pub record Closed (negated : Bool) (set : List ℕ) (end : ℕ) : Type 0 where
      pub inner : List ℕ
      pub last : ℕ
      pub items : ClassItems s a0 last inner
      pub close : Is s last close_bracket
      pub stop : end ≡ last + 1
      pub same : set ≡ class_set negated inner

    abbrev Ends : Bool → Class → Type 0
    Ends negated (holds set end) = Closed negated set end
    Ends negated (broken number place) = Refuses s number place

    go_sound : (negated : Bool) (fuel : ℕ) (set : List ℕ) (a : ℕ) → ClassItems s a0 a set → length s < a + fuel
        → Ends negated (class_go s negated fuel set a)
    unfolding class_go
    go_sound negated zero set a h k = absurd (omega (arith, items_within s h (opens_within s opens)))
    go_sound negated (suc fuel) set a h k =
        by_choice (Ends negated) (eqb (byte_at s a) no_byte) _ _
        (λ e. Refuses.unclosed_class (at_item h) (at_end s low a (eqb-true (byte_at s a) no_byte e)
        (items_within s h (opens_within s opens)))) (λ e₁.
        by_choice (Ends negated) (eqb (byte_at s a) close_bracket) _ _
        (λ e. record {
          inner = set;
          last = a;
          items = h;
          close = eqb-true
              (byte_at s a) close_bracket e;
          stop = refl;
          same = refl;
        })
        (λ e₂. onward (class_item s set a (class_atom s a))
        (item_sound set a (class_atom s a) h (atom_sound a (λ x. eqb-false (byte_at s a) no_byte e₁ x)
        (λ x. eqb-false (byte_at s a) close_bracket e₂ x)))
        (λ set' a' h' l. go_sound negated fuel set' a' h' (omega arith))))
      where
        onward : (c : Class) → Holds a c
            → ((set' : List ℕ) (a' : ℕ) → ClassItems s a0 a' set' → a < a' → Ends negated (class_go s negated fuel set' a'))
            → Ends negated (further c (λ set' a'. class_go s negated fuel set' a'))
        onward (holds set' a') h' k' = k' set' a' h'.0 h'.1
        onward (broken number place) h' k' = h'

  -- A class that was read, or why it was refused.
  abbrev pub ClassMeans : ℕ → Class → Type 0
  ClassMeans a (holds set end) = grammar.Class s a end set
  ClassMeans a (broken number place) = Refuses s number place

  pub class_sound : ((i : ℕ) → i < length s → get_or s i 0 ≤ 0x7F) → (d a g : ℕ) → Due s d a g → Is s a open_bracket
      → ClassMeans a (class_at s a)
  unfolding class_at
  class_sound low d a g due at = go (eqb (byte_at s (a + 1)) caret) refl
    where
      made : (negated : Bool) (a0 : ℕ) (opens : ClassOpens s a a0) (c : Class) → Ends low d g a a0 due opens negated c
          → ((set : List ℕ) (b : ℕ) → ClassItems s a0 b set → Is s b close_bracket
          → grammar.Class s a (b + 1) (class_set negated set))
          → ClassMeans a c
      made negated a0 opens (holds set end) h k =
          rw (h.stop, h.same) (k h.inner h.last h.items h.close)
      made negated a0 opens (broken number place) h k = h

      from : (negated : Bool) (a0 : ℕ) (opens : ClassOpens s a a0)
          → Ends low d g a a0 due opens negated (class_go s negated (suc (length s)) (set_of (λ x. false)) a0)
      from negated a0 opens = go_sound low d g a a0 due opens negated (suc (length s))
          (set_of (λ x. false)) a0 ClassItems.nothing (omega arith)

      go : (t : Bool) → eqb (byte_at s (a + 1)) caret ≡ t
          → ClassMeans a (class_go s t (suc (length s)) (set_of (λ x. false)) (cond t (a + 2) (a + 1)))
      go true e =
          let c : Is s (a + 1) caret = eqb-true (byte_at s (a + 1)) caret e in
          let opens : ClassOpens s a (a + 2) = ClassOpens.lacking at c in
          made true (a + 2) opens (class_go s true (suc (length s)) (set_of (λ x. false)) (a + 2)) (from true (a + 2) opens)
          (λ set b i c'. grammar.Class.lacking at c i c')
      go false e =
          let c : Is s (a + 1) caret → ⊥ = λ x. eqb-false (byte_at s (a + 1)) caret e x in
          let opens : ClassOpens s a (a + 1) = ClassOpens.holding at c in
          made false (a + 1) opens (class_go s false (suc (length s)) (set_of (λ x. false)) (a + 1)) (from false (a + 1) opens)
          (λ set b i c'. grammar.Class.holding at c i c')
