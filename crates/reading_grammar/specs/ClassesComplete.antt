-- What derives as a class is read so.
use Rattle.std.proofs.Math.Path.{◌≡◌, sym}
use Rattle.std.specs.Prelude.{refl, Bool, List, length}
use Rattle.std.proofs.Common.{◌∙◌, arith}
use Rattle.std.proofs.Math.Bool.{true, false}
use Prim.Native.Nat.{ℕ, zero, suc, ◌+◌, ◌≤◌, ◌<◌}
use borrow.Author.Tests.{eq-eqb, ne_eqb, le-leb}
use Rattle.sets.specs.Sets.{set_of, between, in_escape}
use Rattle.reading_atoms.specs.Chars.{no_byte, byte_at, caret, backslash, close_bracket}
use Rattle.reading_atoms.specs.Classes.{ClassAtom.one, ClassAtom.several, class_atom, Class.holds, added, takes}
use Rattle.reading_atoms.specs.Classes.{begins_range}
use Rattle.reading_atoms.specs.Classes.{class_item, class_set, class_go, class_at}
use Rattle.reading_grammar.specs.Atoms.{Is, EscapedSet, ByteAtom, ByteAtom.plain, ByteAtom.escaped, Dash, ClassItems}
use Rattle.reading_grammar.specs.Atoms.{ClassItems.nothing, ClassItems.single, ClassItems.several, ClassItems.range}
use Rattle.reading_grammar.specs.EscapesComplete.{escaped_at, byte_complete, set_complete}
use Rattle.reading_grammar.specs.Within.{atom_first, set_first}
use Rattle.reading_grammar.specs.ClassesSound.{dash, no_dash}
use Rattle.reading_grammar.specs.Atoms as grammar

module _ (s : List ℕ) where
  pub byte_atom : {a c v : ℕ} → ByteAtom s a c v → class_atom s a ≡ one v c
  unfolding class_atom
  byte_atom (plain {b = b} h n k c) = rw (h, ne_eqb b backslash k)
  byte_atom (escaped {a = a} t) = rw (eq-eqb (byte_at s a) backslash (escaped_at t).0, byte_complete true s t)

  pub set_atom : {a k : ℕ} → EscapedSet s a k → class_atom s a ≡ several k (a + 2)
  unfolding class_atom
  set_atom {a} t = rw (eq-eqb (byte_at s a) backslash (set_first s t), set_complete true s t)

  begins_not : (e : ℕ) → (Dash s e → ⊥) → begins_range s e ≡ false
  begins_not e f = go (begins_range s e) refl
    where
      go : (t : Bool) → begins_range s e ≡ t → t ≡ false
      go true h = absurd (f (dash s e h))
      go false h = refl

  pub begins : (e : ℕ) → Dash s e → begins_range s e ≡ true
  begins e d = go (begins_range s e) refl
    where
      go : (t : Bool) → begins_range s e ≡ t → t ≡ true
      go true h = refl
      go false h = absurd (no_dash s e h d)

  -- The class reader, from its beginning on, comes to where the items end, with fuel left.
  pub record Comes (negated : Bool) (a0 fuel b : ℕ) (set : List ℕ) : Type 0 where
    pub left : ℕ
    pub same : class_go s negated fuel (set_of (λ x. false)) a0 ≡ class_go s negated left set b
    pub enough : a0 + fuel ≤ b + left

  step : (negated : Bool) (a0 fuel b c : ℕ) (set set' : List ℕ) (h : Comes negated a0 fuel b set) → b < c → c ≤ a0 + fuel
      → (byte_at s b ≡ no_byte → ⊥) → (byte_at s b ≡ close_bracket → ⊥) → class_item s set b (class_atom s b) ≡ holds set' c
      → Comes negated a0 fuel c set'
  unfolding class_go
  step negated a0 fuel b c set set' h l k n m e = go h.left h.same h.enough
    where
      go : (f : ℕ) → class_go s negated fuel (set_of (λ x. false)) a0 ≡ class_go s negated f set b → a0 + fuel ≤ b + f
          → Comes negated a0 fuel c set'
      go zero p q = absurd (omega arith)
      go (suc f) p q = record {
        left = f;
        same = p ∙ rw (ne_eqb (byte_at s b) no_byte n, ne_eqb (byte_at s b) close_bracket m, e);
        enough = omega arith;
      }

  pub items_complete : {a0 b : ℕ} {set : List ℕ} → ClassItems s a0 b set → (negated : Bool) (fuel : ℕ) → b ≤ a0 + fuel
      → Comes negated a0 fuel b set
  items_complete nothing negated fuel h = record { left = fuel; same = refl; enough = omega arith }
  items_complete (single {a = a0} {b = b} {c = c} {v = v} {set = set} t x d) negated fuel h =
      let (n, m, l) = atom_first s x in
      step negated a0 fuel b c set (added set (takes v)) (items_complete t negated fuel (omega arith)) l h n m
      (rw (byte_atom x, begins_not c d))
  items_complete (several {a = a0} {b = b} {k = k} {set = set} t x d) negated fuel h =
      let at : Is s b backslash = set_first s x in
      step negated a0 fuel b (b + 2) set (added set (in_escape k)) (items_complete t negated fuel (omega arith)) (omega arith) h
      (λ z. let y : ◌≡◌ {A = ℕ} backslash no_byte = sym at ∙ z in omega arith)
      (λ z. let y : ◌≡◌ {A = ℕ} backslash close_bracket = sym at ∙ z in omega arith)
      (rw (set_atom x, begins_not (b + 2) d))
  items_complete (range {a = a0} {b = b} {c = c} {e = e} {u = u} {v = v} {set = set} t x i y le) negated fuel h =
      let (n, m, l) = atom_first s x in
      let (n', m', l') = atom_first s y in
      step negated a0 fuel b e set (added set (between u v)) (items_complete t negated fuel (omega arith)) (omega arith) h n m
      (rw (byte_atom x, begins c (i, m', n'), byte_atom y, le-leb u v le))

  close_complete : (negated : Bool) (a0 b : ℕ) (set : List ℕ) → ClassItems s a0 b set → Is s b close_bracket → b < length s
      → class_go s negated (suc (length s)) (set_of (λ x. false)) a0 ≡ holds (class_set negated set) (b + 1)
  unfolding class_go
  close_complete negated a0 b set t c l =
      let h : Comes negated a0 (suc (length s)) b set = items_complete t negated (suc (length s)) (omega arith) in
      h.same ∙ go h.left h.enough
    where
      go : (f : ℕ) → a0 + suc (length s) ≤ b + f → class_go s negated f set b ≡ holds (class_set negated set) (b + 1)
      go zero q = absurd (omega arith)
      go (suc f) q = rw (
        ne_eqb (byte_at s b) no_byte
            (λ z. let y : ◌≡◌ {A = ℕ} close_bracket no_byte = sym c ∙ z in omega arith),
        eq-eqb (byte_at s b) close_bracket c,
      )

  pub class_complete : {a b : ℕ} {set : List ℕ} → grammar.Class s a b set → b ≤ length s → class_at s a ≡ holds set b
  unfolding class_at
  class_complete (grammar.Class.holding {a = a} {b = b} {set = set} at n t c) l =
      rw (ne_eqb (byte_at s (a + 1)) caret n) (close_complete false (a + 1) b set t c (omega arith))
  class_complete (grammar.Class.lacking {a = a} {b = b} {set = set} at n t c) l =
      rw (eq-eqb (byte_at s (a + 1)) caret n) (close_complete true (a + 2) b set t c (omega arith))

  -- How far the items of a class go.
  pub items_on : {a b : ℕ} {set : List ℕ} → ClassItems s a b set → a ≤ b
  items_on nothing = omega arith
  items_on (single t x d) = omega (arith, items_on t, (atom_first s x).2)
  items_on (several t x d) = omega (arith, items_on t)
  items_on (range t x i y le) = omega (arith, items_on t, (atom_first s x).2, (atom_first s y).2)

  pub class_on : {a b : ℕ} {set : List ℕ} → grammar.Class s a b set → a < b
  class_on (grammar.Class.holding at n t c) = omega (arith, items_on t)
  class_on (grammar.Class.lacking at n t c) = omega (arith, items_on t)
