-- A class that the table's words refuse is refused so.
use Rattle.std.specs.Prelude.{◌≡◌, refl, Bool, List}
use Rattle.std.proofs.Common.{sym, ap, ◌∙◌, arith}
use Rattle.std.proofs.Math.Bool.{true, false}
use Rattle.std.proofs.Math.Option.{Option}
use Prim.Native.Nat.{ℕ, zero, suc, ◌+◌, ◌≤◌, ◌<◌}
use Rattle.std.proofs.Math.ListN.{length, get_or-eq_default}
use borrow.Author.Tests.{eq-eqb, ne_eqb, lt-leb}
use Rattle.meaning.specs.Limits.{depth_limit}
use Rattle.meaning.specs.Refusals as No
use Rattle.reading_atoms.specs.Chars.{no_byte, byte_at, caret, backslash, open_bracket, close_bracket, ends_sequence}
use Rattle.reading_atoms.specs.Classes.{ClassAtom.bad, class_atom, Class, Class.broken, class_item, class_go, class_at}
use Rattle.reading_items.specs.Reading.{Part.turned, Opening, Part, item_by, alternatives_at, Reading.refused, whole}
use Rattle.reading_grammar.specs.Atoms.{Is, Dash, ClassItems}
use Rattle.reading_grammar.specs.Within.{due_within, opens_within, items_within, atom_first, set_first}
use Rattle.reading_grammar.specs.ClassesComplete.{byte_atom, set_atom, begins, Comes, items_complete}
use Rattle.reading_grammar.specs.WrongEscapes.{wrong_first, wrong_read}
use Rattle.reading_grammar.specs.Refusals.{ClassOpens, ClassOpens.holding, ClassOpens.lacking, ClassDue, End, End.byte}
use Rattle.reading_grammar.specs.Refusals.{End.set}
use Rattle.reading_grammar.specs.Refusals.{BadRange, BadRange.reversed, BadRange.left, BadRange.right, WrongEscape}
use Rattle.reading_grammar.proofs.AllReads.{any_depth}
use Rattle.reading_grammar.proofs.Reached.{item_fails, reached}

module _ (s : List ℕ) where
  -- The class reader comes to where an atom is due.
  class_reached : {o a0 a : ℕ} {set : List ℕ} → ClassOpens s o a0 → ClassItems s a0 a set → (c : Class)
      → ((negated : Bool) (fuel : ℕ) → length s < a + fuel → class_go s negated fuel set a ≡ c) → class_at s o ≡ c
  unfolding class_at
  class_reached {a = a} {set = held} (holding {a = o} at n) t c f =
      let w : a ≤ length s = items_within s t (opens_within s (ClassOpens.holding at n)) in
      let h : Comes s false (o + 1) (suc (length s)) a held = items_complete s t false (suc (length s)) (omega arith) in
      rw (ne_eqb (byte_at s (o + 1)) caret n) (h.same ∙ f false h.left (omega (arith, h.enough)))
  class_reached {a = a} {set = held} (lacking {a = o} at n) t c f =
      let w : a ≤ length s = items_within s t (opens_within s (ClassOpens.lacking at n)) in
      let h : Comes s true (o + 2) (suc (length s)) a held = items_complete s t true (suc (length s)) (omega arith) in
      rw (eq-eqb (byte_at s (o + 1)) caret n) (h.same ∙ f true h.left (omega (arith, h.enough)))

  opens_first : {o a0 : ℕ} → ClassOpens s o a0 → Is s o open_bracket
  opens_first (holding at n) = at
  opens_first (lacking at n) = at

  -- So what it refuses there is refused of the whole.
  class_whole : {a : ℕ} (t : ClassDue s a) (number place : ℕ)
      → ((negated : Bool) (fuel : ℕ) → length s < a + fuel → class_go s negated fuel t.set a ≡ broken number place)
      → whole s (alternatives_at depth_limit s 0 0) ≡ refused number place
  unfolding item_by
  class_whole t number place f =
      let at : Is s t.opening open_bracket = opens_first t.opens in
      let c : class_at s t.opening ≡ broken number place = class_reached t.opens t.items (broken number place) f in
      reached s t.due number place
      (item_fails s t.d t.opening t.g number place (due_within s t.due) (ap ends_sequence at)
      (any_depth s t.d t.opening t.g (turned number place) (λ paren. item paren t.opening t.g at c)))
    where
      item : (paren : Opening → Part) (o g : ℕ) → Is s o open_bracket → class_at s o ≡ broken number place
          → item_by paren s o g ≡ turned number place
      item paren o g at c = rw (at, c)

  -- An atom, or a range, that is refused.
  item_whole : {a : ℕ} (t : ClassDue s a) (number place : ℕ) → (byte_at s a ≡ no_byte → ⊥) → (byte_at s a ≡ close_bracket → ⊥)
      → ((set : List ℕ) → class_item s set a (class_atom s a) ≡ broken number place)
      → whole s (alternatives_at depth_limit s 0 0) ≡ refused number place
  unfolding class_go
  item_whole {a} t number place n m f = class_whole t number place go
    where
      go : (negated : Bool) (fuel : ℕ) → length s < a + fuel → class_go s negated fuel t.set a ≡ broken number place
      go negated zero k = absurd (omega (arith, items_within s t.items (opens_within s t.opens)))
      go negated (suc fuel) k = rw (ne_eqb (byte_at s a) no_byte n, ne_eqb (byte_at s a) close_bracket m, f t.set)

  -- A wrong escape.
  wrong_atom : {a n : ℕ} → WrongEscape s true a n → class_atom s a ≡ bad n a
  unfolding class_atom
  wrong_atom {a} t = rw (eq-eqb (byte_at s a) backslash (wrong_first true s a t), wrong_read true s a t)

  slash : (a : ℕ) → Is s a backslash → (byte_at s a ≡ no_byte → ⊥) × (byte_at s a ≡ close_bracket → ⊥)
  slash a at = (
    λ x. let z : ◌≡◌ {A = ℕ} backslash no_byte = sym at ∙ x in omega arith,
    λ x. let z : ◌≡◌ {A = ℕ} backslash close_bracket = sym at ∙ x in omega arith,
  )

  pub escape_whole : {a n : ℕ} → ClassDue s a → WrongEscape s true a n
      → whole s (alternatives_at depth_limit s 0 0) ≡ refused n a
  escape_whole {a} {n} t x =
      let (u, v) = slash a (wrong_first true s a x) in
      item_whole t n a u v (λ set. rw (wrong_atom x))

  -- The end of a range.
  end_first : {a b : ℕ} {x : Option ℕ} → End s a b x → (byte_at s a ≡ no_byte → ⊥) × (byte_at s a ≡ close_bracket → ⊥)
  end_first (byte t) = let (n, m, l) = atom_first s t in (n, m)
  end_first (set {a = a} t) = slash a (set_first s t)

  range_escape_lem : {a b n : ℕ} {x : Option ℕ} → End s a b x → Dash s b → WrongEscape s true (b + 1) n
      → (held : List ℕ) → class_item s held a (class_atom s a) ≡ broken n (b + 1)
  range_escape_lem {b = b} (byte t) d w held = rw (byte_atom s t, begins s b d, wrong_atom w)
  range_escape_lem {b = b} (set {a = a} t) d w held = rw (set_atom s t, begins s (a + 2) d, wrong_atom w)

  pub range_escape_whole : {a b n : ℕ} {x : Option ℕ} → ClassDue s a → End s a b x → Dash s b → WrongEscape s true (b + 1) n
      → whole s (alternatives_at depth_limit s 0 0) ≡ refused n (b + 1)
  range_escape_whole {b = b} {n = n} t x d w =
      let (u, v) = end_first x in
      item_whole t n (b + 1) u v (range_escape_lem x d w)

  -- A range that is reversed, or with a set as an end.
  bad_range_lem : {a b e : ℕ} {x y : Option ℕ} → End s a b x → Dash s b → End s (b + 1) e y → BadRange x y
      → (held : List ℕ) → class_item s held a (class_atom s a) ≡ broken 10 a
  bad_range_lem {b = b} (byte {v = u} t) d (byte {v = v} t') (reversed l) held =
      rw (byte_atom s t, begins s b d, byte_atom s t', lt-leb u v l)
  bad_range_lem {b = b} (byte t) d (set t') right held = rw (byte_atom s t, begins s b d, set_atom s t')
  bad_range_lem (set {a = a} t) d (byte t') left held = rw (set_atom s t, begins s (a + 2) d, byte_atom s t')
  bad_range_lem (set {a = a} t) d (set t') left held = rw (set_atom s t, begins s (a + 2) d, set_atom s t')
  bad_range_lem (set {a = a} t) d (set t') right held = rw (set_atom s t, begins s (a + 2) d, set_atom s t')

  pub bad_range_whole : {a b e : ℕ} {x y : Option ℕ} → ClassDue s a → End s a b x → Dash s b → End s (b + 1) e y → BadRange x y
      → whole s (alternatives_at depth_limit s 0 0) ≡ refused No.bad_class a
  bad_range_whole {a} t x d y r =
      let (u, v) = end_first x in
      item_whole t 10 a u v (bad_range_lem x d y r)

  -- A class that is unclosed.
  pub unclosed_whole : {a : ℕ} → ClassDue s a → a ≡ length s → whole s (alternatives_at depth_limit s 0 0) ≡ refused No.bad_class a
  unfolding class_go
  unclosed_whole {a} t e = class_whole t 10 a go
    where
      last : byte_at s a ≡ no_byte
      last = get_or-eq_default s no_byte (omega arith)

      go : (negated : Bool) (fuel : ℕ) → length s < a + fuel → class_go s negated fuel t.set a ≡ broken 10 a
      go negated zero k = refl
      go negated (suc fuel) k = rw last
