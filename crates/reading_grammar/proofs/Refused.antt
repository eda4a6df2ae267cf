-- What the table's words refuse, reading refuses at that place: so, or with a smaller number.
use Rattle.std.specs.Prelude.{◌≡◌, ◌⊎◌, List, ◌++◌}
use Rattle.std.proofs.Math.Path.{refl}
use Rattle.std.proofs.Common.{sym, ap, ◌∙◌, inl, inr, arith}
use Rattle.std.proofs.Math.Bool.{true, false}
use Rattle.std.proofs.Math.Option.{Option, some}
use Prim.Native.Nat.{ℕ, zero, suc, ◌+◌, ◌≤◌, ◌<◌}
use Rattle.std.proofs.Math.Dec.{eqb}
use Rattle.std.proofs.Math.ListN.{length, get_or-eq_default}
use borrow.Author.Tests.{eq-eqb, ne_eqb, le-leb}
use Rattle.meaning.specs.Limits.{depth_limit, group_limit}
use Rattle.meaning.specs.Node.{Node}
use Rattle.meaning.specs.Flat.{Kind, parts, join}
use Rattle.reading_atoms.specs.Chars.{no_byte, byte_at, caret, dollar, backslash, dot, question, open_paren, close_paren}
use Rattle.reading_atoms.specs.Chars.{open_bracket}
use Rattle.reading_atoms.specs.Chars.{close_bracket, open_brace, close_brace, bar, colon, is_quantifier, ends_sequence}
use Rattle.reading_grammar.specs.AtomsSound.{apart}
use Rattle.reading_atoms.specs.Braces.{Braces.refused as unbraced, judged, braces_at, quantifier_at}
use Rattle.reading_items.specs.Reading.{Part, Part.part, Part.turned, Opening, Opening.capturing, Opening.plain, Opening.neither}
use Rattle.reading_items.specs.Reading.{is_look, opening_at, too_deep, opened, alternatives_by, item_by, sequence_go, item_at}
use Rattle.reading_items.specs.Reading.{alternatives_at}
use Rattle.reading_items.specs.Reading.{Reading.refused, whole}
use Rattle.reading_grammar.specs.Atoms.{Is}
use Rattle.reading_grammar.specs.Begins.{rule_begins}
use Rattle.reading_grammar.specs.Openings.{OpeningMeans, opening_sound}
use Rattle.reading_grammar.specs.Within.{known, due_within, rule_within}
use Rattle.reading_grammar.specs.Forms.{form_read, form_sound, Formed, above_eight, disordered_nine}
use Rattle.reading_grammar.specs.WrongEscapes.{wrong_first, wrong_read}
use Rattle.reading_grammar.specs.Refusals.{Inside.item, Inside.class, Due, AtomBefore, WrongEscape, Form, Form.exactly}
use Rattle.reading_grammar.specs.Refusals.{Form.least, Form.range, Above, Refuses, Refuses.escape, Refuses.class_escape}
use Rattle.reading_grammar.specs.Refusals.{Refuses.range_escape, Refuses.look, Refuses.nothing, Refuses.odd_group}
use Rattle.reading_grammar.specs.Refusals.{Refuses.no_form}
use Rattle.reading_grammar.specs.Refusals.{Refuses.above, Refuses.disordered, Refuses.bad_range, Refuses.unclosed_class}
use Rattle.reading_grammar.specs.Refusals.{Refuses.unmatched, Refuses.unclosed, Refuses.stray, Refuses.deep, Refuses.full}
use Rattle.reading_grammar.proofs.AllReads.{any_depth, atom_read}
use Rattle.reading_grammar.proofs.Reached.{rest, Fails, item_fails, reached}
use Rattle.reading_grammar.proofs.ClassesRefused.{escape_whole, range_escape_whole, bad_range_whole, unclosed_whole}

module _ (s : List ℕ) where
  -- What reading says of the whole pattern.
  abbrev Says : ℕ → ℕ → Type 0
  Says number place = whole s (alternatives_at depth_limit s 0 0) ≡ refused number place

  -- An item that is refused where it is due.
  item_whole : {d a g : ℕ} → Due s d a g → ends_sequence (byte_at s a) ≡ false → (number place : ℕ)
      → item_at d s a g ≡ turned number place → Says number place
  item_whole {d} {a} {g} due e number place h =
      reached s due number place (item_fails s d a g number place (due_within s due) e h)

  -- One that is refused by its first byte, whatever a `(` would be.
  byte_whole : {d a g : ℕ} → Due s d a g → (b : ℕ) → Is s a b → ends_sequence b ≡ false → (number : ℕ)
      → ((paren : Opening → Part) → item_by paren s a g ≡ turned number a) → Says number a
  byte_whole {d} {a} {g} due b at e number f =
      item_whole due (ap ends_sequence at ∙ e) number a (any_depth s d a g (turned number a) f)

  -- 4 and 5: a wrong escape.
  wrong_item : {a n : ℕ} (paren : Opening → Part) (g : ℕ) → WrongEscape s false a n → item_by paren s a g ≡ turned n a
  unfolding item_by
  wrong_item {a} paren g w = rw (wrong_first false s a w, wrong_read false s a w)

  -- 6: a quantifier with no atom to repeat.
  nothing_whole : {d a g : ℕ} → Due s d a g → is_quantifier (byte_at s a) ≡ true → Says 6 a
  unfolding item_by
  nothing_whole {d} {a} {g} due e =
      item_whole due (rw (no no_byte refl, no bar refl, no close_paren refl)) 6 a
      (any_depth s d a g (turned 6 a) (λ paren. rw (
        no open_paren refl,
        no open_bracket refl,
        no backslash refl,
        no dot refl,
        no caret refl,
        no dollar refl,
        e,
      )))
    where
      no : (c : ℕ) → is_quantifier c ≡ false → eqb (byte_at s a) c ≡ false
      no c f = apart is_quantifier (byte_at s a) c true e f

  -- 12: a stray ] or }.
  stray_whole : {d a g : ℕ} → Due s d a g → Is s a close_bracket ⊎ Is s a close_brace → Says 12 a
  unfolding item_by
  stray_whole due (inl h) = byte_whole due close_bracket h refl 12 (λ paren. rw h)
  stray_whole due (inr h) = byte_whole due close_brace h refl 12 (λ paren. rw h)

  -- What a `(` opens at the deepest level, and at another.
  deep_item : (a g : ℕ) → Is s a open_paren → (o : Opening) → opening_at s a ≡ o → item_at zero s a g ≡ too_deep a o
  unfolding item_at item_by
  deep_item a g at o e = rw (at, e)

  open_item : (d a g : ℕ) → Is s a open_paren → (o : Opening) → opening_at s a ≡ o
      → item_at (suc d) s a g ≡ opened s (alternatives_by (item_at d s) s) a g o
  unfolding item_at item_by
  open_item d a g at o e = rw (at, e)

  paren_whole : {d a g : ℕ} → Due s d a g → Is s a open_paren → (number place : ℕ) → item_at d s a g ≡ turned number place
      → Says number place
  paren_whole due at number place h = item_whole due (ap ends_sequence at) number place h

  -- 5: a lookaround or a named group.
  look_opening : (a : ℕ) → Is s (a + 1) question → is_look (byte_at s (a + 2)) ≡ true → opening_at s a ≡ neither 5 a
  unfolding opening_at
  look_opening a q l = rw (q, apart is_look (byte_at s (a + 2)) colon true l refl, l)

  look_whole : (d : ℕ) {a g : ℕ} → Due s d a g → Is s a open_paren → Is s (a + 1) question → is_look (byte_at s (a + 2)) ≡ true
      → Says 5 a
  look_whole zero {a} {g} due at q l =
      paren_whole due at 5 a (deep_item a g at (neither 5 a) (look_opening a q l) ∙ rw (eq-eqb a a refl))
  look_whole (suc d) {a} {g} due at q l = paren_whole due at 5 a (open_item d a g at (neither 5 a) (look_opening a q l))

  -- A refusal that is told: it, or one with a smaller number there.
  pub record Told (number place : ℕ) : Type 0 where
    pub first : ℕ
    pub says : Says first place
    pub least : first ≤ number

  before_told : {first number place : ℕ} → Says first place → first ≤ number → Told number place
  before_told {first} h l = record { first = first; says = h; least = l }

  told : {number place : ℕ} → Says number place → Told number place
  told h = before_told h (omega arith)

  -- 6: a ? after ( .
  odd_opening : (a : ℕ) → Is s (a + 1) question → (Is s (a + 2) colon → ⊥) → is_look (byte_at s (a + 2)) ≡ false
      → opening_at s a ≡ neither 6 (a + 1)
  unfolding opening_at
  odd_opening a q n l = rw (q, ne_eqb (byte_at s (a + 2)) colon n, l)

  odd_whole : {d a g : ℕ} → Due s (suc d) a g → Is s a open_paren → Is s (a + 1) question → (Is s (a + 2) colon → ⊥)
      → is_look (byte_at s (a + 2)) ≡ false → Says 6 (a + 1)
  odd_whole {d} {a} {g} due at q n l =
      paren_whole due at 6 (a + 1) (open_item d a g at (neither 6 (a + 1)) (odd_opening a q n l))

  -- 13: deeper than 32; 5 before it.
  deep_told : {a g : ℕ} → Due s zero a g → Is s a open_paren → Told 13 a
  deep_told {a} {g} due at = go (opening_at s a) refl (opening_sound s a)
    where
      thirteen : (o : Opening) → opening_at s a ≡ o → too_deep a o ≡ turned 13 a → Told 13 a
      thirteen o e h = told (paren_whole due at 13 a (deep_item a g at o e ∙ h))

      go : (o : Opening) → opening_at s a ≡ o → OpeningMeans s a o → Told 13 a
      go capturing e m = thirteen capturing e refl
      go plain e m = thirteen plain e refl
      go (neither n p) e (q, inl (x, y, l)) = before_told (look_whole zero due at q l) (omega arith)
      go (neither n p) e (q, inr (x, y, c, l)) = thirteen (neither n p) e (rw (ne_eqb p a (λ z. omega arith)))

  -- 14: a 32nd group; 13 before it at the deepest level.
  full_opening : (a : ℕ) → (Is s (a + 1) question → ⊥) → opening_at s a ≡ capturing
  unfolding opening_at
  full_opening a n = rw (ne_eqb (byte_at s (a + 1)) question n)

  full_told : (d : ℕ) {a g : ℕ} → Due s d a g → Is s a open_paren → (Is s (a + 1) question → ⊥) → group_limit ≤ g → Told 14 a
  full_told zero {a} {g} due at n l =
      before_told (paren_whole due at 13 a (deep_item a g at capturing (full_opening a n))) (omega arith)
  full_told (suc d) {a} {g} due at n l =
      told (paren_whole due at 14 a (open_item d a g at capturing (full_opening a n) ∙ rw (le-leb group_limit g l)))

  -- 7, 8 and 9: counts behind an atom; 8 before 9.
  brace_whole : {b : ℕ} → AtomBefore s b → Is s b open_brace → (number : ℕ) → braces_at s b ≡ unbraced number → Says number b
  unfolding quantifier_at
  brace_whole {b} t at number e =
      let w : b ≤ length s = rule_within s t.before (due_within s t.due) in
      item_whole t.due (rule_begins s t.before) number b (atom_read s t.before w ∙ rw (at, e))

  form_first : {a e n : ℕ} {m : Option ℕ} → Form s a e n m → Is s a open_brace
  form_first (exactly at t c) = at
  form_first (least at t c d) = at
  form_first (range at t k u d) = at

  no_form_whole : {b : ℕ} → AtomBefore s b → Is s b open_brace → ((e n : ℕ) (m : Option ℕ) → Form s b e n m → ⊥) → Says 7 b
  no_form_whole {b} t at h = go (form_sound s b at)
    where
      go : (braces_at s b ≡ unbraced 7) ⊎ Formed s b → Says 7 b
      go (inl e) = brace_whole t at 7 e
      go (inr (e, n, m, form)) = absurd (h e n m form)

  above_whole : {b e n : ℕ} {m : Option ℕ} → AtomBefore s b → Form s b e n m → Above n m → Says 8 b
  above_whole {e = e} {n = n} {m = m} t form l =
      brace_whole t (form_first form) 8 (form_read s form ∙ above_eight n e m l)

  disordered_told : {b e n m : ℕ} → AtomBefore s b → Form s b e n (some m) → m < n → Told 9 b
  disordered_told {b} {e} {n} {m} t form l = go (disordered_nine n m e l)
    where
      go : (judged n m e ≡ unbraced 8) ⊎ (judged n m e ≡ unbraced 9) → Told 9 b
      go (inl h) = before_told (brace_whole t (form_first form) 8 (form_read s form ∙ h)) (omega arith)
      go (inr h) = told (brace_whole t (form_first form) 9 (form_read s form ∙ h))

  -- 11: where alternatives end.
  stops : (d a g : ℕ) → ends_sequence (byte_at s a) ≡ true → eqb (byte_at s a) bar ≡ false → a ≤ length s
      → (fuel left : ℕ) (m l : List Node) → length s < a + fuel
      → rest s d fuel left m l a g ≡ part (join Kind.alternation (m ++ parts Kind.alternation (join Kind.sequence l))) a g
  unfolding sequence_go
  stops d a g e n w zero left m l k = absurd (omega arith)
  stops d a g e n w (suc fuel) left m l k = rw (e, n)

  unmatched_whole : {a g : ℕ} → Due s depth_limit a g → Is s a close_paren → Says 11 a
  unmatched_whole {a} {g} due c =
      let w : a < length s = known s a close_paren c (λ x. omega arith) in
      reached s due 11 a (λ fuel left m l k k'.
      rw (stops depth_limit a g (ap ends_sequence c) (ap (λ x. eqb x bar) c) (omega arith) fuel left m l k)
      (Fails.unmatched refl refl w))

  unclosed_group_whole : {d a g : ℕ} → Due s d a g → d < depth_limit → a ≡ length s → Says 11 a
  unclosed_group_whole {d} {a} {g} due l e =
      let last : byte_at s a ≡ no_byte = get_or-eq_default s no_byte (omega arith) in
      reached s due 11 a (λ fuel left m i k k'.
      rw (stops d a g (ap ends_sequence last) (ap (λ x. eqb x bar) last) (omega arith) fuel left m i k)
      (Fails.unclosed refl l (λ x. let z : ◌≡◌ {A = ℕ} close_paren no_byte = sym x ∙ last in omega arith)))

  -- Every refusal that holds by its definition is told, or one with a smaller number there.
  pub refuses_told : {number place : ℕ} → Refuses s number place → Told number place
  refuses_told (escape {a = a} {g = g} {n = n} due w) =
      told (byte_whole due backslash (wrong_first false s a w) refl n (λ paren. wrong_item paren g w))
  refuses_told (class_escape t w) = told (escape_whole s t w)
  refuses_told (range_escape t x d w) = told (range_escape_whole s t x d w)
  refuses_told (look {d = d} due at q l) = told (look_whole d due at q l)
  refuses_told (nothing due e) = told (nothing_whole due e)
  refuses_told (odd_group due at q n l) = told (odd_whole due at q n l)
  refuses_told (no_form t at h) = told (no_form_whole t at h)
  refuses_told (above t form l) = told (above_whole t form l)
  refuses_told (disordered t form l) = disordered_told t form l
  refuses_told (bad_range t x d y r) = told (bad_range_whole s t x d y r)
  refuses_told (unclosed_class t e) = told (unclosed_whole s t e)
  refuses_told (unmatched due c) = told (unmatched_whole due c)
  refuses_told (unclosed (item due l) e) = told (unclosed_group_whole due l e)
  refuses_told (unclosed (class t l) e) = before_told (unclosed_whole s t e) (omega arith)
  refuses_told (stray due h) = told (stray_whole due h)
  refuses_told (deep due at) = deep_told due at
  refuses_told (full {d = d} due at n l) = full_told d due at n l
