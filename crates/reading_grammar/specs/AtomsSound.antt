-- What the readers of escapes, classes and quantifiers read derives.
use Rattle.std.specs.Prelude.{◌≡◌, Bool, true, false, cond, not, ◌||◌, ◌&&◌, ◌⊎◌, List}
use Rattle.std.proofs.Math.Path.{refl}
use Rattle.std.proofs.Common.{sym, ap, ◌∙◌}
use Rattle.std.proofs.lemmas.Bool.{false≢true}
use Rattle.std.proofs.Math.Logic.{inl, inr}
use Prim.Native.Nat.{ℕ, ◌+◌}
use Rattle.std.proofs.Math.Dec.{eqb}
use borrow.Author.Tests.{eqb-true, eqb-false, ne_eqb}
use Rattle.sets.specs.Sets.{is_digit, is_word}
use Rattle.meaning.specs.Tests.{and_true, by_test}
use Rattle.meaning.specs.Refusals as No
use Rattle.reading_atoms.specs.Chars.{no_byte, byte_at, backslash, is_letter, is_hex}
use Rattle.reading_atoms.specs.Escapes.{Escape, Escape.byte, Escape.named, Escape.assertion, Escape.wrong, control, set_number}
use Rattle.reading_atoms.specs.Escapes.{letter_escape, hex_escape, zero_escape, escape_at}
use Rattle.reading_grammar.specs.Atoms.{Is, Control, Named, EscapedByte, EscapedSet}
use Rattle.reading_grammar.specs.Refusals.{LeftOut}

-- Tests that fail.
pub not_both : (p q : Bool) → (p || q) ≡ false → (p ≡ false) × (q ≡ false)
not_both true q e = absurd (false≢true (sym e))
not_both false q e = (refl, e)

-- A byte that a test tells from another is not that byte.
pub apart : (test : ℕ → Bool) (b c : ℕ) (x : Bool) → test b ≡ x → test c ≡ not x → eqb b c ≡ false
apart test b c x e f = ne_eqb b c (λ p. differ x (sym e ∙ ap test p ∙ f))
  where
    differ : (x : Bool) → x ≡ not x → ⊥
    differ true h = false≢true (sym h)
    differ false h = false≢true h

-- The letters of set escapes and of control escapes.
named_of : (b : ℕ) → eqb (set_number b) 6 ≡ false → Named b (set_number b)
named_of b =
    by_test P (eqb b 0x64) (λ e h. rw (eqb-true b 0x64 e) Named.digits) (λ e.
    by_test P (eqb b 0x44) (λ e h. rw (eqb-true b 0x44 e) Named.no_digits) (λ e.
    by_test P (eqb b 0x77) (λ e h. rw (eqb-true b 0x77 e) Named.words) (λ e.
    by_test P (eqb b 0x57) (λ e h. rw (eqb-true b 0x57 e) Named.no_words) (λ e.
    by_test P (eqb b 0x73) (λ e h. rw (eqb-true b 0x73 e) Named.spaces) (λ e.
    by_test P (eqb b 0x53) (λ e h. rw (eqb-true b 0x53 e) Named.no_spaces) (λ e h. absurd (false≢true (sym h))))))))
  where
    P : ℕ → Type 0
    P k = eqb k 6 ≡ false → Named b k

control_of : (b : ℕ) → eqb (control b) 0 ≡ false → Control b (control b)
control_of b =
    by_test P (eqb b 0x66) (λ e h. rw (eqb-true b 0x66 e) Control.feed) (λ e.
    by_test P (eqb b 0x6E) (λ e h. rw (eqb-true b 0x6E e) Control.newline) (λ e.
    by_test P (eqb b 0x72) (λ e h. rw (eqb-true b 0x72 e) Control.return) (λ e.
    by_test P (eqb b 0x74) (λ e h. rw (eqb-true b 0x74 e) Control.tab) (λ e.
    by_test P (eqb b 0x76) (λ e h. rw (eqb-true b 0x76 e) Control.vertical) (λ e h. absurd (false≢true (sym h)))))))
  where
    P : ℕ → Type 0
    P k = eqb k 0 ≡ false → Control b k

module _ (inClass : Bool) (s : List ℕ) (a : ℕ) where
  -- What an escape that was read says derives; an assertion is only outside a class.
  abbrev pub Means : Escape → Type 0
  Means (byte b end) = EscapedByte s inClass a end b
  Means (named k) = EscapedSet s a k
  Means (assertion k) = (inClass ≡ false) × (((k ≡ 2) × Is s (a + 1) 0x62) ⊎ ((k ≡ 3) × Is s (a + 1) 0x42))
  Means (wrong number) = (number ≡ No.bad_escape) ⊎ ((number ≡ No.left_out) × LeftOut s inClass a)

  pub escape_sound : Is s a backslash → Means (escape_at inClass s a)
  unfolding escape_at
  escape_sound at =
      let b : ℕ = byte_at s (a + 1) in
      by_test Means (eqb (set_number b) 6) (λ e₁.
      by_test Means (eqb (control b) 0) (λ e₂.
      by_test Means (eqb b 0x63) (λ e. letters (eqb-true b 0x63 e)) (λ e₃.
      by_test Means (eqb b 0x78) (λ e. hexes (eqb-true b 0x78 e)) (λ e₄.
      by_test Means (eqb b 0x30) (λ e. zeros (eqb-true b 0x30 e)) (λ e₅.
      by_test Means (eqb b 0x62) (λ e. edges inClass refl (eqb-true b 0x62 e)) (λ e₆.
      by_test Means (eqb b 0x42) (λ e. inners inClass refl (eqb-true b 0x42 e)) (λ e₇.
      by_test Means (eqb b 0x75) (λ e. inr (refl, LeftOut.unicode (eqb-true b 0x75 e))) (λ e₈.
      by_test Means (is_digit b || eqb b 0x6B) (λ e. numbers inClass refl (λ x. eqb-false b 0x30 e₅ x) (is_digit b) refl e) (λ e₉.
      by_test Means (is_word b || eqb b no_byte) (λ e. inl refl) (λ e.
      let (w, n) = not_both (is_word b) (eqb b no_byte) e in
      EscapedByte.itself at refl (λ x. eqb-false b no_byte n x) w)))))))))
      (λ e. EscapedByte.control at refl (control_of b e)))
      (λ e. EscapedSet.named at refl (named_of b e))
    where
      letters : Is s (a + 1) 0x63 → Means (letter_escape s a)
      letters h = by_test Means (is_letter (byte_at s (a + 2))) (λ e. EscapedByte.letter at h refl e) (λ e. inl refl)

      hexes : Is s (a + 1) 0x78 → Means (hex_escape s a)
      hexes h = by_test Means (is_hex (byte_at s (a + 2)) && is_hex (byte_at s (a + 3)))
          (λ e. let (u, v) = and_true (is_hex (byte_at s (a + 2))) (is_hex (byte_at s (a + 3))) e in
          EscapedByte.hex at h refl u refl v) (λ e. inl refl)

      zeros : Is s (a + 1) 0x30 → Means (zero_escape s a)
      zeros h = by_test Means (is_digit (byte_at s (a + 2))) (λ e. inl refl) (λ e. EscapedByte.nul at h e)

      edges : (x : Bool) → inClass ≡ x → Is s (a + 1) 0x62 → Means (cond x (byte 0x08 (a + 2)) (assertion 2))
      edges true e h = EscapedByte.backspace at e h
      edges false e h = (e, inl (refl, h))

      inners : (x : Bool) → inClass ≡ x → Is s (a + 1) 0x42 → Means (cond x (wrong No.bad_escape) (assertion 3))
      inners true e h = inl refl
      inners false e h = (e, inr (refl, h))

      numbers : (x : Bool) → inClass ≡ x → (Is s (a + 1) 0x30 → ⊥) → (t : Bool) → is_digit (byte_at s (a + 1)) ≡ t
          → (t || eqb (byte_at s (a + 1)) 0x6B) ≡ true → Means (wrong (cond x No.bad_escape No.left_out))
      numbers true e n t f h = inl refl
      numbers false e n true f h = inr (refl, LeftOut.number e f n)
      numbers false e n false f h = inr (refl, LeftOut.name e (eqb-true (byte_at s (a + 1)) 0x6B h))
