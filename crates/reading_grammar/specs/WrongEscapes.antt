-- What is refused as an escape is neither listed nor one of 5, or is one of 5.
use Rattle.std.proofs.Math.Path.{◌≡◌, refl, sym}
use Rattle.std.proofs.Common.{ap, subst, ◌∙◌, inl, inr, ne_eqb, leb-true}
use Rattle.std.specs.Prelude.{◌⊎◌, Bool, true, false, List, leb}
use Rattle.std.proofs.Math.Bool.{or-true}
use Prim.Native.Nat.{ℕ, ◌+◌, ◌≤◌}
use native.Mathlib.Omega.{arith}
use Rattle.std.proofs.lemmas.Bool.{lt-leb}
use Rattle.sets.specs.Sets.{is_digit}
use Rattle.meaning.specs.Tests.{and_true}
use Rattle.meaning.specs.Refusals as No
use Rattle.reading_atoms.specs.Chars.{byte_at, backslash, is_letter}
use Rattle.reading_atoms.specs.Escapes.{Escape, Escape.byte, Escape.named, Escape.assertion, Escape.wrong, escape_at}
use Rattle.reading_grammar.specs.Atoms.{Is}
use Rattle.reading_grammar.specs.AtomsSound.{Means, escape_sound}
use Rattle.reading_grammar.specs.EscapesComplete.{byte_complete, set_complete, no_letter_escape}
use Rattle.reading_grammar.specs.Refusals.{Listed, Listed.byte, Listed.set, Listed.edge, Listed.inner, LeftOut}
use Rattle.reading_grammar.specs.Refusals.{LeftOut.unicode}
use Rattle.reading_grammar.specs.Refusals.{LeftOut.number, LeftOut.name, WrongEscape}

-- A digit is no letter.
no_letter : (b : ℕ) → is_digit b ≡ true → is_letter b ≡ false
unfolding is_digit
no_letter b d = rw (lt-leb 0x41 b (omega (arith, high)), lt-leb 0x61 b (omega (arith, high)))
  where
    high : b ≤ 0x39
    high = leb-true b 0x39 (and_true (leb 0x30 b) (leb b 0x39) d).1

module _ (inClass : Bool) (s : List ℕ) (a : ℕ) where
  listed_read : Listed s inClass a → (n : ℕ) → escape_at inClass s a ≡ wrong n → ⊥
  unfolding escape_at
  listed_read (byte {b = b} {e = e} t) n f =
      let g : byte b e ≡ wrong n = sym (byte_complete inClass s t) ∙ f in let z : ◌≡◌ {A = ℕ} 0 1 = cc in omega arith
  listed_read (set {k = k} t) n f =
      let g : named k ≡ wrong n = sym (set_complete inClass s t) ∙ f in let z : ◌≡◌ {A = ℕ} 0 1 = cc in omega arith
  listed_read (edge i h) n f =
      let e : escape_at inClass s a ≡ assertion 2 = rw (h, i) in let g : assertion 2 ≡ wrong n = sym e ∙ f in
      let z : ◌≡◌ {A = ℕ} 0 1 = cc in omega arith
  listed_read (inner i h) n f =
      let e : escape_at inClass s a ≡ assertion 3 = rw (h, i) in let g : assertion 3 ≡ wrong n = sym e ∙ f in
      let z : ◌≡◌ {A = ℕ} 0 1 = cc in omega arith

  left_read : LeftOut s inClass a → escape_at inClass s a ≡ wrong No.left_out
  unfolding escape_at
  left_read (unicode h) = rw h
  left_read (number i e n) =
      let b : ℕ = byte_at s (a + 1) in
      no_letter_escape inClass s a b refl (no_letter b e) ∙ rw (ne_eqb b 0x30 n, e, i)
  left_read (name i h) = rw (h, i, or-true)

  -- What is refused as an escape is so by the table's words, and what is so by them is refused.
  pub wrong_escape : Is s a backslash → (n : ℕ) → escape_at inClass s a ≡ wrong n → WrongEscape s inClass a n
  wrong_escape at n e = go (subst (Means inClass s a) e (escape_sound inClass s a at))
    where
      go : (n ≡ No.bad_escape) ⊎ ((n ≡ No.left_out) × LeftOut s inClass a) → WrongEscape s inClass a n
      go (inl p) = subst (WrongEscape s inClass a) (sym p) (WrongEscape.unknown at (λ l. listed_read l n e)
          (λ l. let q : wrong No.left_out ≡ wrong n = sym (left_read l) ∙ e in let z : No.left_out ≡ n = cc in omega arith))
      go (inr (p, l)) = subst (WrongEscape s inClass a) (sym p) (WrongEscape.left_out at l)

  pub wrong_first : {n : ℕ} → WrongEscape s inClass a n → Is s a backslash
  wrong_first (WrongEscape.unknown at listed left) = at
  wrong_first (WrongEscape.left_out at l) = at

  pub wrong_read : {n : ℕ} → WrongEscape s inClass a n → escape_at inClass s a ≡ wrong n
  wrong_read (WrongEscape.unknown at listed left) = go (escape_at inClass s a) (escape_sound inClass s a at)
    where
      go : (x : Escape) → Means inClass s a x → x ≡ wrong No.bad_escape
      go (byte b end) m = absurd (listed (Listed.byte m))
      go (named k) m = absurd (listed (Listed.set m))
      go (assertion k) (f, inl (p, h)) = absurd (listed (Listed.edge f h))
      go (assertion k) (f, inr (p, h)) = absurd (listed (Listed.inner f h))
      go (wrong n) (inl p) = ap wrong p
      go (wrong n) (inr (p, l)) = absurd (left l)
  wrong_read (WrongEscape.left_out at l) = left_read l
