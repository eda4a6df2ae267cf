-- What the reader of quantifiers reads derives.
use Rattle.std.specs.Prelude.{◌≡◌, refl, Bool, true, false, cond, ◌||◌, ◌⊎◌, List, eqb, ltb}
use Rattle.std.proofs.Common.{sym, subst, ◌∙◌, inl, inr, arith, eqb-true, ltb-false, ltb-true}
use Rattle.std.proofs.Math.Option.{Option, none, some}
use Prim.Native.Nat.{ℕ, ◌+◌, ◌-◌, ◌≤◌}
use Rattle.std.proofs.lemmas.Bool.{eqb-false}
use Rattle.meaning.specs.Limits.{count_limit}
use Rattle.meaning.specs.Tests.{by_test}
use Rattle.meaning.specs.Refusals as No
use Rattle.reading_atoms.specs.Chars.{byte_at, star, plus, question, open_brace, is_quantifier}
use Rattle.reading_atoms.specs.Braces.{Braces, Braces.counts, Braces.refused, judged, braces_at, Quantifier, Quantifier.once}
use Rattle.reading_atoms.specs.Braces.{Quantifier.repeated, Quantifier.miscounted, lazily, quantifier_at}
use Rattle.reading_grammar.specs.Atoms.{Is, Counts, Times, Quantified}
use Rattle.reading_grammar.specs.Forms.{judges, Formed, form_read, form_sound, not_seven}
use Rattle.reading_grammar.specs.Refusals.{Form, Form.exactly, Form.least, Form.range, Above, AtomBefore, Refuses}
use Rattle.reading_grammar.specs.AtomsSound.{not_both}

module _ (s : List ℕ) where
  module _ (a : ℕ) (atom : AtomBefore s a) where
    -- Counts that were read, or why they were refused.
    abbrev pub Counted : Braces → Type 0
    Counted (counts n none end) = Counts s a end n none
    Counted (counts n (some m) end) = Counts s a end n (some (m - n))
    Counted (refused number) = Refuses s number a

    too_many : (n m : ℕ) (t : Bool) → ltb count_limit n ≡ t → (t || ltb count_limit m) ≡ true → Above n (some m)
    too_many n m true e f = Above.least (ltb-true count_limit n e)
    too_many n m false e f = Above.most (ltb-true count_limit m f)

    judged_sound : (n m end : ℕ) → {e : ℕ} → Form s a e n (some m) → (n ≤ m → m ≤ count_limit → Counts s a end n (some (m - n)))
        → Counted (judged n m end)
    judged_sound n m end form h =
        by_test Counted (ltb count_limit n || ltb count_limit m)
        (λ e. Refuses.above atom form (too_many n m (ltb count_limit n) refl e)) (λ e.
        let (u, v) = not_both (ltb count_limit n) (ltb count_limit m) e in
        let v' : m ≤ count_limit = ltb-false count_limit m v in
        by_test Counted (ltb m n) (λ f. Refuses.disordered atom form (ltb-true m n f)) (λ f. h (ltb-false m n f) v'))

    -- One of the three forms.
    form_counted : {e n : ℕ} {m : Option ℕ} → Form s a e n m → Counted (judges n m e)
    form_counted (exactly {b = b} {n = n} at t c) =
        judged_sound n n (b + 1) (Form.exactly at t c)
        (λ le top. subst (λ (x : ℕ). Counts s a (b + 1) n (some x)) (omega arith) (Counts.exactly at t c top))
    form_counted (least {n = n} at t c d) =
        by_test Counted (ltb count_limit n)
        (λ f. Refuses.above atom (Form.least at t c d) (Above.least (ltb-true count_limit n f)))
        (λ f. Counts.least at t c d (ltb-false count_limit n f))
    form_counted (range {c = c} {n = n} {m = m} at t k u d) =
        judged_sound n m (c + 1) (Form.range at t k u d) (λ le top. Counts.range at t k u d le top)

    braces_sound : Is s a open_brace → Counted (braces_at s a)
    braces_sound at = go (form_sound s a at)
      where
        go : (braces_at s a ≡ refused No.bad_braces) ⊎ Formed s a → Counted (braces_at s a)
        go (inl e) = rw e (Refuses.no_form atom at (λ b n m form. not_seven n b m (sym (form_read s form) ∙ e)))
        go (inr (e, n, m, form)) = rw (form_read s form) (form_counted form)

  -- A quantifier that was read, or none; or why it was refused.
  abbrev pub QuantifierMeans : ℕ → Quantifier → Type 0
  QuantifierMeans a once = is_quantifier (byte_at s a) ≡ false
  QuantifierMeans a (repeated n e lazy end) = Quantified s a end n e lazy
  QuantifierMeans a (miscounted number place) = (place ≡ a) × Refuses s number a

  laziness : (a end n : ℕ) (e : Option ℕ) → Times s a end n e
      → QuantifierMeans a (repeated n e (eqb (byte_at s end) question) (cond (eqb (byte_at s end) question) (end + 1) end))
  laziness a end n e h = go (eqb (byte_at s end) question) refl
    where
      go : (t : Bool) → eqb (byte_at s end) question ≡ t → QuantifierMeans a (repeated n e t (cond t (end + 1) end))
      go true f = Quantified.lazy h (eqb-true (byte_at s end) question f)
      go false f = Quantified.greedy h (λ x. eqb-false (byte_at s end) question f x)

  lazily_sound : (a : ℕ) (atom : AtomBefore s a) (b : Braces) → Counted a atom b → QuantifierMeans a (lazily s a b)
  lazily_sound a atom (counts n none end) h = laziness a end n none (Times.counted h)
  lazily_sound a atom (counts n (some m) end) h = laziness a end n (some (m - n)) (Times.counted h)
  lazily_sound a atom (refused number) h = (refl, h)

  pub quantifier_sound : (a : ℕ) → AtomBefore s a → QuantifierMeans a (quantifier_at s a)
  unfolding quantifier_at
  quantifier_sound a atom =
      let b : ℕ = byte_at s a in
      by_test (QuantifierMeans a) (eqb b star) (λ e. laziness a (a + 1) 0 none (Times.any (eqb-true b star e))) (λ e₁.
      by_test (QuantifierMeans a) (eqb b plus) (λ e. laziness a (a + 1) 1 none (Times.some_times (eqb-true b plus e))) (λ e₂.
      by_test (QuantifierMeans a) (eqb b question)
      (λ e. laziness a (a + 1) 0 (some (1 - 0)) (Times.maybe (eqb-true b question e))) (λ e₃.
      by_test (QuantifierMeans a) (eqb b open_brace)
      (λ e. lazily_sound a atom (braces_at s a) (braces_sound a atom (eqb-true b open_brace e))) (λ e₄.
      rw (e₁, e₂, e₃, e₄)))))
