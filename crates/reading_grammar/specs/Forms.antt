-- The three forms of counts as they are read.
use Rattle.std.proofs.Math.Path.{◌≡◌, refl, sym}
use Rattle.std.proofs.Common.{ap, subst, ◌∙◌}
use Rattle.std.specs.Prelude.{◌⊎◌, true, false, ◌||◌, ◌&&◌, List, ltb}
use Rattle.std.proofs.Math.Logic.{inl, inr}
use Rattle.std.proofs.Math.Bool.{or-true, false≢true}
use Rattle.std.proofs.Math.Option.{Option, none, some}
use Prim.Native.Nat.{ℕ, zero, suc, ◌+◌, ◌-◌, ◌*◌, ◌≤◌, ◌<◌}
use native.Mathlib.Omega.{arith}
use Rattle.std.proofs.Math.Dec.{eqb}
use Rattle.std.proofs.Math.ListN.{length}
use borrow.Author.Tests.{eqb-true, eq-eqb, ne_eqb, lt-ltb}
use Rattle.sets.specs.Sets.{is_digit}
use Rattle.meaning.specs.Limits.{count_limit}
use Rattle.meaning.specs.Tests.{and_true, by_test}
use Rattle.meaning.specs.Refusals as No
use Rattle.reading_atoms.specs.Chars.{byte_at, open_brace, close_brace, comma}
use Rattle.reading_atoms.specs.Braces.{Braces, Braces.refused, Number, number_go, number_at, judged, unlimited, braces_at}
use Rattle.reading_items.specs.Facts.{byte_within}
use Rattle.reading_grammar.specs.Atoms.{Is, Digits, Digits.digit, Digits.more}
use Rattle.reading_grammar.specs.ClassesSound.{by_choice}
use Rattle.reading_grammar.specs.Within.{known}
use Rattle.reading_grammar.specs.Refusals.{Form, Form.exactly, Form.least, Form.range, Above}

-- Two counts that are judged, or one with no maximum.
abbrev pub judges : ℕ → Option ℕ → ℕ → Braces
judges n none end = unlimited n end
judges n (some m) end = judged n m end

module _ (s : List ℕ) where
  -- How far digits go.
  pub digits_on : {a b v : ℕ} → Digits s a b v → a < b
  digits_on (digit e) = omega arith
  digits_on (more t e) = omega (arith, digits_on t)

  -- The reader of numbers, from their first digit on, comes to where they end, with fuel left.
  record Comes (a fuel b v : ℕ) : Type 0 where
    left : ℕ
    same : number_go s fuel 0 a ≡ number_go s left v b
    enough : a + fuel ≤ b + left

  digits_complete : {a b v : ℕ} → Digits s a b v → (fuel : ℕ) → b ≤ a + fuel → Comes a fuel b v
  unfolding number_go
  digits_complete (digit {a = a} e) zero h = absurd (omega arith)
  digits_complete (digit {a = a} e) (suc fuel) h =
      record { left = fuel; same = rw e (ap (λ v. number_go s fuel v (a + 1)) (omega arith)); enough = omega arith }
  digits_complete (more {a = a} {b = b} {v = v} t e) fuel h = go (digits_complete t fuel (omega arith))
    where
      go : Comes a fuel b v → Comes a fuel (b + 1) (10 * v + (byte_at s b - 0x30))
      go c = by c.left c.same c.enough
        where
          by : (f : ℕ) → number_go s fuel 0 a ≡ number_go s f v b → a + fuel ≤ b + f
              → Comes a fuel (b + 1) (10 * v + (byte_at s b - 0x30))
          by zero p q = absurd (omega arith)
          by (suc f) p q = record { left = f; same = p ∙ rw e; enough = omega arith }

  -- So a number that no digit follows is read.
  pub number_complete : {a b v : ℕ} → Digits s a b v → is_digit (byte_at s b) ≡ false → b ≤ length s
      → number_at s a ≡ record { value = v; end = b }
  unfolding number_at number_go
  number_complete {a} {b} {v} t e l =
      let c : Comes a (length s) b v = digits_complete t (length s) (omega arith) in
      c.same ∙ stops c.left
    where
      stops : (f : ℕ) → number_go s f v b ≡ record { value = v; end = b }
      stops zero = refl
      stops (suc f) = rw e

  pub digits_first : {a b v : ℕ} → Digits s a b v → is_digit (byte_at s a) ≡ true
  digits_first (digit e) = e
  digits_first (more t e) = digits_first t

  pub no_digit : (a b : ℕ) → Is s a b → is_digit b ≡ false → is_digit (byte_at s a) ≡ false
  no_digit a b h e = ap is_digit h ∙ e

  -- One of the three forms is read as its counts, judged.
  pub form_read : {a e n : ℕ} {m : Option ℕ} → Form s a e n m → braces_at s a ≡ judges n m e
  unfolding braces_at is_digit
  form_read (exactly {b = b} at t c) =
      let l : b < length s = known s b close_brace c (λ x. omega arith) in
      rw (digits_first t, number_complete t (no_digit b close_brace c refl) (omega arith), eq-eqb (byte_at s b) close_brace c)
  form_read (least {b = b} {n = n} at t c d) =
      let l : b < length s = known s b comma c (λ x. omega arith) in
      rw (
        digits_first t,
        number_complete t (no_digit b comma c refl) (omega arith),
        ne_eqb (byte_at s b) close_brace (λ z. let y : ◌≡◌ {A = ℕ} comma close_brace = sym c ∙ z in omega arith),
        eq-eqb (byte_at s b) comma c,
        eq-eqb (byte_at s (b + 1)) close_brace d,
      )
      (ap (unlimited n) (omega arith))
  form_read (range {b = b} {c = c} at t k u d) =
      let l : b < length s = known s b comma k (λ x. omega arith) in
      let l' : c < length s = known s c close_brace d (λ x. omega arith) in
      rw (
        digits_first t,
        number_complete t (no_digit b comma k refl) (omega arith),
        ne_eqb (byte_at s b) close_brace (λ z. let y : ◌≡◌ {A = ℕ} comma close_brace = sym k ∙ z in omega arith),
        eq-eqb (byte_at s b) comma k,
        ne_eqb (byte_at s (b + 1)) close_brace (λ z. false≢true (sym (ap is_digit z) ∙ digits_first u)),
        digits_first u,
        number_complete u (no_digit c close_brace d refl) (omega arith),
        eq-eqb (byte_at s c) close_brace d,
      )

  -- Digits that go on, and digits from a place with one.
  abbrev Numbers : ℕ → Number → Type 0
  Numbers a n = Digits s a n.end n.value

  go_digits : (fuel a v at : ℕ) → Digits s a at v → Numbers a (number_go s fuel v at)
  unfolding number_go
  go_digits zero a v at h = h
  go_digits (suc fuel) a v at h =
      by_choice (Numbers a) (is_digit (byte_at s at)) _ _
      (λ e. go_digits fuel a (10 * v + (byte_at s at - 0x30)) (at + 1) (Digits.more h e)) (λ e. h)

  digits_sound : (a : ℕ) → is_digit (byte_at s a) ≡ true → Numbers a (number_at s a)
  unfolding number_at number_go is_digit
  digits_sound a e = start (length s) (omega
      (arith, byte_within s a (byte_at s a) refl (λ x. false≢true (subst (λ (b : ℕ). is_digit b ≡ true) x e))))
    where
      start : (fuel : ℕ) → 0 < fuel → Numbers a (number_go s fuel 0 a)
      start zero k = absurd (omega arith)
      start (suc fuel) k = rw e (go_digits fuel a (10 * 0 + (byte_at s a - 0x30)) (a + 1)
          (subst (Digits s a (a + 1)) (omega arith) (Digits.digit e)))

  -- What is read is one of the three forms, or refused as 7.
  abbrev pub Formed : ℕ → Type 0
  Formed a = (e : ℕ) × (n : ℕ) × (m : Option ℕ) × Form s a e n m

  abbrev Said : ℕ → Braces → Type 0
  Said a x = (x ≡ refused No.bad_braces) ⊎ Formed a

  pub form_sound : (a : ℕ) → Is s a open_brace → Said a (braces_at s a)
  unfolding braces_at
  form_sound a at =
      let n : Number = number_at s (a + 1) in
      let b : ℕ = n.end + 1 in
      let m : Number = number_at s b in
      by_test (Said a) (is_digit (byte_at s (a + 1))) (λ e. let t : Numbers (a + 1) n = digits_sound (a + 1) e in
      by_test (Said a) (eqb (byte_at s n.end) close_brace)
      (λ f. inr (b, n.value, some n.value, Form.exactly at t (eqb-true (byte_at s n.end) close_brace f)))
      (λ _. by_test (Said a) (eqb (byte_at s n.end) comma)
      (λ f. let c : Is s n.end comma = eqb-true (byte_at s n.end) comma f in
      by_test (Said a) (eqb (byte_at s b) close_brace)
      (λ f'. inr (n.end + 2, n.value, none, Form.least at t c (eqb-true (byte_at s b) close_brace f')))
      (λ _. by_test (Said a) (is_digit (byte_at s b) && eqb (byte_at s m.end) close_brace)
      (λ f'. let (u, v) = and_true (is_digit (byte_at s b)) (eqb (byte_at s m.end) close_brace) f' in
      inr (
        m.end + 1,
        n.value,
        some m.value,
        Form.range at t c (digits_sound b u) (eqb-true (byte_at s m.end) close_brace v),
      ))
      (λ _. inl refl)))
      (λ _. inl refl)))
      (λ _. inl refl)

-- Judged counts are never refused as 7; a count above the limit is 8; n greater than m is 9, or 8.
pub not_seven : (n e : ℕ) (m : Option ℕ) → judges n m e ≡ refused No.bad_braces → ⊥
not_seven n e none =
    by_test (λ x. x ≡ refused No.bad_braces → ⊥) (ltb count_limit n)
    (λ _ f. let z : ◌≡◌ {A = ℕ} No.high_count No.bad_braces = cc in omega arith)
    (λ _ f. let z : ◌≡◌ {A = ℕ} No.high_count No.bad_braces = cc in omega arith)
not_seven n e (some m) =
    by_test (λ x. x ≡ refused No.bad_braces → ⊥) (ltb count_limit n || ltb count_limit m)
    (λ _ f. let z : ◌≡◌ {A = ℕ} No.high_count No.bad_braces = cc in omega arith) (λ _.
    by_test (λ x. x ≡ refused No.bad_braces → ⊥) (ltb m n)
    (λ _ f. let z : ◌≡◌ {A = ℕ} No.high_count No.bad_braces = cc in omega arith)
    (λ _ f. let z : ◌≡◌ {A = ℕ} No.high_count No.bad_braces = cc in omega arith))

pub above_eight : (n e : ℕ) (m : Option ℕ) → Above n m → judges n m e ≡ refused No.high_count
above_eight n e none (Above.least l) = rw (lt-ltb count_limit n l)
above_eight n e (some m) (Above.least l) = rw (lt-ltb count_limit n l)
above_eight n e (some m) (Above.most l) = rw (lt-ltb count_limit m l, or-true)

pub disordered_nine : (n m e : ℕ) → m < n → (judged n m e ≡ refused No.high_count) ⊎ (judged n m e ≡ refused No.reversed_counts)
disordered_nine n m e l =
    by_test (λ x. (x ≡ refused No.high_count) ⊎ (x ≡ refused No.reversed_counts)) (ltb count_limit n || ltb count_limit m)
    (λ _. inl refl)
    (λ _. inr (rw (lt-ltb m n l)))
