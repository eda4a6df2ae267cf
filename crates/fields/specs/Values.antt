-- What a value is, in numbers: both casts are exact, and the division gives the float nearest to the decimal number.
use Rattle.std.specs.Prelude.{◌≡◌, refl, Bool, true, false, cond, ◌⊎◌, List, [], ◌∷◌, ◌++◌, ℕ, zero, suc, ◌+◌, ◌-◌, ◌*◌, ◌^◌, ◌<◌, ◌≤◌, T, ltb, ℤ, pos, length, Float}
use Rattle.std.proofs.Common.{sym, ap, subst, ◌∙◌, true≢false, inl, inr, ⊎_elim, mul_assoc, mul_comm, mul_left_comm, mul-pos, mul-one, zero-mul, arith, le-leb, ne_eqb, length-append}
use Rattle.std.proofs.Math.Nat.{pow-le-pow_right}
use Rattle.std.specs.Float.{nan, inf, fin, binary64, Format}
use Rattle.std.specs.Float.Ieee.{in_float, div, neg, of_int, round, units, odd, le, lt, eq, up, down, prec, to_bits, low, emax}
use Rattle.std.specs.Float.Ieee.Exact.{HasValue}
use Rattle.std.specs.Float.Ieee.Back.{round_whole}
use Rattle.std.specs.Float.Ieee.Scale.{round_same}
use Rattle.std.specs.Float.Ieee.Order.{round_mono}
use Rattle.std.specs.Float.Ieee.Fits.{up_pos, down_pos}
use Rattle.sets.specs.Sets.{is_digit}
use Rattle.meaning.specs.Limits.{digit_limit}
use Rattle.meaning.specs.Tests.{and_true}
use Rattle.fields.specs.Fields.{all_digits, number_from, number_of, Numeral, numeral, quotient, value_of}
use Rattle.fields.specs.Fields.{Unsigned, whole, pointed, Written, plain, negative}
use Rattle.fields.specs.Laws.{digit_bounds, small, next}

-- A float holds every whole number up to 2 ^ 53, and so each of 15 digits and each power of ten.
pub held : (n : ℕ) → n ≤ 10 ^ digit_limit → T (in_float binary64 (pos n))
unfolding in_float
held n h = subst T (sym (le-leb n (2 ^ 53) (omega arith))) tt

pub power_small : (d : ℕ) → d ≤ digit_limit → 10 ^ d ≤ 10 ^ digit_limit
power_small d h = pow-le-pow_right (omega arith) h

power_some : (d : ℕ) → 0 < 10 ^ d
power_some d = let one : 10 ^ 0 ≤ 10 ^ d = pow-le-pow_right (omega arith) {i = 0} {j = d} (omega arith) in omega arith

-- Neither cast rounds.
pub exact : (n : ℕ) → n ≤ 10 ^ digit_limit → HasValue (of_int binary64 (pos n)) false n 1
unfolding of_int
exact n h = round_whole binary64 false n (omega arith)

-- ---- how large a number that is written can be

digits_small : (s : List ℕ) (n k : ℕ) → all_digits s ≡ true → n < 10 ^ k → number_from n s < 10 ^ (k + length s)
digits_small [] n k e h = let same : k + 0 ≡ k = omega arith in rw same h
digits_small (b ∷ s) n k e h =
    let (d, ds) = and_true (is_digit b) (all_digits s) e in
    let same : k + suc (length s) ≡ suc k + length s = omega arith in
    rw same (digits_small s (10 * n + (b - 0x30)) (suc k) ds (next n (b - 0x30) k h (omega (arith, digit_bounds b d))))

number_small : (s : List ℕ) → all_digits s ≡ true → length s ≤ digit_limit → number_of s < 10 ^ digit_limit
number_small s e l = small (number_of s) (0 + length s) (omega arith) (digits_small s 0 0 e (omega arith))

digits_append : (s t : List ℕ) → all_digits s ≡ true → all_digits t ≡ true → all_digits (s ++ t) ≡ true
digits_append [] t e f = f
digits_append (b ∷ s) t e f =
    let (d, ds) = and_true (is_digit b) (all_digits s) e in
    rw d (digits_append s t ds f)

pub unsigned_small : {s : List ℕ} {n d : ℕ} → Unsigned s n d → (n < 10 ^ digit_limit) × (d ≤ digit_limit)
unsigned_small (whole {s} h l) = (number_small s h.each l, omega arith)
unsigned_small (pointed {s} {t} h g l) =
    (number_small (s ++ t) (digits_append s t h.each g.each) (omega (arith, length-append s t)), omega arith)

pub written_small : {s : List ℕ} {n : Numeral} → Written s n → (n.number < 10 ^ digit_limit) × (n.decimals ≤ digit_limit)
written_small (plain u) = unsigned_small u
written_small (negative u) = unsigned_small u

-- ---- the division

-- A quotient of two floats that are whole numbers is the rounded fraction of the numbers.
divided : (x y : Float) (n d : ℕ) → 0 < d → HasValue x false n 1 → HasValue y false d 1
    → div binary64 x y ≡ round binary64 false n d
unfolding div
divided nan y n d h p q = absurd p
divided (inf s) y n d h p q = absurd p
divided (fin s m e) nan n d h p q = absurd q
divided (fin s m e) (inf t) n d h p q = absurd q
divided (fin true m e) (fin t k f) n d h p q = absurd (true≢false p.0)
divided (fin false m e) (fin true k f) n d h p q = absurd (true≢false q.0)
divided (fin false m e) (fin false k f) n d h p q =
    rw (ne_eqb k 0 nonzero)
    (round_same binary64 false (m * up e * down f) (k * up f * down e) n d
    (mul-pos (mul-pos (positive k nonzero) (up_pos f)) (down_pos e)) h same)
  where
    positive : (k : ℕ) → (k ≡ 0 → ⊥) → 0 < k
    positive k g = omega arith

    below : k * up f ≡ d * down f
    below = sym (mul-one (k * up f)) ∙ q.1

    above : m * up e ≡ n * down e
    above = sym (mul-one (m * up e)) ∙ p.1

    nonzero : k ≡ 0 → ⊥
    nonzero z =
        let w : 0 < d * down f = mul-pos h (down_pos f) in
        let v : d * down f ≡ 0 = sym below ∙ ap (λ x. x * up f) z ∙ zero-mul (up f) in
        omega arith

    same : m * up e * down f * d ≡ n * (k * up f * down e)
    same =
        let turn : n * down e * down f * d ≡ n * (d * down f * down e) = simp (mul_assoc, mul_comm, mul_left_comm) in
        ap (λ x. x * down f * d) above ∙ turn ∙ ap (λ x. n * (x * down e)) (sym below)

quotient_nearest : (n d : ℕ) → n ≤ 10 ^ digit_limit → d ≤ digit_limit → quotient n d ≡ round binary64 false n (10 ^ d)
quotient_nearest n d a b =
    divided (of_int binary64 (pos n)) (of_int binary64 (pos (10 ^ d))) n (10 ^ d) (power_some d) (exact n a)
    (exact (10 ^ d) (power_small d b))

-- A negated fraction rounds to the negated float.
neg_cond : (b : Bool) (x y : Float) → neg (cond b x y) ≡ cond b (neg x) (neg y)
neg_cond true x y = refl
neg_cond false x y = refl

odd_neg : (d q k l : ℕ) → neg (odd d false q k l) ≡ odd d true q k l
unfolding odd neg
odd_neg d zero k l = refl
odd_neg d (suc q) k l = refl

units_neg : (f : Format) (q k : ℕ) → neg (units f false q k) ≡ units f true q k
unfolding units neg
units_neg f q k = rw (neg_cond, odd_neg)

round_neg : (f : Format) (n d : ℕ) → neg (round f false n d) ≡ round f true n d
unfolding round
round_neg f n d = units_neg f _ _

-- The value is the float nearest to the decimal number.
pub nearest : {s : List ℕ} {n : Numeral} → Written s n
    → value_of n ≡ round binary64 n.minus n.number (10 ^ n.decimals)
nearest {n = n} w = by_sign n.minus
  where
    is : quotient n.number n.decimals ≡ round binary64 false n.number (10 ^ n.decimals)
    is = quotient_nearest n.number n.decimals (omega (arith, written_small w)) (written_small w).1

    by_sign : (minus : Bool) → value_of (numeral minus n.number n.decimals)
        ≡ round binary64 minus n.number (10 ^ n.decimals)
    by_sign true = ap neg is ∙ round_neg binary64 n.number (10 ^ n.decimals)
    by_sign false = is

-- ---- its bits

-- A float that is a number, negative or not.
pub record Finite (minus : Bool) (x : Float) : Type 0 where
  pub significand : ℕ
  pub exponent : ℤ
  pub is_finite : x ≡ fin minus significand exponent

-- What is rounded without a sign is finite or an infinity,
odd_finite : (d q k l : ℕ) → Finite false (odd d false q k l)
unfolding odd
odd_finite d zero k l = record { significand = 0; exponent = pos 0; is_finite = refl }
odd_finite d (suc q) k l = record { significand = _; exponent = _; is_finite = refl }

units_either : (f : Format) (q k : ℕ) → Finite false (units f false q k) ⊎ (units f false q k ≡ inf false)
unfolding units
units_either f q k = go (ltb (q * 2 ^ k) (2 ^ (low f + suc (emax f))))
  where
    go : (b : Bool) → let x : Float = cond b (odd (suc (prec f)) false q k (low f)) (inf false) in
        Finite false x ⊎ (x ≡ inf false)
    go true = inl (odd_finite (suc (prec f)) q k (low f))
    go false = inr refl

round_either : (f : Format) (n d : ℕ) → Finite false (round f false n d) ⊎ (round f false n d ≡ inf false)
unfolding round
round_either f n d = units_either f _ _

-- and finite if it is at most a whole number.
not_above : (y : Float) (n : ℕ) → HasValue y false n 1 → T (le (inf false) y) → ⊥
unfolding le lt eq
not_above nan n h l = h
not_above (inf s) n h l = h
not_above (fin s m e) n h l = l

quotient_finite : (n d : ℕ) → n ≤ 10 ^ digit_limit → d ≤ digit_limit → Finite false (quotient n d)
quotient_finite n d a b =
    let one : 1 ≤ 10 ^ d = power_some d in
    let low : n * 1 ≤ 10 ^ digit_limit * 10 ^ d = omega arith in
    let most : T (le (round binary64 false n (10 ^ d)) (round binary64 false (10 ^ digit_limit) 1))
    = round_mono binary64 n (10 ^ d) (10 ^ digit_limit) 1 (power_some d) (omega arith) low in
    rw (quotient_nearest n d a b)
    (⊎_elim (λ h. h) (λ e. absurd (not_above _ (10 ^ digit_limit) (round_whole binary64 false (10 ^ digit_limit) (omega arith))
    (subst (λ (x : Float). T (le x (round binary64 false (10 ^ digit_limit) 1))) e most))) (round_either binary64 n (10 ^ d)))

-- The sign's bit stands before the bits of the same float without it.
signed_bits : (m : ℕ) (e : ℤ) → to_bits binary64 (neg (fin false m e)) ≡ 2 ^ 63 + to_bits binary64 (fin false m e)
unfolding to_bits neg
signed_bits m e = sum _ _
  where
    sum : (a b : ℕ) → 2 ^ 63 + a + b ≡ 2 ^ 63 + (0 + a + b)
    sum a b = omega arith

-- The bits are those of the stated division, with the sign's bit before them exactly if a minus stands there.
pub bits : {s : List ℕ} {n : Numeral} → Written s n
    → to_bits binary64 (value_of n) ≡ cond n.minus (2 ^ 63) 0 + to_bits binary64 (quotient n.number n.decimals)
bits {n = n} w = by_sign n.minus
  where
    f : Finite false (quotient n.number n.decimals)
    f = quotient_finite n.number n.decimals (omega (arith, written_small w)) (written_small w).1

    by_sign : (minus : Bool) → to_bits binary64 (value_of (numeral minus n.number n.decimals))
        ≡ cond minus (2 ^ 63) 0 + to_bits binary64 (quotient n.number n.decimals)
    by_sign true = rw f.is_finite (signed_bits f.significand f.exponent)
    by_sign false = omega arith

-- The value is a number, never an infinity, and has the sign that stands there, a zero too.
pub finite : {s : List ℕ} {n : Numeral} → Written s n → Finite n.minus (value_of n)
unfolding neg
finite {n = n} w = by_sign n.minus
  where
    f : Finite false (quotient n.number n.decimals)
    f = quotient_finite n.number n.decimals (omega (arith, written_small w)) (written_small w).1

    by_sign : (minus : Bool) → Finite minus (value_of (numeral minus n.number n.decimals))
    by_sign true = record { significand = f.significand; exponent = f.exponent; is_finite = ap neg f.is_finite }
    by_sign false = f
