-- Laws of the texts: how the digits of a number go on, that they read back and are few, and how spaced numbers go on.
use Rattle.std.specs.Prelude.{◌≡◌, refl, Bool, true, false, cond, List, [], ◌∷◌, ◌++◌, ℕ, zero, suc, ◌+◌, ◌-◌, ◌*◌, ◌/◌, ◌%◌, ◌^◌, ◌≤◌, ◌<◌, ltb, ℤ, pos, negsuc, nat_abs, length, get_or, take}
use Rattle.std.proofs.Common.{sym, ap, ◌∙◌, true≢false, append_assoc, append-nil, pow-suc, add-one, arith, lt-ltb, le-ltb, ltb-true, ltb-false, length-append, take-suc}
use Rattle.std.proofs.Math.ListN.{get_or-append}
use Rattle.std.proofs.Math.Seq.{slice, slice_empty}
use Rattle.std.specs.Int.Signed.{mag, lt_z}
use Rattle.meaning.specs.Quoted.{bytes}
use Rattle.intake_report.specs.Texts.{lf, digit, digits, decimal, shown_number, further, spaced, spans_line}

-- Digits at two counts of turns, given that those of the tenth are the same.
digits_step : (s t n : ℕ) → (10 ≤ n → digits s (n / 10) ≡ digits t (n / 10)) → digits (suc s) n ≡ digits (suc t) n
unfolding digits
digits_step s t n same = by (ltb n 10) refl
  where
    by : (p : Bool) → ltb n 10 ≡ p → cond p (digit n) (digits s (n / 10) ++ digit (n % 10))
        ≡ cond p (digit n) (digits t (n / 10) ++ digit (n % 10))
    by true e = refl
    by false e = ap (λ d. d ++ digit (n % 10)) (same (ltb-false n 10 e))

-- More turns than the number give the same digits.
digits_same : (s t n : ℕ) → n < s → n < t → digits s n ≡ digits t n
digits_same zero t n h k = absurd (omega arith)
digits_same (suc s) zero n h k = absurd (omega arith)
digits_same (suc s) (suc t) n h k = digits_step s t n (λ l. digits_same s t (n / 10) (omega arith) (omega arith))

-- A number below ten is one digit.
pub decimal_one : (n : ℕ) → n < 10 → decimal n ≡ digit n
unfolding decimal digits
decimal_one n h = rw (lt-ltb n 10 h)

-- Any other is the digits of its tenth and one more.
pub decimal_more : (n : ℕ) → 10 ≤ n → decimal n ≡ decimal (n / 10) ++ digit (n % 10)
unfolding decimal digits
decimal_more n h =
    rw (le-ltb n 10 h) (ap (λ d. d ++ digit (n % 10)) (digits_same n (suc (n / 10)) (n / 10) (omega arith) (omega arith)))

pub decimal_longer : (n : ℕ) → 10 ≤ n → length (decimal n) ≡ length (decimal (n / 10)) + 1
decimal_longer n h = rw (decimal_more n h, length-append)

-- What holds of one digit, and with a digit more of a number for its tenth, holds of every number.
pub decimal_ind : (P : ℕ → Type 0) → ((n : ℕ) → n < 10 → P n) → ((n : ℕ) → 10 ≤ n → P (n / 10) → P n) → (n : ℕ) → P n
decimal_ind P one more n = go (suc n) n (omega arith)
  where
    by : (n : ℕ) (p : Bool) → ltb n 10 ≡ p → (10 ≤ n → P (n / 10)) → P n
    by n true e rest = one n (ltb-true n 10 e)
    by n false e rest = more n (ltb-false n 10 e) (rest (ltb-false n 10 e))

    go : (t n : ℕ) → n < t → P n
    go zero n h = absurd (omega arith)
    go (suc t) n h = by n (ltb n 10) refl (λ l. go t (n / 10) (omega arith))

-- A number below 10 ^ (k + 1) has at most k + 1 digits.
pub decimal_short : (k n : ℕ) → n < 10 ^ suc k → length (decimal n) ≤ suc k
decimal_short k n h = decimal_ind (λ n. (k : ℕ) → n < 10 ^ suc k → length (decimal n) ≤ suc k) one more n k h
  where
    one : (n : ℕ) → n < 10 → (k : ℕ) → n < 10 ^ suc k → length (decimal n) ≤ suc k
    one n l k h = rw (decimal_one n l) (omega arith)

    more : (n : ℕ) → 10 ≤ n → ((k : ℕ) → n / 10 < 10 ^ suc k → length (decimal (n / 10)) ≤ suc k)
        → (k : ℕ) → n < 10 ^ suc k → length (decimal n) ≤ suc k
    more n l rest zero h = absurd (omega arith)
    more n l rest (suc k) h =
        let tenth : length (decimal (n / 10)) ≤ suc k = rest k (omega (arith, rw (pow-suc 10 (suc k)) at h)) in
        rw (decimal_more n l, length-append) (omega arith)

pub decimal_word : (n : ℕ) → n < 2 ^ 64 → length (decimal n) ≤ 20
decimal_word n h = decimal_short 19 n (omega arith)

-- There is a digit.
pub decimal_some : (n : ℕ) → 0 < length (decimal n)
decimal_some n = decimal_ind (λ n. 0 < length (decimal n)) (λ n l. rw (decimal_one n l) (omega arith))
    (λ n l rest. rw (decimal_more n l, length-append) (omega arith)) n

-- The number that digits stand for: with each digit ten times what came before, and the digit.
abbrev pub value_from : ℕ → List ℕ → ℕ
value_from v [] = v
value_from v (d ∷ l) = value_from (10 * v + (d - 48)) l

value_append : (v : ℕ) (l m : List ℕ) → value_from v (l ++ m) ≡ value_from (value_from v l) m
value_append v [] m = refl
value_append v (d ∷ l) m = value_append (10 * v + (d - 48)) l m

-- A number's digits stand for it.
pub decimal_value : (n : ℕ) → value_from 0 (decimal n) ≡ n
decimal_value = decimal_ind (λ n. value_from 0 (decimal n) ≡ n) (λ n l. rw (decimal_one n l) (omega arith))
    (λ n l rest. rw (decimal_more n l, value_append, rest) (omega arith))

-- The first digit is 0 for 0 alone.
pub decimal_first : (n : ℕ) → get_or (decimal n) 0 0 ≡ 48 → n ≡ 0
decimal_first = decimal_ind (λ n. get_or (decimal n) 0 0 ≡ 48 → n ≡ 0) (λ n l e. omega (arith, rw (decimal_one n l) at e))
    (λ n l rest e.
    let tenth : n / 10 ≡ 0 =
    rest (sym (get_or-append (decimal (n / 10)) (digit (n % 10)) 0 0 (decimal_some (n / 10)))
    ∙ sym (ap (λ d. get_or d 0 0) (decimal_more n l)) ∙ e) in
    omega arith)

-- A number that is below 0 has a minus sign, and no other.
pub shown_negative : (z : ℤ) → lt_z z (pos 0) ≡ true → shown_number z ≡ (45 ∷ []) ++ decimal (nat_abs z)
unfolding shown_number
shown_negative (pos n) e = absurd (omega (arith, ltb-true n 0 e))
shown_negative (negsuc n) e = refl

pub shown_plain : (z : ℤ) → lt_z z (pos 0) ≡ false → shown_number z ≡ decimal (nat_abs z)
unfolding shown_number
shown_plain (pos n) e = refl
shown_plain (negsuc n) e = absurd (true≢false e)

-- A number of 32 bits has at most 10 digits, and is shown by at most 11 bytes.
pub digits_few : (z : ℤ) → mag z < 2 ^ 31 → length (decimal (nat_abs z)) ≤ 10
digits_few (pos n) h = decimal_short 9 n (omega arith)
digits_few (negsuc n) h = decimal_short 9 (suc n) (omega arith)

pub shown_short : (z : ℤ) → mag z < 2 ^ 31 → length (shown_number z) ≤ 11
unfolding shown_number
shown_short (pos n) h = let l : length (decimal n) ≤ 10 = digits_few (pos n) h in omega arith
shown_short (negsuc n) h = let l : length (decimal (suc n)) ≤ 10 = digits_few (negsuc n) h in omega arith

further_snoc : (l : List ℤ) (z : ℤ) → further (l ++ z ∷ []) ≡ further l ++ bytes " " ++ shown_number z
unfolding further
further_snoc [] z = append-nil (bytes " " ++ shown_number z)
further_snoc (y ∷ l) z = rw (further_snoc l z) (simp append_assoc)

-- Behind the first number there is none yet.
pub further_none : (l : List ℤ) → further (slice 1 1 l) ≡ []
unfolding further
further_none l = ap further (slice_empty 1 l)

-- One number more: a space and the number.
pub further_more : (l : List ℤ) (i : ℕ) → 0 < i → i < length l
    → further (slice 1 (i + 1) l) ≡ further (slice 1 i l) ++ bytes " " ++ shown_number (get_or l i (pos 0))
further_more [] i p h = absurd (omega arith)
further_more (z ∷ l) zero p h = absurd (omega arith)
further_more (z ∷ l) (suc i) p h = rw (add-one (suc i), take-suc l i (pos 0) (omega arith), further_snoc)

-- The line of a list's first numbers: the first number, those behind it, LF; without numbers, LF alone.
pub spans_some : (l : List ℤ) (n : ℕ) → 0 < n → n ≤ length l
    → shown_number (get_or l 0 (pos 0)) ++ further (slice 1 n l) ++ lf ≡ spans_line (take n l)
unfolding spans_line spaced
spans_some [] n p h = absurd (omega arith)
spans_some (z ∷ l) zero p h = absurd (omega arith)
spans_some (z ∷ l) (suc n) p h = refl

pub spans_none : (l : List ℤ) (n : ℕ) → n ≡ 0 → lf ≡ spans_line (take n l)
unfolding spans_line spaced
spans_none l n e = rw e
