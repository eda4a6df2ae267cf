-- What is read is exactly what is written as a number.
use Rattle.std.specs.Prelude.{◌≡◌, refl, Bool, true, false, cond, ◌&&◌, List, [], ◌∷◌, ◌++◌, ℕ, zero, suc, ◌+◌, ◌-◌, ◌*◌, ◌≤◌, ◌<◌, eqb, ltb, length}
use Rattle.std.proofs.Common.{sym, ap, subst, ◌∙◌, append-nil, arith, ltb-true, eqb-true, lt-ltb, ne_eqb}
use Rattle.std.proofs.lemmas.Bool.{false≢true}
use Rattle.std.proofs.Math.Option.{Option, none, some}
use Rattle.sets.specs.Sets.{is_digit}
use Rattle.meaning.specs.Limits.{digit_limit}
use Rattle.meaning.specs.Tests.{and_true, by_test}
use Rattle.fields.specs.Fields.{minus_sign, point, all_digits, number_from, number_of, Digits, Numeral, numeral}
use Rattle.fields.specs.Fields.{Unsigned, whole, pointed, Written, plain, negative}
use Rattle.fields.specs.Scanning.{Scanned, scanned, digits_from, ended, after_digits, unsigned, numeral_in}
use Rattle.fields.specs.Laws.{over, other, more}

-- ---- what is written is read

-- Digits are read as the number that they are, as far as there may be more.
digits_read : (s t : List ℕ) (n room : ℕ) → all_digits s ≡ true → length s ≤ room
    → digits_from n room (s ++ t) ≡ digits_from (number_from n s) (room - length s) t
digits_read [] t n room e l = let left : room ≡ room - 0 = omega arith in ap (λ k. digits_from n k t) left
digits_read (b ∷ s) t n room e l =
    let (d, ds) = and_true (is_digit b) (all_digits s) e in
    let v : ℕ = 10 * n + (b - 0x30) in
    let left : room - 1 - length s ≡ room - suc (length s) = omega arith in
    more n room b (s ++ t) (omega arith) d ∙ digits_read s t v (room - 1) ds (omega arith)
    ∙ ap (λ k. digits_from (number_from v s) k t) left

-- The digits of two parts are one number.
number_append : (s t : List ℕ) (n : ℕ) → number_from n (s ++ t) ≡ number_from (number_from n s) t
number_append [] t n = refl
number_append (b ∷ s) t n = number_append s t (10 * n + (b - 0x30))

no_digit_point : is_digit point ≡ false
unfolding is_digit
no_digit_point = refl

no_digit_minus : is_digit minus_sign ≡ false
unfolding is_digit
no_digit_minus = refl

unsigned_read : (minus : Bool) {s : List ℕ} {n d : ℕ} → Unsigned s n d → unsigned minus s ≡ some (numeral minus n d)
unfolding unsigned
unsigned_read minus (whole {s} h l) =
    let read : digits_from 0 digit_limit s ≡ scanned (number_of s) (digit_limit - length s) []
    = ap (digits_from 0 digit_limit) (sym (append-nil s)) ∙ digits_read s [] 0 digit_limit h.each l
    ∙ over (number_of s) (digit_limit - length s) in
    rw (read, lt-ltb (digit_limit - length s) digit_limit (omega (arith, h.one)))
unsigned_read minus (pointed {s} {t} h g l) =
    let room : ℕ = digit_limit - length s in
    let left : ℕ = room - length t in
    let first : digits_from 0 digit_limit (s ++ (point ∷ t)) ≡ scanned (number_of s) room (point ∷ t)
    = digits_read s (point ∷ t) 0 digit_limit h.each (omega arith) ∙ other (number_of s) room point t no_digit_point in
    let behind : digits_from (number_of s) room t ≡ scanned (number_of (s ++ t)) left []
    = ap (digits_from (number_of s) room) (sym (append-nil t)) ∙ digits_read t [] (number_of s) room g.each (omega arith)
    ∙ over (number_from (number_of s) t) left ∙ ap (λ n. scanned n left []) (sym (number_append s t 0)) in
    let decimals : room - left ≡ length t = omega arith in
    rw (first, lt-ltb room digit_limit (omega (arith, h.one)), behind, lt-ltb left room (omega (arith, g.one)))
    (ap (λ d. some (numeral minus (number_of (s ++ t)) d)) decimals)

-- What begins with a digit has no minus.
first_digit : (s : List ℕ) → Digits s → (t : List ℕ) → numeral_in (s ++ t) ≡ unsigned false (s ++ t)
unfolding numeral_in
first_digit [] h t = absurd (omega (arith, h.one))
first_digit (b ∷ s) h t =
    let d = (and_true (is_digit b) (all_digits s) h.each).0 in
    rw (ne_eqb b minus_sign (λ e. false≢true (sym no_digit_minus ∙ sym (ap is_digit e) ∙ d)))

unsigned_first : {s : List ℕ} {n d : ℕ} → Unsigned s n d → numeral_in s ≡ unsigned false s
unsigned_first (whole {s} h l) = subst (λ (t : List ℕ). numeral_in t ≡ unsigned false t) (append-nil s) (first_digit s h [])
unsigned_first (pointed {s} {t} h g l) = first_digit s h (point ∷ t)

pub written_read : {s : List ℕ} {n : Numeral} → Written s n → numeral_in s ≡ some n
unfolding numeral_in
written_read (plain u) = unsigned_first u ∙ unsigned_read false u
written_read (negative u) = unsigned_read true u

-- ---- what is read is written

-- The digits that were taken, and how many there may still be.
record Taken (n room : ℕ) (s : List ℕ) (r : Scanned) : Type 0 where
  front : List ℕ
  is : s ≡ front ++ r.rest
  digits : all_digits front ≡ true
  number_is : r.number ≡ number_from n front
  count : r.room + length front ≡ room

none_taken : (n room : ℕ) (s : List ℕ) → Taken n room s (scanned n room s)
none_taken n room s = record { front = []; is = refl; digits = refl; number_is = refl; count = omega arith }

taken : (n room : ℕ) (s : List ℕ) → Taken n room s (digits_from n room s)
unfolding digits_from
taken n zero s = none_taken n zero s
taken n (suc room) [] = none_taken n (suc room) []
taken n (suc room) (b ∷ s) =
    by_test (Taken n (suc room) (b ∷ s)) (is_digit b) (λ d. one_more d (taken (10 * n + (b - 0x30)) room s))
    (λ _. none_taken n (suc room) (b ∷ s))
  where
    one_more : {r : Scanned} → is_digit b ≡ true → Taken (10 * n + (b - 0x30)) room s r → Taken n (suc room) (b ∷ s) r
    one_more d t = record {
      front = b ∷ t.front;
      is = ap (λ l. b ∷ l) t.is;
      digits = rw d t.digits;
      number_is = t.number_is;
      count = omega (arith, t.count);
    }

-- What a test let through.
through : {A : Type 0} (b : Bool) {u : Option A} {x : A} → cond b u none ≡ some x → (b ≡ true) × (u ≡ some x)
through true e = (refl, e)
through false e = absurd (let z : ◌≡◌ {A = ℕ} 0 1 = cc in omega arith)

-- A number as it was read behind its sign.
record Said (minus : Bool) (s : List ℕ) (x : Numeral) : Type 0 where
  sign : x.minus ≡ minus
  said : Unsigned s x.number x.decimals

said_by : {minus : Bool} {s : List ℕ} {x : Numeral} {n d : ℕ} → some (numeral minus n d) ≡ some x → Unsigned s n d
    → Said minus s x
said_by {minus} {s} {x} {n} {d} e u =
    let is : numeral minus n d ≡ x = cc in
    subst (λ (y : Numeral). Said minus s y) is (record { sign = refl; said = u })

no_bytes_lem : (s : List ℕ) → length s ≡ 0 → s ≡ []
no_bytes_lem [] e = refl
no_bytes_lem (b ∷ s) e = absurd (omega arith)

behind_point : (minus : Bool) (s : List ℕ) (n room : ℕ) (u : List ℕ) {x : Numeral}
    → Taken 0 digit_limit s (scanned n room (point ∷ u)) → room < digit_limit
    → (r : Scanned) → Taken n room u r → ended minus room r ≡ some x → Said minus s x
behind_point minus s n room u t l r t' e =
    let (tests, is) = through (ltb r.room room && eqb (length r.rest) 0) e in
    let (fewer, over) = and_true (ltb r.room room) (eqb (length r.rest) 0) tests in
    let less : r.room < room = ltb-true r.room room fewer in
    let nothing : r.rest ≡ [] = no_bytes_lem r.rest (eqb-true (length r.rest) 0 over) in
    let all : u ≡ t'.front = t'.is ∙ ap (λ l. t'.front ++ l) nothing ∙ append-nil t'.front in
    let bytes : s ≡ t.front ++ (point ∷ t'.front) = t.is ∙ ap (λ l. t.front ++ (point ∷ l)) all in
    let number : number_of (t.front ++ t'.front) ≡ r.number
    = number_append t.front t'.front 0 ∙ ap (λ k. number_from k t'.front) (sym t.number_is) ∙ sym t'.number_is in
    let decimals : length t'.front ≡ room - r.room = omega (arith, t'.count) in
    said_by is (rw (bytes, ← number, ← decimals)
    (pointed {s = t.front} {t = t'.front} (record { one = omega (arith, t.count); each = t.digits })
    (record { one = omega (arith, t'.count); each = t'.digits }) (omega (arith, t.count, t'.count))))

after_digits_lem : (minus : Bool) (s : List ℕ) (n room : ℕ) (rest : List ℕ) {x : Numeral}
    → Taken 0 digit_limit s (scanned n room rest) → room < digit_limit → after_digits minus n room rest ≡ some x → Said minus s x
after_digits_lem minus s n room [] t l e =
    let bytes : s ≡ t.front = t.is ∙ append-nil t.front in
    said_by e (rw (bytes, t.number_is)
    (whole {s = t.front} (record { one = omega (arith, t.count); each = t.digits }) (omega (arith, t.count))))
after_digits_lem minus s n room (b ∷ u) t l e =
    let (is-point, is) = through (eqb b point) e in
    let t' = subst (λ (b : ℕ). Taken 0 digit_limit s (scanned n room (b ∷ u))) (eqb-true b point is-point) t in
    behind_point minus s n room u t' l (digits_from n room u) (taken n room u) is

unsigned_written : (minus : Bool) (s : List ℕ) {x : Numeral} → unsigned minus s ≡ some x → Said minus s x
unfolding unsigned
unsigned_written minus s e =
    let r : Scanned = digits_from 0 digit_limit s in
    let (fewer, is) = through (ltb r.room digit_limit) e in
    after_digits_lem minus s r.number r.room r.rest (taken 0 digit_limit s) (ltb-true r.room digit_limit fewer) is

plain_said : {s : List ℕ} {x : Numeral} → Said false s x → Written s x
plain_said {s} {x} h = subst (λ (m : Bool). Written s (numeral m x.number x.decimals)) (sym h.sign) (plain h.said)

negative_said : {s : List ℕ} {x : Numeral} → Said true s x → Written (minus_sign ∷ s) x
negative_said {s} {x} h =
    subst (λ (m : Bool). Written (minus_sign ∷ s) (numeral m x.number x.decimals)) (sym h.sign) (negative h.said)

pub read_written : (s : List ℕ) (x : Numeral) → numeral_in s ≡ some x → Written s x
unfolding numeral_in
read_written [] x e = plain_said (unsigned_written false [] e)
read_written (b ∷ s) x e = go (eqb b minus_sign) refl e
  where
    go : (t : Bool) → eqb b minus_sign ≡ t → cond t (unsigned true s) (unsigned false (b ∷ s)) ≡ some x → Written (b ∷ s) x
    go true f e = rw (eqb-true b minus_sign f) (negative_said (unsigned_written true s e))
    go false f e = plain_said (unsigned_written false (b ∷ s) e)
