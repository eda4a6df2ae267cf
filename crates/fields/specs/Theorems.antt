-- What reading a span and passing a gate come to, over the calls' definitions.
use Rattle.std.specs.Prelude.{◌≡◌, refl, true, false, cond, ◌↔◌, List, ℕ, ◌+◌, ◌^◌, ℤ, pos, Float}
use Rattle.std.proofs.Common.{sym, ap, subst, ◌∙◌, arith}
use Rattle.std.proofs.Math.Bool.{and-true}
use Rattle.std.proofs.Math.Option.{Option, none, some}
use Rattle.std.specs.Float.{inf, binary64}
use Rattle.std.specs.Float.Ieee.{of_int, to_bits, round, lt, is_nan}
use Rattle.std.specs.Float.Ieee.Exact.{HasValue}
use Rattle.meaning.specs.Refusals as No
use Rattle.fields.specs.Fields.{span_of, Numeral, Written, quotient, reading_of, field_by}
use Rattle.fields.specs.Scanning.{numeral_of, field_of}
use Rattle.fields.specs.Gates.{passing, passing_value, passing_by, passing_field}
use Rattle.fields.specs.Grammar.{written_read, read_written}
use Rattle.fields.specs.Values as values
use Rattle.fields.specs.Values.{Finite, power_small, written_small}
use Rattle.fields.specs.Order.{above_numbers, below_numbers, at_itself, none_below, none_above, from_below, to_above}
use Rattle.fields.specs.declared.Reading.{Reading}
use Rattle.fields.specs.Field.{Field, Number, Refused}
use Rattle.fields.specs.declared.Gate.{Gate}
use Rattle.fields.specs.declared.Gate.TheVariants.{AtMost, AtLeast, Between}
use Rattle.fields.specs.Passing.{Passing, Passes, Stopped}

-- What a span holds: its bytes are written as a number.
pub record Holds (text : List ℕ) (start end : ℤ) (n : Numeral) : Type 0 where
  pub bytes : List ℕ
  pub are_bytes : span_of text start end ≡ some bytes
  pub written : Written bytes n

some_same : {A : Type 0} {x y : A} → some x ≡ some y → x ≡ y
some_same e = cc

pub one_numeral : {s : List ℕ} {n m : Numeral} → Written s n → Written s m → n ≡ m
one_numeral w v = some_same (sym (written_read w) ∙ written_read v)

pub held_read : (text : List ℕ) (start end : ℤ) (n : Numeral)
    → (numeral_of (span_of text start end) ≡ some n) ↔ Holds text start end n
held_read text start end n = (
  from (span_of text start end) refl,
  λ h. ap numeral_of h.are_bytes ∙ written_read h.written,
)
  where
    from : (span : Option (List ℕ)) → span_of text start end ≡ span → numeral_of span ≡ some n → Holds text start end n
    from none e f = absurd (let z : ◌≡◌ {A = ℕ} 0 1 = cc in omega arith)
    from (some s) e f = record { bytes = s; are_bytes = e; written = read_written s n f }

-- A reading of the number that a span holds.
pub record Reads (text : List ℕ) (start end : ℤ) (r : Reading) : Type 0 where
  pub numeral_read : Numeral
  pub held : Holds text start end numeral_read
  pub is_reading : r ≡ reading_of numeral_read

-- The answer is a reading exactly if it is that of a number that the span holds, and 28 at place 0 exactly if it holds none.
pub field_iff : (text : List ℕ) (start end : ℤ) (r : Reading)
    → (field_of text start end ≡ Number r) ↔ Reads text start end r
field_iff text start end r = (
  from (numeral_of (span_of text start end)) refl,
  λ h. ap field_by ((held_read text start end h.numeral_read).1 h.held) ∙ ap Number (sym h.is_reading),
)
  where
    from : (x : Option Numeral) → numeral_of (span_of text start end) ≡ x → field_by x ≡ Number r → Reads text start end r
    from none e f = absurd (let z : ◌≡◌ {A = ℕ} 0 1 = cc in omega arith)
    from (some n) e f = record { numeral_read = n; held = (held_read text start end n).0 e; is_reading = cc }

pub refused_iff : (text : List ℕ) (start end : ℤ)
    → (field_of text start end ≡ Refused No.bad_field 0) ↔ ((n : Numeral) → Holds text start end n → ⊥)
refused_iff text start end = (
  λ e n h. let is : field_of text start end ≡ Number (reading_of n)
      = ap field_by ((held_read text start end n).1 h) in
      let z : ◌≡◌ {A = ℕ} 0 1 = cc in omega arith,
  none_held (numeral_of (span_of text start end)) refl,
)
  where
    none_held : (x : Option Numeral) → numeral_of (span_of text start end) ≡ x → ((n : Numeral) → Holds text start end n → ⊥)
        → field_by x ≡ Refused No.bad_field 0
    none_held none e f = refl
    none_held (some n) e f = absurd (f n ((held_read text start end n).0 e))

-- The answer depends on the span's bytes only.
pub span_only : (text text' : List ℕ) (start end start' end' : ℤ) → span_of text start end ≡ span_of text' start' end'
    → field_of text start end ≡ field_of text' start' end'
span_only text text' start end start' end' e = ap (λ x. field_by (numeral_of x)) e

pub gate_span_only : (gate : Gate) (text text' : List ℕ) (start end start' end' : ℤ)
    → span_of text start end ≡ span_of text' start' end'
    → passing_field gate text start end ≡ passing_field gate text' start' end'
gate_span_only gate text text' start end start' end' e =
    ap (passing_by gate) (span_only text text' start end start' end' e)

-- Any two replies that meet a promise agree.
pub one_field : (text : List ℕ) (start end : ℤ) {r q : Field} → r ≡ field_of text start end → q ≡ field_of text start end → r ≡ q
one_field text start end e f = e ∙ sym f

pub one_passing : (gate : Gate) (reading : Reading) {r q : Passing} → r ≡ passing gate reading → q ≡ passing gate reading → r ≡ q
one_passing gate reading e f = e ∙ sym f

pub one_passed : (gate : Gate) (text : List ℕ) (start end : ℤ) {r q : Passing} → r ≡ passing_field gate text start end
    → q ≡ passing_field gate text start end → r ≡ q
one_passed gate text start end e f = e ∙ sym f

-- A reading that was answered: the number that it is of.
module _ {text : List ℕ} {start end : ℤ} {r : Reading} (h : Reads text start end r) where
  abbrev n : Numeral
  n = h.numeral_read

  -- Both numbers of the division are exact.
  pub exact : HasValue (of_int binary64 (pos n.number)) false n.number 1
      × HasValue (of_int binary64 (pos (10 ^ n.decimals))) false (10 ^ n.decimals) 1
  exact =
      let few = written_small h.held.written in
      (values.exact n.number (omega arith), values.exact (10 ^ n.decimals) (power_small n.decimals few.1))

  -- Its bits are those of the stated division, with the sign's bit before them exactly if a minus stands there.
  pub field_bits : to_bits binary64 r.value
      ≡ cond n.minus (2 ^ 63) 0 + to_bits binary64 (quotient n.number n.decimals)
  field_bits = ap (λ x. to_bits binary64 x.value) h.is_reading ∙ values.bits h.held.written

  -- It is a number, never an infinity, with the sign that stands there, a zero too.
  pub field_finite : Finite n.minus r.value
  field_finite =
      subst (λ (x : Reading). Finite n.minus x.value) (sym h.is_reading) (values.finite h.held.written)

  -- It is the float nearest to the decimal number.
  pub field_nearest : r.value ≡ round binary64 n.minus n.number (10 ^ n.decimals)
  field_nearest = ap (λ x. x.value) h.is_reading ∙ values.nearest h.held.written

  -- It keeps the number of decimals.
  pub field_decimals : r.decimals ≡ n.decimals
  field_decimals = ap (λ x. x.decimals) h.is_reading

-- One whose lower limit is above its upper passes nothing.
pub between_none : (low high : Float) → lt high low ≡ true → (r : Reading) → passing (Between low high) r ≡ Stopped
between_none low high e r = rw (below_numbers high low e, above_numbers high low e, e)

-- Ends are included.
pub ends_included : (x : Float) → is_nan x ≡ false → (passing_value (AtMost x) x ≡ Passes) × (passing_value (AtLeast x) x ≡ Passes)
ends_included x e = (rw (e, at_itself x e), rw (e, at_itself x e))

-- At most is between -∞ and the limit, and at least between the limit and ∞.
pub at_most_between : (limit value : Float)
    → passing_value (AtMost limit) value ≡ passing_value (Between (inf true) limit) value
unfolding is_nan
at_most_between limit value = rw (none_below limit, from_below value limit)

pub at_least_between : (limit value : Float)
    → passing_value (AtLeast limit) value ≡ passing_value (Between limit (inf false)) value
unfolding is_nan
at_least_between limit value = rw (none_above limit, to_above limit value, and-true)
