-- What derives as a quantifier is read so.
use Rattle.std.specs.Prelude.{◌≡◌, Bool, false, cond, ◌||◌, List}
use Rattle.std.proofs.Common.{ap, ◌∙◌, arith, eq-eqb, ne_eqb, le-ltb}
use Rattle.std.proofs.Math.Option.{Option, some}
use Prim.Native.Nat.{ℕ, ◌+◌, ◌≤◌, ◌<◌}
use Rattle.std.proofs.Math.Dec.{eqb}
use Rattle.meaning.specs.Limits.{count_limit}
use Rattle.reading_atoms.specs.Chars.{byte_at, star, plus, question, open_brace, is_quantifier}
use Rattle.reading_atoms.specs.Braces.{Braces.counts, judged, braces_at, Quantifier, Quantifier.once, Quantifier.repeated, lazily}
use Rattle.reading_atoms.specs.Braces.{quantifier_at}
use Rattle.reading_grammar.specs.Atoms.{Is, Counts, Counts.exactly, Counts.least, Counts.range, Times, Times.any}
use Rattle.reading_grammar.specs.Atoms.{Times.some_times, Times.maybe, Times.counted, Quantified, Quantified.greedy}
use Rattle.reading_grammar.specs.Atoms.{Quantified.lazy}
use Rattle.reading_grammar.specs.AtomsSound.{not_both}
use Rattle.reading_grammar.specs.Refusals.{Form}
use Rattle.reading_grammar.specs.Forms.{digits_on, form_read}

module _ (s : List ℕ) where
  -- A quantifier as the reader answers it: lazy with a ? after it.
  abbrev answered : ℕ → Option ℕ → ℕ → Quantifier
  answered n e b = repeated n e (eqb (byte_at s b) question) (cond (eqb (byte_at s b) question) (b + 1) b)

  judged_complete : (n m b : ℕ) → n ≤ m → m ≤ count_limit → judged n m b ≡ counts n (some m) b
  judged_complete n m b le top = rw (le-ltb count_limit n (omega arith), le-ltb count_limit m top, le-ltb m n le)

  braces_complete : {a b n : ℕ} {e : Option ℕ} → Counts s a b n e → lazily s a (braces_at s a) ≡ answered n e b
  braces_complete (exactly {b = b} {n = n} at t c top) =
      rw (form_read s (Form.exactly at t c), judged_complete n n (b + 1) (omega arith) top)
      (ap (λ x. answered n (some x) (b + 1)) (omega arith))
  braces_complete (least {n = n} at t c d top) = rw (form_read s (Form.least at t c d), le-ltb count_limit n top)
  braces_complete (range {c = c} {n = n} {m = m} at t k u d le top) =
      rw (form_read s (Form.range at t k u d), judged_complete n m (c + 1) le top)

  counts_first : {a b n : ℕ} {e : Option ℕ} → Counts s a b n e → Is s a open_brace
  counts_first (exactly at t c top) = at
  counts_first (least at t c d top) = at
  counts_first (range at t k u d le top) = at

  times_complete : {a b n : ℕ} {e : Option ℕ} → Times s a b n e → quantifier_at s a ≡ answered n e b
  unfolding quantifier_at
  times_complete (any at) = rw at
  times_complete (some_times at) = rw at
  times_complete (maybe at) = rw at
  times_complete (counted t) = rw (counts_first t) (braces_complete t)

  pub quantifier_complete : {a b n : ℕ} {e : Option ℕ} {lazy : Bool} → Quantified s a b n e lazy
      → quantifier_at s a ≡ repeated n e lazy b
  quantifier_complete (greedy {b = b} t q) = times_complete t ∙ rw (ne_eqb (byte_at s b) question q)
  quantifier_complete (lazy {b = b} t q) = times_complete t ∙ rw (eq-eqb (byte_at s b) question q)

  -- Where no quantifier begins, none is read.
  pub once_complete : (a : ℕ) → is_quantifier (byte_at s a) ≡ false → quantifier_at s a ≡ once
  unfolding quantifier_at
  once_complete a e =
      let b : ℕ = byte_at s a in
      let (x, t) = not_both (eqb b star || eqb b plus || eqb b question) (eqb b open_brace) e in
      let (y, u) = not_both (eqb b star || eqb b plus) (eqb b question) x in
      let (z, v) = not_both (eqb b star) (eqb b plus) y in
      rw (z, v, u, t)

  -- How far a quantifier goes.
  counts_on : {a b n : ℕ} {e : Option ℕ} → Counts s a b n e → a < b
  counts_on (exactly at t c top) = omega (arith, digits_on s t)
  counts_on (least at t c d top) = omega (arith, digits_on s t)
  counts_on (range at t k u d le top) = omega (arith, digits_on s t, digits_on s u)

  times_on : {a b n : ℕ} {e : Option ℕ} → Times s a b n e → a < b
  times_on (any at) = omega arith
  times_on (some_times at) = omega arith
  times_on (maybe at) = omega arith
  times_on (counted t) = counts_on t

  pub quantified_on : {a b n : ℕ} {e : Option ℕ} {lazy : Bool} → Quantified s a b n e lazy → a < b
  quantified_on (greedy t q) = times_on t
  quantified_on (lazy t q) = omega (arith, times_on t)
