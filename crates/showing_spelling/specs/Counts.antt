-- The spelling of an assertion and of a quantifier reads back; a quantifier that is not lazy before no `?`.
use Rattle.std.specs.Prelude.{◌≡◌, Bool, ◌&&◌, leb}
use Rattle.std.proofs.Math.Path.{refl, sym, subst}
use Rattle.std.proofs.Common.{add-zero}
use Rattle.std.proofs.Math.Bool.{true, false}
use Rattle.std.proofs.Math.Option.{Option, none, some}
use mathlib.Core.List.{List, [], ◌∷◌, ◌++◌}
use Prim.Native.Nat.{ℕ, zero, suc, ◌+◌, ◌-◌, ◌*◌, ◌/◌, ◌%◌, ◌≤◌, ◌<◌}
use native.Mathlib.Omega.{arith}
use Rattle.std.proofs.Math.Dec.{eqb}
use Rattle.std.proofs.Math.ListN.{length, length-append}
use borrow.Author.Tests.{eqb-true, le-leb}
use Rattle.sets.specs.Sets.{is_digit}
use Rattle.meaning.specs.Limits.{count_limit, no_maximum, last_assertion}
use Rattle.meaning.specs.Node.{Within}
use Rattle.meaning.specs.Tests.{and_true, by_test}
use Rattle.table.specs.Table.{maximum}
use Rattle.intake_report.specs.Texts.{decimal, digit}
use Rattle.intake_report.specs.Laws.{decimal_one, decimal_more, decimal_ind}
use Rattle.reading_atoms.specs.Chars.{byte_at, star, plus, question, open_brace, close_brace, comma}
use Rattle.reading_grammar.specs.Atoms.{Is, Digits, Counts, Times, Quantified}
use Rattle.reading_grammar.specs.Grammar.{Assertion}
use Rattle.showing_spelling.specs.Spelling.{assertion_text, braces_text, counts_text, quantifier_text}
use Rattle.showing_spelling.specs.Texts.{At, at_first, at_front, at_back, and_of}

-- An assertion, by its number.
pub assertion_read : (s : List ℕ) (p a : ℕ) → a ≤ last_assertion → At s p (assertion_text a)
    → Assertion s p (p + length (assertion_text a)) a
unfolding assertion_text
assertion_read s p zero h t = Assertion.begins (at_first s p (assertion_text 0) (omega arith) t)
assertion_read s p (suc zero) h t = Assertion.ends (at_first s p (assertion_text 1) (omega arith) t)
assertion_read s p (suc (suc zero)) h t = Assertion.edge (at_first s p (assertion_text 2) (omega arith) t) (t 1 (omega arith))
assertion_read s p (suc (suc (suc zero))) h t = Assertion.inner (at_first s p (assertion_text 3) (omega arith) t) (t 1 (omega arith))
assertion_read s p (suc (suc (suc (suc a)))) h t = absurd (omega arith)

module _ (s : List ℕ) where
  -- A digit, and the digits of a number.
  a_digit : (b n : ℕ) → n < 10 → b ≡ 48 + n → is_digit b ≡ true
  unfolding is_digit
  a_digit b n h e = and_of (leb 0x30 b) (leb b 0x39) (le-leb 0x30 b (omega arith)) (le-leb b 0x39 (omega arith))

  abbrev pub Numbers : List ℕ → ℕ → Type 0
  Numbers t n = (a : ℕ) → At s a t → Digits s a (a + length t) n

  one : (n : ℕ) → n < 10 → Numbers (digit n) n
  one n h a t =
      let e : byte_at s a ≡ 48 + n = at_first s a (digit n) (omega arith) t in
      let v : byte_at s a - 0x30 ≡ n = omega arith in
      subst (Digits s a (a + 1)) v (Digits.digit (a_digit (byte_at s a) n h e))

  more : (l : List ℕ) (m d : ℕ) → d < 10 → Numbers l m → Numbers (l ++ digit d) (10 * m + d)
  more l m d h rest a t =
      let b : ℕ = a + length l in
      let e : byte_at s b ≡ 48 + d = at_first s b (digit d) (omega arith) (at_back s a l (digit d) t) in
      let v : 10 * m + (byte_at s b - 0x30) ≡ 10 * m + d = omega arith in
      let p : b + 1 ≡ a + length (l ++ digit d) = omega (arith, length-append l (digit d)) in
      subst (λ (k : ℕ). Digits s a k (10 * m + d)) p
      (subst (Digits s a (b + 1)) v (Digits.more (rest a (at_front s a l (digit d) t)) (a_digit (byte_at s b) d h e)))

  pub digits_read : (n : ℕ) → Numbers (decimal n) n
  digits_read = decimal_ind (λ n. Numbers (decimal n) n) (λ n h. rw (decimal_one n h) (one n h))
      (λ n h rest. let v : 10 * (n / 10) + n % 10 ≡ n = omega arith in
      rw (decimal_more n h) (subst (Numbers (decimal (n / 10) ++ digit (n % 10))) v
      (more (decimal (n / 10)) (n / 10) (n % 10) (omega arith) rest)))

  -- Counts, by the tests of their spelling.
  module _ (a n : ℕ) where
    Read : Option ℕ → List ℕ → Type 0
    Read e t = At s a t → Times s a (a + length t) n e

    -- The braces, with what stands behind the minimum.
    module _ (t : List ℕ) (at : At s a (open_brace ∷ decimal n ++ t ++ close_brace ∷ [])) where
      opens : Is s a open_brace
      opens = at_first s a (open_brace ∷ decimal n ++ t ++ close_brace ∷ []) (omega arith) at

      inside : At s (a + 1) (decimal n ++ t ++ close_brace ∷ [])
      inside = at_back s a (open_brace ∷ []) (decimal n ++ t ++ close_brace ∷ []) at

      least : Digits s (a + 1) (a + 1 + length (decimal n)) n
      least = digits_read n (a + 1) (at_front s (a + 1) (decimal n) t (at_front s (a + 1) (decimal n ++ t) (close_brace ∷ []) inside))

      rest : At s (a + 1 + length (decimal n)) t
      rest = at_back s (a + 1) (decimal n) t (at_front s (a + 1) (decimal n ++ t) (close_brace ∷ []) inside)

      closes : Is s (a + 1 + length (decimal n) + length t) close_brace
      closes =
          let p : a + 1 + length (decimal n ++ t) ≡ a + 1 + length (decimal n) + length t
          = omega (arith, length-append (decimal n) t) in
          subst (λ (k : ℕ). Is s k close_brace) p (at_first s (a + 1 + length (decimal n ++ t)) (close_brace ∷ []) (omega arith)
          (at_back s (a + 1) (decimal n ++ t) (close_brace ∷ []) inside))

    Behind : Option ℕ → List ℕ → Type 0
    Behind e t = Read e (open_brace ∷ decimal n ++ t ++ close_brace ∷ [])

    long : (t : List ℕ) → length (open_brace ∷ decimal n ++ t ++ close_brace ∷ []) ≡ length (decimal n) + length t + 2
    long t = omega (arith, length-append (decimal n) t, length-append (decimal n ++ t) (close_brace ∷ []))

    exactly_read : n ≤ count_limit → Behind (some 0) []
    unfolding Read Behind
    exactly_read h at =
        let b : ℕ = a + 1 + length (decimal n) in
        let p : b + 1 ≡ a + length (open_brace ∷ decimal n ++ [] ++ close_brace ∷ []) = omega (arith, long []) in
        subst (λ (k : ℕ). Times s a k n (some 0)) p (Times.counted (Counts.exactly (opens [] at) (least [] at)
        (subst (λ (k : ℕ). Is s k close_brace) (add-zero b) (closes [] at)) h))

    least_read : n ≤ count_limit → Behind none (comma ∷ [])
    unfolding Read Behind
    least_read h at =
        let b : ℕ = a + 1 + length (decimal n) in
        let t : List ℕ = comma ∷ [] in
        let p : b + 2 ≡ a + length (open_brace ∷ decimal n ++ t ++ close_brace ∷ []) = omega (arith, long t) in
        subst (λ (k : ℕ). Times s a k n none) p (Times.counted (Counts.least (opens t at) (least t at)
        (at_first s b t (omega arith) (rest t at)) (closes t at) h))

    range_read : (m : ℕ) → n ≤ m → m ≤ count_limit → Behind (some (m - n)) (comma ∷ decimal m)
    unfolding Read Behind
    range_read m l h at =
        let b : ℕ = a + 1 + length (decimal n) in
        let t : List ℕ = comma ∷ decimal m in
        let p : b + 1 + length (decimal m) + 1 ≡ a + length (open_brace ∷ decimal n ++ t ++ close_brace ∷ [])
        = omega (arith, long t) in
        let q : b + length t ≡ b + 1 + length (decimal m) = omega arith in
        subst (λ (k : ℕ). Times s a k n (some (m - n))) p (Times.counted (Counts.range (opens t at) (least t at)
        (at_first s b t (omega arith) (rest t at)) (digits_read m (b + 1) (at_back s b (comma ∷ []) (decimal m) (rest t at)))
        (subst (λ (k : ℕ). Is s k close_brace) q (closes t at)) l h))

    braces_read : (e : Option ℕ) → Within n e → Read e (braces_text n (maximum n e))
    unfolding Behind Read
    braces_read none h =
        by_test (Behind none) (eqb no_maximum n) (λ q. absurd (omega (arith, eqb-true no_maximum n q))) (λ q. least_read h)
    braces_read (some e) h =
        let v : n + e - n ≡ e = omega arith in
        by_test (Behind (some e)) (eqb (n + e) n)
        (λ q. let z : 0 ≡ e = omega (arith, eqb-true (n + e) n q) in
        subst (λ (k : ℕ). Behind (some k) []) z (exactly_read (omega arith))) (λ q.
        by_test (Behind (some e)) (eqb (n + e) no_maximum) (λ q. absurd (omega (arith, eqb-true (n + e) no_maximum q)))
        (λ q. subst (λ (k : ℕ). Behind (some k) (comma ∷ decimal (n + e))) v (range_read (n + e) (omega arith) (omega arith))))

  -- The shorthands, and else the braces.
  times_read : (a n : ℕ) (e : Option ℕ) → Within n e → Read a n e (counts_text n (maximum n e))
  unfolding counts_text Read
  times_read a n none h =
      by_test (Read a n none) (eqb n 0 && eqb no_maximum no_maximum)
      (λ q at. let z : 0 ≡ n = sym (eqb-true n 0 (and_true (eqb n 0) true q).0) in
      subst (λ (k : ℕ). Times s a (a + 1) k none) z (Times.any (at_first s a (star ∷ []) (omega arith) at))) (λ q.
      by_test (Read a n none) (eqb n 1 && eqb no_maximum no_maximum)
      (λ q at. let z : 1 ≡ n = sym (eqb-true n 1 (and_true (eqb n 1) true q).0) in
      subst (λ (k : ℕ). Times s a (a + 1) k none) z (Times.some_times (at_first s a (plus ∷ []) (omega arith) at))) (λ q.
      by_test (Read a n none) (eqb n 0 && eqb no_maximum 1)
      (λ q. absurd (omega (arith, eqb-true no_maximum 1 (and_true (eqb n 0) (eqb no_maximum 1) q).1))) (λ q. braces_read a n none h)))
  times_read a n (some e) h =
      by_test (Read a n (some e)) (eqb n 0 && eqb (n + e) no_maximum)
      (λ q. absurd (omega (arith, eqb-true (n + e) no_maximum (and_true (eqb n 0) (eqb (n + e) no_maximum) q).1))) (λ q.
      by_test (Read a n (some e)) (eqb n 1 && eqb (n + e) no_maximum)
      (λ q. absurd (omega (arith, eqb-true (n + e) no_maximum (and_true (eqb n 1) (eqb (n + e) no_maximum) q).1))) (λ q.
      by_test (Read a n (some e)) (eqb n 0 && eqb (n + e) 1)
      (λ q at. let (u, v) = and_true (eqb n 0) (eqb (n + e) 1) q in
      let z : 0 ≡ n = sym (eqb-true n 0 u) in
      let y : 1 ≡ e = omega (arith, eqb-true (n + e) 1 v) in
      subst (λ (k : ℕ). Times s a (a + 1) k (some e)) z (subst (λ (k : ℕ). Times s a (a + 1) 0 (some k)) y
      (Times.maybe (at_first s a (question ∷ []) (omega arith) at)))) (λ q. braces_read a n (some e) h)))

  -- A quantifier: a lazy one before anything, another before no `?`.
  pub quantifier_read : (a n : ℕ) (e : Option ℕ) (lazy : Bool) → Within n e → At s a (quantifier_text n (maximum n e) lazy)
      → (lazy ≡ false → Is s (a + length (quantifier_text n (maximum n e) lazy)) question → ⊥)
      → Quantified s a (a + length (quantifier_text n (maximum n e) lazy)) n e lazy
  unfolding quantifier_text Read
  quantifier_read a n e true h at f =
      let t : List ℕ = counts_text n (maximum n e) in
      let p : a + length t + 1 ≡ a + length (t ++ question ∷ []) = omega (arith, length-append t (question ∷ [])) in
      subst (λ (k : ℕ). Quantified s a k n e true) p (Quantified.lazy (times_read a n e h (at_front s a t (question ∷ []) at))
      (at_first s (a + length t) (question ∷ []) (omega arith) (at_back s a t (question ∷ []) at)))
  quantifier_read a n e false h at f =
      let t : List ℕ = counts_text n (maximum n e) in
      let p : a + length t ≡ a + length (t ++ []) = omega (arith, length-append t []) in
      subst (λ (k : ℕ). Quantified s a k n e false) p (Quantified.greedy (times_read a n e h (at_front s a t [] at))
      (λ q. f refl (subst (λ (k : ℕ). Is s k question) p q)))
