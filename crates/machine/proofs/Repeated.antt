-- A repetition ends: its starts rise strictly and are few. What it finds goes by what is found inside the text alone.
use Rattle.std.specs.Prelude.{◌≡◌, true, leb, ltb, get_or}
use Rattle.std.proofs.Math.Path.{refl, ap}
use Rattle.std.proofs.Common.{ap₂, subst, ◌∙◌, suc-mul, mul-le-mul, mul-le-mul_right}
use Rattle.std.proofs.Math.Bool.{cond}
use Rattle.std.proofs.Math.Option.{Option, none, some}
use mathlib.Core.List.{List, [], ◌∷◌, ◌++◌}
use Prim.Native.Nat.{ℕ, zero, suc, ◌+◌, ◌*◌, ◌-◌, ◌≤◌, ◌<◌}
use native.Mathlib.Omega.{arith}
use Rattle.std.proofs.Math.ListN.{length}
use borrow.Author.Tests.{leb-true, ltb-true, le-leb, lt-leb}
use Rattle.meaning.specs.Tests.{by_test, cond_cong}
use Rattle.meaning.specs.All.{All, all_imp}
use Rattle.meaning.specs.Text.{Regs}
use Rattle.meaning.specs.Bytes.{text_of}
use Rattle.meaning.specs.Results.{concat_map}
use Rattle.machine.specs.Steps.{search_row}
use Rattle.machine.specs.Words.{rows_said, rows_pass, decode}
use Rattle.machine.proofs.Coded.{rows_in_length}
use Rattle.machine.proofs.Passed.{run_frugal}
use Rattle.machine.specs.Repetition.{leads_to, next_start, goes_on, starts_in, starts_from, match_of, repeated, sum}
use Rattle.machine.specs.Repetition.{found_from, executed_from, run_starts, executed_in}
use Rattle.machine.specs.Repeated.{Rising}

-- The next start lies beyond the run's start.
pub next_beyond : (start : ℕ) (ρ : Regs) → start < next_start start ρ
unfolding next_start
next_beyond start ρ =
    let next : ℕ = leads_to (get_or ρ 0 none) (get_or ρ 1 none) in
    by_test (λ (n : ℕ). start < n) (ltb start next) (λ e. ltb-true start next e) (λ e. omega arith)

-- What holds of the starts behind a run, by what it found; and starts behind it that are the same.
behind : (P : List ℕ → Type 0) (starts : ℕ → List ℕ) (start : ℕ) (o : Option Regs) → P []
    → ((ρ : Regs) → P (starts (next_start start ρ))) → P (goes_on starts start o)
behind P starts start none z h = z
behind P starts start (some ρ) z h = h ρ

behind_same : (f g : ℕ → List ℕ) (start : ℕ) (o : Option Regs) → ((ρ : Regs) → f (next_start start ρ) ≡ g (next_start start ρ))
    → goes_on f start o ≡ goes_on g start o
behind_same f g start none h = refl
behind_same f g start (some ρ) h = h ρ

module _ (find : ℕ → Option Regs) (end : ℕ) where
  -- The number that bounds the runs does not matter: with any that is large enough the starts are the same.
  pub starts_any : (n m start : ℕ) → end < start + n → end < start + m → starts_in find end n start ≡ starts_in find end m start
  unfolding starts_in
  starts_any zero zero start hn hm = refl
  starts_any zero (suc m) start hn hm = rw (lt-leb start end (omega arith))
  starts_any (suc n) zero start hn hm = rw (lt-leb start end (omega arith))
  starts_any (suc n) (suc m) start hn hm =
      ap (λ (l : List ℕ). cond (leb start end) (start ∷ l) [])
      (behind_same (starts_in find end n) (starts_in find end m) start (find start) (λ ρ.
      starts_any n m (next_start start ρ) (omega (arith, next_beyond start ρ)) (omega (arith, next_beyond start ρ))))

  -- So the starts are what the request says: none past the length; else the start, and those behind it.
  pub starts_past : (start : ℕ) → end < start → starts_from find end start ≡ []
  unfolding starts_in
  starts_past start h = starts_any (end - start + 1) 0 start (omega arith) (omega arith)

  pub starts_more : (start : ℕ) → start ≤ end
      → starts_from find end start ≡ start ∷ goes_on (starts_from find end) start (find start)
  unfolding starts_in
  starts_more start h =
      starts_any (end - start + 1) (suc (end - start)) start (omega arith) (omega arith)
      ∙ rw (le-leb start end h) (ap (λ (l : List ℕ). start ∷ l)
      (behind_same (starts_in find end (end - start)) (starts_from find end) start (find start) (λ ρ.
      starts_any (end - start) (end - next_start start ρ + 1) (next_start start ρ) (omega (arith, next_beyond start ρ))
      (omega arith))))

  -- The same by what was found: the last start, and one that is followed by others.
  pub starts_last : (start : ℕ) → start ≤ end → find start ≡ none → starts_from find end start ≡ start ∷ []
  starts_last start h e = starts_more start h ∙ ap (λ o. start ∷ goes_on (starts_from find end) start o) e

  pub starts_next : (start : ℕ) (ρ : Regs) → start ≤ end → find start ≡ some ρ
      → starts_from find end start ≡ start ∷ starts_from find end (next_start start ρ)
  starts_next start ρ h e = starts_more start h ∙ ap (λ o. start ∷ goes_on (starts_from find end) start o) e

  -- Each start lies at or behind the first one, and in the text; and they rise strictly.
  inside : (n start : ℕ) → All (λ s. (start ≤ s) × (s ≤ end)) (starts_in find end n start)
  unfolding starts_in
  inside zero start = tt
  inside (suc n) start =
      by_test (All (λ s. (start ≤ s) × (s ≤ end))) (leb start end) (λ e. (
        (omega arith, leb-true start end e),
        behind (All (λ s. (start ≤ s) × (s ≤ end))) (starts_in find end n) start (find start) tt (λ ρ.
            all_imp (λ s. (next_start start ρ ≤ s) × (s ≤ end)) (λ s. (start ≤ s) × (s ≤ end))
            (λ s k. (omega (arith, next_beyond start ρ), k.1)) (starts_in find end n (next_start start ρ))
            (inside n (next_start start ρ))),
      )) (λ e. tt)

  rise : (n start : ℕ) → Rising (starts_in find end n start)
  unfolding starts_in
  rise zero start = tt
  rise (suc n) start =
      by_test Rising (leb start end) (λ e.
      behind (λ l. Rising (start ∷ l)) (starts_in find end n) start (find start) (tt, tt) (λ ρ. (
        all_imp (λ s. (next_start start ρ ≤ s) × (s ≤ end)) (λ s. start < s) (λ s k. omega (arith, next_beyond start ρ))
            (starts_in find end n (next_start start ρ)) (inside n (next_start start ρ)),
        rise n (next_start start ρ),
      ))) (λ e. tt)

  pub starts_inside : (start : ℕ) → All (λ s. (start ≤ s) × (s ≤ end)) (starts_from find end start)
  starts_inside start = inside (end - start + 1) start

  pub starts_rise : (start : ℕ) → Rising (starts_from find end start)
  starts_rise start = rise (end - start + 1) start

  -- There are no more starts than positions from the first one to the text's length.
  few : (n start : ℕ) → length (starts_in find end n start) ≤ n
  unfolding starts_in
  few zero start = omega arith
  few (suc n) start =
      by_test (λ (l : List ℕ). length l ≤ suc n) (leb start end) (λ e.
      behind (λ l. suc (length l) ≤ suc n) (starts_in find end n) start (find start) (omega arith)
      (λ ρ. omega (arith, few n (next_start start ρ)))) (λ e. omega arith)

  pub starts_few : (start : ℕ) → length (starts_from find end start) ≤ end - start + 1
  starts_few start = few (end - start + 1) start

  -- A run finds at most one match.
  one : (o : Option Regs) (l : List Regs) → length (match_of o ++ l) ≤ suc (length l)
  one none l = omega arith
  one (some ρ) l = omega arith

  each_few : (l : List ℕ) → length (concat_map (λ s. match_of (find s)) l) ≤ length l
  each_few [] = omega arith
  each_few (s ∷ l) = omega (arith, one (find s) (concat_map (λ s. match_of (find s)) l), each_few l)

  pub matches_few : (start : ℕ) → length (repeated find end start) ≤ end - start + 1
  matches_few start = omega (arith, starts_few start, each_few (starts_from find end start))

-- Two finders that find the same inside the text have the same starts and the same matches.
module _ (f g : ℕ → Option Regs) (end : ℕ) (same : (s : ℕ) → s ≤ end → f s ≡ g s) where
  starts_same : (n start : ℕ) → starts_in f end n start ≡ starts_in g end n start
  unfolding starts_in
  starts_same zero start = refl
  starts_same (suc n) start = cond_cong (leb start end) []
      (λ e. ap (λ (l : List ℕ). start ∷ l)
      (behind_same (starts_in f end n) (starts_in g end n) start (f start) (λ ρ. starts_same n (next_start start ρ))
      ∙ ap (goes_on (starts_in g end n) start) (same start (leb-true start end e))))

  pub repeated_same : (start : ℕ) → repeated f end start ≡ repeated g end start
  repeated_same start =
      ap (concat_map (λ s. match_of (f s))) (starts_same (end - start + 1) start)
      ∙ go (starts_from g end start) (starts_inside g end start)
    where
      go : (l : List ℕ) → All (λ s. (start ≤ s) × (s ≤ end)) l
          → concat_map (λ s. match_of (f s)) l ≡ concat_map (λ s. match_of (g s)) l
      go [] h = refl
      go (s ∷ l) h = ap₂ (λ o (m : List Regs). match_of o ++ m) (same s h.0.1) (go l h.1)

-- A sum of numbers that are all at most b.
pub sum_few : (f : ℕ → ℕ) (b : ℕ) (l : List ℕ) → All (λ s. f s ≤ b) l → sum f l ≤ length l * b
sum_few f b [] h = omega arith
sum_few f b (s ∷ l) h = omega (arith, sum_few f b l h.1, suc-mul (length l) b)

-- Code that passes: each single run keeps within the bound, and so does their sum.
module _ (code text : List ℕ) (pass : rows_pass (decode code) ≡ true) (some_rows : search_row < rows_said code) where
  bound : (s : ℕ) → s ≤ length text → executed_from code text s ≤ 2 * rows_said code * (length text - s + 1)
  bound s h =
      let e : length (decode code).rows ≡ rows_said code = rows_in_length code (rows_said code) 0 in
      subst (λ (n : ℕ). executed_from code text s ≤ 2 * n * (length text - s + 1)) e
      (run_frugal (decode code) pass (text_of text) s search_row (omega arith) h)

  pub each_run : (start : ℕ) → All (λ s. executed_from code text s ≤ 2 * rows_said code * (length text - s + 1))
      (run_starts code text start)
  each_run start = all_imp (λ s. (start ≤ s) × (s ≤ length text)) _ (λ s h. bound s h.1) (run_starts code text start)
      (starts_inside _ (length text) start)

  pub executed_few : (start : ℕ)
      → executed_in code text start ≤ (length text - start + 1) * (2 * rows_said code * (length text - start + 1))
  executed_few start =
      let b : ℕ = 2 * rows_said code * (length text - start + 1) in
      let each : All (λ s. executed_from code text s ≤ b) (run_starts code text start)
      = all_imp (λ s. (start ≤ s) × (s ≤ length text)) _ (λ s h. omega (arith, bound s h.1, most s h))
      (run_starts code text start) (starts_inside _ (length text) start) in
      omega (
        arith,
        sum_few (executed_from code text) b (run_starts code text start) each,
        mul-le-mul_right b (starts_few (found_from code text) (length text) start),
      )
    where
      most : (s : ℕ) → (start ≤ s) × (s ≤ length text)
          → 2 * rows_said code * (length text - s + 1) ≤ 2 * rows_said code * (length text - start + 1)
      most s h = mul-le-mul (omega arith) (omega arith)
