-- The byte of each turn stands at the place behind what was read.
use Rattle.std.specs.Prelude.{◌≡◌, Bool, true, List, ℕ, ◌+◌, ◌-◌, ◌*◌, ◌^◌, ◌<◌, length, get_or, take, drop}
use Rattle.std.proofs.Common.{refl, sym, ap, ◌∙◌, arith, length-take, length-drop, get_or-take, get_or-drop}
use Rattle.std.specs.Char.{is_ascii_digit}
use Rattle.sets.specs.Sets.{is_digit}
use Rattle.meaning.specs.Limits.{digit_limit}
use Rattle.fields.specs.Laws.{stop_full, stop_over, stop_other, fits, go_on}
use Rattle.fields.specs.declared.Run.{Run}
use Rattle.fields.proofs.digits_behind.Goals.{Else-not-is_ascii_digit, then-run-eq0-via-then-run-eq0, then-run-eq0-via-else-run-eq0+then-not-is_ascii_digit}
use Rattle.fields.proofs.digits_behind.Goals as goal

module _ (s : List ℕ) (from i at : ℕ) (is : at ≡ from + i) (h : i < length (take (length s - from) (drop from s))) where
  inside : i < length s - from
  inside = omega (arith, length-take {A = ℕ}, length-drop {A = ℕ})

  there : at < length s
  there = omega (arith, inside)

  byte : get_or (take (length s - from) (drop from s)) i 0 ≡ get_or s at 0
  byte = rw is (get_or-take (length s - from) (drop from s) i 0 inside ∙ get_or-drop from s i 0)

  tested : (r v : Bool) → r ≡ is_ascii_digit (get_or (take (length s - from) (drop from s)) i 0) → r ≡ v → is_digit (get_or s at 0) ≡ v
  unfolding is_digit
  tested r v e f = rw (← byte) (sym e ∙ f)

-- Where a digit stands and there may be more of them.
module _ (c : Else-not-is_ascii_digit) where
  abbrev s : List ℕ
  s = c.args.s.now

  abbrev run : Run
  run = c.loop-b.run

  here : run.end < length s
  here = there s c.args.read.end c.loop-b.b-index run.end c.loop-b.invariant.1 c.loop-b-test.true

  digit : is_digit (get_or s run.end 0) ≡ true
  digit = tested s c.args.read.end c.loop-b.b-index run.end c.loop-b.invariant.1 c.loop-b-test.true _ _
      c.is_ascii_digit.ensures.value c.if-not-is_ascii_digit.false

  value_is : (v : ℕ) → v ≡ get_or (take (length s - c.args.read.end) (drop c.args.read.end s)) c.loop-b.b-index 0 - 0x30
      → v ≡ get_or s run.end 0 - 0x30
  value_is v e = e ∙ ap (λ b. b - 0x30) (byte s c.args.read.end c.loop-b.b-index run.end c.loop-b.invariant.1 c.loop-b-test.true)

  fit : (v : ℕ) → v ≡ get_or s run.end 0 - 0x30 → 10 * run.number + v < 10 ^ digit_limit
  fit = fits c.loop-b.invariant.0 here c.if-run-eq0.false digit

pub returns-then-run-eq0 : goal.returns-then-run-eq0
returns-then-run-eq0 c =
    let at = c.loop-b.invariant.1 in
    elim c.then-run-eq0.branch [
      | then-run-eq0-via-then-run-eq0 w ↦ stop_full c.loop-b.invariant.0 w.if-run-eq0.true
      | then-run-eq0-via-else-run-eq0+then-not-is_ascii_digit w ↦
          stop_other c.loop-b.invariant.0 (there c.args.s.now _ _ _ at c.loop-b-test.true)
          (tested c.args.s.now _ _ _ at c.loop-b-test.true _ _ w.is_ascii_digit.ensures.value w.if-not-is_ascii_digit.true)
    ]

pub overflow_mul-run : goal.overflow_mul-run
overflow_mul-run c = omega (arith, fit (goal.at.overflow_mul-run c).Else-not-is_ascii_digit _ refl)

pub overflow_add-run : goal.overflow_add-run
overflow_add-run c =
    let d = (goal.at.overflow_add-run c).Else-not-is_ascii_digit in
    omega (arith, fit d _ (value_is d _ c.digit_value.ensures))

pub loop-b-preserved : goal.loop-b-preserved
loop-b-preserved c =
    let d = (goal.at.loop-b-preserved c).Else-not-is_ascii_digit in
    (go_on c.loop-b.invariant.0 (here d) c.if-run-eq0.false (digit d) _ (value_is d _ c.digit_value.ensures), omega (arith, c.loop-b.invariant.1))

pub returns : goal.returns
returns c = stop_over c.loop-b.invariant.0 (omega (arith, c.loop-b.invariant.1, length-take {A = ℕ}, length-drop {A = ℕ}))
