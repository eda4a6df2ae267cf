-- The standard's algorithm (ECMA-262, 14th edition, 22.2.2), transcribed clause by clause. Definitions only.
use Rattle.std.specs.Prelude.{Bool, true, false, cond, ◌&&◌, ℕ, zero, suc, ◌+◌, ◌-◌, eqb}
use Rattle.std.proofs.Math.Option.{Option, none, some, map}
use Rattle.meaning.specs.Text.{Input, Regs, State, size, unset, fits, holds_at}
use Rattle.meaning.specs.Node.{Node, Node.empty, Node.bset, Node.assert, Node.group, Node.seq, Node.alt, Node.many}
use Rattle.meaning.specs.Results.{or_else, choose, moved, leave, put, fresh}

-- Whether a number, or a maximum, is 0; and one less, where it is not. A maximum of none is +∞.
abbrev pub is_zero : ℕ → Bool
is_zero zero = true
is_zero (suc n) = false

abbrev pub no_more : Option ℕ → Bool
no_more none = false
no_more (some n) = is_zero n

abbrev pub less : ℕ → ℕ
less zero = zero
less (suc n) = n

-- The maximum, from the minimum and what may be added to it.
abbrev pub most : ℕ → Option ℕ → Option ℕ
most min extra = map (λ k. min + k) extra

-- CompileAtom, `( Disjunction )`: the capture of group k runs from i up to where y stands, and is written at the `)`.
abbrev pub capture : ℕ → ℕ → State → State
capture k i y = leave k (put k i y)

-- A MatcherContinuation: from a state to an answer, or failure (none).
abbrev pub Continuation : Type 0 → Type 0
Continuation B = State → Option B

-- A Matcher: from a state and a continuation to an answer, or failure.
abbrev pub Matcher : Type 0 → Type 0
Matcher B = State → Continuation B → Option B

module _ {B : Type 0} where
  -- 22.2.2.3.1 RepeatMatcher. The standard's calls end, since each turn past the minimum goes on in the text; here a number
  -- bounds them (`Agrees.repeat_any`: any that is large enough gives the same answer).
  --   step 1: with a maximum of 0 go on;
  --   step 2: d fails after an empty turn past the minimum, else it repeats with min and max one less;
  --   steps 3 to 7: xr is x with the captures inside the atom undefined again;
  --   step 8: below the minimum take the atom; step 9: lazy goes on first; steps 10 to 12: greedy goes on last.
  unfoldable pub repeat_matcher : ℕ → Matcher B → (State → State) → ℕ → Option ℕ → Bool → Matcher B
  repeat_matcher zero m undefine min max lazy x c = none
  repeat_matcher (suc calls) m undefine min max lazy x c =
      let again : Continuation B = λ y. repeat_matcher calls m undefine (less min) (map less max) lazy y c in
      let d : Continuation B = λ y. cond (is_zero min && eqb y.pos x.pos) none (again y) in
      let xr : State = undefine x in
      cond (no_more max) (c x) (cond (is_zero min) (choose or_else lazy (m xr d) (c x)) (m xr d))

  -- 22.2.2.3 CompileSubpattern, with 22.2.2.4 CompileAssertion and 22.2.2.7 CompileAtom:
  --   EmptyMatcher; CharacterSetMatcher; an Assertion; the Atom `( Disjunction )`; MatchSequence; MatchTwoAlternatives;
  --   an Atom with a Quantifier, by RepeatMatcher.
  unfoldable pub matcher : Input → Node → Matcher B
  matcher w empty x c = c x
  matcher w (bset s) x c = cond (fits w s x.pos) (c (moved x)) none
  matcher w (assert a) x c = cond (holds_at w a x.pos) (c x) none
  matcher w (group k r) x c = matcher w r x (λ y. c (capture k x.pos y))
  matcher w (seq r s) x c = matcher w r x (λ y. matcher w s y c)
  matcher w (alt r s) x c = or_else (matcher w r x c) (matcher w s x c)
  matcher w (many min extra lazy r) x c =
      repeat_matcher (suc (min + (size w - x.pos))) (matcher w r) (fresh r) min (most min extra) lazy x c

-- 22.2.2.2 CompilePattern: all captures of g groups undefined, from position i.
abbrev pub initial : ℕ → ℕ → State
initial g i = record { pos = i; regs = unset g }

-- A match at position i: the captures, with the whole match as group 0; or none.
unfoldable pub match_at : Input → ℕ → Node → ℕ → Option Regs
match_at w g r i = matcher w r (initial g i) (λ y. some (capture 0 i y).regs)

-- 22.2.7.2 RegExpBuiltinExec without flags: a match at lastIndex, else at the next position, n times at most.
abbrev pub exec : Input → ℕ → Node → ℕ → ℕ → Option Regs
exec w g r zero i = match_at w g r i
exec w g r (suc n) i = or_else (match_at w g r i) (exec w g r n (suc i))

-- A search from position i: up to the end of the text.
unfoldable pub search_from : Input → ℕ → Node → ℕ → Option Regs
search_from w g r i = exec w g r (size w - i) i
