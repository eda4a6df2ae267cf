-- The standard's matches, each once: group 0 of a match starts behind that of the match before it.
use Rattle.std.specs.Prelude.{◌≡◌, refl, leb, length, get_or, set}
use Rattle.std.proofs.Common.{sym, ap₂, subst, ◌∙◌, arith, length-set, get_or-set_same, get_or-set_other, leb-true, lt-ltb, ne_eqb, eq-eqb}
use Rattle.std.proofs.Math.Option.{Option, none, some}
use mathlib.Core.List.{List, [], ◌∷◌, ◌++◌, map}
use Prim.Native.Nat.{ℕ, zero, suc, ◌+◌, ◌-◌, ◌≤◌, ◌<◌}
use Rattle.std.proofs.Math.Decide.{dec_lt}
use Rattle.std.proofs.lemmas.List.{length-map}
use Rattle.meaning.specs.All.{All, all_imp}
use Rattle.meaning.specs.Tests.{by_test}
use Rattle.meaning.specs.Text.{Input, Regs, State, registers_of, opened, closed}
use Rattle.meaning.specs.Bytes.{Bytes, text_of}
use Rattle.meaning.specs.Node.{Node, Proper}
use Rattle.meaning.specs.Numbering.{Numbers, numbered}
use Rattle.meaning.specs.Results.{or_else, first_some, concat_map, results}
use Rattle.meaning.specs.Standard.{initial, capture, match_at, exec, search_from}
use Rattle.meaning.specs.Reach.{Reach, reach}
use Rattle.meaning.proofs.Agrees.{standard}
use Rattle.machine.specs.Steps.{best, run, match_row}
use Rattle.machine.specs.Layout.{program_of}
use Rattle.machine.proofs.Answers.{matched}
use Rattle.machine.specs.Replies.{shown, spans}
use Rattle.machine.proofs.Width.{spans_length}
use Rattle.machine.specs.Repetition.{leads_to, beyond, next_start, goes_on, starts_in, match_of, standard_all}
use Rattle.machine.specs.Once.{Once}

-- A match found from a start: the whole match starts at or behind it, and ends there or behind that.
pub record Spans (start : ℕ) (ρ : Regs) : Type 0 where
  pub from : ℕ
  pub to : ℕ
  pub starts : get_or ρ 0 none ≡ some from
  pub ends : get_or ρ 1 none ≡ some to
  pub after : start ≤ from
  pub forward : from ≤ to

-- What is recorded at the end of a match, if anything is.
abbrev SpansIf : ℕ → Option Regs → Type 0
SpansIf start none = Unit {0}
SpansIf start (some ρ) = Spans start ρ

sooner : (i j : ℕ) → i ≤ j → (o : Option Regs) → SpansIf j o → SpansIf i o
sooner i j h none s = tt
sooner i j h (some ρ) s = record {
  from = s.from;
  to = s.to;
  starts = s.starts;
  ends = s.ends;
  after = omega (arith, s.after);
  forward = s.forward;
}

either : (i : ℕ) (o p : Option Regs) → SpansIf i o → SpansIf i p → SpansIf i (or_else o p)
either i none p s t = t
either i (some ρ) p s t = s

-- Two registers at least: group 0 has a place.
captured : (i : ℕ) (y : State) → i ≤ y.pos → 2 ≤ length (capture 0 i y).regs → Spans i (capture 0 i y).regs
unfolding opened closed
captured i y h l =
    let two : 2 ≤ length y.regs = simp length-set at l in
    record {
      from = i;
      to = y.pos;
      starts = get_or-set_other (set y.regs 0 (some i)) 1 0 (some y.pos) none (λ e. omega arith)
          ∙ get_or-set_same y.regs 0 (some i) none (omega arith);
      ends = get_or-set_same (set y.regs 0 (some i)) 1 (some y.pos) none (simp length-set (omega arith));
      after = omega arith;
      forward = h;
    }

first_spans : (i : ℕ) (l : List State) (w : Input) (x : State) → x.pos ≡ i → All (Reach w x) l
    → ((ρ : Regs) → first_some (λ y. some (capture 0 i y).regs) l ≡ some ρ → 2 ≤ length ρ)
    → SpansIf i (first_some (λ y. some (capture 0 i y).regs) l)
first_spans i [] w x e h long = tt
first_spans i (y ∷ l) w x e h long = captured i y (omega (arith, h.0.start)) (long _ refl)

module _ (text : List ℕ) (g : ℕ) (r : Node) (num : Numbers 1 r (suc g)) (bytes : Bytes text) (ok : Proper r) where
  -- A match has all its registers.
  long : (i : ℕ) → i ≤ length text → (ρ : Regs) → match_at (text_of text) g r i ≡ some ρ → 2 ≤ length ρ
  long i h ρ e =
      let is : best (run (text_of text) (program_of g r) i match_row) ≡ some ρ = matched text g r num bytes ok i h ∙ e in
      let all : length (map shown ρ) ≡ registers_of g
      = subst (λ (o : Option Regs). length (spans g o) ≡ registers_of g) is
      (spans_length (text_of text) (program_of g r) i match_row) in
      omega (arith, all, length-map ρ shown)

  -- The first success of the pattern, recorded as group 0, is its match.
  first_match : (i : ℕ) → i ≤ length text
      → match_at (text_of text) g r i ≡ first_some (λ y. some (capture 0 i y).regs) (results (text_of text) r (initial g i))
  unfolding match_at
  first_match i h = standard (text_of text) r (numbered r 1 (suc g) (omega arith) num) (initial g i)
      (λ y. some (capture 0 i y).regs) h

  match_spans : (i : ℕ) → i ≤ length text → SpansIf i (match_at (text_of text) g r i)
  match_spans i h =
      let e = first_match i h in
      subst (SpansIf i) (sym e) (first_spans i (results (text_of text) r (initial g i)) (text_of text) (initial g i) refl
      (reach (text_of text) r (initial g i) h) (λ ρ f. long i h ρ (e ∙ f)))

  exec_spans : (n i : ℕ) → i + n ≤ length text → SpansIf i (exec (text_of text) g r n i)
  exec_spans zero i h = match_spans i (omega arith)
  exec_spans (suc n) i h = either i (match_at (text_of text) g r i) (exec (text_of text) g r n (suc i)) (match_spans i (omega arith))
      (sooner i (suc i) (omega arith) (exec (text_of text) g r n (suc i)) (exec_spans n (suc i) (omega arith)))

  -- What the standard's search finds lies at or behind its start.
  search_spans : (i : ℕ) → i ≤ length text → SpansIf i (search_from (text_of text) g r i)
  unfolding search_from
  search_spans i h = exec_spans (length text - i) i (omega arith)

-- A match whose span goes forward is left behind by the next start.
passes_by : (start : ℕ) (ρ : Regs) (s : Spans start ρ) → s.from < next_start start ρ
unfolding next_start
passes_by start ρ s = rw (s.starts, s.ends) (go (dec_lt s.from s.to))
  where
    go : Dec (s.from < s.to) → s.from < beyond start (leads_to (some s.from) (some s.to))
    go (yes l) = rw (ne_eqb s.from s.to (λ e. omega arith), lt-ltb start s.to (omega (arith, s.after))) l
    go (no l) =
        let e : s.from ≡ s.to = omega (arith, s.forward) in
        rw (eq-eqb s.from s.to e, lt-ltb start (s.to + 1) (omega (arith, s.after))) (omega arith)

module _ (find : ℕ → Option Regs) (end : ℕ) (found : (i : ℕ) → i ≤ end → SpansIf i (find i)) where
  -- What is found at a start, before what is found from the next one on.
  before : (start : ℕ) (rest : ℕ → List ℕ) (o : Option Regs) → SpansIf start o
      → ((n : ℕ) → Once n (concat_map (λ s. match_of (find s)) (rest n)))
      → Once start (match_of o ++ concat_map (λ s. match_of (find s)) (goes_on rest start o))
  before start rest none s h = record { places = []; are = refl; rise = tt; after = tt }
  before start rest (some ρ) s h =
      let next : ℕ = next_start start ρ in
      let more : Once next (concat_map (λ s. match_of (find s)) (rest next)) = h next in
      let beyond-it : s.from < next = passes_by start ρ s in
      record {
        places = s.from ∷ more.places;
        are = ap₂ (λ (o : Option ℕ) (l : List (Option ℕ)). o ∷ l) s.starts more.are;
        rise = (
          all_imp (λ p. next ≤ p) (λ p. s.from < p) (λ p k. omega arith) more.places more.after,
          more.rise,
        );
        after = (
          s.after,
          all_imp (λ p. next ≤ p) (λ p. start ≤ p) (λ p k. omega (arith, s.after)) more.places more.after,
        );
      }

  rising : (n start : ℕ) → Once start (concat_map (λ s. match_of (find s)) (starts_in find end n start))
  unfolding starts_in
  rising zero start = record { places = []; are = refl; rise = tt; after = tt }
  rising (suc n) start =
      by_test (λ (l : List ℕ). Once start (concat_map (λ s. match_of (find s)) l)) (leb start end)
      (λ e. before start (starts_in find end n) (find start) (found start (leb-true start end e)) (rising n))
      (λ e. record { places = []; are = refl; rise = tt; after = tt })

-- So every match of the standard's repetition stands in its list once.
pub each_once : (text : List ℕ) (g : ℕ) (r : Node) → Numbers 1 r (suc g) → Bytes text → Proper r → (start : ℕ)
    → Once start (standard_all (text_of text) g r start)
each_once text g r num bytes ok start =
    rising (search_from (text_of text) g r) (length text) (search_spans text g r num bytes ok) (length text - start + 1) start
