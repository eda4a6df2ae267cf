-- Repeated execution with the global flag, over whatever finds a match from a start: the machine, or the standard's search.
-- Definitions only.
use Rattle.std.specs.Prelude.{cond, List, [], ◌∷◌, ℕ, zero, suc, ◌+◌, ◌*◌, ◌-◌, eqb, leb, ltb, length, get_or}
use Rattle.std.proofs.Math.Option.{Option, none, some}
use Rattle.meaning.specs.Text.{Input, Regs, size, registers_of}
use Rattle.meaning.specs.Node.{Node}
use Rattle.meaning.specs.Results.{concat_map}
use Rattle.meaning.specs.Standard.{search_from}
use Rattle.machine.specs.Steps.{best, count, search_row}
use Rattle.machine.specs.Replies.{run_of}

-- Where a span leads: to its end, and after an empty one a byte further. Without an end it leads nowhere.
abbrev pub leads_to : Option ℕ → Option ℕ → ℕ
leads_to from none = 0
leads_to none (some to) = to
leads_to (some from) (some to) = cond (eqb from to) (to + 1) to

-- What lies beyond a run's start; else that start plus one.
abbrev pub beyond : ℕ → ℕ → ℕ
beyond start next = cond (ltb start next) next (start + 1)

-- The next start, from a run's start and what it found: where the span of the whole match leads, beyond the start.
unfoldable pub next_start : ℕ → Regs → ℕ
next_start start ρ = beyond start (leads_to (get_or ρ 0 none) (get_or ρ 1 none))

-- The starts behind a run: those from the next start on; none if it found nothing.
abbrev pub goes_on : (ℕ → List ℕ) → ℕ → Option Regs → List ℕ
goes_on starts start none = []
goes_on starts start (some ρ) = starts (next_start start ρ)

-- The starts of the runs, at most so many. A start past the text's length ends the repetition.
unfoldable pub starts_in : (ℕ → Option Regs) → ℕ → ℕ → ℕ → List ℕ
starts_in find end zero start = []
starts_in find end (suc runs) start = cond (leb start end) (start ∷ goes_on (starts_in find end runs) start (find start)) []

-- All of them: there are no more than positions from the start to the text's length (`Repeated.starts_any`).
abbrev pub starts_from : (ℕ → Option Regs) → ℕ → ℕ → List ℕ
starts_from find end start = starts_in find end (end - start + 1) start

-- The match that a run found, if it did; and every match of the repetition, in order.
abbrev pub match_of : Option Regs → List Regs
match_of none = []
match_of (some ρ) = ρ ∷ []

abbrev pub repeated : (ℕ → Option Regs) → ℕ → ℕ → List Regs
repeated find end start = concat_map (λ s. match_of (find s)) (starts_from find end start)

-- The sum of a number for each start.
abbrev pub sum : (ℕ → ℕ) → List ℕ → ℕ
sum f [] = 0
sum f (s ∷ starts) = f s + sum f starts

-- What a run of code finds, searching from a start, and the count of rows that it executes.
abbrev pub found_from : List ℕ → List ℕ → ℕ → Option Regs
found_from code text start = best (run_of code text start search_row)

abbrev pub executed_from : List ℕ → List ℕ → ℕ → ℕ
executed_from code text start = count (run_of code text start search_row)

-- The starts of the repetition of code on a text; its matches; and the sum of its runs' counts.
abbrev pub run_starts : List ℕ → List ℕ → ℕ → List ℕ
run_starts code text start = starts_from (found_from code text) (length text) start

abbrev pub repetition : List ℕ → List ℕ → ℕ → List Regs
repetition code text start = repeated (found_from code text) (length text) start

abbrev pub executed_in : List ℕ → List ℕ → ℕ → ℕ
executed_in code text start = sum (executed_from code text) (run_starts code text start)

-- The standard's repetition of a pattern of g groups: its search, over and over.
abbrev pub standard_all : Input → ℕ → Node → ℕ → List Regs
standard_all w g r start = repeated (search_from w g r) (size w) start

-- The words of a list that so many matches of g groups fill.
abbrev pub list_words : ℕ → ℕ → ℕ
list_words matches g = matches * registers_of g
