-- The course of a repetition: what is found so far, and what is still to come.
use Rattle.std.specs.Prelude.{◌≡◌, refl, true, false, cond, List, [], ◌∷◌, ◌++◌, map, ℕ, zero, suc, ◌+◌, ◌*◌, ◌-◌, ◌^◌, ◌≤◌, ◌<◌, eqb, ltb, ℤ, length, get_or, take, drop}
use Rattle.std.proofs.Common.{sym, ap, ap₂, ◌∙◌, append_assoc, append-nil, mul-le-mul, add-mul, suc-mul, arith, le-ltb, lt-ltb, ne_eqb, length-append, length-drop, drop_of_length-le, take_all, take_at, drop_at, drop-drop}
use Rattle.std.proofs.Math.Option.{none, some}
use Rattle.std.proofs.Math.Decide.{dec_lt}
use Rattle.std.proofs.lemmas.List.{length-map}
use Rattle.meaning.specs.Limits.{text_limit, row_limit, group_limit, position_limit, workspace_words}
use Rattle.meaning.specs.Text.{Regs, registers_of}
use Rattle.meaning.specs.Results.{concat_map}
use Rattle.machine.specs.Steps.{search_row}
use Rattle.machine.specs.Words.{rows_said, groups_said}
use Rattle.machine.specs.Replies.{shown}
use Rattle.machine.specs.Repetition.{leads_to, beyond, next_start, match_of, sum, found_from, executed_from, repetition, executed_in, list_words}
use Rattle.machine.proofs.Repeated.{starts_past, starts_more, starts_last, starts_next, matches_few, executed_few}
use Rattle.running_moves.specs.Ready.{Ready}
use Rattle.running_threads.specs.Words.{words_at}
use Rattle.running_threads.specs.Threads.{reg_of}
use Rattle.running_threads.specs.Laws.{words_at_lem, words_length}
use Rattle.running_settle.specs.Moved.{best_of}
use Rattle.running.specs.Ran.{RanAs}
use Rattle.running.specs.declared.Ran.{Ran}
use Rattle.engine.specs.Answers.{shown_word}
use Rattle.engine.specs.Laws.{map_both}
use Rattle.repetition.specs.Listings.{words_of, spans_of}
use Rattle.repetition.specs.Passing.{placed, Passes}

-- ---- the matches from a start on, by what the run there found

module _ (code text : List ℕ) (at : ℕ) where
  abbrev found : ℕ → List Regs
  found s = match_of (found_from code text s)

  -- Past the text's length there is nothing.
  past_all : length text < at → (repetition code text at ≡ []) × (executed_in code text at ≡ 0)
  past_all h =
      let e = starts_past (found_from code text) (length text) at h in
      (ap (concat_map found) e, ap (sum (executed_from code text)) e)

  -- A run that finds nothing is the last one.
  last_all : at ≤ length text → found_from code text at ≡ none
      → (repetition code text at ≡ []) × (executed_in code text at ≡ executed_from code text at + 0)
  last_all h e =
      let s = starts_last (found_from code text) (length text) at h e in
      (ap (concat_map found) s ∙ ap (λ o. match_of o ++ []) e, ap (sum (executed_from code text)) s)

  -- One that finds a match is followed by those from the next start on.
  next_all : (ρ : Regs) → at ≤ length text → found_from code text at ≡ some ρ
      → (repetition code text at ≡ ρ ∷ repetition code text (next_start at ρ))
      × (executed_in code text at ≡ executed_from code text at + executed_in code text (next_start at ρ))
  next_all ρ h e =
      let s = starts_next (found_from code text) (length text) at ρ h e in (
        ap (concat_map found) s ∙ ap (λ o. match_of o ++ repetition code text (next_start at ρ)) e,
        ap (sum (executed_from code text)) s,
      )

-- ---- registers as words

reg_at : (l : List ℕ) (n : ℕ) → n < length l → get_or (map reg_of l) n none ≡ reg_of (get_or l n 0)
reg_at [] n h = absurd (omega arith)
reg_at (v ∷ l) zero h = refl
reg_at (v ∷ l) (suc n) h = reg_at l n (omega arith)

-- The next start goes by the first two words.
pub next_words : (at : ℕ) (s : List ℕ) (from width : ℕ) → 2 ≤ width → from + width ≤ length s
    → next_start at (map reg_of (words_at s from width)) ≡ next_start at (reg_of (get_or s from 0) ∷ reg_of (get_or s (from + 1) 0) ∷ [])
unfolding next_start
next_words at s from width h l =
    let e : length (words_at s from width) ≡ width = words_length s from width l in
    let z : from + 0 ≡ from = omega arith in
    rw (
      reg_at (words_at s from width) 0 (omega arith),
      reg_at (words_at s from width) 1 (omega arith),
      words_at_lem s from width 0 (omega arith),
      words_at_lem s from width 1 (omega arith),
      z,
    )

-- The same of two words: without an end, and with one.
pub next_nowhere : (start from to : ℕ) → position_limit ≤ to → next_start start (reg_of from ∷ reg_of to ∷ []) ≡ start + 1
unfolding next_start reg_of
next_nowhere start from to h = rw (le-ltb to position_limit h, le-ltb start 0 (omega arith))

pub next_somewhere : (start from to : ℕ) → to < position_limit
    → next_start start (reg_of from ∷ reg_of to ∷ []) ≡ beyond start (cond (eqb from to) (to + 1) to)
unfolding next_start reg_of
next_somewhere start from to h = rw (lt-ltb to position_limit h) (go (dec_lt from position_limit))
  where
    go : Dec (from < position_limit)
        → beyond start (leads_to (cond (ltb from position_limit) (some from) none) (some to))
        ≡ beyond start (cond (eqb from to) (to + 1) to)
    go (yes l) = rw (lt-ltb from position_limit l)
    go (no l) = rw (le-ltb from position_limit (omega arith), ne_eqb from to (λ e. omega arith))

-- Numbers that a list has no room for, and numbers that were written into its rest.
pub placed_not : (at width : ℕ) (new list : List ℤ) → length new ≡ width → length list < at + width → list ≡ placed at new list
placed_not at width new list e h = rw (lt-ltb (length list) (at + length new) (omega arith))

pub placed_there : (at width : ℕ) (new list : List ℤ) → length new ≡ width → at + width ≤ length list → (rest : List ℤ)
    → (k : ℕ) → k ≡ length list - at → rest ≡ new ++ drop width (take k (drop at list))
    → take at list ++ (rest ++ drop k (drop at list)) ≡ placed at new list
placed_there at width new list e h rest k z f =
    let whole : length (drop at list) ≤ k = simp length-drop (omega arith) in
    rw (le-ltb (length list) (at + length new) (omega arith))
    (ap (λ l. take at list ++ l) (ap₂ ◌++◌ (f ∙ ap₂ (λ n l. new ++ drop n l) (sym e) (take_all k (drop at list) whole))
    (drop_of_length-le (drop at list) whole) ∙ append-nil (new ++ drop (length new) (drop at list))))

spans_append : (a b : List Regs) → spans_of (a ++ b) ≡ spans_of a ++ spans_of b
spans_append [] b = refl
spans_append (ρ ∷ a) b = rw (spans_append a b, append_assoc)

-- ---- the course

-- At a start: the matches so far are counted, and stand in the list where that has room for them.
pub record Course (code text : List ℕ) (start at : ℕ) (list₀ list : List ℤ) (work₀ work : List ℕ) (matches filled count : ℕ)
    : Type 0 where
  pub done : List Regs
  pub all : repetition code text start ≡ done ++ repetition code text at
  pub many : matches ≡ length done
  pub full : filled ≡ list_words matches (groups_said code)
  pub wide : length (spans_of done) ≡ filled
  pub sum : executed_in code text start ≡ count + executed_in code text at
  pub list_long : length list ≡ length list₀
  pub listed : filled ≤ length list₀ → list ≡ spans_of done ++ drop filled list₀
  pub work_long : length work ≡ length work₀
  pub tail : (j : ℕ) → workspace_words (rows_said code) (groups_said code) ≤ j → get_or work j 0 ≡ get_or work₀ j 0

pub course_first : (code text : List ℕ) (start : ℕ) (list : List ℤ) (work : List ℕ)
    → Course code text start start list list work work 0 0 0
course_first code text start list work = record {
  done = [];
  all = refl;
  many = refl;
  full = omega arith;
  wide = refl;
  sum = omega arith;
  list_long = refl;
  listed = λ h. refl;
  work_long = refl;
  tail = λ j h. refl;
}

-- The matches so far are all: what a pass promises.
course_ends : {code text : List ℕ} {start at : ℕ} {list₀ list : List ℤ} {work₀ work : List ℕ} {matches filled count : ℕ}
    → Course code text start at list₀ list work₀ work matches filled count → repetition code text at ≡ []
    → (total : ℕ) → executed_in code text start ≡ total → (work' : List ℕ)
    → ((j : ℕ) → workspace_words (rows_said code) (groups_said code) ≤ j → get_or work' j 0 ≡ get_or work j 0)
    → Passes code text start list₀ list work₀ work' (record { matches = matches; count = total })
course_ends {code} {text} {start} {at} {list₀} {list} {matches = matches} {filled = filled} d e total f work' t =
    let all : repetition code text start ≡ d.done = d.all ∙ ap (λ l. d.done ++ l) e ∙ append-nil d.done in
    let many : matches ≡ length (repetition code text start) = d.many ∙ ap length (sym all) in
    let full : filled ≡ words_of code (repetition code text start) = d.full ∙ ap (λ n. list_words n (groups_said code)) many in
    record {
      matches = many;
      count = sym f;
      listed = λ h. d.listed (omega arith) ∙ ap₂ (λ l n. spans_of l ++ drop n list₀) (sym all) full;
      tail = λ j h. t j h ∙ d.tail j h;
    }

-- So they are past the text's length,
pub course_past : {code text : List ℕ} {start at : ℕ} {list₀ list : List ℤ} {work₀ work : List ℕ} {matches filled count : ℕ}
    → Course code text start at list₀ list work₀ work matches filled count → length text < at
    → Passes code text start list₀ list work₀ work (record { matches = matches; count = count })
course_past {code} {text} {at = at} {work = work} {count = count} d h =
    let past = past_all code text at h in
    course_ends d past.0 count (omega (arith, d.sum, past.1)) work (λ j k. refl)

-- and behind a run that found none.
pub course_missed : {code text : List ℕ} {start at : ℕ} {list₀ list : List ℤ} {work₀ work work' : List ℕ}
    {matches filled count : ℕ} {ran : Ran}
    → Course code text start at list₀ list work₀ work matches filled count → at ≤ length text
    → RanAs code text at search_row work work' ran → ran.found ≡ false
    → Passes code text start list₀ list work₀ work' (record { matches = matches; count = count + ran.count })
course_missed {code} {text} {at = at} {work' = work'} {count = count} {ran = ran} d h r e =
    let none-there : found_from code text at ≡ none
    = r.result ∙ ap (λ b. best_of b (words_at work' ran.best ran.width) none) e in
    let last = last_all code text at h none-there in
    course_ends d last.0 (count + ran.count) (omega (arith, d.sum, last.1, r.count)) work' r.tail

-- A pass has room for the numbers it counts with.
module _ {code text : List ℕ} {start at : ℕ} {list₀ list : List ℤ} {work₀ work : List ℕ} {matches filled count : ℕ}
    (d : Course code text start at list₀ list work₀ work matches filled count) (ready : Ready code)
    (short : length text ≤ text_limit) (here : at ≤ length text) where
  -- The count of the next run fits too.
  pub count_fits : count + executed_from code text at < 2 ^ 64
  count_fits =
      let next = ap (sum (executed_from code text)) (starts_more (found_from code text) (length text) at here) in
      let few = executed_few code text ready.rows (omega (arith, ready.least)) start in
      let n : 2 * rows_said code ≤ 2 * row_limit = omega (arith, ready.most) in
      let k : length text - start + 1 ≤ text_limit + 1 = omega arith in
      omega (arith, d.sum, few, mul-le-mul k (mul-le-mul n k))

  -- So do the words of one match more.
  pub words_fit : (ρ : Regs) → found_from code text at ≡ some ρ
      → (filled + registers_of (groups_said code) < position_limit) × (matches < position_limit)
  words_fit ρ e =
      let more : repetition code text start ≡ d.done ++ (ρ ∷ repetition code text (next_start at ρ))
      = d.all ∙ ap (λ l. d.done ++ l) (next_all code text at ρ here e).0 in
      let few = matches_few (found_from code text) (length text) start in
      let long = ap length more ∙ length-append d.done (ρ ∷ repetition code text (next_start at ρ)) in
      let m : suc matches ≤ text_limit + 1 = omega (arith, d.many) in
      let w : registers_of (groups_said code) ≤ registers_of group_limit = omega (arith, ready.groups) in
      (omega (arith, d.full, suc-mul matches (registers_of (groups_said code)), mul-le-mul m w), omega arith)

-- A run that found a match.
pub record Hit (code text : List ℕ) (at : ℕ) (work work' : List ℕ) (ran : Ran) : Type 0 where
  pub ran_as : RanAs code text at search_row work work' ran
  pub hit : ran.found ≡ true
  pub inside : at ≤ length text
  pub long : length work' ≡ length work
  pub room : workspace_words (rows_said code) (groups_said code) ≤ length work

module _ {code text : List ℕ} {at : ℕ} {work work' : List ℕ} {ran : Ran} (h : Hit code text at work work' ran) where
  abbrev words : List ℕ
  words = words_at work' ran.best ran.width

  pub words_inside : ran.best + ran.width ≤ length work'
  words_inside = omega (arith, h.ran_as.within, h.room, h.long)

  pub hit_found : found_from code text at ≡ some (map reg_of words)
  hit_found = h.ran_as.result ∙ ap (λ b. best_of b words none) h.hit

  words_many : length words ≡ ran.width
  words_many = words_length work' ran.best ran.width words_inside

  -- The course goes on at the next start.
  pub course_next : {start : ℕ} {list₀ list : List ℤ} {work₀ : List ℕ} {matches filled count next : ℕ} {list' : List ℤ}
      → Course code text start at list₀ list work₀ work matches filled count → length list' ≡ length list
      → list' ≡ placed filled (map shown_word words) list
      → next ≡ next_start at (reg_of (get_or work' ran.best 0) ∷ reg_of (get_or work' (ran.best + 1) 0) ∷ [])
      → Course code text start next list₀ list' work₀ work' (matches + 1) (filled + ran.width) (count + ran.count)
  course_next {start} {list₀} {list} {work₀} {matches} {filled} {count} {next} {list'} d same put e =
      let ρ : Regs = map reg_of words in
      let w : ran.width ≡ registers_of (groups_said code) = h.ran_as.width in
      let here : next ≡ next_start at ρ = e ∙ sym (next_words at work' ran.best ran.width (omega arith) words_inside) in
      let more = next_all code text at ρ h.inside hit_found in
      let wide : length (map shown_word words) ≡ ran.width = length-map words shown_word ∙ words_many in
      let spans : spans_of (d.done ++ (ρ ∷ [])) ≡ spans_of d.done ++ map shown_word words
      = spans_append d.done (ρ ∷ []) ∙ ap (λ l. spans_of d.done ++ l) (append-nil (map shown ρ) ∙ map_both words) in
      record {
        done = d.done ++ (ρ ∷ []);
        all = d.all ∙ ap (λ l. d.done ++ l) (more.0 ∙ ap (λ n. ρ ∷ repetition code text n) (sym here))
            ∙ sym (append_assoc d.done (ρ ∷ []) (repetition code text next));
        many = omega (arith, d.many, length-append d.done (ρ ∷ []));
        full = omega (arith, d.full, add-mul matches 1 (registers_of (groups_said code)));
        wide = ap length spans ∙ length-append (spans_of d.done) (map shown_word words) ∙ ap₂ (λ a b. a + b) d.wide wide;
        sum = omega (arith, d.sum, more.1, h.ran_as.count, ap (executed_in code text) here);
        list_long = same ∙ d.list_long;
        listed = λ l. put ∙ written (d.listed (omega arith)) (omega arith)
            ∙ ap (λ x. x ++ drop (filled + ran.width) list₀) (sym spans);
        work_long = h.long ∙ d.work_long;
        tail = λ j k. h.ran_as.tail j k ∙ d.tail j k;
      }
    where
      written : list ≡ spans_of d.done ++ drop filled list₀ → filled + ran.width ≤ length list₀
          → placed filled (map shown_word words) list
          ≡ (spans_of d.done ++ map shown_word words) ++ drop (filled + ran.width) list₀
      written e l =
          let wide : length (map shown_word words) ≡ ran.width = length-map words shown_word ∙ words_many in
          let same : length list ≡ length list₀ = d.list_long in
          rw (le-ltb (length list) (filled + length (map shown_word words)) (omega arith))
          (ap₂ (λ a b. a ++ (map shown_word words ++ b))
          (ap (take filled) e ∙ take_at (spans_of d.done) (drop filled list₀) filled d.wide)
          (ap₂ drop wide (ap (drop filled) e ∙ drop_at (spans_of d.done) (drop filled list₀) filled d.wide)
          ∙ drop-drop ran.width filled list₀)
          ∙ sym (append_assoc (spans_of d.done) (map shown_word words) (drop (filled + ran.width) list₀)))
