-- The course of a search on the words: from where it begins to its end.
use Rattle.std.specs.Prelude.{◌≡◌, refl, true, false, List, [], ◌∷◌, map, ℕ, zero, suc, ◌+◌, ◌*◌, ◌<◌, ◌≤◌, length, get_or, replicate}
use Rattle.std.proofs.Common.{sym, ap, ap₂, ◌∙◌, subst, true≢false, mul_comm, mul_assoc, mul-add, mul-le-mul, not-suc-le-zero, arith}
use Rattle.std.proofs.Math.Option.{Option, none}
use Rattle.meaning.specs.Limits.{second_limit, second_words, row_limit, group_limit}
use Rattle.meaning.specs.Text.{Regs, unset, registers_of}
use Rattle.meaning.specs.Bytes.{text_of}
use Rattle.machine.specs.Words.{rows_said, groups_said, decode}
use Rattle.machine.proofs.Coded.{rows_in_length}
use Rattle.running_moves.specs.Keys.{key_number, keys_of, key_of_lem}
use Rattle.running_moves.specs.Ready.{Ready}
use Rattle.running_threads.specs.Words.{Spread}
use Rattle.running_threads.specs.Threads.{nowhere, reg_of}
use Rattle.running_threads.specs.Laws.{words_at_lem, words_all}
use Rattle.running_settle.specs.Moved.{best_of, moves_of}
use Rattle.running_settle.specs.Means.{reg_none}
use Rattle.running_settle.specs.Marks.{fresh_all, seen_none}
use Rattle.second.specs.Plain.{choice, Memory, nothing, Search.searching, result_of, count_of, beginning}
use Rattle.second.specs.Follows.{Leads, leads_here, leads_one, leads_on}
use Rattle.second.specs.Agrees.{is_run}
use Rattle.second.specs.Held.{going_of, found_of, tried_mark, marks_at, choice_at, Laid, Serves, LayoutOf, own, search_of, Marks}
use Rattle.second.specs.Held.{unmarked, Standing, Attempted, second_of, Ran, choices_in}
use Rattle.second.specs.Choices.{choice_order}
use Rattle.second.specs.Marked.{marks_fit, marks_room}
use Rattle.second.specs.declared.Layout.{Layout}
use Rattle.second.specs.declared.State.TheVariants.{Runs}
use Rattle.second.specs.declared.Trial.{Trial}

-- ---- the layout

-- The words of the layout are those that the second engine needs.
pub words_are : (n g size : ℕ)
    → (size + 1) * keys_of n + registers_of g + (size + 1) * keys_of n * (registers_of g + 2) ≡ second_words n g size
words_are n g size =
    let K : ℕ = (size + 1) * (n * 2) in
    let w : ℕ = registers_of g + 2 in
    let more : K * (w + 1) ≡ K * w + K * 1 = mul-add K w 1 in
    let row : n * 2 * (w + 1) ≡ n * (2 * (w + 1)) = mul_assoc n 2 (w + 1) in
    let wide : 2 * (w + 1) ≡ 4 * g + 10 = omega arith in
    let all : K * (w + 1) ≡ n * (4 * g + 10) * (size + 1) =
    mul_assoc (size + 1) (n * 2) (w + 1) ∙ ap (λ (k : ℕ). (size + 1) * k) (row ∙ ap (λ (k : ℕ). n * k) wide)
    ∙ mul_comm (size + 1) (n * (4 * g + 10)) in
    omega arith

-- They are few.
pub rows_few : (n g : ℕ) → n ≤ row_limit → g ≤ group_limit → n * (4 * g + 10) ≤ row_limit * (4 * group_limit + 10)
rows_few n g a b = let groups : 4 * g + 10 ≤ 4 * group_limit + 10 = omega arith in mul-le-mul a groups

pub words_few : (n g size : ℕ) → n ≤ row_limit → g ≤ group_limit → size ≤ second_limit
    → n * (4 * g + 10) * (size + 1) ≤ row_limit * (4 * group_limit + 10) * (second_limit + 1)
words_few n g size a b c =
    let text : size + 1 ≤ second_limit + 1 = omega arith in mul-le-mul (rows_few n g a b) text

module _ {code : List ℕ} (text : List ℕ) {l : Layout} (ready : Ready code) (short : length text ≤ second_limit)
    (made : LayoutOf code (length text) l) where
  pub layout_serves : Serves code text l
  layout_serves = record {
    rows = ap (λ (m : Layout). m.rows) made;
    width = ap (λ (m : Layout). m.width) made;
    long = ap (λ (m : Layout). m.length) made;
  }

  pub layout_end : choice_at l l.marks ≡ second_words (rows_said code) (groups_said code) (length text)
  layout_end = ap (λ (m : Layout). choice_at m m.marks) made ∙ words_are (rows_said code) (groups_said code) (length text)

  pub layout_laid : {len : ℕ} → second_words (rows_said code) (groups_said code) (length text) ≤ len → Laid l len
  layout_laid room =
      let few = words_few (rows_said code) (groups_said code) (length text) ready.most ready.groups short in
      record {
        marks = rw made;
        short = rw made short;
        small = omega (arith, layout_end, ready.groups);
        room = omega (arith, layout_end);
      }

-- ---- the course

-- What a run asks.
pub record Begins (code text : List ℕ) (l : Layout) (start row : ℕ) : Type 0 where
  pub ready : Ready code
  pub serves : Serves code text l
  pub within : start ≤ length text
  pub low : row < rows_said code

-- The search that the words stand for is reached.
pub record Course (code text : List ℕ) (l : Layout) (start row : ℕ) (s₀ s : List ℕ) (x : Trial) : Type 0 where
  pub long : length s ≡ length s₀
  pub stands : Standing l x s
  pub tail : (i : ℕ) → choice_at l l.marks ≤ i → get_or s i 0 ≡ get_or s₀ i 0
  pub tried : Memory
  pub marks : Marks s l tried
  pub got : Leads (moves_of code text) (beginning (decode code) start row) (search_of s l x tried)

-- Where it begins: no mark, registers all -1, and one thread with the flag set.
abbrev pub first_trial : ℕ → ℕ → Trial
first_trial start row =
    record { state = Runs; key = key_number row 1; position = start; stored = 0; count = 0 }

map_unset : (w : ℕ) → map reg_of (replicate w nowhere) ≡ replicate w none
map_unset zero = refl
map_unset (suc w) = ap₂ (λ (a : Option ℕ) (ρ : Regs). a ∷ ρ) reg_none (map_unset w)

pub course_first : {code text : List ℕ} {l : Layout} {start row : ℕ} {s m t : List ℕ} → Begins code text l start row
    → Laid l (length s) → length m ≡ length s → Spread 0 l.marks 0 s m → length t ≡ length m
    → Spread l.marks l.width nowhere m t → Course code text l start row t t (first_trial start row)
unfolding unset choices_in
course_first {code} {text} {l} {start} {row} {s} {m} {t} b q em pm et pt =
    let room = marks_room q in
    let fits = choice_order l 0 l.marks (omega arith) in
    let e : length t ≡ length s = et ∙ em in
    let clear : (i : ℕ) → i < l.marks → get_or t i 0 ≡ 0 =
    λ i h. let z : 0 + i ≡ i = omega arith in
    pt.only.before i h ∙ subst (λ (j : ℕ). get_or m j 0 ≡ 0) z (pm.each i h) in
    let left : unmarked t l ≡ l.marks = fresh_all t tried_mark l.marks (λ i h z. omega (arith, clear i h)) in
    let regs : own t l ≡ replicate l.width nowhere = words_all (omega (arith, q.room)) pt in
    let registers : map reg_of (own t l) ≡ unset (groups_said code) = ap (map reg_of) regs ∙ map_unset l.width
    ∙ ap (λ (k : ℕ). replicate k none) b.serves.width in
    record {
      long = refl;
      stands = record {
        laid = subst (Laid l) (sym e) q;
        key = omega (arith, b.low, b.serves.rows);
        position = omega (arith, b.within, b.serves.long);
        sound = record { each = λ i h. absurd (not-suc-le-zero h) };
        few = omega arith;
        spent = omega arith;
        quiet = λ z. refl;
      };
      tail = λ i h. refl;
      tried = nothing;
      marks = record {
        tells = λ j h.
            let inside = marks_fit q h in
            seen_none (λ k lt z.
            omega (arith, words_at_lem t (marks_at l j) (keys_of l.rows) k lt, clear (marks_at l j + k) (omega arith)));
      };
      got = leads_here (moves_of code text) (ap₂ (λ k (ρ : Regs). searching (choice start k ρ ∷ []) nothing none 0)
          (sym (key_of_lem row 1 (omega arith))) (sym registers));
    }

-- Words behind those that a run needs are as they were.
pub first_tail : (l : Layout) {s m t : List ℕ} → Spread 0 l.marks 0 s m → Spread l.marks l.width nowhere m t → (i : ℕ)
    → choice_at l l.marks ≤ i → get_or t i 0 ≡ get_or s i 0
first_tail l pm pt i h =
    let fits = choice_order l 0 l.marks (omega arith) in
    pt.only.after i (omega arith) ∙ pm.only.after i (omega arith)

-- A step on.
pub course_next : {code text : List ℕ} {l : Layout} {start row : ℕ} {s₀ s t : List ℕ} {x y : Trial}
    → Course code text l start row s₀ s x → length t ≡ length s → Attempted code text l x s t y
    → Course code text l start row s₀ t y
course_next {code} {text} c e a =
    let one = a.one c.tried c.marks in
    record {
      long = e ∙ c.long;
      stands = a.stands e;
      tail = λ i h. a.tail i h ∙ c.tail i h;
      tried = one.0;
      marks = one.1 e;
      got = leads_on (moves_of code text) c.got (leads_one (moves_of code text) one.2);
    }

-- The end: the search that the words stand for is the run's.
module _ {code text : List ℕ} {l : Layout} {start row : ℕ} {s₀ s : List ℕ} {x : Trial} (b : Begins code text l start row)
    (c : Course code text l start row s₀ s x) (stops : going_of x.state ≡ false) where
  is_last : second_of code text start row ≡ searching [] c.tried (best_of (found_of x.state) (own s l) none) x.count
  is_last =
      let e = rows_in_length code (rows_said code) 0 in
      is_run (decode code) b.ready.rows (text_of text) start row (omega (arith, b.low)) b.within
      (subst (Leads (moves_of code text) (beginning (decode code) start row)) (rw stops) c.got) tt

  -- found: the registers of the thread that won
  pub last_found : {s₁ : List ℕ} → ((i : ℕ) → choice_at l l.marks ≤ i → get_or s₀ i 0 ≡ get_or s₁ i 0) → found_of x.state ≡ true
      → Ran code text l start row s₁ s x
  last_found old f = record {
    result = ap result_of is_last;
    unset = λ z. absurd (true≢false (sym f ∙ z));
    count = ap count_of is_last;
    tail = λ i h. c.tail i h ∙ old i h;
  }

  -- none: the registers are all -1 then
  pub last_none : {s₁ t : List ℕ} → ((i : ℕ) → choice_at l l.marks ≤ i → get_or s₀ i 0 ≡ get_or s₁ i 0) → found_of x.state ≡ false
      → length t ≡ length s → Spread l.marks l.width nowhere s t
      → Ran code text l start row s₁ t x
  last_none {t = t} old f e p =
      let fits = choice_order l 0 l.marks (omega arith) in
      record {
        result = ap result_of is_last ∙ rw f;
        unset = λ z. words_all (omega (arith, c.stands.laid.room)) p;
        count = ap count_of is_last;
        tail = λ i h. p.only.after i (omega arith) ∙ c.tail i h ∙ old i h;
      }
