-- What a row does in the code's words is what it does in the search's steps, and marks say what was tried.
use Rattle.std.specs.Prelude.{◌≡◌, refl, Bool, List, [], ◌∷◌, ◌++◌, map, ℕ, suc, ◌+◌, ◌<◌, ◌≤◌, eqb, length, get_or, set}
use Rattle.std.proofs.Common.{ap, ◌∙◌, subst, arith, length-set, get_or-set_other}
use Rattle.std.proofs.Math.Option.{none, some}
use Rattle.std.proofs.Math.Decide.{ℕ_discrete, dec_lt}
use Rattle.sets.specs.Sets.{has}
use Rattle.meaning.specs.Tests.{eq_true, eq_false, by_test}
use Rattle.meaning.specs.Limits.{position_limit}
use Rattle.meaning.specs.Text.{Regs, passes, byte_before, byte_after, fits, fits_within}
use Rattle.meaning.specs.Bytes.{text_of, asserts}
use Rattle.machine.specs.Rows.{Row, Row.accept, Row.consume, Row.jump, Row.fork, Row.opens, Row.closes, Row.reset}
use Rattle.machine.specs.Rows.{Row.begin, Row.end, Row.assertion}
use Rattle.machine.specs.Rows.{Key}
use Rattle.machine.specs.Steps.{Move, Move.win, Move.lose, Move.eat, Move.on, Move.both, Machine, Machine.machine, exec, among}
use Rattle.machine.specs.Words.{rows_said, row_in}
use Rattle.running_moves.specs.Keys.{keys_of, key_of, row_of, flag_of}
use Rattle.running_moves.specs.Chosen.{byte_of, chosen}
use Rattle.running_moves.specs.declared.Move.{Move as Doing}
use Rattle.running_moves.specs.declared.Move.TheVariants.{Win, Lose, Eat, On, Both, Write, Wipe}
use Rattle.running_threads.specs.Words.{words_at}
use Rattle.running_threads.specs.Threads.{reg_of, Seen}
use Rattle.running_threads.specs.Laws.{words_at_lem, words_in, words_length, words_eq}
use Rattle.running_threads.specs.Queues.{lane}
use Rattle.running_threads.specs.declared.Spot.{Spot}
use Rattle.running_settle.specs.Moved.{wins, best_of, moves_of}
use Rattle.running_settle.specs.Means.{made, steps_as}
use Rattle.running_settle.specs.Marks.{seen_mark}
use Rattle.second.specs.Plain.{Choice, Memory, remembered, Search, Search.searching, go_on}
use Rattle.second.specs.Follows.{standing}
use Rattle.second.specs.Held.{tried_mark, marks_at, Laid, choice_of, Marks}
use Rattle.second.specs.Held.{goes_to, Ahead}
use Rattle.second.specs.Choices.{choice_order}
use Rattle.second.specs.declared.Layout.{Layout}

-- ---- what a row does

-- A search from what a move makes of a machine that has no other thread.
abbrev via : Machine → List Choice → Memory → ℕ → Search
via (machine p A Q ks none d) cs tried c = searching (standing p A ++ (standing (suc p) Q ++ cs)) tried none c
via (machine p A Q ks (some ρ) d) cs tried c = searching [] tried (some ρ) c

module _ (p : ℕ) (cs : List Choice) (tried : Memory) (c : ℕ) where
  via_exec : (m : Move) (ρ : Regs) (ks : List Key) (d : ℕ)
      → go_on m p ρ (searching cs tried none c) ≡ via (exec m ρ (machine p [] [] ks none d)) cs tried c
  via_exec win ρ ks d = refl
  via_exec lose ρ ks d = refl
  via_exec (eat k) ρ ks d = refl
  via_exec (on f k) ρ ks d = refl
  via_exec (both k l) ρ ks d = refl

  via_made : (mv : Doing) (rs : List ℕ) (ks : List Key) (d : ℕ)
      → via (made mv rs p [] [] ks none d) cs tried c ≡ searching (goes_to p mv rs cs) tried (best_of (wins mv) rs none) c
  via_made Win rs ks d = refl
  via_made Lose rs ks d = refl
  via_made (Eat k) rs ks d = let e : suc p ≡ p + 1 = omega arith in
      ap (λ (q : ℕ). searching (choice_of q k rs ∷ cs) tried none c) e
  via_made (On k) rs ks d = refl
  via_made (Both k j) rs ks d = refl
  via_made (Write r k) rs ks d = refl
  via_made (Wipe from to k) rs ks d = refl

-- The move of the row of a key between two bytes.
abbrev pub doing : List ℕ → ℕ → ℕ → ℕ → Doing
doing code before after key = chosen (byte_of before) (byte_of after) key (row_in code (row_of key))

-- It does what the row does in the steps.
pub row_does : (code text : List ℕ) (p before after key : ℕ) (rs : List ℕ) (cs : List Choice) (tried : Memory) (c : ℕ)
    → p < position_limit → row_of key < rows_said code → byte_of before ≡ byte_before text p → byte_of after ≡ byte_after text p
    → go_on (moves_of code text p (key_of key)) p (map reg_of rs) (searching cs tried none c)
    ≡ searching (goes_to p (doing code before after key) rs cs) tried (best_of (wins (doing code before after key)) rs none) c
row_does code text p before after key rs cs tried c small low eb ea =
    let spot : Spot = record {
      position = p;
      before = before;
      after = after;
      active = 0;
      registers = 0;
      threads = 0;
      queue = 0;
      stored = 0;
    } in
    via_exec p cs tried c (moves_of code text p (key_of key)) (map reg_of rs) (key_of key ∷ []) 1
    ∙ ap (λ (M : Machine). via M cs tried c)
    (steps_as text code spot key rs [] [] [] none 0 small low (record { before = eb; after = ea }) refl)
    ∙ via_made p cs tried c (doing code before after key) rs (key_of key ∷ []) 1

-- A byte is consumed only before the end of the text.
pub ahead : (code text : List ℕ) (p before after key : ℕ) → byte_of after ≡ byte_after text p
    → Ahead p (length text) (doing code before after key)
unfolding fits
ahead code text p before after key ea =
    rw ea (go (row_in code (row_of key)))
  where
    go : (row : Row) → Ahead p (length text) (chosen (byte_of before) (byte_after text p) key row)
    go accept = tt
    go (consume s) = by_test (Ahead p (length text)) (passes (has s) (byte_after text p)) (λ e. fits_within (text_of text) s p e)
        (λ e. tt)
    go (jump t) = tt
    go (fork t u) = tt
    go (opens k) = tt
    go (closes k) = tt
    go (reset l h) = tt
    go begin = tt
    go (end t) = by_test (Ahead p (length text)) (eqb (flag_of key) 1) (λ e. tt) (λ e. tt)
    go (assertion a) = by_test (Ahead p (length text)) (asserts a (byte_of before) (byte_after text p)) (λ e. tt) (λ e. tt)

-- ---- marks

-- The mark of a key at a position.
abbrev pub mark_at : Layout → ℕ → ℕ → ℕ
mark_at l position key = marks_at l position + key

module _ {l : Layout} {len : ℕ} (q : Laid l len) where
  -- Its position's marks lie among the marks, and those of another position elsewhere.
  pub marks_fit : {j : ℕ} → j ≤ l.length → marks_at l j + keys_of l.rows ≤ l.marks
  marks_fit {j} h = omega (arith, lane j (l.length + 1) (keys_of l.rows) (omega arith), q.marks)

  pub mark_low : {p k : ℕ} → p ≤ l.length → k < keys_of l.rows → mark_at l p k < l.marks
  mark_low h low = omega (arith, marks_fit h)

  pub marks_room : l.marks ≤ len
  marks_room = omega (arith, choice_order l 0 l.marks (omega arith), q.room)

  elsewhere : {p k j i : ℕ} → k < keys_of l.rows → i < keys_of l.rows → (p ≡ j → ⊥) → marks_at l j + i ≡ mark_at l p k → ⊥
  elsewhere {p} {k} {j} {i} low low' ne z = go (dec_lt p j)
    where
      go : Dec (p < j) → ⊥
      go (yes h) = omega (arith, lane p j (keys_of l.rows) h)
      go (no h) = omega (arith, lane j p (keys_of l.rows) (omega arith))

-- A key is marked exactly if it was tried at the position.
pub mark_tells : {l : Layout} {s : List ℕ} {tried : Memory} {p k : ℕ} → Laid l (length s) → Marks s l tried → p ≤ l.length
    → k < keys_of l.rows → (b : Bool) → eqb (get_or s (mark_at l p k) 0) tried_mark ≡ b → among (key_of k) (tried p) ≡ b
mark_tells {l} {s} {tried} {p} {k} q m h low b e =
    (m.tells p h).tells k low
    ∙ ap (λ (v : ℕ). eqb v tried_mark) (words_at_lem s (marks_at l p) (keys_of l.rows) k low) ∙ e

-- One key more is marked, and was tried,
pub marks_more : {l : Layout} {s : List ℕ} {tried : Memory} {p k : ℕ} → Laid l (length s) → Marks s l tried → p ≤ l.length
    → k < keys_of l.rows → Marks (set s (mark_at l p k) tried_mark) l (remembered tried p (key_of k))
marks_more {l} {s} {tried} {p} {k} q m hp low = record { tells = λ j h. go j h (ℕ_discrete p j) }
  where
    go : (j : ℕ) → j ≤ l.length → Dec (p ≡ j)
        → Seen (words_at (set s (mark_at l p k) tried_mark) (marks_at l j) (keys_of l.rows)) tried_mark (keys_of l.rows)
        (remembered tried p (key_of k) j)
    go j h (yes z) =
        let fits = marks_fit q hp in
        let room = marks_room q in
        let long : length (words_at s (marks_at l p) (keys_of l.rows)) ≡ keys_of l.rows
        = words_length s (marks_at l p) (keys_of l.rows) (omega arith) in
        subst (λ (i : ℕ). Seen (words_at (set s (mark_at l p k) tried_mark) (marks_at l i) (keys_of l.rows)) tried_mark
        (keys_of l.rows) (remembered tried p (key_of k) i)) z
        (rw (eq_true p p refl, words_in s (marks_at l p) (keys_of l.rows) k tried_mark low)
        (seen_mark k (omega arith) (m.tells p hp)))
    go j h (no z) =
        let fits = marks_fit q h in
        let room = marks_room q in
        rw (
          eq_false p j z,
          words_eq s (set s (mark_at l p k) tried_mark) (marks_at l j) (marks_at l j) (keys_of l.rows) (omega arith)
              (rw length-set (omega arith))
              (λ i lt. get_or-set_other s (mark_at l p k) (marks_at l j + i) tried_mark 0 (elsewhere q low lt z)),
        ) (m.tells j h)

-- and marks that did not change say the same.
pub marks_same : {l : Layout} {s t : List ℕ} {tried : Memory} → Laid l (length s) → length t ≡ length s
    → ((i : ℕ) → i < l.marks → get_or t i 0 ≡ get_or s i 0) → Marks s l tried → Marks t l tried
marks_same {l} {s} {t} {tried} q e same m = record {
  tells = λ j h.
      let fits = marks_fit q h in
      let room = marks_room q in
      rw (words_eq s t (marks_at l j) (marks_at l j) (keys_of l.rows) (omega arith) (omega arith)
      (λ i lt. same (marks_at l j + i) (omega arith))) (m.tells j h);
}
