-- A step on the words is a step of the search.
use Rattle.std.specs.Prelude.{◌≡◌, refl, Bool, true, false, List, ℕ, suc, ◌+◌, ◌<◌, ◌≤◌, get_or, set}
use Rattle.std.proofs.Common.{sym, ap, ap₂, ◌∙◌, subst, arith, eq-eqb, ne_eqb, length-set, get_or-set_other}
use Rattle.std.proofs.Math.Option.{Option, none}
use Rattle.meaning.specs.Text.{Regs, registers_of, byte_before, byte_after}
use Rattle.machine.specs.Steps.{among}
use Rattle.machine.specs.Words.{rows_said, groups_said}
use Rattle.running_moves.specs.Keys.{key_of, row_of}
use Rattle.running_moves.specs.Chosen.{byte_of, Ranged}
use Rattle.running_moves.specs.Ready.{Ready, ranged_in}
use Rattle.running_moves.specs.declared.Move.{Move as Doing}
use Rattle.running_moves.specs.declared.Move.TheVariants.{Lose}
use Rattle.running_threads.specs.Laws.{words_below}
use Rattle.running_settle.specs.Moved.{wins, best_of, moves_of}
use Rattle.running_settle.specs.Marks.{fresh_same, fresh_mark}
use Rattle.second.specs.Plain.{Choice, Memory, remembered, Search.searching, try_one}
use Rattle.second.specs.Held.{going_of, found_of, tried_mark, Laid, Serves, own, choices_in, choices_of, search_of, Marks}
use Rattle.second.specs.Held.{unmarked, goes_to, Ahead, Going, alive, Went, Standing, Attempted}
use Rattle.second.specs.Choices.{choice_order, choices_same, sound_same}
use Rattle.second.specs.Marked.{doing, row_does, ahead, mark_at, mark_low, marks_room, mark_tells, marks_more}
use Rattle.second.specs.Marked.{marks_same}
use Rattle.second.specs.declared.Layout.{Layout}
use Rattle.second.specs.declared.Trial.{Trial}

-- ---- a step

-- What holds of a thread that runs.
pub runs : {l : Layout} {x : Trial} {s : List ℕ} → Standing l x s → going_of x.state ≡ true → Going l x s
runs a going = record {
  laid = a.laid;
  key = a.key;
  position = a.position;
  few = omega (arith, a.few);
  sound = a.sound;
  going = going;
  quiet = a.quiet going;
}

laid_len : {l : Layout} {m n : ℕ} → m ≡ n → Laid l n → Laid l m
laid_len {l} e a = subst (Laid l) (sym e) a

best_eq : (f g : Bool) (rs rs' : List ℕ) → g ≡ f → (g ≡ true → rs' ≡ rs) → best_of f rs none ≡ best_of g rs' none
best_eq true true rs rs' e h = ap (λ (r : List ℕ). best_of true r none) (sym (h refl))
best_eq true false rs rs' e h = absurd (let y : ◌≡◌ {A = ℕ} 0 1 = cc in omega arith)
best_eq false true rs rs' e h = absurd (let y : ◌≡◌ {A = ℕ} 0 1 = cc in omega arith)
best_eq false false rs rs' e h = refl

alive_one : (b : Bool) → alive b ≤ 1
alive_one true = omega arith
alive_one false = omega arith

-- A trial in which one row more was executed.
abbrev pub counted : Trial → Trial
counted x = record {
  state = x.state;
  key = x.key;
  position = x.position;
  stored = x.stored;
  count = x.count + 1;
}

-- The mark of the thread that runs.
abbrev pub its_mark : Layout → Trial → ℕ
its_mark l x = mark_at l x.position x.key

-- A row and flag tried before at its position ends the thread, uncounted.
pub tried_before : (code text : List ℕ) {l : Layout} {x : Trial} {s t : List ℕ} {y : Trial} → Standing l x s → going_of x.state ≡ true
    → get_or s (its_mark l x) 0 ≡ tried_mark → Went l Lose x s t y → Attempted code text l x s t y
tried_before code text {l} {x} {s} {t} {y} a going e w =
    let left : unmarked t l ≡ unmarked s l = fresh_same s t tried_mark l.marks w.marks in
    record {
      stands = λ long. record {
        laid = laid_len long a.laid;
        key = w.key;
        position = w.position;
        sound = w.sound;
        few = omega (arith, w.less refl, a.few);
        spent = omega (arith, w.count, a.spent);
        quiet = w.quiet;
      };
      less = rw (left, going) (omega (arith, w.less refl));
      tail = w.tail;
      one = λ tried m. (
        tried,
        λ long. marks_same a.laid long w.marks m,
        rw (
          going,
          mark_tells a.laid m a.position a.key true (eq-eqb _ _ e),
          a.quiet going,
          w.choices,
          w.found,
          w.count,
        ),
      );
    }

-- Any other is marked, counts one, and does what its row says.
module _ {l : Layout} {x : Trial} {s : List ℕ} (a : Standing l x s) (going : going_of x.state ≡ true)
    (ne : get_or s (its_mark l x) 0 ≡ tried_mark → ⊥) where
  abbrev after_mark : List ℕ
  after_mark = set s (its_mark l x) tried_mark

  low : its_mark l x < l.marks
  low = mark_low a.laid a.position a.key

  one_less : suc (unmarked after_mark l) ≡ unmarked s l
  one_less = fresh_mark s tried_mark l.marks (its_mark l x) low (omega (arith, low, marks_room a.laid)) ne

  other : (i : ℕ) → l.marks ≤ i → get_or after_mark i 0 ≡ get_or s i 0
  other i h = get_or-set_other s (its_mark l x) i tried_mark 0 (λ z. omega (arith, low))

  own_kept : own after_mark l ≡ own s l
  own_kept = words_below s l.marks l.width (its_mark l x) tried_mark low

  choices_kept : choices_in after_mark l x.stored ≡ choices_in s l x.stored
  choices_kept = choices_same s after_mark l x.stored (length-set s (its_mark l x) tried_mark)
      (omega (arith, choice_order l x.stored l.marks (omega (arith, a.few)), a.laid.room))
      (λ i lo hi. other i (omega arith))

  pub still_runs : Going l (counted x) after_mark
  still_runs = record {
    laid = laid_len (length-set s (its_mark l x) tried_mark) a.laid;
    key = a.key;
    position = a.position;
    few = omega (arith, a.few);
    sound = sound_same a.sound (λ i lo hi. other i (omega arith));
    going = going;
    quiet = a.quiet going;
  }

  pub room_left : x.stored < l.marks
  room_left = omega (arith, a.few, one_less)

  module _ {code text : List ℕ} (ready : Ready code) (serves : Serves code text l) where
    row_low : row_of x.key < rows_said code
    row_low = omega (arith, a.key, serves.rows)

    module _ (before after : ℕ) (eb : byte_of before ≡ byte_before text x.position)
        (ea : byte_of after ≡ byte_after text x.position) {mv : Doing} (e : mv ≡ doing code before after x.key) where
      pub move_ranged : Ranged l.rows l.width mv
      move_ranged =
          let r : Ranged (rows_said code) (registers_of (groups_said code)) (doing code before after x.key)
          = ranged_in ready x.key (byte_of before) (byte_of after) (omega (arith, a.key, serves.rows)) in
          rw (e, serves.rows, serves.width) r

      pub move_ahead : Ahead x.position l.length mv
      move_ahead = rw (e, serves.long) (ahead code text x.position before after x.key ea)

      module _ {t : List ℕ} {y : Trial} (w : Went l mv (counted x) after_mark t y) where
        steps_one : (tried : Memory) → Marks s l tried
            → try_one (moves_of code text) (search_of s l x tried)
            ≡ search_of t l y (remembered tried x.position (key_of x.key))
        steps_one tried m =
            let mem : Memory = remembered tried x.position (key_of x.key) in
            let rs : List ℕ = own s l in
            let cs : List Choice = choices_in s l x.stored in
            let new : among (key_of x.key) (tried x.position) ≡ false
            = mark_tells a.laid m a.position a.key false (ne_eqb _ _ ne) in
            let does = row_does code text x.position before after x.key rs cs mem (suc x.count)
            (omega (arith, a.position, a.laid.short)) row_low eb ea in
            let choices : goes_to x.position (doing code before after x.key) rs cs ≡ choices_of t l y
            = sym (w.choices ∙ rw (own_kept, choices_kept, e)) in
            let best : best_of (wins (doing code before after x.key)) rs none ≡ best_of (found_of y.state) (own t l) none
            = best_eq (wins (doing code before after x.key)) (found_of y.state) rs (own t l) (w.found ∙ ap wins e)
            (λ z. w.words z ∙ own_kept) in
            rw (going, a.quiet going, new) does
            ∙ ap₂ (λ (us : List Choice) (b : Option Regs). searching us mem b (suc x.count)) choices best
            ∙ ap (λ (k : ℕ). searching (choices_of t l y) mem (best_of (found_of y.state) (own t l) none) k) (omega (arith, w.count))

        pub tried_now : Attempted code text l x s t y
        tried_now =
            let left : unmarked t l ≡ unmarked after_mark l = fresh_same after_mark t tried_mark l.marks w.marks in
            record {
              stands = λ long. record {
                laid = laid_len long a.laid;
                key = w.key;
                position = w.position;
                sound = w.sound;
                few = omega (arith, w.few, a.few, one_less);
                spent = omega (arith, w.count, a.spent, one_less);
                quiet = w.quiet;
              };
              less = rw (left, going, ← one_less) (omega (arith, w.few, alive_one (going_of y.state)));
              tail = λ i h. w.tail i h ∙ other i (omega (arith, choice_order l 0 l.marks (omega arith)));
              one = λ tried m. (
                remembered tried x.position (key_of x.key),
                λ long. marks_same still_runs.laid (long ∙ sym (length-set s (its_mark l x) tried_mark)) w.marks
                    (marks_more a.laid m a.position a.key),
                steps_one tried m,
              );
            }
