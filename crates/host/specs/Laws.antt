-- How the parts of a call on bytes come together.
use Rattle.std.specs.Prelude.{◌≡◌, refl, Bool, not, List, ℕ, zero, suc, ◌≤◌, ◌<◌, min, ltb, ℤ, length, take, replicate}
use Rattle.std.proofs.Common.{sym, ap₂, ◌∙◌, arith, lt-ltb, le-ltb, length-take-le}
use Rattle.std.proofs.Math.Path.{ap}
use Rattle.std.proofs.Math.Option.{Option}
use Rattle.std.proofs.Math.Decide.{dec_lt}
use Rattle.std.proofs.lemmas.Bool.{not-false}
use Rattle.std.proofs.lemmas.List.{length-replicate}
use Rattle.std.specs.Borrow.{Bor, MutBor}
use Rattle.meaning.specs.Text.{Regs, registers_of}
use Rattle.meaning.specs.Bytes.{Bytes, text_of}
use Rattle.meaning.specs.Limits.{group_limit}
use Rattle.meaning.specs.Refusals as No
use Rattle.meaning.specs.Grounds.{ground, first_of, same_behind}
use Rattle.machine.specs.Words.{rows_said, groups_said, decode, code_passes}
use Rattle.machine.specs.Steps.{Machine, best, count}
use Rattle.machine.specs.Allowed.{allowed}
use Rattle.machine.proofs.Width.{spans_length}
use Rattle.machine.specs.Replies.{Reply.refused, Lent, lend, lent_by, refusal, reply_to, run_of, reply, spans, registers_from}
use Rattle.machine.specs.Replies.{lent_grounds, registers_after}
use Rattle.running_moves.specs.Ready.{ready}
use Rattle.reading_items.specs.Reading.{reading}
use Rattle.millkettle.specs.Calls.Compiling.{answer_by, code_left, Compiles}
use Rattle.millkettle.specs.Calls.{Compilation}
use Rattle.millkettle.specs.Calls.Answers.{reply_of, answer_of, Answered}
use Rattle.millkettle.specs.Calls.{Answer}
use Rattle.millkettle.specs.Calls.Answers.{Found, Missing, Refused}
use Rattle.millkettle.specs.Calls.Replies.{Seconded}
use Rattle.wire.specs.Wire.{words_of, bytes_of_words, ints_of, bytes_of_ints, written}
use Rattle.wire.specs.Words.{words_length}
use Rattle.wire.proofs.Ints.{ints_length}
use Rattle.wire.proofs.Written.{ints_over, ints_same}
use Rattle.meaning.specs.Limits.{table_size, code_size, workspace_size}
use Rattle.host.specs.Surface.{register_count, compiled_numbers, ran_numbers, lent_words, code_lent, all_words, all_ints}
use Rattle.host.specs.Surface.{lent_to, byte_grounds, reply_lent, registers_lent}
use Rattle.host.specs.Surface.{Running, CompilesBytes, RunsInside, RunsBy, RunsBytes, SecondsWords}
use Rattle.host.specs.declared.Compiled.{Compiled}
use Rattle.host.specs.declared.Ran.{Ran}

-- The first n of an array of m.
pub first_of_lem : {A : Type 0} (n m : ℕ) (v : A) → n ≤ m → length (take n (replicate m v)) ≡ n
first_of_lem n m v h = length-take-le n (replicate m v) (rw (length-replicate m v) h)

-- Words are loaded, compiled into and stored.
pub compiles_bytes : (tidying : Bool) (s code : List ℕ) {table table' words words' code' : List ℕ} {n : ℕ} {a : Compilation}
    {r : Compiled} → length table ≡ table_size → words ≡ words_of code n → n ≡ code_lent (length code)
    → Compiles tidying s table table' words words' a → code' ≡ written (bytes_of_words words') code → r ≡ compiled_numbers a
    → CompilesBytes tidying s code r code'
compiles_bytes tidying s code {n = n} t w e made stored r = record {
  answers = r ∙ ap compiled_numbers (made.answers
      ∙ ap₂ (λ x y. answer_by tidying (reading s x) y) t (ap length w ∙ words_length code n ∙ e));
  code_is = stored ∙ ap (λ x. written (bytes_of_words x) code)
      (made.code_is ∙ ap₂ (λ x y. code_left tidying (reading s x) y) t (w ∙ ap (words_of code) e));
}

-- ---- runs

-- The registers that are lent, and those inside: the first of them, as many as any run writes.
abbrev lent : List ℕ → ℕ
lent registers = lent_words (length registers)

abbrev used : List ℕ → ℕ
used registers = min (lent registers) register_count

abbrev inside : List ℕ → List ℤ
inside registers = ints_of registers (used registers)

module _ (registers : List ℕ) (b : Bytes registers) (g : ℕ) (result : Option Regs)
    (w : length (spans g result) ≡ registers_of g) where
  -- What a run writes into the first is what it writes into all.
  first_registers : (number : ℕ) → (number ≡ 0 → registers_of g ≤ used registers)
      → written (bytes_of_ints (registers_from number g result (inside registers))) registers
      ≡ written (bytes_of_ints (registers_from number g result (all_ints registers))) registers
  first_registers (suc number) enough =
      ints_same registers (used registers) b.byte (omega arith)
      ∙ sym (ints_same registers (lent registers) b.byte (omega arith))
  first_registers zero enough =
      let h = enough refl in
      ints_over registers (used registers) b.byte (omega arith) (spans g result) (registers_of g) w h
      ∙ sym (ints_over registers (lent registers) b.byte (omega arith) (spans g result) (registers_of g) w (omega arith))

-- A run on bytes, with words and registers loaded and the registers stored.
module _ (row : ℕ) (code text : List ℕ) (start : ℕ) (registers : List ℕ) (b : Bytes registers) where
  abbrev held : List ℕ
  held = all_words code

  abbrev M : Machine
  M = run_of held text start row

  abbrev number : ℕ
  number = first_of (byte_grounds code (lent_to text start registers))

  -- The call inside: as many registers as any run writes.
  abbrev called : Lent
  called = lend text start (used registers) workspace_size

  -- Too much code is turned away.
  pub turns_away : code_size < lent_words (length code) → {r : Ran} → r ≡ ran_numbers (refused No.code_fails)
      → RunsBytes row code text start registers r registers
  turns_away h r = record {
    replies = rw (lt-ltb _ _ h) r;
    spans = rw (lt-ltb _ _ h) (sym (ints_same registers (lent registers) b.byte (omega arith)));
  }

  -- No code that passes the check needs more registers than there is room for, so those beyond make no difference.
  same_room : (g : ℕ) → g ≤ group_limit → ltb (used registers) (registers_of g) ≡ ltb (lent registers) (registers_of g)
  same_room g few = by (dec_lt (lent registers) (registers_of g))
    where
      m : ℕ
      m = registers_of g

      by : Dec (lent registers < m) → ltb (used registers) m ≡ ltb (lent registers) m
      by (yes l) = lt-ltb (used registers) m (omega arith) ∙ sym (lt-ltb (lent registers) m l)
      by (no l) = le-ltb (used registers) m (omega arith) ∙ sym (le-ltb (lent registers) m (omega arith))

  module _ (fits : lent_words (length code) ≤ code_size) where
    -- The number is that of the call inside,
    inside_number : refusal held called ≡ number
    unfolding refusal
    inside_number =
        rw (le-ltb code_size (lent_words (length code)) fits)
        (same_behind (ground No.code_fails (not (code_passes held))) (lent_grounds (rows_said held) (groups_said held) called)
        (lent_grounds (rows_said held) (groups_said held) (lent_to text start registers))
        (λ p. rw (same_room (groups_said held) (ready held (not-false _ p)).groups)))

    -- and so are the reply and the registers.
    inside_reply : reply held called row ≡ reply_lent row code text start registers
    unfolding reply
    inside_reply = ap (λ n. reply_to n (best M) (count M)) inside_number

    inside_registers : written (bytes_of_ints (registers_after held called row (inside registers))) registers
        ≡ registers_lent row code text start registers
    unfolding registers_after
    inside_registers =
        ap (λ n. written (bytes_of_ints (registers_from n (groups_said held) (best M) (inside registers))) registers) inside_number
        ∙ first_registers registers b (groups_said held) (best M) (spans_length (text_of text) (decode held) start row) number
        (λ e. (allowed held called (inside_number ∙ e)).enough)

    -- The call answers what the run inside answers.
    pub runs_bytes : {words work work' registers' : List ℕ} {ints ints' : List ℤ} {n m : ℕ} {a : Answer} {r : Ran}
        → words ≡ words_of code n → n ≡ lent_words (length code) → ints ≡ ints_of registers m
        → m ≡ used registers → length work ≡ workspace_size → Answered words text start row ints work a ints' work'
        → registers' ≡ written (bytes_of_ints ints') registers → r ≡ ran_numbers (reply_of a)
        → RunsBytes row code text start registers r registers'
    runs_bytes {words} {work} {ints = ints} {m = m} w e i f k a s r =
        let words_are : words ≡ held = w ∙ ap (words_of code) e in
        let lent_is : lent_by text start ints work ≡ called
        = ap₂ (lend text start) (ap length i ∙ ints_length registers m ∙ f) k in
        record {
          replies = r ∙ ap ran_numbers (a.replies ∙ ap₂ (λ x y. reply x y row) words_are lent_is ∙ inside_reply);
          spans = s ∙ ap (λ x. written (bytes_of_ints x) registers) (a.spans
              ∙ ap₂ (λ x y. registers_after x y row ints) words_are lent_is
              ∙ ap (registers_after held called row) (i ∙ ap (ints_of registers) f)) ∙ inside_registers;
        }

-- A call that runs on lent bytes, and answers as a run does, keeps the promise.
pub runs_by : (row : ℕ) (code text : List ℕ) (start : ℕ) (registers : List ℕ)
    {run : Bor (List ℕ) → MutBor (List ℤ) → MutBor (List ℕ) → Running → MutBor (List ℤ) → MutBor (List ℕ) → Type 0}
    {r : Ran} {registers' : List ℕ} → RunsBy run code registers r registers'
    → ((c : RunsInside run code registers r registers')
    → Answered c.words.now text start row c.ints.now c.work.now (answer_of c.answer) c.ints'.now c.work'.now)
    → RunsBytes row code text start registers r registers'
runs_by row code text start registers {r = r} {registers' = registers'} by call =
    cases (dec_lt code_size (lent_words (length code)))
  where
    cases : Dec (code_size < lent_words (length code)) → RunsBytes row code text start registers r registers'
    cases (yes h) = rw (by.turned h).1 (turns_away row code text start registers by.bytes h (by.turned h).0)
    cases (no h) =
        let fits : lent_words (length code) ≤ code_size = omega arith in
        let c = by.answers fits in
        runs_bytes row code text start registers by.bytes fits c.loads refl c.spans refl c.room (call c) c.stores c.numbers

-- A call of the second engine passes the numbers of its answer.
refused_number : (a : Answer) (k : ℕ) → (ran_numbers (reply_of a)).number ≡ suc k → a ≡ Refused (suc k)
refused_number (Found n) k e = absurd (omega arith)
refused_number (Missing n) k e = absurd (omega arith)
refused_number (Refused n) k e = ap Refused e

pub seconds_words : {row : ℕ} {code text : List ℕ} {start : ℕ} {registers registers' : List ℤ} {workspace workspace' : List ℕ}
    {a : Answer} {r : Ran} → Seconded code text start row registers workspace a registers' workspace'
    → r ≡ ran_numbers (reply_of a) → SecondsWords row code text start registers workspace r registers' workspace'
seconds_words {a = a} s e = record {
  replies = e ∙ ap ran_numbers s.replies;
  spans = s.spans;
  long = s.long;
  later = s.later;
  untouched = λ k z. s.untouched (suc k) (refused_number a k (sym (ap (λ (x : Ran). x.number) e) ∙ z));
}
