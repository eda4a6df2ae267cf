-- Refusals in their order, and what a run that was not turned away leaves.
use Rattle.std.specs.Prelude.{◌≡◌, refl, Bool, true, false, List, [], ◌∷◌, ◌++◌, map, ℤ, pos, negsuc}
use Rattle.std.proofs.Math.Path.{sym, ap, ap₂}
use Rattle.std.proofs.Common.{◌∙◌, subst, mul-le-mul, add-one, arith, lt-ltb, le-ltb, to_z, of_z, to_z-of_z, take-suc, drop-cons, get_or-drop}
use Rattle.std.proofs.Math.Option.{none}
use Prim.Native.Nat.{ℕ, zero, suc, ◌+◌, ◌*◌, ◌-◌, ◌<◌, ◌≤◌}
use Rattle.std.specs.Int.Signed.{mag}
use Rattle.std.specs.Int.{w32}
use lib.ListN.{length, get_or, set, take, drop, replicate, length-map}
use Rattle.std.proofs.lemmas.List.{set_at}
use Rattle.meaning.specs.Text.{registers_of}
use Rattle.meaning.specs.Bytes.{text_of}
use Rattle.meaning.specs.Limits.{text_limit, position_limit, workspace_words, least_rows, row_limit, group_limit}
use Rattle.machine.specs.Steps.{Machine, best, count}
use Rattle.machine.specs.Words.{rows_said, groups_said, decode}
use Rattle.machine.proofs.Coded.{rows_in_length}
use Rattle.machine.proofs.Passed.{run_frugal}
use Rattle.machine.specs.Allowed.{allowed}
use Rattle.machine.specs.Replies.{Lent, lent_by, refusal, run_of}
use Rattle.machine.specs.Replies.{answer_of, reply_to, reply, shown, spans, registers_from, registers_after}
use Rattle.running_moves.specs.Ready.{ready}
use Rattle.running_threads.specs.Words.{words_at}
use Rattle.running_threads.specs.Threads.{nowhere, reg_of}
use Rattle.running_threads.specs.Laws.{words_length}
use Rattle.running_settle.specs.Moved.{best_of}
use Rattle.running.specs.Ran.{RanAs}
use Rattle.running.specs.declared.Ran.{Ran}
use Rattle.engine.specs.Answers.{Answer, Found, Missing, Refused, shown_word, Answered}

-- ---- refusals

-- Positions of a text that is not too long fit a register.
pub text_small : text_limit + 2 < position_limit
text_small = omega arith

-- The words that a run needs are few.
pub words_few : (n g : ℕ) → n ≤ row_limit → g ≤ group_limit → workspace_words n g ≤ workspace_words row_limit group_limit
words_few n g a b =
    let rows : 16 * n ≤ 16 * row_limit = omega arith in
    let groups : g + 2 ≤ group_limit + 2 = omega arith in
    mul-le-mul rows groups

-- ---- registers

pub shows_position : (v : ℕ) → v < position_limit → pos v ≡ shown (reg_of v)
unfolding reg_of
shows_position v h = rw (lt-ltb v position_limit h)

pub shows_none : (v : ℕ) → position_limit ≤ v → negsuc 0 ≡ shown (reg_of v)
unfolding reg_of
shows_none v h = rw (le-ltb v position_limit h)

map_snoc : (xs : List ℕ) (x : ℕ) → map shown_word (xs ++ (x ∷ [])) ≡ map shown_word xs ++ (shown_word x ∷ [])
map_snoc [] x = refl
map_snoc (y ∷ xs) x = ap (λ (zs : List ℤ). shown_word y ∷ zs) (map_snoc xs x)

snoc_append : (xs : List ℤ) (x : ℤ) (ys : List ℤ) → (xs ++ (x ∷ [])) ++ ys ≡ xs ++ (x ∷ ys)
snoc_append [] x ys = refl
snoc_append (y ∷ xs) x ys = ap (λ (zs : List ℤ). y ∷ zs) (snoc_append xs x ys)

-- one register more is shown
pub shown_more : (s : List ℕ) (from i : ℕ) (before now : List ℤ) (v : ℤ) → from + i < length s → i < length before
    → now ≡ map shown_word (words_at s from i) ++ drop i before → v ≡ shown_word (get_or s (from + i) 0)
    → set now i v ≡ map shown_word (words_at s from (i + 1)) ++ drop (i + 1) before
shown_more s from i before now v h l e ev =
    let long : length (map shown_word (words_at s from i)) ≡ i = length-map (words_at s from i) shown_word
    ∙ words_length s from i (omega arith) in
    let lf : i < length (drop from s) = simp lib.ListN.length-drop (omega arith) in
    let more : words_at s from (i + 1) ≡ words_at s from i ++ (get_or s (from + i) 0 ∷ [])
    = rw add-one (take-suc (drop from s) i 0 lf)
    ∙ ap (λ (x : ℕ). take i (drop from s) ++ (x ∷ [])) (get_or-drop from s i 0) in
    let rest : drop i before ≡ get_or before i (pos 0) ∷ drop (i + 1) before = rw add-one (drop-cons before i (pos 0) l) in
    ap (λ (xs : List ℤ). set xs i v) (e ∙ ap (λ (xs : List ℤ). map shown_word (words_at s from i) ++ xs) rest)
    ∙ set_at (map shown_word (words_at s from i)) (get_or before i (pos 0)) (drop (i + 1) before) v i long
    ∙ ap (λ (x : ℤ). map shown_word (words_at s from i) ++ (x ∷ drop (i + 1) before)) ev
    ∙ sym (ap (λ (xs : List ℕ). map shown_word xs ++ drop (i + 1) before) more
    ∙ ap (λ (xs : List ℤ). xs ++ drop (i + 1) before) (map_snoc (words_at s from i) (get_or s (from + i) 0))
    ∙ snoc_append (map shown_word (words_at s from i)) (shown_word (get_or s (from + i) 0)) (drop (i + 1) before))

-- the numbers that words show are those of their registers
pub map_both : (rs : List ℕ) → map shown (map reg_of rs) ≡ map shown_word rs
map_both [] = refl
map_both (v ∷ rs) = ap (λ (xs : List ℤ). shown_word v ∷ xs) (map_both rs)

shown_nowhere : shown_word nowhere ≡ negsuc 0
unfolding reg_of
shown_nowhere = refl

map_unset : (w : ℕ) → map shown_word (replicate w nowhere) ≡ replicate w (negsuc 0)
map_unset zero = refl
map_unset (suc w) = ap₂ (λ (x : ℤ) (xs : List ℤ). x ∷ xs) shown_nowhere (map_unset w)

-- the spans of a result are what its words show
pub spans_are : (g : ℕ) (f : Bool) (words : List ℕ) → (f ≡ false → words ≡ replicate (registers_of g) nowhere)
    → map shown_word words ≡ spans g (best_of f words none)
spans_are g true words h = sym (map_both words)
spans_are g false words h = ap (map shown_word) (h refl) ∙ map_unset (registers_of g)

-- ---- the answer

module _ (code text : List ℕ) (start row : ℕ) (before : List ℤ) (workspace : List ℕ) where
  abbrev lent : Lent
  lent = lent_by text start before workspace

  abbrev M : Machine
  M = run_of code text start row

  -- A call that is turned away.
  pub refused_answer : (number : ℕ) → number ≡ refusal code lent → (number ≡ 0 → ⊥)
      → Answered code text start row before workspace (Refused number) before workspace
  unfolding reply registers_after
  refused_answer zero e ne = absurd (ne refl)
  refused_answer (suc number) e ne = record {
    replies = ap (λ k. reply_to k (best M) (count M)) e;
    spans = ap (λ k. registers_from k (groups_said code) (best M) before) e;
    long = refl;
    later = λ i h. refl;
    untouched = λ k z. refl;
    bounded = omega arith;
  }

  -- A call that is not.
  module _ (none-why : refusal code lent ≡ 0) (low : row < least_rows) (after : List ℕ) (long : length after ≡ length workspace)
      (ran : Ran) (w : RanAs code text start row workspace after ran) where
    abbrev words : List ℕ
    words = words_at after ran.best ran.width

    reply_is : (f : Bool) → ran.found ≡ f → answer_of (best_of f words none) ran.count ≡ reply code lent row
    unfolding reply
    reply_is f e = ap₂ answer_of (ap (λ b. best_of b words none) (sym e) ∙ sym w.result) (sym w.count)
        ∙ ap (λ k. reply_to k (best M) (count M)) (sym none-why)

    registers_are : map shown_word words ++ drop ran.width before ≡ registers_after code lent row before
    unfolding registers_after
    registers_are =
        ap₂ (λ xs k. xs ++ drop k before)
        (spans_are (groups_said code) ran.found words (λ z. w.unset z ∙ ap (λ k. replicate k nowhere) w.width)
        ∙ ap (spans (groups_said code)) (sym w.result)) w.width
        ∙ ap (λ k. registers_from k (groups_said code) (best M) before) (sym none-why)

    frugal : ran.count ≤ 2 * rows_said code * (length text - start + 1)
    frugal =
        let a = allowed code lent none-why in
        let r = ready code a.passes in
        let e = rows_in_length code (rows_said code) 0 in
        subst (λ (k : ℕ). ran.count ≤ 2 * k * (length text - start + 1)) e
        (subst (λ (k : ℕ). k ≤ 2 * length (decode code).rows * (length text - start + 1)) w.count
        (run_frugal (decode code) r.rows (text_of text) start row (omega (arith, r.least)) a.inside))

    -- The answer by what was found.
    abbrev answer : Bool → Answer
    answer true = Found ran.count
    answer false = Missing ran.count

    pub ran_answer : (f : Bool) → ran.found ≡ f
        → Answered code text start row before workspace (answer f) (map shown_word words ++ drop ran.width before) after
    ran_answer true e = record {
      replies = reply_is true e;
      spans = registers_are;
      long = long;
      later = w.tail;
      untouched = λ k z. absurd (let y : ◌≡◌ {A = ℕ} 0 1 = cc in omega arith);
      bounded = frugal;
    }
    ran_answer false e = record {
      replies = reply_is false e;
      spans = registers_are;
      long = long;
      later = w.tail;
      untouched = λ k z. absurd (let y : ◌≡◌ {A = ℕ} 0 1 = cc in omega arith);
      bounded = frugal;
    }

-- what holds of registers holds of equal ones
pub with_registers : {code text : List ℕ} {start row : ℕ} {before after after' : List ℤ} {workspace left : List ℕ} {r : Answer}
    → after ≡ after' → Answered code text start row before workspace r after' left
    → Answered code text start row before workspace r after left
with_registers {code} {text} {start} {row} {before} {workspace = workspace} {left = left} {r = r} e a =
    subst (λ (xs : List ℤ). Answered code text start row before workspace r xs left) (sym e) a

-- a signed number is read back from its bits
pub read_back : (z : ℤ) → mag z < position_limit → to_z w32 (of_z w32 z) ≡ z
read_back z m = to_z-of_z {w = w32} (record { sfits = m })
