-- The threads that the words of a workspace stand for. Definitions only.
use Rattle.std.specs.Prelude.{◌≡◌, Bool, true, false, cond, List, [], ◌∷◌, map, ℕ, zero, suc, ◌+◌, ◌-◌, ◌<◌, eqb, ltb, get_or, set}
use Rattle.std.proofs.Math.Option.{Option, none, some}
use Rattle.meaning.specs.Limits.{position_limit, word_limit}
use Rattle.machine.specs.Rows.{Key}
use Rattle.machine.specs.Steps.{Thread, thread, among}
use Rattle.running_moves.specs.Keys.{key_of}
use Rattle.running_threads.specs.Words.{words_at}
use Rattle.running_threads.specs.declared.Plan.{Plan}

-- The word that is written for -1, and the register that a word stands for: -1 from 2 ^ 31 on.
abbrev pub nowhere : ℕ
nowhere = word_limit - 1

unfoldable pub reg_of : ℕ → Option ℕ
reg_of v = cond (ltb v position_limit) (some v) none

-- The thread of a key and the words of its registers.
abbrev pub thread_of : ℕ → List ℕ → Thread
thread_of key rs = thread (key_of key) (map reg_of rs)

-- Some registers, from one on, made -1.
unfoldable pub wipe : ℕ → ℕ → List ℕ → List ℕ
wipe zero k rs = rs
wipe (suc n) k rs = wipe n (suc k) (set rs k nowhere)

abbrev pub pick : Bool → List Thread → List Thread → List Thread
pick true a b = a
pick false a b = b

-- The threads on a stack of frames, the top first, where the registers are rs: a tag below `keys` is a thread with the
-- registers as they are then; any other is `keys` and a register that gets its old value back.
unfoldable pub undo : List ℕ → Plan → ℕ → List ℕ → List Thread
undo s plan zero rs = []
undo s plan (suc n) rs =
    pick (ltb (get_or s (plan.tags + n) 0) plan.keys) (thread_of (get_or s (plan.tags + n) 0) rs ∷ undo s plan n rs)
    (undo s plan n (set rs (get_or s (plan.tags + n) 0 - plan.keys) (get_or s (plan.olds + n) 0)))

-- The threads whose keys stand one behind the other, and their registers too, `width` to each.
unfoldable pub held : List ℕ → ℕ → ℕ → ℕ → ℕ → List Thread
held s keys registers width zero = []
held s keys registers width (suc n) =
    thread_of (get_or s keys 0) (words_at s registers width) ∷ held s (suc keys) (registers + width) width n

-- The words that are a position's mark stand for the keys executed at it.
pub record Seen (s : List ℕ) (mark keys : ℕ) (ks : List Key) : Type 0 where
  pub tells : (k : ℕ) → k < keys → among (key_of k) ks ≡ eqb (get_or s k 0) mark
