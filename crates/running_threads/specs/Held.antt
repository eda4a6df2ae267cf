-- Where things lie in a workspace, and what each operation on its words leaves. Definitions only.
use Rattle.std.specs.Prelude.{◌≡◌, Option, MatchOption, List, [], ◌∷◌, ◌++◌, ℕ, ◌+◌, ◌*◌, ◌-◌, ◌<◌, ◌≤◌, length, get_or, set}
use Rattle.meaning.specs.Limits.{position_limit, row_limit}
use Rattle.machine.specs.Steps.{Thread}
use Rattle.running_moves.specs.Keys.{keys_of}
use Rattle.running_threads.specs.Words.{words_at, Below, Only, Clear}
use Rattle.running_threads.specs.Threads.{thread_of, wipe, undo, held}
use Rattle.running_threads.specs.declared.Plan.{Plan}
use Rattle.running_threads.specs.declared.Spot.{Spot}
use Rattle.running_threads.specs.declared.Off.{Off}
use Rattle.running_threads.specs.declared.Taken.{Taken}

-- ---- places

-- The regions, one behind the other: marks, keys of two positions, tags, old values, registers of two positions, the best
-- registers.
pub record Planned (plan : Plan) : Type 0 where
  pub twice : plan.keys ≡ keys_of plan.rows
  pub deep : plan.depth ≡ plan.keys * plan.width
  pub tags : plan.tags ≡ plan.keys * 3
  pub olds : plan.olds ≡ plan.tags + plan.depth
  pub best : plan.best ≡ plan.olds + plan.depth * 3
  pub some : 0 < plan.rows
  pub few : plan.rows ≤ row_limit
  pub two : 2 ≤ plan.width
  pub narrow : plan.width ≤ plan.rows * 10

-- The registers of a thread lie behind the stack.
pub record Frame (plan : Plan) (at len : ℕ) : Type 0 where
  pub planned : Planned plan
  pub after : plan.olds + plan.depth ≤ at
  pub end : at + plan.width ≤ len

-- The threads of a position, and the queue for the next.
pub record Laid (plan : Plan) (spot : Spot) (len : ℕ) : Type 0 where
  pub planned : Planned plan
  pub active_from : plan.keys ≤ spot.active
  pub active_to : spot.active + plan.keys ≤ plan.tags
  pub queue_from : plan.keys ≤ spot.queue
  pub queue_to : spot.queue + plan.keys ≤ plan.tags
  pub keys_apart : Clear spot.active plan.keys spot.queue plan.keys
  pub registers_from_lem : plan.olds + plan.depth ≤ spot.registers
  pub registers_to : spot.registers + plan.depth ≤ plan.best
  pub stored_from : plan.olds + plan.depth ≤ spot.stored
  pub stored_to : spot.stored + plan.depth ≤ plan.best
  pub apart : Clear spot.registers plan.depth spot.stored plan.depth
  pub end : plan.best + plan.width ≤ len
  pub threads : spot.threads ≤ plan.keys
  pub place : spot.position + 1 < position_limit

-- Some threads of a position are taken, and the registers at `at` are of one of them.
pub record Runs (plan : Plan) (spot : Spot) (at index : ℕ) : Type 0 where
  pub low : spot.registers ≤ at
  pub high : at + plan.width ≤ spot.registers + index * plan.width
  pub taken : index ≤ spot.threads
  pub lane : index * plan.width ≤ plan.depth

-- ---- threads

-- The threads on the stack, for registers at `at`.
abbrev pub stacked : List ℕ → Plan → ℕ → ℕ → List Thread
stacked s plan at frames = undo s plan frames (words_at s at plan.width)

-- The threads of this position that are not taken yet, and those that are queued for the next.
abbrev pub rest : List ℕ → Plan → Spot → ℕ → List Thread
rest s plan spot index =
    held s (spot.active + index) (spot.registers + index * plan.width) plan.width (spot.threads - index)

abbrev pub waiting : List ℕ → Plan → Spot → ℕ → List Thread
waiting s plan spot queued = held s spot.queue spot.stored plan.width queued

-- Tags of frames: keys, or registers behind them.
abbrev pub Tags : List ℕ → Plan → ℕ → Type 0
Tags s plan frames = Below s plan.tags frames (plan.keys + plan.width)

-- A stack of frames over the registers at `at`.
pub record Stack (plan : Plan) (at frames : ℕ) (s : List ℕ) : Type 0 where
  pub frame : Frame plan at (length s)
  pub most : frames ≤ plan.depth
  pub tags : Tags s plan frames

-- A register gets back what the frame beside it keeps.
abbrev pub put_back : List ℕ → Plan → ℕ → ℕ → ℕ → List ℕ
put_back s plan at frame register = set s (at + register) (get_or s (plan.olds + frame) 0)

-- ---- what stays

-- t is s but for the stack and the registers at `at`.
pub record Apart (plan : Plan) (at : ℕ) (s t : List ℕ) : Type 0 where
  pub low : (i : ℕ) → i < plan.tags → get_or t i 0 ≡ get_or s i 0
  pub mid : (i : ℕ) → plan.olds + plan.depth ≤ i → i < at → get_or t i 0 ≡ get_or s i 0
  pub high : (i : ℕ) → at + plan.width ≤ i → get_or t i 0 ≡ get_or s i 0

-- t is s at the keys of this position, at the registers of the threads behind `at`, and from the best registers on.
pub record Stays (plan : Plan) (spot : Spot) (at : ℕ) (s t : List ℕ) : Type 0 where
  pub active : (i : ℕ) → spot.active ≤ i → i < spot.active + plan.keys → get_or t i 0 ≡ get_or s i 0
  pub behind : (i : ℕ) → at + plan.width ≤ i → i < spot.registers + plan.depth → get_or t i 0 ≡ get_or s i 0
  pub tail : (i : ℕ) → plan.best ≤ i → get_or t i 0 ≡ get_or s i 0

-- The same, and at the marks.
pub record Kept (plan : Plan) (spot : Spot) (at : ℕ) (s t : List ℕ) : Type 0 where
  pub marks : (i : ℕ) → i < plan.keys → get_or t i 0 ≡ get_or s i 0
  pub stays : Stays plan spot at s t

-- ---- what the operations leave

-- A key is on top of the frames: a thread with the registers as they are.
pub record Pushed (plan : Plan) (at frames key : ℕ) (s t : List ℕ) : Type 0 where
  pub words : words_at t at plan.width ≡ words_at s at plan.width
  pub stack : stacked t plan at (frames + 1) ≡ thread_of key (words_at s at plan.width) ∷ stacked s plan at frames
  pub below : Tags t plan (frames + 1)
  pub apart : Apart plan at s t
  pub long : length t ≡ length s

-- A register has a value, and the threads on the stack stay what they were.
pub record Wrote (plan : Plan) (at frames register value : ℕ) (s t : List ℕ) : Type 0 where
  pub words : words_at t at plan.width ≡ set (words_at s at plan.width) register value
  pub stack : stacked t plan at (frames + 1) ≡ stacked s plan at frames
  pub below : Tags t plan (frames + 1)
  pub apart : Apart plan at s t

-- Some registers, from one on, are -1, and the threads on the stack stay what they were.
pub record Wiped (plan : Plan) (at frames from count : ℕ) (s t : List ℕ) (top : ℕ) : Type 0 where
  pub words : words_at t at plan.width ≡ wipe count from (words_at s at plan.width)
  pub stack : stacked t plan at top ≡ stacked s plan at frames
  pub below : Tags t plan top
  pub apart : Apart plan at s t
  pub most : top ≤ frames + count

-- A thread with the registers at `at` is the last of the queue.
pub record Queued (plan : Plan) (spot : Spot) (at queued key : ℕ) (s t : List ℕ) : Type 0 where
  pub queue : waiting t plan spot (queued + 1) ≡ waiting s plan spot queued ++ (thread_of key
      (words_at s at plan.width) ∷ [])
  pub keys : (i : ℕ) → i < plan.olds + plan.depth → (i ≡ spot.queue + queued → ⊥) → get_or t i 0 ≡ get_or s i 0
  pub regs : Only (spot.stored + queued * plan.width) plan.width (set s (spot.queue + queued) key) t
  pub mine : words_at t at plan.width ≡ words_at s at plan.width

-- A thread came off the stack, and its registers stand at `at`.
pub record CameOff (plan : Plan) (at frames : ℕ) (s t : List ℕ) (x : Off) : Type 0 where
  pub more : stacked s plan at frames ≡ thread_of x.key (words_at t at plan.width) ∷ stacked t plan at x.frames
  pub low : x.key < plan.keys
  pub fewer : x.frames < frames

-- The first thread on the stack is taken off, if there is one.
pub record Popped (plan : Plan) (at frames : ℕ) (s t : List ℕ) (x : Option Off) : Type 0 where
  pub off : MatchOption x (stacked s plan at frames ≡ []) (CameOff plan at frames s t)
  pub only : Only at plan.width s t

-- A thread is taken, from the stack or else from those of this position.
pub record TookOne (plan : Plan) (spot : Spot) (at index frames : ℕ) (s t : List ℕ) (x : Taken) : Type 0 where
  pub more : stacked s plan at frames ++ rest s plan spot index ≡ thread_of x.key (words_at t x.at plan.width) ∷
      (stacked t plan x.at x.frames ++ rest t plan spot x.index)
  pub low : x.key < plan.keys
  pub runs : Runs plan spot x.at x.index
  pub most : x.frames ≤ frames
  pub less : x.frames + (spot.threads - x.index) < frames + (spot.threads - index)

-- The first active thread is taken, if there is one.
pub record Took (plan : Plan) (spot : Spot) (at index frames : ℕ) (s t : List ℕ) (x : Option Taken) : Type 0 where
  pub taken : MatchOption x (stacked s plan at frames ++ rest s plan spot index ≡ []) (TookOne plan spot at index frames s t)
  pub only : Only at plan.width s t
