-- What a move leaves of the threads, and what the functions of this crate promise. Definitions only.
use Rattle.std.specs.Prelude.{◌≡◌, Bool, true, false, List, [], ◌∷◌, ◌++◌, map, ℕ, ◌+◌, ◌*◌, ◌-◌, ◌<◌, ◌≤◌, length, get_or, set}
use Rattle.std.proofs.Math.Option.{Option, some}
use Rattle.meaning.specs.Text.{Regs, registers_of, byte_before, byte_after}
use Rattle.meaning.specs.Bytes.{text_of}
use Rattle.machine.specs.Rows.{Key}
use Rattle.machine.specs.Steps.{Move, move_of, Thread, Machine, Machine.machine, step, steps}
use Rattle.machine.specs.Words.{rows_said, groups_said, decode}
use Rattle.running_moves.specs.Chosen.{byte_of}
use Rattle.running_moves.specs.declared.Move.{Move as Doing}
use Rattle.running_moves.specs.declared.Move.TheVariants.{Win, Lose, Eat, On, Both, Write, Wipe}
use Rattle.running_threads.specs.Words.{words_at, Below, fresh}
use Rattle.running_threads.specs.Threads.{reg_of, thread_of, wipe, held, Seen}
use Rattle.running_threads.specs.Held.{Laid, stacked, waiting, Tags, Stack, Apart, Stays, Kept}
use Rattle.running_threads.specs.declared.Plan.{Plan}
use Rattle.running_threads.specs.declared.Spot.{Spot}
use Rattle.running_settle.specs.declared.Turn.{Turn}

-- ---- moves

-- The threads that a move puts first, at position p, of a thread whose registers are rs; the threads that it queues;
-- whether it wins.
abbrev pub pushes : ℕ → Doing → List ℕ → List Thread
pushes p Win rs = []
pushes p Lose rs = []
pushes p (Eat k) rs = []
pushes p (On k) rs = thread_of k rs ∷ []
pushes p (Both k j) rs = thread_of k rs ∷ thread_of j rs ∷ []
pushes p (Write s k) rs = thread_of k (set rs s p) ∷ []
pushes p (Wipe from to k) rs = thread_of k (wipe (to - from) from rs) ∷ []

abbrev pub eaten : Doing → List ℕ → List Thread
eaten Win rs = []
eaten Lose rs = []
eaten (Eat k) rs = thread_of k rs ∷ []
eaten (On k) rs = []
eaten (Both k j) rs = []
eaten (Write s k) rs = []
eaten (Wipe from to k) rs = []

abbrev pub wins : Doing → Bool
wins Win = true
wins Lose = false
wins (Eat k) = false
wins (On k) = false
wins (Both k j) = false
wins (Write s k) = false
wins (Wipe from to k) = false

-- A winner drops the active threads behind it, and is the result.
abbrev pub dropped : Bool → List Thread → List Thread
dropped true ts = []
dropped false ts = ts

abbrev pub best_of : Bool → List ℕ → Option Regs → Option Regs
best_of true rs b = some (map reg_of rs)
best_of false rs b = b

-- ---- a turn, on the words

-- The registers of the thread whose turn it is, the threads on the stack, and those that are queued.
abbrev pub own : List ℕ → Plan → Turn → List ℕ
own s plan turn = words_at s turn.at plan.width

abbrev pub stack_of : List ℕ → Plan → Turn → List Thread
stack_of s plan turn = stacked s plan turn.at turn.frames

abbrev pub queue_of : List ℕ → Plan → Spot → Turn → List Thread
queue_of s plan spot turn = waiting s plan spot turn.queued

-- The word that marks a key as executed at a position, and how many keys are not marked yet.
abbrev pub mark_of : Spot → ℕ
mark_of spot = spot.position + 1

abbrev pub unmarked : List ℕ → Plan → Spot → ℕ
unmarked s plan spot = fresh s (mark_of spot) plan.keys

-- The registers at `at` are of a thread of this position.
pub record Lane (plan : Plan) (spot : Spot) (at : ℕ) : Type 0 where
  pub low : spot.registers ≤ at
  pub high : at + plan.width ≤ spot.registers + plan.depth

-- A plan for the rows and registers that code says.
pub record Serves (code : List ℕ) (plan : Plan) : Type 0 where
  pub rows : plan.rows ≡ rows_said code
  pub width : plan.width ≡ registers_of (groups_said code)

-- There is room on the stack for what one move puts there.
pub record Room (plan : Plan) (turn : Turn) (s : List ℕ) : Type 0 where
  pub stack : Stack plan turn.at turn.frames s
  pub deep : turn.frames + plan.width ≤ plan.depth

-- There is room on the stack and in the queue.
pub record Ample (plan : Plan) (spot : Spot) (turn : Turn) (s : List ℕ) : Type 0 where
  pub laid : Laid plan spot (length s)
  pub lane : Lane plan spot turn.at
  pub room : Room plan turn s
  pub few : turn.queued < plan.keys
  pub going : turn.accept ≡ false

-- A turn with as many frames.
abbrev pub framed : Turn → ℕ → Turn
framed turn n =
    record { at = turn.at; frames = n; queued = turn.queued; ran = turn.ran; accept = turn.accept }

-- Threads were put first, as a move says by the registers, and nothing else was done.
pub record Went (plan : Plan) (first : List ℕ → List Thread) (turn : Turn) (s t : List ℕ) (x : Turn) : Type 0 where
  pub same : x ≡ framed turn x.frames
  pub stack : stacked t plan turn.at x.frames ≡ first (own s plan turn) ++ stack_of s plan turn
  pub below : Tags t plan x.frames
  pub apart : Apart plan turn.at s t
  pub most : x.frames ≤ turn.frames + plan.width

-- A move, on the words.
pub record Applied (plan : Plan) (spot : Spot) (mv : Doing) (turn : Turn) (s t : List ℕ) (x : Turn) : Type 0 where
  pub at : x.at ≡ turn.at
  pub stack : stack_of t plan x ≡ pushes spot.position mv (own s plan turn) ++ stack_of s plan turn
  pub queue : queue_of t plan spot x ≡ queue_of s plan spot turn ++ eaten mv (own s plan turn)
  pub accept : x.accept ≡ wins mv
  pub words : x.accept ≡ true → own t plan x ≡ own s plan turn
  pub kept : Kept plan spot turn.at s t
  pub below : Tags t plan x.frames
  pub keys : Below s spot.queue turn.queued plan.keys → Below t spot.queue x.queued plan.keys
  pub most : x.frames ≤ turn.frames + plan.width
  pub more : x.queued ≤ turn.queued + 1
  pub ran : x.ran ≡ turn.ran

-- ---- steps

-- The bytes beside a position of a text.
pub record Sees (text : List ℕ) (spot : Spot) : Type 0 where
  pub before : byte_of spot.before ≡ byte_before text spot.position
  pub after : byte_of spot.after ≡ byte_after text spot.position

-- The moves of code on a text.
abbrev pub moves_of : List ℕ → List ℕ → ℕ → Key → Move
moves_of code text = move_of (text_of text) (decode code).rows

-- Some number of steps leads from one machine to another.
pub record Leads (move : ℕ → Key → Move) (M N : Machine) : Type 0 where
  pub turns : ℕ
  pub there : steps move turns M ≡ N

-- The thread of a key has its turn: each row executed marked a key, and there is room for what the others may leave.
pub record Turning (plan : Plan) (spot : Spot) (key : ℕ) (turn : Turn) (s : List ℕ) : Type 0 where
  pub laid : Laid plan spot (length s)
  pub lane : Lane plan spot turn.at
  pub low : key < plan.keys
  pub tags : Tags s plan turn.frames
  pub deep : turn.frames + unmarked s plan spot * plan.width ≤ plan.depth
  pub few : turn.queued + unmarked s plan spot ≤ plan.keys
  pub ran : turn.ran + unmarked s plan spot ≡ plan.keys
  pub going : turn.accept ≡ false

-- One step of the machine, on the words: the keys executed are those that the marks say.
pub record Steps (code : List ℕ) (plan : Plan) (spot : Spot) (key : ℕ) (turn : Turn) (s t : List ℕ) (x : Turn)
    (text : List ℕ) (A : List Thread) (ks : List Key) (b : Option Regs) (c : ℕ) : Type 0 where
  pub keys : List Key
  pub seen : Seen t (mark_of spot) plan.keys keys
  pub one : step (moves_of code text) (machine spot.position (thread_of key (own s plan turn) ∷ (stack_of s plan turn ++ A))
      (queue_of s plan spot turn) ks b (c + turn.ran))
      ≡ machine spot.position (dropped x.accept (stack_of t plan x ++ A)) (queue_of t plan spot x) keys
      (best_of x.accept (own t plan x) b) (c + x.ran)

-- A turn.
pub record Executed (code : List ℕ) (plan : Plan) (spot : Spot) (key : ℕ) (turn : Turn) (s t : List ℕ) (x : Turn) : Type 0 where
  pub at : x.at ≡ turn.at
  pub steps : (text : List ℕ) → Sees text spot → (A : List Thread) (ks : List Key) (b : Option Regs) (c : ℕ)
      → Seen s (mark_of spot) plan.keys ks → Steps code plan spot key turn s t x text A ks b c
  pub stays : Stays plan spot turn.at s t
  pub marks : Below s 0 plan.keys (mark_of spot + 1) → Below t 0 plan.keys (mark_of spot + 1)
  pub below : Tags t plan x.frames
  pub keys : Below s spot.queue turn.queued plan.keys → Below t spot.queue x.queued plan.keys
  pub deep : x.frames + unmarked t plan spot * plan.width ≤ turn.frames + unmarked s plan spot * plan.width
  pub few : x.queued + unmarked t plan spot ≤ turn.queued + unmarked s plan spot
  pub ran : x.ran + unmarked t plan spot ≡ turn.ran + unmarked s plan spot
  pub more : turn.ran ≤ x.ran

-- A position at which no row was executed yet, with one thread at least.
pub record Opens (plan : Plan) (spot : Spot) (s : List ℕ) : Type 0 where
  pub some : 0 < spot.threads
  pub marks : Below s 0 plan.keys (mark_of spot)
  pub keys : Below s spot.active spot.threads plan.keys

-- The threads of a position have run, and the queue is left.
pub record SettledAs (code : List ℕ) (plan : Plan) (spot : Spot) (s t : List ℕ) (x : Turn) : Type 0 where
  pub got : (text : List ℕ) → Sees text spot → (b : Option Regs) (c : ℕ)
      → (ks : List Key) × Leads (moves_of code text)
      (machine spot.position (held s spot.active spot.registers plan.width spot.threads) [] [] b c)
      (machine spot.position [] (queue_of t plan spot x) ks
      (best_of x.accept (words_at t plan.best plan.width) b) (c + x.ran))
  pub marks : Below t 0 plan.keys (mark_of spot + 1)
  pub keys : Below t spot.queue x.queued plan.keys
  pub most : x.queued ≤ plan.keys
  pub ran : x.ran ≤ plan.keys
  pub tail : (i : ℕ) → plan.best + plan.width ≤ i → get_or t i 0 ≡ get_or s i 0
  pub best : x.accept ≡ false → (i : ℕ) → plan.best ≤ i → get_or t i 0 ≡ get_or s i 0
