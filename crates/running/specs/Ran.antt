-- What a run promises. Definitions only.
use Rattle.std.specs.Prelude.{◌≡◌, false, List, ℕ, ◌+◌, ◌*◌, ◌≤◌, get_or, replicate}
use Rattle.std.proofs.Math.Option.{none}
use Rattle.meaning.specs.Text.{registers_of}
use Rattle.meaning.specs.Limits.{workspace_words}
use Rattle.machine.specs.Steps.{best, count}
use Rattle.machine.specs.Words.{rows_said, groups_said}
use Rattle.machine.specs.Replies.{run_of}
use Rattle.running_moves.specs.Keys.{key_number}
use Rattle.running_threads.specs.Words.{words_at, Below}
use Rattle.running_threads.specs.Threads.{nowhere}
use Rattle.running_threads.specs.Held.{Planned}
use Rattle.running_threads.specs.declared.Plan.{Plan}
use Rattle.running_threads.specs.declared.Spot.{Spot}
use Rattle.running_settle.specs.Moved.{best_of, Serves}
use Rattle.running.specs.declared.Ran.{Ran}

-- A plan of the words for code.
pub record PlanOf (code : List ℕ) (plan : Plan) : Type 0 where
  pub planned : Planned plan
  pub serves : Serves code plan

-- The first position of a run: one thread, in the first of the two places for threads; the second is the queue's.
abbrev pub first_spot : Plan → ℕ → ℕ → ℕ → Spot
first_spot plan start before after = record {
  position = start;
  before = before;
  after = after;
  active = plan.keys;
  registers = plan.olds + plan.depth;
  threads = 1;
  queue = plan.keys * 2;
  stored = plan.olds + plan.depth + plan.depth;
}

-- The next position: the byte after is the byte before, and the threads and the queue change places.
abbrev pub next_spot : Spot → ℕ → ℕ → Spot
next_spot spot threads after = record {
  position = spot.position + 1;
  before = spot.after;
  after = after;
  active = spot.queue;
  registers = spot.stored;
  threads = threads;
  queue = spot.active;
  stored = spot.registers;
}

-- No key is marked, one thread begins at a row with the flag set, and there is no result.
pub record Prepared (plan : Plan) (row : ℕ) (s t : List ℕ) : Type 0 where
  pub marks : Below t 0 plan.keys 1
  pub key : get_or t plan.keys 0 ≡ key_number row 1
  pub registers : words_at t (plan.olds + plan.depth) plan.width ≡ replicate plan.width nowhere
  pub best : words_at t plan.best plan.width ≡ replicate plan.width nowhere
  pub tail : (j : ℕ) → plan.best + plan.width ≤ j → get_or t j 0 ≡ get_or s j 0

-- What the run of the steps answers; words behind those that a run needs stay.
pub record RanAs (code text : List ℕ) (start row : ℕ) (s t : List ℕ) (r : Ran) : Type 0 where
  pub result : best (run_of code text start row) ≡ best_of r.found (words_at t r.best r.width) none
  pub unset : r.found ≡ false → words_at t r.best r.width ≡ replicate r.width nowhere
  pub count : count (run_of code text start row) ≡ r.count
  pub width : r.width ≡ registers_of (groups_said code)
  pub within : r.best + r.width ≤ workspace_words (rows_said code) (groups_said code)
  pub tail : (j : ℕ) → workspace_words (rows_said code) (groups_said code) ≤ j → get_or t j 0 ≡ get_or s j 0
