-- What the turns of a position have reached: the machine that the words stand for.
use Rattle.std.specs.Prelude.{◌≡◌, false, List, [], ◌∷◌, ◌++◌, length, get_or}
use Rattle.std.proofs.Math.Path.{refl, ap}
use Rattle.std.proofs.Common.{◌∙◌, subst}
use Rattle.std.proofs.Math.Option.{Option}
use Prim.Native.Nat.{ℕ, suc, ◌+◌, ◌*◌, ◌-◌, ◌<◌, ◌≤◌}
use Rattle.std.proofs.Math.Nat.{mul-le-mul_right}
use native.Mathlib.Omega.{arith}
use Rattle.meaning.specs.Text.{Regs}
use Rattle.machine.specs.Rows.{Key}
use Rattle.machine.specs.Steps.{Thread, Machine.machine}
use Rattle.running_threads.specs.Words.{Below}
use Rattle.running_threads.specs.Threads.{thread_of, undo, held, Seen}
use Rattle.running_threads.specs.Held.{Laid, Runs, rest, Tags}
use Rattle.running_threads.specs.Laws.{laid_len}
use Rattle.running_threads.specs.declared.Plan.{Plan}
use Rattle.running_threads.specs.declared.Spot.{Spot}
use Rattle.running_threads.specs.declared.Taken.{Taken}
use Rattle.running_settle.specs.Moved.{own, stack_of, queue_of, mark_of, unmarked, Sees, moves_of}
use Rattle.running_settle.specs.Moved.{Leads, Turning, Opens}
use Rattle.running_settle.specs.Means.{leads_here}
use Rattle.running_settle.specs.Marks.{fresh_all, seen_none}
use Rattle.running_settle.specs.Turns.{machine_eq}
use Rattle.running_settle.specs.declared.Turn.{Turn}

-- The words s stand for a machine with the active threads A, which the machine of the words s₀ at the start of this
-- position leads to.
pub record Reached (code : List ℕ) (plan : Plan) (spot : Spot) (s₀ s : List ℕ) (index : ℕ) (turn : Turn) (A : List Thread)
    : Type 0 where
  pub long : length s ≡ length s₀
  pub runs : Runs plan spot turn.at index
  pub tags : Tags s plan turn.frames
  pub deep : turn.frames + unmarked s plan spot * plan.width ≤ plan.depth
  pub few : turn.queued + unmarked s plan spot ≤ plan.keys
  pub ran : turn.ran + unmarked s plan spot ≡ plan.keys
  pub going : turn.accept ≡ false
  pub active : Below s spot.active spot.threads plan.keys
  pub queue : Below s spot.queue turn.queued plan.keys
  pub marks : Below s 0 plan.keys (mark_of spot + 1)
  pub tail : (j : ℕ) → plan.best ≤ j → get_or s j 0 ≡ get_or s₀ j 0
  pub got : (text : List ℕ) → Sees text spot → (b : Option Regs) (c : ℕ)
      → (ks : List Key) × Seen s (mark_of spot) plan.keys ks × Leads (moves_of code text)
      (machine spot.position (held s₀ spot.active spot.registers plan.width spot.threads) [] [] b c)
      (machine spot.position A (queue_of s plan spot turn) ks b (c + turn.ran))

-- The active threads behind a turn, and with a thread in hand.
abbrev pub behind : List ℕ → Plan → Spot → ℕ → Turn → List Thread
behind s plan spot index turn = stack_of s plan turn ++ rest s plan spot index

abbrev pub in_hand : List ℕ → Plan → Spot → ℕ → ℕ → Turn → List Thread
in_hand s plan spot key index turn = thread_of key (own s plan turn) ∷ behind s plan spot index turn

-- The first turn of a position, and the turn of a thread that was taken.
abbrev pub first_turn : Spot → Turn
first_turn spot = record { at = spot.registers; frames = 0; queued = 0; ran = 0; accept = false }

abbrev pub handed : Turn → Taken → Turn
handed turn y =
    record { at = y.at; frames = y.frames; queued = turn.queued; ran = turn.ran; accept = false }

-- What is left to do at a position: it falls with each turn.
abbrev pub to_do : Plan → Spot → List ℕ → ℕ → ℕ → ℕ
to_do plan spot s index frames =
    unmarked s plan spot * plan.width + unmarked s plan spot + frames + (spot.threads - index)

-- ---- the first turn

module _ (code : List ℕ) {plan : Plan} {spot : Spot} {s : List ℕ} (q : Laid plan spot (length s)) (o : Opens plan spot s) where
  stale : (i : ℕ) → i < plan.keys → get_or s i 0 ≡ mark_of spot → ⊥
  stale i h e =
      let z : 0 + i ≡ i = omega arith in
      let b : get_or s i 0 < mark_of spot = subst (λ (k : ℕ). get_or s k 0 < mark_of spot) z (o.marks.each i h) in
      omega arith

  pub first_key : get_or s spot.active 0 < plan.keys
  first_key = let z : spot.active + 0 ≡ spot.active = omega arith in
      subst (λ (k : ℕ). get_or s k 0 < plan.keys) z (o.keys.each 0 o.some)

  first_held : held s spot.active spot.registers plan.width spot.threads ≡ in_hand s plan spot
      (get_or s spot.active 0) 1 (first_turn spot)
  unfolding held undo
  first_held =
      let e : spot.threads ≡ suc (spot.threads - 1) = omega (arith, o.some) in
      let a : suc spot.active ≡ spot.active + 1 = omega arith in
      let b : spot.registers + plan.width ≡ spot.registers + 1 * plan.width = omega arith in
      ap (held s spot.active spot.registers plan.width) e ∙ rw (a, b)

  pub opened : Reached code plan spot s s 1 (first_turn spot)
      (in_hand s plan spot (get_or s spot.active 0) 1 (first_turn spot))
  unfolding held
  opened =
      let p = q.planned in
      let f : unmarked s plan spot ≡ plan.keys = fresh_all s (mark_of spot) plan.keys stale in
      let w : 1 * plan.width ≤ plan.keys * plan.width = mul-le-mul_right plan.width (omega arith) in
      record {
        long = refl;
        runs = record { low = omega arith; high = omega arith; taken = omega (arith, o.some); lane = omega arith };
        tags = record { each = λ k lt. absurd (omega arith) };
        deep = rw f (omega arith);
        few = omega arith;
        ran = omega arith;
        going = refl;
        active = o.keys;
        queue = record { each = λ k lt. absurd (omega arith) };
        marks = record { each = λ k lt. let b = o.marks.each k lt in omega arith };
        tail = λ j h. refl;
        got = λ text sees b c.
            let z : c ≡ c + 0 = omega arith in
            ([], seen_none stale, leads_here (machine_eq first_held refl refl z));
      }

-- ---- a turn

pub turning : {code : List ℕ} {plan : Plan} {spot : Spot} {s₀ s : List ℕ} {index key : ℕ} {turn : Turn} {A : List Thread}
    → Laid plan spot (length s₀) → Reached code plan spot s₀ s index turn A → key < plan.keys
    → Turning plan spot key turn s
turning q g low =
    let p = q.planned in
    let u = g.runs in
    record {
      laid = laid_len g.long q;
      lane = record { low = u.low; high = omega arith };
      low = low;
      tags = g.tags;
      deep = g.deep;
      few = g.few;
      ran = g.ran;
      going = g.going;
    }
