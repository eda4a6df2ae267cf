-- The turns of a position, one after the other: the machine that the words stand for is reached by steps.
use Rattle.std.specs.Prelude.{◌≡◌, refl, Bool, true, false, Option, Some, None, List, ◌++◌, ℕ, ◌+◌, ◌<◌, ◌≤◌, length, get_or}
use Rattle.std.proofs.Common.{sym, ap, ap₂, ◌∙◌, subst, ⊎_elim, true≢false, arith}
use Rattle.machine.specs.Steps.{Thread}
use Rattle.running_threads.specs.Words.{words_at, Pasted}
use Rattle.running_threads.specs.Held.{Planned, Laid, Runs, rest, Took}
use Rattle.running_threads.specs.Laws.{words_eq, below_same, laid_len}
use Rattle.running_threads.specs.Queues.{waiting_same}
use Rattle.running_threads.specs.Active.{rest_stays}
use Rattle.running_threads.specs.declared.Plan.{Plan}
use Rattle.running_threads.specs.declared.Spot.{Spot}
use Rattle.running_threads.specs.declared.Taken.{Taken}
use Rattle.running_settle.specs.Moved.{dropped, best_of, own, stack_of, queue_of, mark_of, unmarked}
use Rattle.running_settle.specs.Moved.{Executed, SettledAs}
use Rattle.running_settle.specs.Means.{leads_step, leads_to_lem}
use Rattle.running_settle.specs.Marks.{fresh_same, seen_same}
use Rattle.running_settle.specs.Turns.{machine_eq}
use Rattle.running_settle.specs.declared.Turn.{Turn}
use Rattle.running_settle.specs.Reached.{Reached, behind, in_hand, handed, to_do}

-- ---- a turn

-- A turn is over, at a position where it began with a thread in hand.
pub record Over (code : List ℕ) (plan : Plan) (spot : Spot) (s₀ s : List ℕ) (key index : ℕ) (turn : Turn) (t : List ℕ)
    (x : Turn) : Type 0 where
  pub laid : Laid plan spot (length s₀)
  pub reached : Reached code plan spot s₀ s index turn (in_hand s plan spot key index turn)
  pub long : length t ≡ length s
  pub executed : Executed code plan spot key turn s t x

module _ {code : List ℕ} {plan : Plan} {spot : Spot} {s₀ s t : List ℕ} {key index : ℕ} {turn x : Turn}
    (o : Over code plan spot s₀ s key index turn t x) where
  abbrev P : Planned plan
  P = o.laid.planned

  abbrev runs_on : Runs plan spot x.at index
  runs_on = subst (λ (a : ℕ). Runs plan spot a index) (sym o.executed.at) o.reached.runs

  few_queued : x.queued ≤ plan.keys
  few_queued = omega (arith, o.executed.few, o.reached.few)

  pub few_ran : x.ran ≤ plan.keys
  few_ran = omega (arith, o.executed.ran, o.reached.ran)

  -- that does not win
  pub turned : x.accept ≡ false → Reached code plan spot s₀ t index x (behind t plan spot index x)
  turned stops =
      let g = o.reached in
      let w = o.executed in
      let q = o.laid in
      let p = P in
      record {
        long = o.long ∙ g.long;
        runs = runs_on;
        tags = w.below;
        deep = omega (arith, w.deep, g.deep);
        few = omega (arith, w.few, g.few);
        ran = w.ran ∙ g.ran;
        going = stops;
        active = below_same g.active (λ k lt. w.stays.active (spot.active + k) (omega arith) (omega arith));
        queue = w.keys g.queue;
        marks = w.marks g.marks;
        tail = λ j h. w.stays.tail j h ∙ g.tail j h;
        got = λ text sees b c.
            let z = g.got text sees b c in
            let st = w.steps text sees (rest s plan spot index) z.0 b c z.1 in
            let R = sym (rest_stays s (laid_len g.long q) g.runs o.long w.stays) in (
              st.keys,
              st.seen,
              leads_to_lem (leads_step z.2 st.one)
                  (machine_eq (ap₂ (λ (a : Bool) (B : List Thread). dropped a (stack_of t plan x ++ B)) stops R) refl
                  (ap (λ (a : Bool). best_of a (own t plan x) b) stops) refl),
            );
      }

  pub copy_fits : (x.at + plan.width ≤ length t) × (plan.best + plan.width ≤ length t) × (x.at + plan.width ≤ plan.best)
  copy_fits =
      let q = o.laid in
      let p = P in
      let u = runs_on in
      let e : length t ≡ length s₀ = o.long ∙ o.reached.long in
      (omega arith, omega arith, omega arith)

  -- that wins
  pub won : {v : List ℕ} → x.accept ≡ true → length v ≡ length t → Pasted x.at plan.best plan.width t v
      → SettledAs code plan spot s₀ v x
  won {v} goes lv p =
      let g = o.reached in
      let w = o.executed in
      let q = o.laid in
      let z = P in
      let fits = copy_fits in
      let Q : queue_of t plan spot x ≡ queue_of v plan spot x =
      sym (waiting_same t v (laid_len (o.long ∙ g.long) q) few_queued lv (λ j lo hi. p.only.before j (omega arith))
      (λ j lo hi. p.only.before j (omega arith))) in
      let B : own t plan x ≡ words_at v plan.best plan.width =
      sym (words_eq t v x.at plan.best plan.width fits.0 (omega (arith, lv, fits.1)) (λ k lt. p.there k lt)) in
      record {
        got = λ text sees b c.
            let z = g.got text sees b c in
            let st = w.steps text sees (rest s plan spot index) z.0 b c z.1 in (
              st.keys,
              leads_to_lem (leads_step z.2 st.one)
                  (machine_eq (ap (λ (a : Bool). dropped a (stack_of t plan x ++ rest s plan spot index)) goes) Q
                  (ap (λ (rs : List ℕ). best_of x.accept rs b) B) refl),
            );
        marks = below_same (w.marks g.marks) (λ k lt. p.only.before (0 + k) (omega arith));
        keys = below_same (w.keys g.queue) (λ j lt. p.only.before (spot.queue + j) (omega (arith, few_queued)));
        most = few_queued;
        ran = few_ran;
        tail = λ j h. p.only.after j h ∙ w.stays.tail j (omega arith) ∙ g.tail j (omega arith);
        best = λ z. absurd (true≢false (sym goes ∙ z));
      }

-- ---- the next thread

-- A turn did not win, and what is active then was taken.
pub record Next (code : List ℕ) (plan : Plan) (spot : Spot) (s₀ t : List ℕ) (index : ℕ) (turn : Turn) (u : List ℕ)
    (y : Option Taken) : Type 0 where
  pub laid : Laid plan spot (length s₀)
  pub reached : Reached code plan spot s₀ t index turn (behind t plan spot index turn)
  pub long : length u ≡ length t
  pub took : Took plan spot turn.at index turn.frames t u y

module _ {code : List ℕ} {plan : Plan} {spot : Spot} {s₀ t u : List ℕ} {index : ℕ} {turn : Turn} {y : Option Taken}
    (n : Next code plan spot s₀ t index turn u y) where
  before : (j : ℕ) → j < spot.registers → get_or u j 0 ≡ get_or t j 0
  before j h = n.took.only.before j (omega (arith, n.reached.runs.low))

  after : (j : ℕ) → plan.best ≤ j → get_or u j 0 ≡ get_or t j 0
  after j h =
      let q = n.laid in
      let v = n.reached.runs in
      n.took.only.after j (omega arith)

  queue_same : queue_of u plan spot turn ≡ queue_of t plan spot turn
  queue_same =
      let q = n.laid in
      let p = q.planned in
      let v = n.reached.runs in
      waiting_same t u (laid_len n.reached.long q) (omega (arith, n.reached.few)) n.long
      (λ j lo hi. before j (omega arith))
      (λ j lo hi. ⊎_elim (λ (z : spot.registers + plan.depth ≤ spot.stored). n.took.only.after j (omega arith))
      (λ (z : spot.stored + plan.depth ≤ spot.registers). before j (omega arith)) q.apart)

  unmarked_same : unmarked u plan spot ≡ unmarked t plan spot
  unmarked_same =
      let q = n.laid in
      let p = q.planned in
      fresh_same t u (mark_of spot) plan.keys (λ j lt. before j (omega arith))

module _ {code : List ℕ} {plan : Plan} {spot : Spot} {s₀ t u : List ℕ} {index : ℕ} {turn : Turn} where
  pub taken : {y : Taken} → Next code plan spot s₀ t index turn u (Some y)
      → Reached code plan spot s₀ u y.index (handed turn y) (in_hand u plan spot y.key y.index (handed turn y))
  taken n =
      let q = n.laid in
      let p = q.planned in
      let g = n.reached in
      let k = n.took.taken in
      let f = unmarked_same n in
      record {
        long = n.long ∙ g.long;
        runs = k.runs;
        tags = record {
          each = λ j lt. subst (λ (z : ℕ). z < plan.keys + plan.width)
              (sym (before n (plan.tags + j) (omega (arith, k.most, g.deep)))) (g.tags.each j (omega (arith, k.most)));
        };
        deep = rw f (omega (arith, g.deep, k.most));
        few = rw f g.few;
        ran = rw f g.ran;
        going = refl;
        active = below_same g.active (λ j lt. before n (spot.active + j) (omega arith));
        queue = below_same g.queue (λ j lt. before n (spot.queue + j) (omega (arith, g.few)));
        marks = below_same g.marks (λ j lt. before n (0 + j) (omega arith));
        tail = λ j h. after n j h ∙ g.tail j h;
        got = λ text sees b c.
            let z = g.got text sees b c in (
              z.0,
              seen_same z.1 (λ j lt. before n j (omega arith)),
              leads_to_lem z.2 (machine_eq k.more (sym (queue_same n)) refl refl),
            );
      }

  pub none_left : Next code plan spot s₀ t index turn u None → SettledAs code plan spot s₀ u turn
  none_left n =
      let q = n.laid in
      let p = q.planned in
      let g = n.reached in
      record {
        got = λ text sees b c.
            let z = g.got text sees b c in (
              z.0,
              leads_to_lem z.2
                  (machine_eq n.took.taken (sym (queue_same n))
                  (ap (λ (a : Bool). best_of a (words_at u plan.best plan.width) b) (sym g.going)) refl),
            );
        marks = below_same g.marks (λ j lt. before n (0 + j) (omega arith));
        keys = below_same g.queue (λ j lt. before n (spot.queue + j) (omega (arith, g.few)));
        most = omega (arith, g.few);
        ran = omega (arith, g.ran);
        tail = λ j h. after n j (omega arith) ∙ g.tail j (omega arith);
        best = λ z j h. after n j h ∙ g.tail j h;
      }

-- A turn and the next thread leave less to do.
pub less_left : {code : List ℕ} {plan : Plan} {spot : Spot} {s₀ s t u : List ℕ} {key index : ℕ} {turn x : Turn} {y : Taken}
    → Over code plan spot s₀ s key index turn t x → Next code plan spot s₀ t index x u (Some y)
    → to_do plan spot u y.index y.frames < to_do plan spot s index turn.frames
less_left o n =
    let w = o.executed in
    rw (unmarked_same n) (omega (arith, w.deep, w.ran, w.more, n.took.taken.less))
