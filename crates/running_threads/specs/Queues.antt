-- Threads held one behind the other: the queue, and what it leaves as it was.
use Rattle.std.specs.Prelude.{◌≡◌, refl, ◌⊎◌, List, [], ◌∷◌, ◌++◌, ℕ, zero, suc, ◌+◌, ◌*◌, ◌<◌, ◌≤◌, length, get_or, set}
use Rattle.std.proofs.Common.{ap, ap₂, ◌∙◌, inl, inr, ⊎_elim, suc-mul, mul-le-mul_right, add-one, arith, get_or-set_same, get_or-set_other}
use Rattle.machine.specs.Steps.{Thread}
use Rattle.running_threads.specs.Words.{words_at, Clear, Pasted}
use Rattle.running_threads.specs.Threads.{thread_of, held}
use Rattle.running_threads.specs.Held.{Frame, Laid, stacked, waiting, Tags, Kept, Queued}
use Rattle.running_threads.specs.Laws.{below_same, undo_same, words_eq}
use Rattle.running_threads.specs.declared.Plan.{Plan}
use Rattle.running_threads.specs.declared.Spot.{Spot}

-- words that did not change hold the same threads
pub held_same : (s t : List ℕ) (keys registers width n : ℕ) → length t ≡ length s → registers + n * width ≤ length s
    → ((i : ℕ) → keys ≤ i → i < keys + n → get_or t i 0 ≡ get_or s i 0)
    → ((i : ℕ) → registers ≤ i → i < registers + n * width → get_or t i 0 ≡ get_or s i 0)
    → held t keys registers width n ≡ held s keys registers width n
unfolding held
held_same s t keys registers width zero e h a b = refl
held_same s t keys registers width (suc n) e h a b =
    let z : suc n * width ≡ n * width + width = suc-mul n width in
    let ih : held t (suc keys) (registers + width) width n ≡ held s (suc keys) (registers + width) width n =
    held_same s t (suc keys) (registers + width) width n e (omega arith) (λ i lo hi. a i (omega arith) (omega arith))
    (λ i lo hi. b i (omega arith) (omega arith)) in
    let first : words_at t registers width ≡ words_at s registers width =
    words_eq s t registers registers width (omega arith) (omega arith)
    (λ j lt. b (registers + j) (omega arith) (omega arith)) in
    rw (ih, first, a keys (omega arith) (omega arith))

-- the last of them
held_last : (s : List ℕ) (keys registers width n : ℕ)
    → held s keys registers width (suc n) ≡ held s keys registers width n ++
    (thread_of (get_or s (keys + n) 0) (words_at s (registers + n * width) width) ∷ [])
unfolding held
held_last s keys registers width zero =
    let a : keys + 0 ≡ keys = omega arith in
    let b : registers + 0 * width ≡ registers = omega arith in
    rw (a, b)
held_last s keys registers width (suc n) =
    let z : suc n * width ≡ n * width + width = suc-mul n width in
    let a : suc keys + n ≡ keys + suc n = omega arith in
    let b : registers + width + n * width ≡ registers + suc n * width = omega arith in
    ap (λ (ts : List Thread). thread_of (get_or s keys 0) (words_at s registers width) ∷ ts)
    (held_last s (suc keys) (registers + width) width n ∙ ap₂
    (λ (a b : ℕ). held s (suc keys) (registers + width) width n ++ (thread_of (get_or s a 0) (words_at s b width) ∷ [])) a b)

-- a thread's registers lie before the next one's
pub lane : (i n width : ℕ) → i < n → i * width + width ≤ n * width
lane i n width h = omega (arith, suc-mul i width, mul-le-mul_right width h)

-- the queue is the same where its words are
pub waiting_same : {plan : Plan} {spot : Spot} {queued : ℕ} (s t : List ℕ) → Laid plan spot (length s) → queued ≤ plan.keys
    → length t ≡ length s → ((i : ℕ) → plan.keys ≤ i → i < plan.tags → get_or t i 0 ≡ get_or s i 0)
    → ((i : ℕ) → spot.stored ≤ i → i < spot.stored + plan.depth → get_or t i 0 ≡ get_or s i 0)
    → waiting t plan spot queued ≡ waiting s plan spot queued
waiting_same {plan} {spot} {queued} s t q few e keys stored =
    let p = q.planned in
    let fits : queued * plan.width ≤ plan.keys * plan.width = mul-le-mul_right plan.width few in
    held_same s t spot.queue spot.stored plan.width queued e (omega arith)
    (λ i lo hi. keys i (omega arith) (omega arith)) (λ i lo hi. stored i lo (omega arith))

-- ---- one thread more

-- its registers lie in the queue's
pub queue_fits : {plan : Plan} {spot : Spot} {queued len : ℕ} → Laid plan spot len → queued < plan.keys
    → spot.stored + queued * plan.width + plan.width ≤ spot.stored + plan.depth
queue_fits {plan} {spot} {queued} q few =
    let p = q.planned in omega (arith, lane queued plan.keys plan.width few)

pub queue_clear : {plan : Plan} {spot : Spot} {at queued len : ℕ} → Laid plan spot len → queued < plan.keys
    → Clear at plan.width spot.stored plan.depth
    → Clear at plan.width (spot.stored + queued * plan.width) plan.width
queue_clear {plan} {spot} {at} q few clear =
    let fits = queue_fits q few in
    ⊎_elim (λ (u : at + plan.width ≤ spot.stored). inl (omega arith))
    (λ (u : spot.stored + plan.depth ≤ at). inr (omega arith)) clear

module _ {plan : Plan} {spot : Spot} {at queued key : ℕ} {s t : List ℕ} (q : Laid plan spot (length s))
    (f : Frame plan at plan.best) (clear : Clear at plan.width spot.stored plan.depth)
    (few : queued < plan.keys) where
  pub queue_one : length t ≡ length s
      → Pasted at (spot.stored + queued * plan.width) plan.width (set s (spot.queue + queued) key) t
      → Queued plan spot at queued key s t
  queue_one e c =
      let p = q.planned in
      let place : ℕ = spot.queue + queued in
      let fits = lane queued plan.keys plan.width few in
      let other : (i : ℕ) → (i ≡ place → ⊥) → get_or (set s place key) i 0 ≡ get_or s i 0 = λ i ne.
      get_or-set_other s place i key 0 ne in
      let there : get_or t place 0 ≡ key =
      c.only.before place (omega arith) ∙ get_or-set_same s place key 0 (omega arith) in
      let copied : words_at t (spot.stored + queued * plan.width) plan.width ≡ words_at s at plan.width =
      words_eq s t at (spot.stored + queued * plan.width) plan.width (omega arith) (omega arith)
      (λ k lt. c.there k lt ∙ other (at + k) (λ z. omega arith)) in
      let earlier : waiting t plan spot queued ≡ waiting s plan spot queued =
      held_same s t spot.queue spot.stored plan.width queued e (omega arith)
      (λ i lo hi. c.only.before i (omega arith) ∙ other i (λ z. omega arith))
      (λ i lo hi. c.only.before i (omega arith) ∙ other i (λ z. omega arith)) in
      record {
        queue = rw add-one (held_last t spot.queue spot.stored plan.width queued ∙ rw (earlier, there, copied));
        keys = λ i lt ne. c.only.before i (omega arith) ∙ other i ne;
        regs = c.only;
        mine =
            words_eq s t at at plan.width (omega arith) (omega arith)
            (λ k lt. ⊎_elim (λ (u : at + plan.width ≤ spot.stored). c.only.before (at + k) (omega arith))
            (λ (u : spot.stored + plan.depth ≤ at). c.only.after (at + k) (omega arith)) clear
            ∙ other (at + k) (λ z. omega arith));
      }

  -- the queue leaves the stack, and what is kept
  module _ (c : Queued plan spot at queued key s t) where
    pub queue_stack : (frames : ℕ) → frames ≤ plan.depth → stacked t plan at frames ≡ stacked s plan at frames
    queue_stack frames h =
        let p = q.planned in
        rw c.mine
        (undo_same s t plan frames (words_at s at plan.width)
        (λ i lt. c.keys (plan.tags + i) (omega arith) (λ z. omega arith))
        (λ i lt. c.keys (plan.olds + i) (omega arith) (λ z. omega arith)))

    pub queue_tags : (frames : ℕ) → frames ≤ plan.depth → Tags s plan frames → Tags t plan frames
    queue_tags frames h b =
        let p = q.planned in
        below_same b (λ i lt. c.keys (plan.tags + i) (omega arith) (λ z. omega arith))

    elsewhere : (i : ℕ) → plan.olds + plan.depth ≤ i
        → (i < spot.stored + queued * plan.width) ⊎ (spot.stored + queued * plan.width + plan.width ≤ i)
        → get_or t i 0 ≡ get_or s i 0
    elsewhere i h w =
        let p = q.planned in
        ⊎_elim (λ (u : i < spot.stored + queued * plan.width). c.regs.before i u)
        (λ (u : spot.stored + queued * plan.width + plan.width ≤ i). c.regs.after i u) w
        ∙ get_or-set_other s (spot.queue + queued) i key 0 (λ z. omega arith)

    pub queue_kept : spot.registers ≤ at → Kept plan spot at s t
    queue_kept low =
        let p = q.planned in
        let fits = lane queued plan.keys plan.width few in
        record {
          marks = λ i lt. c.keys i (omega arith) (λ z. omega arith);
          stays =
              record {
                active = λ i lo hi. c.keys i (omega arith)
                    (λ z. ⊎_elim (λ (u : spot.active + plan.keys ≤ spot.queue). omega arith)
                    (λ (u : spot.queue + plan.keys ≤ spot.active). omega arith) q.keys_apart);
                behind = λ i lo hi. elsewhere i (omega arith)
                    (⊎_elim (λ (u : spot.registers + plan.depth ≤ spot.stored). inl (omega arith))
                    (λ (u : spot.stored + plan.depth ≤ spot.registers). inr (omega arith)) q.apart);
                tail = λ i lo. elsewhere i (omega arith) (inr (omega arith));
              };
        }
