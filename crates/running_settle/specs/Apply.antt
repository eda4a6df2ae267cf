-- A move, on the words: what each of the seven leaves.
use Rattle.std.specs.Prelude.{◌≡◌, refl, true, false, List, [], ◌∷◌, ◌++◌, ℕ, ◌+◌, ◌-◌, ◌<◌, ◌≤◌, length, get_or, set}
use Rattle.std.proofs.Common.{sym, ap, ◌∙◌, subst, ⊎_elim, inl, inr, true≢false, append-nil, arith, get_or-set_same}
use Rattle.machine.specs.Steps.{Thread}
use Rattle.running_moves.specs.Chosen.{Ranged}
use Rattle.running_moves.specs.declared.Move.{Move as Doing}
use Rattle.running_moves.specs.declared.Move.TheVariants.{Win, Lose, Eat, On, Both, Write, Wipe}
use Rattle.running_threads.specs.Words.{Clear}
use Rattle.running_threads.specs.Threads.{thread_of, wipe}
use Rattle.running_threads.specs.Held.{Frame, stacked, Tags, Apart, Wrote, Wiped, Queued}
use Rattle.running_threads.specs.Laws.{below_same, below_one, apart_refl, apart_trans, stack_on, pushed}
use Rattle.running_threads.specs.Queues.{waiting_same, queue_fits, queue_stack, queue_tags, queue_kept}
use Rattle.running_threads.specs.Active.{stays_refl, apart_kept}
use Rattle.running_threads.specs.declared.Plan.{Plan}
use Rattle.running_threads.specs.declared.Spot.{Spot}
use Rattle.running_settle.specs.Moved.{pushes, eaten, wins, own, stack_of, queue_of, Room, Ample, framed, Went, Applied}
use Rattle.running_settle.specs.declared.Turn.{Turn}

-- ---- moves that only put threads first

module _ {plan : Plan} {turn : Turn} {s : List ℕ} (r : Room plan turn s) where
  -- a key on top of words that changed only on the stack and at the registers
  topped : {n top key : ℕ} {first : List ℕ → List Thread} {rs m t : List ℕ} → length m ≡ length s → Apart plan turn.at s m
      → Tags m plan top → top + 1 ≤ turn.frames + plan.width → own m plan turn ≡ rs → key < plan.keys
      → t ≡ set m (plan.tags + top) key
      → thread_of key rs ∷ stacked m plan turn.at top ≡ first (own s plan turn) ++ stack_of s plan turn
      → n ≡ top + 1 → Went plan first turn s t (framed turn n)
  topped {n} {top} {key} {first} {rs} {m} {t} len a below most words low e stack en =
      let q = pushed (stack_on len r.stack (omega (arith, most, r.deep)) below) (omega (arith, most, r.deep)) low e in
      subst (λ (k : ℕ). Went plan first turn s t (framed turn k)) (sym en)
      (record {
        same = refl;
        stack = q.stack ∙ ap (λ (ws : List ℕ). thread_of key ws ∷ stacked m plan turn.at top) words ∙ stack;
        below = q.below;
        apart = apart_trans a q.apart;
        most = most;
      })

  pub does_on : {key : ℕ} {t : List ℕ} → Ranged plan.rows plan.width (On key)
      → t ≡ set s (plan.tags + turn.frames) key → Went plan (pushes 0 (On key)) turn s t (framed turn (turn.frames + 1))
  does_on low e =
      let z = r.stack.frame.planned in
      topped refl apart_refl r.stack.tags (omega arith) refl (omega arith) e refl refl

  pub does_both : {first second : ℕ} {m t : List ℕ} → Ranged plan.rows plan.width (Both first second)
      → m ≡ set s (plan.tags + turn.frames) second → t ≡ set m (plan.tags + (turn.frames + 1)) first
      → Went plan (pushes 0 (Both first second)) turn s t (framed turn (turn.frames + 2))
  does_both {first} low e e' =
      let z = r.stack.frame.planned in
      let q = pushed r.stack (omega (arith, r.deep)) (omega arith) e in
      topped q.long q.apart q.below (omega arith) q.words (omega arith) e'
      (ap (λ (ts : List Thread). thread_of first (own s plan turn) ∷ ts) q.stack) (omega arith)

  pub does_write : {p register key : ℕ} {m t : List ℕ} → Ranged plan.rows plan.width (Write register key)
      → length m ≡ length s → Wrote plan turn.at turn.frames register p s m
      → t ≡ set m (plan.tags + (turn.frames + 1)) key
      → Went plan (pushes p (Write register key)) turn s t (framed turn (turn.frames + 2))
  does_write {p} {register} {key} low len w e =
      let z = r.stack.frame.planned in
      topped len w.apart w.below (omega arith) w.words (omega arith) e
      (ap (λ (ts : List Thread). thread_of key (set (own s plan turn) register p) ∷ ts) w.stack) (omega arith)

  pub does_wipe : {from to key top : ℕ} {m t : List ℕ} → Ranged plan.rows plan.width (Wipe from to key)
      → length m ≡ length s → Wiped plan turn.at turn.frames from (to - from) s m top
      → t ≡ set m (plan.tags + top) key → Went plan (pushes 0 (Wipe from to key)) turn s t (framed turn (top + 1))
  does_wipe {from} {to} {key} low len w e =
      let z = r.stack.frame.planned in
      topped len w.apart w.below (omega (arith, w.most)) w.words (omega arith) e
      (ap (λ (ts : List Thread). thread_of key (wipe (to - from) from (own s plan turn)) ∷ ts) w.stack) refl

-- ---- all moves

module _ {plan : Plan} {spot : Spot} {turn : Turn} {s : List ℕ} (a : Ample plan spot turn s) where
  pub lane_frame : Frame plan turn.at plan.best
  lane_frame =
      let q = a.laid in
      let p = q.planned in
      record { planned = p; after = omega (arith, a.lane.low); end = omega (arith, a.lane.high) }

  pub lane_clear : Clear turn.at plan.width spot.stored plan.depth
  lane_clear =
      let v = a.lane in
      ⊎_elim (λ (u : spot.registers + plan.depth ≤ spot.stored). inl (omega arith))
      (λ (u : spot.stored + plan.depth ≤ spot.registers). inr (omega arith)) a.laid.apart

  pub does_win : Applied plan spot Win turn s s
      (record { at = turn.at; frames = turn.frames; queued = turn.queued; ran = turn.ran; accept = true })
  does_win =
      record {
        at = refl;
        stack = refl;
        queue = sym (append-nil (queue_of s plan spot turn));
        accept = refl;
        words = λ z. refl;
        kept = record { marks = λ i lt. refl; stays = stays_refl };
        below = a.room.stack.tags;
        keys = λ b. b;
        most = omega arith;
        more = omega arith;
        ran = refl;
      }

  -- a move that only puts threads first
  pub goes : (mv : Doing) {t : List ℕ} {x : Turn} → wins mv ≡ false → eaten mv (own s plan turn) ≡ [] → length t ≡ length s
      → Went plan (pushes spot.position mv) turn s t x → Applied plan spot mv turn s t x
  goes mv {t} {x} stops none len w =
      let q = a.laid in
      let p = q.planned in
      let f = lane_frame in
      let clear = lane_clear in
      subst (Applied plan spot mv turn s t) (sym w.same)
      (record {
        at = refl;
        stack = w.stack;
        queue =
            waiting_same s t q (omega (arith, a.few)) len (λ i lo hi. w.apart.low i hi)
            (λ i lo hi. ⊎_elim (λ (u : turn.at + plan.width ≤ spot.stored). w.apart.high i (omega arith))
            (λ (u : spot.stored + plan.depth ≤ turn.at). w.apart.mid i (omega arith) (omega arith)) clear)
            ∙ sym (append-nil (queue_of s plan spot turn))
            ∙ ap (λ (ts : List Thread). queue_of s plan spot turn ++ ts) (sym none);
        accept = a.going ∙ sym stops;
        words = λ z. absurd (true≢false (sym z ∙ a.going));
        kept = apart_kept q f.end w.apart;
        below = w.below;
        keys = λ b. below_same b (λ i lt. w.apart.low (spot.queue + i) (omega (arith, a.few)));
        most = w.most;
        more = omega arith;
        ran = refl;
      })

  pub does_lose : Applied plan spot Lose turn s s turn
  does_lose =
      goes Lose refl refl refl
      (record { same = refl; stack = refl; below = a.room.stack.tags; apart = apart_refl; most = omega arith })

  pub does_eat : {key : ℕ} {t : List ℕ} → Ranged plan.rows plan.width (Eat key)
      → Queued plan spot turn.at turn.queued key s t
      → Applied plan spot (Eat key) turn s t
      (record { at = turn.at; frames = turn.frames; queued = turn.queued + 1; ran = turn.ran; accept = turn.accept })
  does_eat {key} {t} low c =
      let q = a.laid in
      let p = q.planned in
      let place : ℕ = spot.queue + turn.queued in
      let fits = queue_fits q a.few in
      let there : get_or t place 0 ≡ key =
      c.regs.before place (omega (arith, a.few)) ∙ get_or-set_same s place key 0 (omega (arith, a.few)) in
      let k = a.room.stack in
      record {
        at = refl;
        stack = queue_stack q lane_frame lane_clear a.few c turn.frames k.most;
        queue = c.queue;
        accept = a.going;
        words = λ z. absurd (true≢false (sym z ∙ a.going));
        kept = queue_kept q lane_frame lane_clear a.few c a.lane.low;
        below = queue_tags q lane_frame lane_clear a.few c turn.frames k.most k.tags;
        keys = λ b. below_one b (λ i lt. c.keys (spot.queue + i) (omega (arith, a.few)) (λ z. omega arith))
            (omega (arith, there));
        most = omega arith;
        more = omega arith;
        ran = refl;
      }

-- what holds of a move holds of an equal one
pub as_move : {plan : Plan} {spot : Spot} {mv mv' : Doing} {turn x : Turn} {s t : List ℕ} → mv ≡ mv'
    → Applied plan spot mv' turn s t x → Applied plan spot mv turn s t x
as_move {plan} {spot} {turn = turn} {x = x} {s = s} {t = t} e a =
    subst (λ (z : Doing). Applied plan spot z turn s t x) (sym e) a
