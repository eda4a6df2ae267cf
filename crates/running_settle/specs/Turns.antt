-- A thread's turn is one step of the machine.
use Rattle.std.specs.Prelude.{◌≡◌, refl, Bool, true, false, List, ◌∷◌, ◌++◌, ℕ, suc, ◌+◌, ◌<◌, ◌≤◌, length, get_or, set}
use Rattle.std.proofs.Common.{sym, ap, ap₂, ◌∙◌, append_assoc, suc-mul, arith, eq-eqb, ne_eqb, length-set, get_or-set_same, get_or-set_other}
use Rattle.std.proofs.Math.Option.{Option}
use Rattle.std.proofs.Math.Decide.{ℕ_discrete}
use Rattle.meaning.specs.Text.{Regs, registers_of}
use Rattle.machine.specs.Rows.{Key}
use Rattle.machine.specs.Steps.{Thread, Machine.machine, step, among}
use Rattle.machine.specs.Words.{rows_said, groups_said, row_in}
use Rattle.running_moves.specs.Keys.{key_of, row_of}
use Rattle.running_moves.specs.Chosen.{byte_of, chosen, Ranged}
use Rattle.running_moves.specs.Ready.{Ready, ranged_in}
use Rattle.running_moves.specs.declared.Move.{Move as Doing}
use Rattle.running_threads.specs.Words.{Below}
use Rattle.running_threads.specs.Threads.{thread_of}
use Rattle.running_threads.specs.Held.{Planned}
use Rattle.running_threads.specs.Laws.{words_below, undo_same, below_same, laid_len}
use Rattle.running_threads.specs.Queues.{waiting_same}
use Rattle.running_threads.specs.Active.{stays_refl}
use Rattle.running_threads.specs.declared.Plan.{Plan}
use Rattle.running_threads.specs.declared.Spot.{Spot}
use Rattle.running_settle.specs.Moved.{pushes, eaten, wins, dropped, best_of, own, stack_of, queue_of, mark_of, unmarked}
use Rattle.running_settle.specs.Moved.{Serves, Ample, Applied, Sees, moves_of, Turning, Executed}
use Rattle.running_settle.specs.Means.{made, seen_step, steps_as}
use Rattle.running_settle.specs.Marks.{fresh_same, fresh_mark, seen_mark, seen_same}
use Rattle.running_settle.specs.declared.Turn.{Turn}

-- A turn in which one row more was executed.
abbrev pub counted : Turn → Turn
counted turn =
    record { at = turn.at; frames = turn.frames; queued = turn.queued; ran = turn.ran + 1; accept = turn.accept }

-- The move of the row of a key at a position.
abbrev pub doing : List ℕ → Spot → ℕ → Doing
doing code spot key = chosen (byte_of spot.before) (byte_of spot.after) key (row_in code (row_of key))

pub machine_eq : {p : ℕ} {A A' Q Q' : List Thread} {ks : List Key} {b b' : Option Regs} {c c' : ℕ} → A ≡ A' → Q ≡ Q'
    → b ≡ b' → c ≡ c' → machine p A Q ks b c ≡ machine p A' Q' ks b' c'
machine_eq {p} {A} {A'} {Q} {Q'} {ks} ea eq eb ec = λ i. machine p (ea i) (eq i) ks (eb i) (ec i)

best_eq : (w : Bool) (rs rs' : List ℕ) (b : Option Regs) → (w ≡ true → rs ≡ rs') → best_of w rs b ≡ best_of w rs' b
best_eq true rs rs' b e = ap (λ (r : List ℕ). best_of true r b) (e refl)
best_eq false rs rs' b e = refl

module _ {code : List ℕ} {plan : Plan} {spot : Spot} {key : ℕ} {turn : Turn} {s : List ℕ} (ready : Ready code)
    (serves : Serves code plan) (g : Turning plan spot key turn s) where
  abbrev P : Planned plan
  P = g.laid.planned

  row_low : row_of key < rows_said code
  row_low = let p = P in omega (arith, g.low, serves.rows)

  -- a key that was executed at this position is dropped, uncounted
  pub executed_before : get_or s key 0 ≡ mark_of spot → Executed code plan spot key turn s s turn
  executed_before e =
      let q = g.laid in
      record {
        at = refl;
        steps = λ text sees A ks b c seen.
            record {
              keys = ks;
              seen = seen;
              one =
                  seen_step text spot.position key (own s plan turn) (stack_of s plan turn ++ A) (queue_of s plan spot turn)
                  ks b (c + turn.ran) (omega arith) code row_low (seen.tells key g.low ∙ eq-eqb _ _ e)
                  ∙ machine_eq (ap (λ (a : Bool). dropped a (stack_of s plan turn ++ A)) (sym g.going)) refl
                  (ap (λ (a : Bool). best_of a (own s plan turn) b) (sym g.going)) refl;
            };
        stays = stays_refl;
        marks = λ b. b;
        below = g.tags;
        keys = λ b. b;
        deep = omega arith;
        few = omega arith;
        ran = refl;
        more = omega arith;
      }

  -- any other is marked and counts one
  module _ (ne : get_or s key 0 ≡ mark_of spot → ⊥) where
    abbrev marked : List ℕ
    marked = set s key (mark_of spot)

    long : key < length s
    long = let q = g.laid in let p = P in omega (arith, g.low)

    other : (i : ℕ) → plan.keys ≤ i → get_or marked i 0 ≡ get_or s i 0
    other i h = get_or-set_other s key i (mark_of spot) 0 (λ z. omega (arith, g.low))

    one_less : suc (unmarked marked plan spot) ≡ unmarked s plan spot
    one_less = fresh_mark s (mark_of spot) plan.keys key g.low long ne

    words_kept : own marked plan turn ≡ own s plan turn
    words_kept =
        let q = g.laid in
        let p = P in
        words_below s turn.at plan.width key (mark_of spot) (omega (arith, g.low, g.lane.low))

    pub ample : Ample plan spot turn marked
    ample =
        let q = g.laid in
        let p = P in
        let room : turn.frames + plan.width ≤ plan.depth = omega (arith, rw (← one_less, suc-mul) at g.deep) in
        let l = laid_len (length-set s key (mark_of spot)) q in
        record {
          laid = l;
          lane = g.lane;
          room =
              record {
                stack =
                    record {
                      frame = record { planned = p; after = omega (arith, g.lane.low); end = omega (arith, g.lane.high) };
                      most = omega arith;
                      tags = below_same g.tags (λ i lt. other (plan.tags + i) (omega arith));
                    };
                deep = room;
              };
          few = omega (arith, g.few, one_less);
          going = g.going;
        }

    pub move_ranged : {mv : Doing} → mv ≡ doing code spot key → Ranged plan.rows plan.width mv
    move_ranged {mv} e =
        let p = P in
        let r : Ranged (rows_said code) (registers_of (groups_said code)) (doing code spot key)
        = ranged_in ready key (byte_of spot.before) (byte_of spot.after) (omega (arith, g.low, serves.rows)) in
        rw (e, serves.rows, serves.width) r

    stack_kept : stack_of marked plan turn ≡ stack_of s plan turn
    stack_kept =
        let p = P in
        rw words_kept
        (undo_same s marked plan turn.frames (own s plan turn) (λ i lt. other (plan.tags + i) (omega arith))
        (λ i lt. other (plan.olds + i) (omega arith)))

    queue_kept : queue_of marked plan spot turn ≡ queue_of s plan spot turn
    queue_kept =
        let q = g.laid in
        let p = P in
        waiting_same s marked q (omega (arith, g.few)) (length-set s key (mark_of spot)) (λ i lo hi. other i lo)
        (λ i lo hi. other i (omega arith))

    mark_low : Below s 0 plan.keys (mark_of spot + 1) → Below marked 0 plan.keys (mark_of spot + 1)
    mark_low b = record {
      each = λ k lt.
          let e : 0 + k ≡ k = omega arith in
          elim (ℕ_discrete k key) [
            | yes z ↦ rw (e, z, get_or-set_same s key (mark_of spot) 0 long) (omega arith)
            | no z ↦ rw (e, get_or-set_other s key k (mark_of spot) 0 z) (rw e at (b.each k lt))
          ];
    }

    module _ {mv : Doing} {t : List ℕ} {x : Turn} (e : mv ≡ doing code spot key)
        (w : Applied plan spot mv turn marked t x) where
      same_marks : (i : ℕ) → i < plan.keys → get_or t i 0 ≡ get_or marked i 0
      same_marks = w.kept.marks

      left : suc (unmarked t plan spot) ≡ unmarked s plan spot
      left = ap suc (fresh_same marked t (mark_of spot) plan.keys same_marks) ∙ one_less

      steps_one : (text : List ℕ) → Sees text spot → (A : List Thread) (ks : List Key) (b : Option Regs) (c : ℕ)
          → among (key_of key) ks ≡ false
          → step (moves_of code text) (machine spot.position (thread_of key (own s plan turn) ∷ (stack_of s plan turn ++ A))
          (queue_of s plan spot turn) ks b (c + turn.ran))
          ≡ machine spot.position (dropped x.accept (stack_of t plan x ++ A)) (queue_of t plan spot x) (key_of key ∷ ks)
          (best_of x.accept (own t plan x) b) (c + (x.ran + 1))
      steps_one text sees A ks b c h =
          let q = g.laid in
          let rs = own s plan turn in
          let S = stack_of s plan turn in
          let Q = queue_of s plan spot turn in
          let p = spot.position in
          let one = steps_as text code spot key rs (S ++ A) Q ks b (c + turn.ran) (omega arith) row_low sees h in
          let by : made (doing code spot key) rs p (S ++ A) Q (key_of key ∷ ks) b (suc (c + turn.ran)) ≡ made mv rs p (S ++ A) Q
          (key_of key ∷ ks) b (suc (c + turn.ran))
          = ap (λ (z : Doing). made z rs p (S ++ A) Q (key_of key ∷ ks) b (suc (c + turn.ran))) (sym e) in
          let stack : pushes p mv rs ++ (S ++ A) ≡ stack_of t plan x ++ A
          = sym (append_assoc (pushes p mv rs) S A)
          ∙ ap (λ (ts : List Thread). ts ++ A)
          (ap₂ (λ (y : List ℕ) (ts : List Thread). pushes p mv y ++ ts) (sym words_kept) (sym stack_kept) ∙ sym w.stack) in
          let queue : Q ++ eaten mv rs ≡ queue_of t plan spot x
          = ap₂ (λ (ts : List Thread) (y : List ℕ). ts ++ eaten mv y) (sym queue_kept) (sym words_kept) ∙ sym w.queue in
          let best : best_of (wins mv) rs b ≡ best_of x.accept (own t plan x) b
          = ap (λ (z : Bool). best_of z rs b) (sym w.accept)
          ∙ best_eq x.accept rs (own t plan x) b (λ z. sym (w.words z ∙ words_kept)) in
          one ∙ by ∙ machine_eq (ap₂ dropped (sym w.accept) stack) queue best (omega (arith, w.ran))

      pub executed_now : Executed code plan spot key turn s t (counted x)
      executed_now =
          let q = g.laid in
          let p = P in
          record {
            at = w.at;
            steps = λ text sees A ks b c seen.
                record {
                  keys = key_of key ∷ ks;
                  seen = seen_same (seen_mark key long seen) same_marks;
                  one = steps_one text sees A ks b c (seen.tells key g.low ∙ ne_eqb _ _ ne);
                };
            stays =
                record {
                  active = λ i lo hi. w.kept.stays.active i lo hi ∙ other i (omega arith);
                  behind = λ i lo hi. w.kept.stays.behind i lo hi ∙ other i (omega (arith, g.lane.low));
                  tail = λ i lo. w.kept.stays.tail i lo ∙ other i (omega arith);
                };
            marks = λ b. below_same (mark_low b) (λ k lt. same_marks (0 + k) (omega arith));
            below = w.below;
            keys = λ b. w.keys (below_same b (λ i lt. other (spot.queue + i) (omega arith)));
            deep = rw (← left, suc-mul) (omega (arith, w.most));
            few = omega (arith, left, w.more);
            ran = omega (arith, left, w.ran);
            more = omega (arith, w.ran);
          }
