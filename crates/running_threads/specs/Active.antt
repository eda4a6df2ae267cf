-- What is kept at a position, and its first active thread.
use Rattle.std.specs.Prelude.{◌≡◌, refl, Option, Some, None, length, set}
use Rattle.std.proofs.Common.{sym, ◌∙◌, subst, mul-le-mul_right, length-set, get_or-set_other}
use Rattle.std.proofs.Math.Path.{ap, ap₂}
use mathlib.Core.List.{List, [], ◌∷◌, ◌++◌}
use Prim.Native.Nat.{ℕ, suc, ◌+◌, ◌-◌, ◌*◌, ◌<◌, ◌≤◌}
use Rattle.std.proofs.Math.Nat.{add-mul}
use native.Mathlib.Omega.{arith}
use Rattle.std.proofs.Math.ListN.{get_or}
use Rattle.machine.specs.Steps.{Thread}
use Rattle.running_threads.specs.Words.{words_at, Below, Only}
use Rattle.running_threads.specs.Threads.{thread_of, undo, held}
use Rattle.running_threads.specs.Held.{Planned, Laid, Runs, stacked, rest, Stack, put_back}
use Rattle.running_threads.specs.Held.{Apart, Stays, Kept, Popped, Took}
use Rattle.running_threads.specs.Laws.{laid_len, undo_thread, undo_register, undo_same, words_in, only_refl, only_set}
use Rattle.running_threads.specs.Queues.{held_same, lane}
use Rattle.running_threads.specs.declared.Plan.{Plan}
use Rattle.running_threads.specs.declared.Spot.{Spot}
use Rattle.running_threads.specs.declared.Off.{Off}

-- ---- what is kept

pub stays_refl : {plan : Plan} {spot : Spot} {at : ℕ} {s : List ℕ} → Stays plan spot at s s
stays_refl = record { active = λ i h g. refl; behind = λ i h g. refl; tail = λ i h. refl }

pub apart_kept : {plan : Plan} {spot : Spot} {at len : ℕ} {s t : List ℕ} → Laid plan spot len → at + plan.width ≤ plan.best
    → Apart plan at s t → Kept plan spot at s t
apart_kept q h a =
    let p = q.planned in
    record {
      marks = λ i lt. a.low i (omega arith);
      stays =
          record {
            active = λ i lo hi. a.low i (omega arith);
            behind = λ i lo hi. a.high i lo;
            tail = λ i lo. a.high i (omega arith);
          };
    }

-- ---- the threads of this position that are left

threads_of : (n i width : ℕ) → i ≤ n → (n - i) * width + i * width ≡ n * width
threads_of n i width h = let e : n - i + i ≡ n = omega arith in sym (add-mul (n - i) i width) ∙ ap (λ (k : ℕ). k * width) e

module _ {plan : Plan} {spot : Spot} {at index : ℕ} (s : List ℕ) (q : Laid plan spot (length s))
    (u : Runs plan spot at index) where
  abbrev P : Planned plan
  P = q.planned

  rest_fits : (spot.threads - index) * plan.width + index * plan.width ≤ plan.depth
  rest_fits = let p = P in omega (
    arith,
    threads_of spot.threads index plan.width u.taken,
    mul-le-mul_right plan.width q.threads,
  )

  pub rest_stays : {t : List ℕ} → length t ≡ length s → Stays plan spot at s t → rest t plan spot index ≡ rest s plan spot index
  rest_stays {t} e k =
      let p = P in
      let z = rest_fits in
      held_same s t (spot.active + index) (spot.registers + index * plan.width) plan.width (spot.threads - index) e
      (omega arith) (λ j lo hi. k.active j (omega arith) (omega arith)) (λ j lo hi. k.behind j (omega arith) (omega arith))

  -- where only the registers of a thread changed
  pub only_stays : {t : List ℕ} → Only at plan.width s t → Stays plan spot at s t
  only_stays o =
      let p = P in
      record {
        active = λ i lo hi. o.before i (omega arith);
        behind = λ i lo hi. o.after i lo;
        tail = λ i lo. o.after i (omega arith);
      }

  -- the threads of this position, one by one
  rest_one : index < spot.threads → rest s plan spot index ≡ thread_of (get_or s (spot.active + index) 0)
      (words_at s (spot.registers + index * plan.width) plan.width) ∷ rest s plan spot (index + 1)
  unfolding held
  rest_one h =
      let e : spot.threads - index ≡ suc (spot.threads - (index + 1)) = omega arith in
      let a : suc (spot.active + index) ≡ spot.active + (index + 1) = omega arith in
      let b : spot.registers + index * plan.width + plan.width ≡ spot.registers + (index + 1) * plan.width =
      omega (arith, add-mul index 1 plan.width) in
      rw (e, held) (rw (a, b))

  rest_none : spot.threads ≤ index → rest s plan spot index ≡ []
  unfolding held
  rest_none h = let e : spot.threads - index ≡ 0 = omega arith in rw e

  runs_next : index < spot.threads → Runs plan spot (spot.registers + index * plan.width) (index + 1)
  runs_next h =
      let p = P in
      let n : (index + 1) * plan.width ≡ index * plan.width + 1 * plan.width = add-mul index 1 plan.width in
      let m = lane index plan.keys plan.width (omega arith) in
      record { low = omega arith; high = omega arith; taken = omega arith; lane = omega arith }

-- ---- a frame off the stack

-- How far the stack was undone: what is left of it holds the same threads.
pub record Undone (plan : Plan) (at frames : ℕ) (s : List ℕ) (top : ℕ) (t : List ℕ) : Type 0 where
  pub most : top ≤ frames
  pub long : length t ≡ length s
  pub stack : stacked s plan at frames ≡ stacked t plan at top
  pub only : Only at plan.width s t

-- A tag is read off the top of what is left.
pub record Tagged (plan : Plan) (at frames : ℕ) (s : List ℕ) (top : ℕ) (t : List ℕ) (tag : ℕ) : Type 0 where
  pub stack : Stack plan at frames s
  pub undone : Undone plan at frames s top t
  pub some : 0 < top
  pub there : tag ≡ get_or t (plan.tags + (top - 1)) 0

module _ {plan : Plan} {at frames top tag : ℕ} {s t : List ℕ} (g : Tagged plan at frames s top t tag) where
  one : top - 1 + 1 ≡ top
  one = omega (arith, g.some)

  -- it is a key, or a register behind the keys
  pub tag_low : tag < plan.keys + plan.width
  tag_low =
      let p = g.stack.frame.planned in
      omega (
        arith,
        g.some,
        g.there,
        g.stack.tags.each (top - 1) (omega (arith, g.some, g.undone.most)),
        g.undone.only.before (plan.tags + (top - 1))
            (omega (arith, g.some, g.undone.most, g.stack.most, g.stack.frame.after)),
      )

  pub popped_key : tag < plan.keys → Popped plan at frames s t (Some (record { key = tag; frames = top - 1 }))
  popped_key low =
      let rs = words_at t at plan.width in
      record {
        off = record {
          more = g.undone.stack ∙ ap (λ (n : ℕ). undo t plan n rs) (sym one)
              ∙ undo_thread t plan (top - 1) rs (omega (arith, g.there))
              ∙ ap (λ (key : ℕ). thread_of key rs ∷ undo t plan (top - 1) rs) (sym g.there);
          low = low;
          fewer = omega (arith, g.some, g.undone.most);
        };
        only = g.undone.only;
      }

  -- a turn that puts a register back
  pub undone_more : plan.keys ≤ tag → {v : List ℕ} → v ≡ put_back t plan at (top - 1) (tag - plan.keys)
      → Undone plan at frames s (top - 1) v
  undone_more high {v} e =
      let f = g.stack.frame in
      let p = f.planned in
      let u = g.undone in
      let rs = words_at t at plan.width in
      let register : ℕ = tag - plan.keys in
      let old : ℕ = get_or t (plan.olds + (top - 1)) 0 in
      let back : List ℕ = set t (at + register) old in
      let low : register < plan.width = omega (arith, tag_low) in
      let deep : top ≤ plan.depth = omega (arith, u.most, g.stack.most) in
      subst (Undone plan at frames s (top - 1)) (sym e)
      (record {
        most = omega (arith, u.most);
        long = length-set t (at + register) old ∙ u.long;
        stack = u.stack ∙ ap (λ (n : ℕ). undo t plan n rs) (sym one)
            ∙ undo_register t plan (top - 1) rs (omega (arith, g.there))
            ∙ ap (λ (n : ℕ). undo t plan (top - 1) (set rs (n - plan.keys) old)) (sym g.there)
            ∙ ap (undo t plan (top - 1)) (sym (words_in t at plan.width register old low))
            ∙ sym (undo_same t back plan (top - 1) (words_at back at plan.width)
            (λ i lt. get_or-set_other t (at + register) (plan.tags + i) old 0 (λ z. omega arith))
            (λ i lt. get_or-set_other t (at + register) (plan.olds + i) old 0 (λ z. omega arith)));
        only = only_set register old low u.only;
      })

pub undone_none : {plan : Plan} {at frames : ℕ} {s : List ℕ} → Undone plan at frames s frames s
undone_none = record { most = omega arith; long = refl; stack = refl; only = only_refl }

-- no frame, no thread
pub popped_none : {plan : Plan} {at frames top : ℕ} {s t : List ℕ} → Undone plan at frames s top t → top ≡ 0
    → Popped plan at frames s t None
unfolding undo
popped_none {plan} {at} {t = t} u e =
    record { off = u.stack ∙ ap (λ (n : ℕ). undo t plan n (words_at t at plan.width)) e; only = u.only }

-- ---- the first active thread

-- What came off the stack, at a position whose threads are taken up to an index.
pub record Came (plan : Plan) (spot : Spot) (at index frames : ℕ) (s t : List ℕ) (x : Option Off) : Type 0 where
  pub laid : Laid plan spot (length s)
  pub runs : Runs plan spot at index
  pub keys : Below s spot.active spot.threads plan.keys
  pub long : length t ≡ length s
  pub popped : Popped plan at frames s t x

module _ {plan : Plan} {spot : Spot} {at index frames : ℕ} {s t : List ℕ} where
  same_rest : {x : Option Off} → Came plan spot at index frames s t x → rest t plan spot index ≡ rest s plan spot index
  same_rest g = rest_stays s g.laid g.runs g.long (only_stays s g.laid g.runs g.popped.only)

  pub took_top : {x : Off} → Came plan spot at index frames s t (Some x) → Took plan spot at index frames s t
      (Some (record { key = x.key; at = at; index = index; frames = x.frames }))
  took_top g =
      let off = g.popped.off in
      record {
        taken = record {
          more = ap₂ (λ (A B : List Thread). A ++ B) off.more (sym (same_rest g));
          low = off.low;
          runs = g.runs;
          most = omega (arith, off.fewer);
          less = omega (arith, off.fewer);
        };
        only = g.popped.only;
      }

  pub took_next : Came plan spot at index frames s t None → index < spot.threads → {key : ℕ}
      → key ≡ get_or t (spot.active + index) 0 → Took plan spot at index frames s t
      (Some (record { key = key; at = spot.registers + index * plan.width; index = index + 1; frames = 0 }))
  unfolding undo
  took_next g h {key} there =
      let z = g.laid.planned in
      let next : ℕ = spot.registers + index * plan.width in
      let same : get_or t (spot.active + index) 0 ≡ get_or s (spot.active + index) 0 =
      g.popped.only.before (spot.active + index) (omega arith) in
      record {
        taken = record {
          more = ap₂ (λ (A B : List Thread). A ++ B) g.popped.off (sym (same_rest g))
              ∙ rest_one t (laid_len g.long g.laid) g.runs h
              ∙ ap (λ (k : ℕ). thread_of k (words_at t next plan.width) ∷ rest t plan spot (index + 1)) (sym there);
          low = omega (arith, there, same, g.keys.each index h);
          runs = runs_next s g.laid g.runs h;
          most = omega arith;
          less = omega arith;
        };
        only = g.popped.only;
      }

  pub took_none : Came plan spot at index frames s t None → spot.threads ≤ index → Took plan spot at index frames s t None
  took_none g h =
      record {
        taken = ap₂ (λ (A B : List Thread). A ++ B) g.popped.off (rest_none s g.laid g.runs h);
        only = g.popped.only;
      }
