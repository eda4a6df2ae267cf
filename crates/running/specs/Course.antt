-- The course of a run: the machine that the words stand for at each position is reached by steps, and the last one is the run's.
use Rattle.std.specs.Prelude.{◌≡◌, refl, Bool, true, false, ◌||◌, length, get_or, replicate}
use Rattle.std.proofs.Math.Path.{sym, ap}
use Rattle.std.proofs.Common.{ap₂, ◌∙◌, subst, true≢false, mul-le-mul, not-suc-le-zero}
use Rattle.std.proofs.Math.Bool.{or-true, or-false}
use Rattle.std.proofs.Math.Option.{Option, none}
use mathlib.Core.List.{List, [], ◌∷◌, map}
use Prim.Native.Nat.{ℕ, zero, suc, ◌+◌, ◌*◌, ◌-◌, ◌^◌, ◌<◌, ◌≤◌}
use native.Mathlib.Omega.{arith}
use Rattle.meaning.specs.Limits.{row_limit, position_limit}
use Rattle.meaning.specs.Text.{Regs, unset, byte_after}
use Rattle.meaning.specs.Bytes.{text_of}
use Rattle.meaning.specs.All.{All}
use Rattle.machine.specs.Rows.{Program, row_count, Key}
use Rattle.machine.specs.Steps.{Thread, thread, Machine, Machine.machine, step, steps, begun, Done, best}
use Rattle.machine.specs.Steps.{count, enough, first_thread, run}
use Rattle.machine.specs.Words.{rows_said, decode}
use Rattle.machine.proofs.Coded.{rows_in_length}
use Rattle.machine.proofs.Bound.{two_each, Bound, stays}
use Rattle.machine.proofs.Passed.{bound, frugal, run_done}
use Rattle.machine.specs.Replies.{run_of}
use Rattle.running_moves.specs.Keys.{key_of, key_of_lem}
use Rattle.running_moves.specs.Chosen.{byte_of}
use Rattle.running_moves.specs.Ready.{Ready}
use Rattle.running_threads.specs.Words.{words_at}
use Rattle.running_threads.specs.Threads.{nowhere, reg_of, thread_of, held}
use Rattle.running_threads.specs.Held.{Laid}
use Rattle.running_threads.specs.Laws.{words_eq}
use Rattle.running_threads.specs.declared.Plan.{Plan}
use Rattle.running_threads.specs.declared.Spot.{Spot}
use Rattle.running_settle.specs.Moved.{best_of, queue_of, Sees, moves_of, Leads, Opens, SettledAs}
use Rattle.running_settle.specs.Means.{reg_none, add_steps, leads_here, leads_step, leads_to_lem, leads_on}
use Rattle.running_settle.specs.declared.Turn.{Turn}
use Rattle.running.specs.Ran.{PlanOf, first_spot, next_spot, Prepared, RanAs}
use Rattle.running.specs.Positions.{plan_fits, laid_first, opens_first, sees_next, laid_next, opens_next}

-- A run begins on code that passes, from a row and a position of a text.
pub record Begins (code text : List ℕ) (start row : ℕ) (plan : Plan) : Type 0 where
  pub ready : Ready code
  pub low : row < rows_said code
  pub within : start ≤ length text
  pub short : length text + 2 < position_limit
  pub planned : PlanOf code plan

-- ---- what the steps of code that passes keep

module _ {code text : List ℕ} {start row : ℕ} {plan : Plan} (g : Begins code text start row plan) where
  abbrev program : Program
  program = decode code

  abbrev beginning : Machine
  beginning = begun start (first_thread program row ∷ [])

  abbrev n : ℕ
  n = row_count program

  rows_are : n ≡ rows_said code
  rows_are = rows_in_length code (rows_said code) 0

  row_low : row < n
  row_low = omega (arith, rows_are, g.low)

  first_in : All (λ t. t.key.row < n) (first_thread program row ∷ [])
  first_in = (row_low, tt)

  -- the count of any machine on the way
  count_small : {N : Machine} → Leads (moves_of code text) beginning N → count N ≤ 2 * n * (length text - start + 1)
  count_small {N} l =
      subst (λ (M : Machine). count M ≤ 2 * n * (length text - start + 1)) l.there
      (frugal program g.ready.rows (text_of text) start (first_thread program row ∷ []) first_in
      (omega (arith, row_low)) g.within l.turns)

  -- a thread is queued only before the end of the text
  queued_inside : (p : ℕ) (t : Thread) (ts : List Thread) (ks : List Key) (b : Option Regs) (c : ℕ)
      → Leads (moves_of code text) beginning (machine p [] (t ∷ ts) ks b c) → p < length text
  queued_inside p t ts ks b c l =
      (subst (Bound (two_each n) (length text) start (n + n)) l.there
      (bound program g.ready.rows (text_of text) start (first_thread program row ∷ []) first_in (omega (arith, row_low))
      g.within l.turns)).soon.0.1

  held_inside : (p m k r w : ℕ) (s : List ℕ) (ks : List Key) (b : Option Regs) (c : ℕ) → 0 < m
      → Leads (moves_of code text) beginning (machine p [] (held s k r w m) ks b c) → p < length text
  unfolding held
  held_inside p zero k r w s ks b c h l = absurd (not-suc-le-zero h)
  held_inside p (suc m) k r w s ks b c h l =
      queued_inside p (thread_of (get_or s k 0) (words_at s r w)) (held s (suc k) (r + w) w m) ks b c l

  -- the machine that has ended is the run's
  is_run : {N : Machine} → Leads (moves_of code text) beginning N → Done N → run_of code text start row ≡ N
  unfolding run
  is_run {N} l d =
      let move = moves_of code text in
      let e : ℕ = enough (text_of text) n start in
      let R : Machine = steps move e beginning in
      let dR : Done R = run_done program g.ready.rows (text_of text) start row row_low g.within in
      let stay : steps move l.turns R ≡ R = stays move l.turns R dR in
      let stay' : steps move e N ≡ N = stays move e N d in
      let z : e + l.turns ≡ l.turns + e = omega arith in
      sym stay ∙ add_steps move e l.turns beginning ∙ ap (λ (k : ℕ). steps move k beginning) z
      ∙ sym (add_steps move l.turns e beginning) ∙ ap (steps move e) l.there ∙ stay'

-- ---- the course

-- At a position: the machine that the words stand for is reached.
pub record Course (code text : List ℕ) (start row : ℕ) (plan : Plan) (s₀ s : List ℕ) (spot : Spot) (found : Bool)
    (executed : ℕ) : Type 0 where
  pub long : length s ≡ length s₀
  pub laid : Laid plan spot (length s)
  pub opens : Opens plan spot s
  pub sees : Sees text spot
  pub within : spot.position ≤ length text
  pub tail : (j : ℕ) → plan.best + plan.width ≤ j → get_or s j 0 ≡ get_or s₀ j 0
  pub unset : found ≡ false → words_at s plan.best plan.width ≡ replicate plan.width nowhere
  pub got : Leads (moves_of code text) (begun start (first_thread (decode code) row ∷ []))
      (machine spot.position (held s spot.active spot.registers plan.width spot.threads) [] []
      (best_of found (words_at s plan.best plan.width) none) executed)

map_replicate : (w : ℕ) → map reg_of (replicate w nowhere) ≡ replicate w none
map_replicate zero = refl
map_replicate (suc w) = ap₂ (λ (a : Option ℕ) (ρ : Regs). a ∷ ρ) reg_none (map_replicate w)

pub course_first : {code text : List ℕ} {start row : ℕ} {plan : Plan} {before after : ℕ} {s t : List ℕ}
    → Begins code text start row plan → plan.best + plan.width ≤ length t → Prepared plan row s t
    → Sees text (first_spot plan start before after)
    → Course code text start row plan t t (first_spot plan start before after) false 0
unfolding held unset
course_first {code} {start = start} {row = row} {plan = plan} {t = t} g room r sees =
    let p = g.planned.planned in
    let serves = g.planned.serves in
    let first : thread_of (get_or t plan.keys 0) (words_at t (plan.olds + plan.depth) plan.width) ≡ first_thread
    (decode code) row
    = ap₂ thread (ap key_of r.key ∙ key_of_lem row 1 (omega arith))
    (ap (map reg_of) r.registers ∙ map_replicate plan.width ∙ ap (λ (k : ℕ). replicate k none) serves.width) in
    record {
      long = refl;
      laid = laid_first p room (omega (arith, g.within, g.short));
      opens = opens_first p (omega (arith, g.low, serves.rows)) r;
      sees = sees;
      within = g.within;
      tail = λ j hj. refl;
      unset = λ _. r.best;
      got = leads_here (ap (λ (x : Thread). machine start (x ∷ []) [] [] none 0) (sym first));
    }

-- The position is settled.
pub record Settled (code text : List ℕ) (start row : ℕ) (plan : Plan) (s₀ s : List ℕ) (spot : Spot) (found : Bool)
    (executed : ℕ) (t : List ℕ) (x : Turn) : Type 0 where
  pub begins : Begins code text start row plan
  pub course : Course code text start row plan s₀ s spot found executed
  pub long : length t ≡ length s
  pub settled : SettledAs code plan spot s t x

neither : (a b : Bool) → (a || b) ≡ false → (a ≡ false) × (b ≡ false)
neither true b e = absurd (true≢false e)
neither false b e = (refl, e)

module _ {code text : List ℕ} {start row : ℕ} {plan : Plan} {s₀ s t : List ℕ} {spot : Spot} {found : Bool} {executed : ℕ}
    {x : Turn} (d : Settled code text start row plan s₀ s spot found executed t x) where
  abbrev res : List ℕ
  res = words_at t plan.best plan.width

  abbrev either : Bool
  either = found || x.accept

  both_best : (accept : Bool) → x.accept ≡ accept
      → best_of accept res (best_of found (words_at s plan.best plan.width) none) ≡ best_of (found || accept) res none
  both_best true e = ap (λ (z : Bool). best_of z res none) (sym (or-true found))
  both_best false e =
      let q = d.course.laid in
      let same : words_at s plan.best plan.width ≡ res
      = words_eq t s plan.best plan.best plan.width (omega (arith, d.long)) (omega arith)
      (λ k lt. sym (d.settled.best e (plan.best + k) (omega arith))) in
      ap₂ (λ (z : Bool) (y : List ℕ). best_of z y none) (sym (or-false found)) same

  reached : (ks : List Key) × Leads (moves_of code text) (begun start (first_thread (decode code) row ∷ []))
      (machine spot.position [] (queue_of t plan spot x) ks (best_of either res none) (executed + x.ran))
  reached =
      let z = d.settled.got text d.course.sees (best_of found (words_at s plan.best plan.width) none) executed in (
        z.0,
        leads_to_lem (leads_on d.course.got z.1)
            (ap (λ (b : Option Regs). machine spot.position [] (queue_of t plan spot x) z.0 b (executed + x.ran))
            (both_best x.accept refl)),
      )

  still_unset : either ≡ false → res ≡ replicate plan.width nowhere
  still_unset e =
      let q = d.course.laid in
      let no = neither found x.accept e in
      words_eq s t plan.best plan.best plan.width (omega arith) (omega (arith, d.long))
      (λ k lt. d.settled.best no.1 (plan.best + k) (omega arith)) ∙ d.course.unset no.0

  tail_kept : (j : ℕ) → plan.best + plan.width ≤ j → get_or t j 0 ≡ get_or s₀ j 0
  tail_kept j h = d.settled.tail j h ∙ d.course.tail j h

  -- a count of a run fits
  pub count_fits : executed + x.ran < 2 ^ 64
  count_fits =
      let b = d.begins in
      let c = count_small b reached.1 in
      let n : 2 * row_count (decode code) ≤ 2 * row_limit = omega (arith, rows_are b, b.ready.most) in
      let k : length text - start + 1 ≤ position_limit = omega (arith, b.short) in
      omega (arith, c, mul-le-mul n k)

  -- a thread is queued only before the end of the text
  pub position_inside : 0 < x.queued → spot.position < length text
  position_inside more =
      held_inside d.begins spot.position x.queued spot.queue spot.stored plan.width t reached.0
      (best_of either res none) (executed + x.ran) more reached.1

  -- the queue becomes active at the next position
  turn_over : (m k r v : ℕ) (ks : List Key) (b : Option Regs) (c p : ℕ) → 0 < m
      → step (moves_of code text) (machine p [] (held t k r v m) ks b c) ≡ machine (p + 1) (held t k r v m) [] [] b c
  unfolding held
  turn_over zero k r v ks b c p h = absurd (not-suc-le-zero h)
  turn_over (suc m) k r v ks b c p h = let z : suc p ≡ p + 1 = omega arith in
      ap (λ (j : ℕ). machine j (held t k r v (suc m)) [] [] b c) z

  pub course_next : {after : ℕ} → 0 < x.queued → byte_of after ≡ byte_after text (spot.position + 1)
      → Course code text start row plan s₀ t (next_spot spot x.queued after) either (executed + x.ran)
  course_next {after} more byte =
      let inside = position_inside more in
      record {
        long = d.long ∙ d.course.long;
        laid = laid_next d.course.laid d.settled after d.long (omega (arith, inside, d.begins.short));
        opens = opens_next d.course.laid d.settled after more;
        sees = sees_next d.course.sees byte;
        within = omega (arith, inside);
        tail = tail_kept;
        unset = still_unset;
        got =
            leads_step reached.1
            (turn_over x.queued spot.queue spot.stored plan.width reached.0 (best_of either res none)
            (executed + x.ran) spot.position more);
      }

  -- the run has ended
  pub course_last : {s₁ : List ℕ} → Prepared plan row s₁ s₀ → x.queued ≡ 0
      → RanAs code text start row s₁ t
      (record { found = either; count = executed + x.ran; best = plan.best; width = plan.width })
  unfolding held
  course_last r nil =
      let fits = plan_fits d.begins.planned in
      let none-queued : queue_of t plan spot x ≡ [] = rw nil in
      let is : run_of code text start row ≡ machine spot.position [] [] reached.0 (best_of either res none)
      (executed + x.ran)
      = is_run d.begins (leads_to_lem reached.1 (ap (λ (ts : List Thread). machine spot.position [] ts reached.0
      (best_of either res none) (executed + x.ran)) none-queued)) tt in
      record {
        result = ap best is;
        unset = still_unset;
        count = ap count is;
        width = d.begins.planned.serves.width;
        within = fits;
        tail = λ j h. tail_kept j (omega arith) ∙ r.tail j (omega arith);
      }
