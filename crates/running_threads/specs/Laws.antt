-- Words, and the threads that they stand for.
use Rattle.std.specs.Prelude.{◌≡◌, refl, List, ◌∷◌, ℕ, zero, suc, ◌+◌, ◌-◌, ◌<◌, ◌≤◌, length, get_or, set, take, drop, replicate}
use Rattle.std.proofs.Common.{sym, ap, ◌∙◌, subst, ⊎_elim, not-suc-le-zero, add-one, arith, below_more, lt-ltb, le-ltb, length-set, length-drop, get_or-set_same, get_or-set_other, get_or-take, get_or-drop, drop-set-lt, set-set, length-take-le, ext_get_or}
use Rattle.std.proofs.lemmas.List.{length-replicate, get_or-replicate, drop-set-add, set-get_or}
use Rattle.std.proofs.Math.Seq.{take-set-lt}
use Rattle.machine.specs.Steps.{Thread}
use Rattle.running_threads.specs.Words.{words_at, Below, Only, Clear, Pasted, Spread}
use Rattle.running_threads.specs.Threads.{nowhere, thread_of, wipe, undo}
use Rattle.running_threads.specs.Held.{Planned, Frame, Laid, Tags, Stack, Apart, Pushed, Wrote, Wiped}
use Rattle.running_threads.specs.declared.Plan.{Plan}
use Rattle.running_threads.specs.declared.Spot.{Spot}

-- ---- words from one on

pub words_in : (s : List ℕ) (at width k v : ℕ) → k < width → words_at (set s (at + k) v) at width ≡ set (words_at s at width) k v
words_in s at width k v h = ap (take width) (drop-set-add at s k v) ∙ take-set-lt width (drop at s) k v h

pub words_below : (s : List ℕ) (at width i v : ℕ) → i < at → words_at (set s i v) at width ≡ words_at s at width
words_below s at width i v h = ap (take width) (drop-set-lt at s i v h)

pub words_at_lem : (s : List ℕ) (at width k : ℕ) → k < width → get_or (words_at s at width) k 0 ≡ get_or s (at + k) 0
words_at_lem s at width k h = get_or-take width (drop at s) k 0 h ∙ get_or-drop at s k 0

pub words_length : (s : List ℕ) (at width : ℕ) → at + width ≤ length s → length (words_at s at width) ≡ width
words_length s at width h = length-take-le width (drop at s) (simp length-drop (omega arith))

pub words_eq : (s t : List ℕ) (at to width : ℕ) → at + width ≤ length s → to + width ≤ length t
    → ((k : ℕ) → k < width → get_or t (to + k) 0 ≡ get_or s (at + k) 0) → words_at t to width ≡ words_at s at width
words_eq s t at to width h g each =
    let a : length (words_at s at width) ≡ width = words_length s at width h in
    let b : length (words_at t to width) ≡ width = words_length t to width g in
    ext_get_or 0 (words_at t to width) (words_at s at width) (b ∙ sym a)
    (λ i lt. let il : i < width = omega (arith, b) in words_at_lem t to width i il ∙ each i il ∙ sym (words_at_lem s at width i il))

-- words that are all one value
pub words_all : {from count value : ℕ} {s t : List ℕ} → from + count ≤ length t → Spread from count value s t
    → words_at t from count ≡ replicate count value
words_all {from} {count} {value} {s} {t} h p =
    let a : length (words_at t from count) ≡ count = words_length t from count h in
    ext_get_or 0 (words_at t from count) (replicate count value) (a ∙ sym (length-replicate count value))
    (λ i lt. let il : i < count = omega (arith, a) in
    words_at_lem t from count i il ∙ p.each i il ∙ sym (get_or-replicate count i value 0 il))

-- ---- words one after the other

pub only_refl : {from count : ℕ} {s : List ℕ} → Only from count s s
only_refl = record { before = λ i lt. refl; after = λ i lt. refl }

-- no word yet
pub paste_none : {from to : ℕ} {s : List ℕ} → Pasted from to 0 s s
paste_none = record { there = λ k lt. absurd (not-suc-le-zero lt); only = only_refl }

pub spread_none : {from value : ℕ} {s : List ℕ} → Spread from 0 value s s
spread_none = record { each = λ k lt. absurd (not-suc-le-zero lt); only = only_refl }

pub only_set : {from count : ℕ} {s t : List ℕ} (k v : ℕ) → k < count → Only from count s t
    → Only from count s (set t (from + k) v)
only_set {from} {count} {s} {t} k v h o =
    record {
      before = λ i lt. get_or-set_other t (from + k) i v 0 (λ z. omega arith) ∙ o.before i lt;
      after = λ i lt. get_or-set_other t (from + k) i v 0 (λ z. omega arith) ∙ o.after i lt;
    }

-- one word more
module _ (from n v : ℕ) (s t : List ℕ) where
  only_more : Only from n s t → Only from (n + 1) s (set t (from + n) v)
  only_more o = only_set {t = t} n v (omega arith) (record { before = o.before; after = λ i lt. o.after i (omega arith) })

  each_more : (f : ℕ → ℕ) → from + n < length t → v ≡ f n → ((k : ℕ) → k < n → get_or t (from + k) 0 ≡ f k)
      → (k : ℕ) → k < n + 1 → get_or (set t (from + n) v) (from + k) 0 ≡ f k
  each_more f h e each =
      below_more (λ k. get_or (set t (from + n) v) (from + k) 0 ≡ f k) n
      (λ k lt. get_or-set_other t (from + n) (from + k) v 0 (λ z. omega arith) ∙ each k lt)
      (get_or-set_same t (from + n) v 0 h ∙ e)

pub spread_more : {from n value : ℕ} {s t : List ℕ} → from + n < length t → Spread from n value s t
    → Spread from (n + 1) value s (set t (from + n) value)
spread_more {from} {n} {value} {s} {t} h p =
    record { each = each_more from n value s t (λ k. value) h refl p.each; only = only_more from n value s t p.only }

pub paste_more : {from to count n : ℕ} {s t : List ℕ} → n < count → to + count ≤ length t → Clear from count to count
    → Pasted from to n s t → Pasted from to (n + 1) s (set t (to + n) (get_or t (from + n) 0))
paste_more {from} {to} {count} {n} {s} {t} lt h clear p =
    let was : get_or t (from + n) 0 ≡ get_or s (from + n) 0 =
    ⊎_elim (λ (u : from + count ≤ to). p.only.before (from + n) (omega arith))
    (λ (u : to + count ≤ from). p.only.after (from + n) (omega arith)) clear in
    record {
      there = each_more to n (get_or t (from + n) 0) s t (λ k. get_or s (from + k) 0) (omega arith) was p.there;
      only = only_more to n (get_or t (from + n) 0) s t p.only;
    }

-- words below a limit
pub below_same : {from count limit : ℕ} {s t : List ℕ} → Below s from count limit
    → ((k : ℕ) → k < count → get_or t (from + k) 0 ≡ get_or s (from + k) 0) → Below t from count limit
below_same {limit = limit} b same =
    record { each = λ k lt. subst (λ (x : ℕ). x < limit) (sym (same k lt)) (b.each k lt) }

pub below_one : {from count limit : ℕ} {s t : List ℕ} → Below s from count limit
    → ((k : ℕ) → k < count → get_or t (from + k) 0 ≡ get_or s (from + k) 0) → get_or t (from + count) 0 < limit
    → Below t from (count + 1) limit
below_one {from} {count} {limit} {s} {t} b same h =
    record { each = below_more (λ k. get_or t (from + k) 0 < limit) count (below_same {t = t} b same).each h }

-- ---- the stack

-- frames whose words did not change stand for the same threads
pub undo_same : (s t : List ℕ) (plan : Plan) (n : ℕ) (rs : List ℕ)
    → ((k : ℕ) → k < n → get_or t (plan.tags + k) 0 ≡ get_or s (plan.tags + k) 0)
    → ((k : ℕ) → k < n → get_or t (plan.olds + k) 0 ≡ get_or s (plan.olds + k) 0) → undo t plan n rs ≡ undo s plan n rs
unfolding undo
undo_same s t plan zero rs a b = refl
undo_same s t plan (suc n) rs a b =
    let ih : (rs : List ℕ) → undo t plan n rs ≡ undo s plan n rs =
    λ rs. undo_same s t plan n rs (λ k lt. a k (omega arith)) (λ k lt. b k (omega arith)) in
    rw (
      a n (omega arith),
      b n (omega arith),
      ih rs,
      ih (set rs (get_or s (plan.tags + n) 0 - plan.keys) (get_or s (plan.olds + n) 0)),
    )

-- the top frame is a thread
pub undo_thread : (s : List ℕ) (plan : Plan) (n : ℕ) (rs : List ℕ) → get_or s (plan.tags + n) 0 < plan.keys
    → undo s plan (n + 1) rs ≡ thread_of (get_or s (plan.tags + n) 0) rs ∷ undo s plan n rs
unfolding undo
undo_thread s plan n rs h = rw (add-one, undo) (rw (lt-ltb _ _ h))

-- the top frame is a register
pub undo_register : (s : List ℕ) (plan : Plan) (n : ℕ) (rs : List ℕ) → plan.keys ≤ get_or s (plan.tags + n) 0
    → undo s plan (n + 1) rs ≡ undo s plan n (set rs (get_or s (plan.tags + n) 0 - plan.keys) (get_or s (plan.olds + n) 0))
unfolding undo
undo_register s plan n rs h = rw (add-one, undo) (rw (le-ltb _ _ h))

pub apart_refl : {plan : Plan} {at : ℕ} {s : List ℕ} → Apart plan at s s
apart_refl = record { low = λ i h. refl; mid = λ i h g. refl; high = λ i h. refl }

pub apart_trans : {plan : Plan} {at : ℕ} {s t u : List ℕ} → Apart plan at s t → Apart plan at t u → Apart plan at s u
apart_trans a b =
    record {
      low = λ i h. b.low i h ∙ a.low i h;
      mid = λ i h g. b.mid i h g ∙ a.mid i h g;
      high = λ i h. b.high i h ∙ a.high i h;
    }

pub laid_len : {plan : Plan} {spot : Spot} {m n : ℕ} → m ≡ n → Laid plan spot n → Laid plan spot m
laid_len {plan} {spot} e a = subst (λ (k : ℕ). Laid plan spot k) (sym e) a

-- a stack after an operation
pub stack_on : {plan : Plan} {at frames top : ℕ} {s t : List ℕ} → length t ≡ length s → Stack plan at frames s
    → top ≤ plan.depth → Tags t plan top → Stack plan at top t
stack_on {plan} {at} e k h b =
    record { frame = subst (λ (n : ℕ). Frame plan at n) (sym e) k.frame; most = h; tags = b }

module _ {plan : Plan} {at frames : ℕ} {s : List ℕ} (k : Stack plan at frames s) (deep : frames < plan.depth) where
  abbrev P : Planned plan
  P = k.frame.planned

  -- a key on the stack
  pub pushed : {key : ℕ} {t : List ℕ} → key < plan.keys → t ≡ set s (plan.tags + frames) key
      → Pushed plan at frames key s t
  pushed {key} {t} low e =
      let f = k.frame in
      let p = P in
      let tag : ℕ = plan.tags + frames in
      let on : List ℕ = set s tag key in
      let rs : List ℕ = words_at s at plan.width in
      let other : (i : ℕ) → (i ≡ tag → ⊥) → get_or on i 0 ≡ get_or s i 0 = λ i ne. get_or-set_other s tag i key 0 ne in
      let there : get_or on tag 0 ≡ key = get_or-set_same s tag key 0 (omega arith) in
      let words : words_at on at plan.width ≡ rs = words_below s at plan.width tag key (omega arith) in
      subst (λ (u : List ℕ). Pushed plan at frames key s u) (sym e)
      (record {
        words = words;
        stack =
            undo_thread on plan frames (words_at on at plan.width) (omega (arith, there)) ∙ rw (there, words)
            (ap (λ (z : List Thread). thread_of key rs ∷ z)
            (undo_same s on plan frames rs (λ i lt. other (plan.tags + i) (λ z. omega arith))
            (λ i lt. other (plan.olds + i) (λ z. omega arith))));
        below = below_one k.tags (λ i lt. other (plan.tags + i) (λ z. omega arith)) (omega (arith, there));
        apart =
            record {
              low = λ i lt. other i (λ z. omega arith);
              mid = λ i lt g. other i (λ z. omega arith);
              high = λ i lt. other i (λ z. omega arith);
            };
        long = length-set s tag key;
      })

  -- a register that is written, with a frame for what it was
  pub wrote : (register value : ℕ) → register < plan.width → Wrote plan at frames register value s
      (set (set (set s (plan.tags + frames) (plan.keys + register)) (plan.olds + frames)
      (get_or (set s (plan.tags + frames) (plan.keys + register)) (at + register) 0)) (at + register) value)
  wrote register value low =
      let f = k.frame in
      let p = P in
      let tag : ℕ = plan.tags + frames in
      let x : ℕ = plan.keys + register in
      let old : ℕ = plan.olds + frames in
      let place : ℕ = at + register in
      let y : ℕ = get_or (set s tag x) place 0 in
      let t : List ℕ = set (set (set s tag x) old y) place value in
      let rs : List ℕ = words_at s at plan.width in
      let other : (i : ℕ) → (i ≡ tag → ⊥) → (i ≡ old → ⊥) → (i ≡ place → ⊥) → get_or t i 0 ≡ get_or s i 0 = λ i a b e.
      get_or-set_other (set (set s tag x) old y) place i value 0 e ∙ get_or-set_other (set s tag x) old i y 0 b
      ∙ get_or-set_other s tag i x 0 a in
      let tag-there : get_or t tag 0 ≡ x =
      get_or-set_other (set (set s tag x) old y) place tag value 0 (λ z. omega arith)
      ∙ get_or-set_other (set s tag x) old tag y 0 (λ z. omega arith) ∙ get_or-set_same s tag x 0 (omega arith) in
      let old-there : get_or t old 0 ≡ y =
      get_or-set_other (set (set s tag x) old y) place old value 0 (λ z. omega arith)
      ∙ get_or-set_same (set s tag x) old y 0 (simp length-set (omega arith)) in
      let was : y ≡ get_or rs register 0 =
      get_or-set_other s tag place x 0 (λ z. omega arith) ∙ sym (words_at_lem s at plan.width register low) in
      let words : words_at t at plan.width ≡ set rs register value =
      words_in (set (set s tag x) old y) at plan.width register value low
      ∙ ap (λ (m : List ℕ). set m register value)
      (words_below (set s tag x) at plan.width old y (omega arith) ∙ words_below s at plan.width tag x (omega arith)) in
      let back : set (set rs register value) register y ≡ rs =
      set-set rs register value y ∙ ap (λ (m : ℕ). set rs register m) was ∙ set-get_or rs register 0 in
      let mine : x - plan.keys ≡ register = omega arith in
      let tags : (i : ℕ) → i < frames → get_or t (plan.tags + i) 0 ≡ get_or s (plan.tags + i) 0 =
      λ i lt. other (plan.tags + i) (λ z. omega arith) (λ z. omega arith) (λ z. omega arith) in
      record {
        words = words;
        stack =
            undo_register t plan frames (words_at t at plan.width) (omega (arith, tag-there))
            ∙ rw (tag-there, old-there, words, mine, back)
            (undo_same s t plan frames rs tags
            (λ i lt. other (plan.olds + i) (λ z. omega arith) (λ z. omega arith) (λ z. omega arith)));
        below = below_one k.tags tags (omega (arith, tag-there));
        apart =
            record {
              low = λ i lt. other i (λ z. omega arith) (λ z. omega arith) (λ z. omega arith);
              mid = λ i lt g. other i (λ z. omega arith) (λ z. omega arith) (λ z. omega arith);
              high = λ i lt. other i (λ z. omega arith) (λ z. omega arith) (λ z. omega arith);
            };
      }

-- ---- registers made -1

wipe_last : (n k : ℕ) (rs : List ℕ) → wipe (suc n) k rs ≡ set (wipe n k rs) (k + n) nowhere
unfolding wipe
wipe_last zero k rs = let e : k ≡ k + 0 = omega arith in ap (λ (i : ℕ). set rs i nowhere) e
wipe_last (suc n) k rs =
    let e : suc k + n ≡ k + suc n = omega arith in
    wipe_last n (suc k) (set rs k nowhere) ∙ ap (λ (i : ℕ). set (wipe n (suc k) (set rs k nowhere)) i nowhere) e

pub wiped_none : {plan : Plan} {at frames from : ℕ} {s : List ℕ} → Stack plan at frames s
    → Wiped plan at frames from 0 s s frames
unfolding wipe
wiped_none k = record { words = refl; stack = refl; below = k.tags; apart = apart_refl; most = omega arith }

-- one register more
pub wiped_more : {plan : Plan} {at frames from count top register : ℕ} {s t u : List ℕ} → register ≡ from + count
    → Wiped plan at frames from count s t top → Wrote plan at top register nowhere t u
    → Wiped plan at frames from (count + 1) s u (top + 1)
wiped_more {plan} {at} {frames} {from} {count} {top} {register} {s} {t} {u} e a w =
    record {
      words = w.words ∙ rw (a.words, e, add-one) (sym (wipe_last count from (words_at s at plan.width)));
      stack = w.stack ∙ a.stack;
      below = w.below;
      apart = apart_trans a.apart w.apart;
      most = omega (arith, a.most);
    }

pub wiped_all : {plan : Plan} {at frames from count count' top : ℕ} {s t : List ℕ} → count ≡ count'
    → Wiped plan at frames from count s t top → Wiped plan at frames from count' s t top
wiped_all {plan} {at} {frames} {from} {top = top} {s = s} {t = t} e a =
    subst (λ (n : ℕ). Wiped plan at frames from n s t top) e a
