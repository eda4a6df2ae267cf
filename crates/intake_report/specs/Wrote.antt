-- What a write into a lent buffer leaves, and how two writes are one. Every function that writes is proved by these laws.
use Rattle.std.specs.Prelude.{◌≡◌, refl, List, [], ◌∷◌, ◌++◌, ℕ, ◌+◌, ◌≤◌, ◌<◌, length, get_or, take, drop, set}
use Rattle.std.proofs.Common.{sym, ap, ◌∙◌, append-nil, append_assoc, add-zero, add-one, arith, length-append, length-drop, take-append-drop, length-take-le, take-suc, take_at, drop-drop}
use Rattle.std.proofs.Math.Seq.{drop-append-add, append_snoc}
use Rattle.std.proofs.lemmas.List.{set_split}

-- A text written at a place: the bytes before it and behind it are as they were, and the answer is the place behind it.
pub record Wrote (out out' : List ℕ) (at : ℕ) (text : List ℕ) (r : ℕ) : Type 0 where
  pub bytes : out' ≡ take at out ++ text ++ drop (at + length text) out
  pub next : r ≡ at + length text
  pub room : at + length text ≤ length out

-- Nothing was written.
pub wrote_none : (out : List ℕ) (at : ℕ) → at ≤ length out → Wrote out out at [] at
wrote_none out at h = record {
  bytes = simp (append-nil, add-zero, take-append-drop);
  next = sym (add-zero at);
  room = omega arith;
}

-- One byte was stored.
pub wrote_one : (out : List ℕ) (at b : ℕ) → at < length out → Wrote out (set out at b) at (b ∷ []) (at + 1)
wrote_one out at b h = record {
  bytes = rw (set_split, append_snoc, add-one);
  next = refl;
  room = omega arith;
}

-- A write, with its text and its answer said another way.
pub wrote_as : {a b : List ℕ} {at m n : ℕ} {x y : List ℕ} → Wrote a b at x m → x ≡ y → m ≡ n → Wrote a b at y n
wrote_as {a} {b} {at} w e f = rw (← e, ← f) w

module _ {a b : List ℕ} {at m : ℕ} {x : List ℕ} (p : Wrote a b at x m) where
  front : length (take at a ++ x) ≡ m
  front = length-append (take at a) x ∙ ap (λ n. n + length x) (length-take-le at a (omega (arith, p.room))) ∙ sym p.next

  -- A write keeps the length.
  pub wrote_length : length b ≡ length a
  wrote_length =
      ap length p.bytes ∙ length-append (take at a ++ x) (drop (at + length x) a)
      ∙ omega (arith, front, length-drop (at + length x) a, p.room, p.next)

  -- The place behind it lies in the buffer.
  pub wrote_within : m ≤ length b
  wrote_within = omega (arith, p.next, p.room, wrote_length)

  -- A second write from where the first ended: both are one write of the two texts.
  pub and_then : {c : List ℕ} {y : List ℕ} {n : ℕ} → Wrote b c m y n → Wrote a c at (x ++ y) n
  and_then {c} {y} {n} q =
      let e : length (x ++ y) ≡ length x + length y = length-append x y in
      let kept : take m b ≡ take at a ++ x = ap (take m) p.bytes ∙ take_at (take at a ++ x) _ m front in
      let place : m + length y ≡ length (take at a ++ x) + length y = ap (λ k. k + length y) (sym front) in
      let end : (at + length x) + length y ≡ at + length (x ++ y) = omega (arith, e) in
      let left : drop (m + length y) b ≡ drop (at + length (x ++ y)) a =
      ap (λ l. drop (m + length y) l) p.bytes
      ∙ ap (λ k. drop k (take at a ++ x ++ drop (at + length x) a)) place
      ∙ drop-append-add (take at a ++ x) (drop (at + length x) a) (length y)
      ∙ drop-drop (length y) (at + length x) a ∙ ap (λ k. drop k a) end in
      record {
        bytes = q.bytes ∙ ap (λ l. l ++ y ++ drop (m + length y) b) kept
            ∙ ap (λ l. take at a ++ x ++ y ++ l) left
            ∙ ap (λ l. l ++ drop (at + length (x ++ y)) a) (append_assoc (take at a) x y);
        next = omega (arith, e, q.next, p.next);
        room = omega (arith, e, q.room, p.next, wrote_length);
      }

-- One byte more of a text that is copied.
pub wrote_more : {a b : List ℕ} {at : ℕ} (text : List ℕ) (i : ℕ) → Wrote a b at (take i text) (at + i) → i < length text
    → at + length text ≤ length a → Wrote a (set b (at + i) (get_or text i 0)) at (take (i + 1) text) (at + (i + 1))
wrote_more {a} {b} {at} text i w h room =
    wrote_as (and_then w (wrote_one b (at + i) (get_or text i 0) (omega (arith, wrote_length w))))
    (sym (rw (add-one, take-suc text i 0))) (omega arith)
