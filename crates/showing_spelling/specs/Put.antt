-- What is written before a place of a lent buffer, and how two such writes are one. Where no room is left the place is 0.
use Rattle.std.specs.Prelude.{◌≡◌, refl, Bool, true, false, List, [], ◌∷◌, ◌++◌, ℕ, zero, suc, ◌+◌, ◌-◌, ◌≤◌, ◌<◌, ltb, length, drop, set}
use Rattle.std.proofs.Common.{sym, ap, ◌∙◌, append_assoc, arith, length-append, length-set, drop-cons, drop-drop, drop-set-lt, get_or-set_same, lt-ltb, ltb-true}
use Rattle.showing_spelling.specs.Spelling.{shorter}

-- A text written before a place: the answer is the place where it begins, and what stands behind the place is as it was. Where
-- there is no room for all of it, and one byte more, the answer is 0, and what stands before the place is anything.
pub record Put (out out' : List ℕ) (end : ℕ) (text : List ℕ) (r : ℕ) : Type 0 where
  pub next : r ≡ end - length text
  pub bytes : 0 < r → drop r out' ≡ text ++ drop end out
  pub behind : drop end out' ≡ drop end out
  pub long : length out' ≡ length out

-- Nothing is written.
pub put_none : (out : List ℕ) (end : ℕ) → Put out out end [] end
put_none out end = record { next = omega arith; bytes = λ h. refl; behind = refl; long = refl }

-- One byte is stored; or there is no room for it.
pub put_one : (out : List ℕ) (end b : ℕ) → 0 < end → end ≤ length out → Put out (set out (end - 1) b) end (b ∷ []) (end - 1)
put_one out zero b h l = absurd (omega arith)
put_one out (suc k) b h l =
    let e : suc k - 1 ≡ k = omega arith in
    let long : length (set out k b) ≡ length out = length-set out k b in
    let rest : drop (suc k) (set out k b) ≡ drop (suc k) out = drop-set-lt (suc k) out k b (omega arith) in
    rw e (record {
      next = omega arith;
      bytes = λ h. drop-cons (set out k b) k 0 (omega arith)
          ∙ ap (λ (x : ℕ). x ∷ drop (suc k) (set out k b)) (get_or-set_same out k b 0 (omega arith)) ∙ ap (λ (x : List ℕ). b ∷ x) rest;
      behind = rest;
      long = long;
    })

pub put_full : (out : List ℕ) (end : ℕ) (text : List ℕ) → end ≡ 0 → Put out out end text 0
put_full out end text e = record { next = omega arith; bytes = λ h. absurd (omega arith); behind = refl; long = refl }

-- A write, with its text said another way.
pub put_as : {a b : List ℕ} {end m : ℕ} {x y : List ℕ} → Put a b end x m → x ≡ y → Put a b end y m
put_as p e = rw (← e) p

-- The place does not go up, and lies in the buffer.
pub put_down : {a b : List ℕ} {end m : ℕ} {x : List ℕ} → Put a b end x m → m ≤ end
put_down p = omega (arith, p.next)

-- What stands behind a place stays where what stands behind an earlier place does.
further : (a b : List ℕ) (m end : ℕ) → m ≤ end → drop m a ≡ drop m b → drop end a ≡ drop end b
further a b m end h e =
    let at : m + (end - m) ≡ end = omega arith in
    sym (drop-drop (end - m) m a ∙ ap (λ (k : ℕ). drop k a) at) ∙ ap (drop (end - m)) e
    ∙ (drop-drop (end - m) m b ∙ ap (λ (k : ℕ). drop k b) at)

-- A second write before the first: both are one write of the two texts.
pub and_before : {a b c : List ℕ} {end m n : ℕ} {x y : List ℕ} → Put a b end x m → Put b c m y n → Put a c end (y ++ x) n
and_before {a} {b} {c} {end} {m} {n} {x} {y} p q = record {
  next = omega (arith, p.next, q.next, length-append y x);
  bytes = λ h. q.bytes h ∙ ap (λ (l : List ℕ). y ++ l) (p.bytes (omega (arith, q.next)))
      ∙ sym (append_assoc y x (drop end a));
  behind = further c b m end (put_down p) q.behind ∙ p.behind;
  long = q.long ∙ p.long;
}

-- A second write over the first.
pub put_over : {a b c : List ℕ} {end m n : ℕ} {x y : List ℕ} → Put a b end x m → Put b c end y n → Put a c end y n
put_over {y = y} p q = record {
  next = q.next;
  bytes = λ h. q.bytes h ∙ ap (λ (l : List ℕ). y ++ l) p.behind;
  behind = q.behind ∙ p.behind;
  long = q.long ∙ p.long;
}

-- Of two texts the one that leaves the higher place is the shorter; where both leave none it makes no difference.
pub put_shorter : {a b : List ℕ} {end m : ℕ} {x : List ℕ} (y : List ℕ) (n : ℕ) → Put a b end x m → n ≡ end - length y → n ≤ m
    → Put a b end (shorter x y) m
put_shorter {a} {b} {end} {m} {x} y n p e h = go (ltb (length y) (length x)) refl
  where
    go : (t : Bool) → ltb (length y) (length x) ≡ t → Put a b end (shorter x y) m
    go true t =
        let l : length y < length x = ltb-true (length y) (length x) t in
        let none : m ≡ 0 = omega (arith, p.next) in
        rw t (record {
          next = omega (arith, p.next);
          bytes = λ k. absurd (omega arith);
          behind = p.behind;
          long = p.long;
        })
    go false t = rw t p

pub put_longer : (x y : List ℕ) (end m n : ℕ) → m ≡ end - length x → n ≡ end - length y → m < n → y ≡ shorter x y
put_longer x y end m n e f h = rw (lt-ltb (length y) (length x) (omega arith))
