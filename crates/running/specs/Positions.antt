-- The bytes beside a position, the plan of the words, and how a run goes from one position to the next.
use Rattle.std.specs.Prelude.{◌≡◌, refl, ◌⊎◌, List, [], ◌∷◌, ℕ, zero, suc, ◌+◌, ◌*◌, ◌-◌, ◌<◌, ◌≤◌, length, get_or, set}
use Rattle.std.proofs.Common.{ap, ◌∙◌, subst, inl, inr, mul-add, mul_assoc, mul-le-mul, mul-le-mul_right, not-suc-le-zero, add-one, arith, lt-ltb, length-set, get_or-set_same, get_or-set_other}
use Rattle.std.proofs.Math.Option.{some}
use Rattle.std.proofs.Math.Nat.{mul-mul-mul_comm}
use Rattle.std.proofs.Math.ListN.{get_elem?}
use Rattle.meaning.specs.Text.{registers_of, byte_before, byte_after}
use Rattle.meaning.specs.Limits.{position_limit, row_limit, group_limit, workspace_words}
use Rattle.machine.specs.Words.{rows_said, groups_said}
use Rattle.running_moves.specs.Keys.{key_number, keys_of}
use Rattle.running_moves.specs.Chosen.{byte_limit, byte_of}
use Rattle.running_moves.specs.Ready.{Ready}
use Rattle.running_threads.specs.Words.{Spread}
use Rattle.running_threads.specs.Threads.{nowhere}
use Rattle.running_threads.specs.Held.{Planned, Laid}
use Rattle.running_threads.specs.Laws.{words_all, words_eq}
use Rattle.running_threads.specs.declared.Plan.{Plan}
use Rattle.running_threads.specs.declared.Spot.{Spot}
use Rattle.running_settle.specs.Moved.{Sees, Opens, SettledAs}
use Rattle.running_settle.specs.declared.Turn.{Turn}
use Rattle.running.specs.Ran.{PlanOf, first_spot, next_spot, Prepared}

-- ---- bytes

pub some_byte : (text : List ℕ) (p b : ℕ) → p < length text → b ≡ get_or text p 0 → b < byte_limit → byte_of b ≡ byte_after text p
unfolding byte_of
some_byte text p b h e l = rw (lt-ltb b byte_limit l) (ap some e ∙ there text p h)
  where
    there : (text : List ℕ) (p : ℕ) → p < length text → some (get_or text p 0) ≡ get_elem? text p
    there [] p h = absurd (not-suc-le-zero h)
    there (x ∷ text) zero h = refl
    there (x ∷ text) (suc p) h = there text p (omega arith)

pub no_more : (text : List ℕ) (p : ℕ) → length text ≤ p → byte_of byte_limit ≡ byte_after text p
unfolding byte_of
no_more [] p h = refl
no_more (x ∷ text) zero h = absurd (omega arith)
no_more (x ∷ text) (suc p) h = no_more text p (omega arith)

pub byte_behind : (text : List ℕ) (p b : ℕ) → 0 < p → byte_of b ≡ byte_after text (p - 1) → byte_of b ≡ byte_before text p
byte_behind text zero b h e = absurd (omega arith)
byte_behind text (suc p) b h e = let z : suc p - 1 ≡ p = omega arith in e ∙ ap (byte_after text) z

pub none_behind : (text : List ℕ) (p : ℕ) → p ≤ 0 → byte_of byte_limit ≡ byte_before text p
unfolding byte_of
none_behind text zero h = refl
none_behind text (suc p) h = absurd (omega arith)

-- the byte after a position is the byte before the next
pub sees_next : {text : List ℕ} {spot : Spot} {threads after : ℕ} → Sees text spot
    → byte_of after ≡ byte_after text (spot.position + 1) → Sees text (next_spot spot threads after)
sees_next {text} a e = record { before = rw add-one a.after; after = e }

-- ---- the plan

-- the words of a region
pub depth_small : {code : List ℕ} → Ready code → {n g : ℕ} → n ≡ rows_said code → g ≡ groups_said code
    → keys_of n * registers_of g ≤ keys_of row_limit * registers_of group_limit
depth_small r {n} {g} e f =
    let a : keys_of n ≤ keys_of row_limit = omega (arith, r.most) in
    let b : registers_of g ≤ registers_of group_limit = omega (arith, r.groups) in
    mul-le-mul a b

depth_is : (n g : ℕ) → keys_of n * registers_of g ≡ n * g * 4 + n * 4
depth_is n g =
    let e : registers_of g ≡ g * 2 + 2 = omega arith in
    rw e (omega (arith, mul-add (n * 2) (g * 2) 2, mul-mul-mul_comm n 2 g 2))

-- the whole plan fits in the words that a run needs
pub plan_fits : {code : List ℕ} {plan : Plan} → PlanOf code plan
    → plan.best + plan.width ≤ workspace_words (rows_said code) (groups_said code)
plan_fits {code} {plan} l =
    let p = l.planned in
    let n : ℕ = rows_said code in
    let g : ℕ = groups_said code in
    let e : plan.keys * plan.width ≡ n * g * 4 + n * 4 =
    let k : plan.keys ≡ keys_of n = omega (arith, l.serves.rows) in rw (k, l.serves.width) (depth_is n g) in
    let w : 16 * n * (g + 2) ≡ n * g * 16 + n * 32 = omega (arith, mul-add (16 * n) g 2, mul_assoc 16 n g) in
    omega (arith, l.serves.rows, l.serves.width)

pub registers_fit : {plan : Plan} → Planned plan → plan.width ≤ plan.depth
registers_fit {plan} p =
    let w : 1 * plan.width ≤ plan.keys * plan.width = mul-le-mul_right plan.width (omega arith) in omega arith

-- the words are made ready: the marks, the one key, its registers and the best ones
pub prepared : {plan : Plan} {row : ℕ} {s s₁ s₃ s₄ : List ℕ} → Planned plan → plan.best + plan.width ≤ length s
    → length s₁ ≡ length s → Spread 0 plan.keys 0 s s₁
    → length s₃ ≡ length (set s₁ plan.keys (key_number row 1))
    → Spread (plan.olds + plan.depth) plan.width nowhere (set s₁ plan.keys (key_number row 1)) s₃
    → length s₄ ≡ length s₃ → Spread plan.best plan.width nowhere s₃ s₄ → Prepared plan row s s₄
prepared {plan} {row} {s} {s₁} {s₃} {s₄} p room e₁ f₁ e₃ f₃ e₄ f₄ =
    let w = registers_fit p in
    let at : ℕ = plan.olds + plan.depth in
    let e₂ : length s₃ ≡ length s₁ = simp length-set at e₃ in
    let other : (i : ℕ) → (i ≡ plan.keys → ⊥) → get_or (set s₁ plan.keys (key_number row 1)) i 0 ≡ get_or s₁ i 0 =
    λ i ne. get_or-set_other s₁ plan.keys i (key_number row 1) 0 ne in
    let before : (i : ℕ) → i < at → get_or s₄ i 0 ≡ get_or (set s₁ plan.keys (key_number row 1)) i 0 =
    λ i lt. f₄.only.before i (omega arith) ∙ f₃.only.before i lt in
    record {
      marks = record {
        each = λ k lt.
            let z : get_or s₄ (0 + k) 0 ≡ 0 =
            before (0 + k) (omega arith) ∙ other (0 + k) (λ y. omega arith) ∙ f₁.each k lt in
            omega arith;
      };
      key = before plan.keys (omega arith) ∙ get_or-set_same s₁ plan.keys (key_number row 1) 0 (omega arith);
      registers = words_eq s₃ s₄ at at plan.width (omega arith) (omega arith)
          (λ k lt. f₄.only.before (at + k) (omega arith)) ∙ words_all (omega arith) f₃;
      best = words_all (omega arith) f₄;
      tail = λ j h. f₄.only.after j h ∙ f₃.only.after j (omega arith) ∙ other j (λ y. omega arith)
          ∙ f₁.only.after j (omega arith);
    }

-- ---- positions

pub laid_first : {plan : Plan} {start before after len : ℕ} → Planned plan → plan.best + plan.width ≤ len
    → start + 1 < position_limit → Laid plan (first_spot plan start before after) len
laid_first p room short =
    record {
      planned = p;
      active_from = omega arith;
      active_to = omega arith;
      queue_from = omega arith;
      queue_to = omega arith;
      keys_apart = inl (omega arith);
      registers_from_lem = omega arith;
      registers_to = omega arith;
      stored_from = omega arith;
      stored_to = omega arith;
      apart = inl (omega arith);
      end = room;
      threads = omega arith;
      place = short;
    }

pub opens_first : {plan : Plan} {start before after row : ℕ} {s t : List ℕ} → Planned plan → row < plan.rows
    → Prepared plan row s t → Opens plan (first_spot plan start before after) t
opens_first {plan} {t = t} p low r =
    record {
      some = omega arith;
      marks = record { each = λ k lt. let b = r.marks.each k lt in omega arith };
      keys = record {
        each = λ k lt. let z : plan.keys ≡ plan.keys + k = omega arith in
            subst (λ (j : ℕ). get_or t j 0 < plan.keys) z (omega (arith, r.key));
      };
    }

flip : {A B : Type 0} → A ⊎ B → B ⊎ A
flip (inl x) = inr x
flip (inr x) = inl x

module _ {code : List ℕ} {plan : Plan} {spot : Spot} {s t : List ℕ} {x : Turn} (q : Laid plan spot (length s))
    (w : SettledAs code plan spot s t x) (after : ℕ) where
  pub laid_next : length t ≡ length s → spot.position + 2 < position_limit
      → Laid plan (next_spot spot x.queued after) (length t)
  laid_next len short =
      let p = q.planned in
      record {
        planned = p;
        active_from = omega arith;
        active_to = omega arith;
        queue_from = omega arith;
        queue_to = omega arith;
        keys_apart = flip q.keys_apart;
        registers_from_lem = omega arith;
        registers_to = omega arith;
        stored_from = omega arith;
        stored_to = omega arith;
        apart = flip q.apart;
        end = omega (arith, len);
        threads = w.most;
        place = omega arith;
      }

  pub opens_next : 0 < x.queued → Opens plan (next_spot spot x.queued after) t
  opens_next h = record { some = h; marks = w.marks; keys = w.keys }
