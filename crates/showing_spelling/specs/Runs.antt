-- The spelling of runs in a class reads back: they are items that add just the bytes of the runs.
use Rattle.std.specs.Prelude.{◌≡◌, Bool, ◌||◌, ◌&&◌, eqb, leb}
use Rattle.std.proofs.Math.Path.{refl, ap, subst}
use Rattle.std.proofs.Common.{sym, ◌∙◌, true≢false, add-zero}
use Rattle.std.proofs.Math.Logic.{⊎_elim}
use Rattle.std.proofs.Math.Bool.{true, false, or-true, or-false, or_assoc}
use mathlib.Core.List.{List, [], ◌∷◌, ◌++◌}
use Prim.Native.Nat.{ℕ, zero, suc, ◌+◌, ◌-◌, ◌≤◌, ◌<◌}
use native.Mathlib.Omega.{arith}
use Rattle.std.proofs.Math.Decide.{dec_lt, dec_le}
use Rattle.std.proofs.Math.Dec.{ltb}
use Rattle.std.proofs.Math.ListN.{length, length-append}
use borrow.Author.Tests.{leb-true, leb-false, ltb-true, eqb-true, le-leb, lt-ltb, eq-eqb}
use Rattle.sets.specs.Sets.{has, Holds, between, in_escape}
use Rattle.sets.specs.Laws.{holds_to, set_of_holds}
use Rattle.meaning.specs.Tests.{and_true, by_test}
use Rattle.reading_atoms.specs.Chars.{backslash, hyphen}
use Rattle.reading_atoms.specs.Classes.{added, takes}
use Rattle.reading_atoms.specs.Places.{either, between_true}
use Rattle.reading_grammar.specs.Atoms.{Is, EscapedSet, ClassItems}
use Rattle.showing_spelling.specs.Spelling.{guarded, byte_text, run_text, runs_text}
use Rattle.showing_spelling.specs.Texts.{At, at_first, at_front, at_back, iff_eq, and_of}
use Rattle.showing_spelling.specs.Bytes.{byte_atom, byte_long, byte_free}

-- The bytes from one to before another.
abbrev in_run : ℕ → ℕ → ℕ → Bool
in_run first end x = leb first x && ltb x end

in_run_lem : (first end x : ℕ) → in_run first end x ≡ true → (first ≤ x) × (x < end)
in_run_lem first end x e = let (p, q) = and_true (leb first x) (ltb x end) e in (leb-true first x p, ltb-true x end q)

to_run : (first end x : ℕ) → first ≤ x → x < end → in_run first end x ≡ true
to_run first end x h l = and_of (leb first x) (ltb x end) (le-leb first x h) (lt-ltb x end l)

run_none : (first end x : ℕ) → end ≤ first → in_run first end x ≡ false
run_none first end x h =
    iff_eq (in_run first end x) false (λ e. absurd (let (l, u) = in_run_lem first end x e in omega arith)) (λ e. absurd (true≢false (sym e)))

run_one : (first end x : ℕ) → end ≡ first + 1 → takes first x ≡ in_run first end x
run_one first end x h =
    iff_eq (takes first x) (in_run first end x) (λ e. let q = eqb-true x first e in to_run first end x (omega arith) (omega arith))
    (λ e. let (l, u) = in_run_lem first end x e in eq-eqb x first (omega arith))

run_two : (first end x : ℕ) → end ≡ first + 2 → (takes first x || takes (first + 1) x) ≡ in_run first end x
run_two first end x h =
    iff_eq (takes first x || takes (first + 1) x) (in_run first end x)
    (λ e. ⊎_elim (λ p. let q = eqb-true x first p in to_run first end x (omega arith) (omega arith))
    (λ p. let q = eqb-true x (first + 1) p in to_run first end x (omega arith) (omega arith))
    (either (takes first x) (takes (first + 1) x) e))
    (λ e. let (l, u) = in_run_lem first end x e in elim (dec_le x first) [
      | yes d ↦ rw (eq-eqb x first (omega arith))
      | no d ↦ rw (eq-eqb x (first + 1) (omega arith)) (or-true (takes first x))
    ])

run_range : (first end x : ℕ) → first < end → between first (end - 1) x ≡ in_run first end x
run_range first end x h =
    iff_eq (between first (end - 1) x) (in_run first end x)
    (λ e. let (l, u) = between_true first (end - 1) x e in to_run first end x l (omega arith))
    (λ e. let (l, u) = in_run_lem first end x e in
    and_of (leb first x) (leb x (end - 1)) (le-leb first x l) (le-leb x (end - 1) (omega arith)))

pub hyphen_guarded : guarded true hyphen ≡ true
unfolding guarded
hyphen_guarded = refl

-- Where a run stands no byte stands that is spelled behind `\`, unless it stands behind it.
module _ (s : List ℕ) (x : ℕ) (g : guarded true x ≡ true) (n : x ≡ backslash → ⊥) where
  before_byte : (p b : ℕ) (t : List ℕ) → b < 256 → At s p (byte_text true b ++ t) → Is s p x → ⊥
  before_byte p b t h a e =
      byte_free b x h g n (sym (at_first s p (byte_text true b) (byte_long true b h) (at_front s p (byte_text true b) t a)) ∙ e)

  alone : (p b : ℕ) → b < 256 → At s p (byte_text true b) → Is s p x → ⊥
  alone p b h a e = byte_free b x h g n (sym (at_first s p (byte_text true b) (byte_long true b h) a) ∙ e)

  abbrev pub Kept : ℕ → List ℕ → Type 0
  Kept p t = At s p t → (Is s (p + length t) x → ⊥) → Is s p x → ⊥

  kept_none : (p : ℕ) → Kept p []
  kept_none p a f e = f (subst (λ (k : ℕ). Is s k x) (sym (add-zero p)) e)

  pub run_kept : (p first end : ℕ) → end ≤ 256 → Kept p (run_text first end)
  unfolding run_text
  run_kept p first end l =
      by_test (Kept p) (leb end first) (λ e. kept_none p) (λ e.
      let h = leb-false end first e in
      by_test (Kept p) (eqb end (first + 1)) (λ e a f. alone p first (omega arith) a) (λ e.
      by_test (Kept p) (eqb end (first + 2)) (λ e a f. before_byte p first (byte_text true (first + 1)) (omega arith) a)
      (λ e a f. before_byte p first (hyphen ∷ byte_text true (end - 1)) (omega arith) a)))

  pub kept_append : (p : ℕ) (t u : List ℕ) → Kept p t → Kept (p + length t) u → Kept p (t ++ u)
  kept_append p t u h k a f =
      let e : p + length t + length u ≡ p + length (t ++ u) = omega (arith, length-append t u) in
      h (at_front s p t u a) (k (at_back s p t u a) (λ q. f (subst (λ (k : ℕ). Is s k x) e q)))

  pub runs_kept : (test : ℕ → Bool) (n end p : ℕ) → n ≤ 256 → end ≤ 256 → Kept p (runs_text test n end)
  unfolding runs_text
  runs_kept test zero end p h l = run_kept p zero end l
  runs_kept test (suc n) end p h l =
      by_test (Kept p) (test n) (λ e. runs_kept test n end p (omega arith) l)
      (λ e. kept_append p (runs_text test n n) (run_text (suc n) end) (runs_kept test n n p (omega arith) (omega arith))
      (run_kept (p + length (runs_text test n n)) (suc n) end l))

module _ (s : List ℕ) (o : ℕ) where
  -- The items of a class from its beginning up to a place, and the bytes that they take.
  pub record Listed (p : ℕ) (test : ℕ → Bool) : Type 0 where
    pub set : List ℕ
    pub items : ClassItems s o p set
    pub holds : Holds set test

  -- Said another way; and with one item more.
  pub listed_as : {p q : ℕ} {f g : ℕ → Bool} → Listed p f → p ≡ q → ((x : ℕ) → x < 256 → f x ≡ g x) → Listed q g
  listed_as {p} {q} l e h = record {
    set = l.set;
    items = subst (λ (k : ℕ). ClassItems s o k l.set) e l.items;
    holds = holds_to l.holds h;
  }

  more : {p q : ℕ} {f : ℕ → Bool} (g : ℕ → Bool) (l : Listed p f) → ClassItems s o q (added l.set g) → Listed q (λ x. f x || g x)
  more {f = f} g l items = record {
    set = added l.set g;
    items = items;
    holds = holds_to (set_of_holds (λ x. has l.set x || g x)) (λ x h. ap (λ (t : Bool). t || g x) (l.holds.bytes x h));
  }

  pub listed_escape : {p k : ℕ} {f : ℕ → Bool} → Listed p f → EscapedSet s p k → (Is s (p + 2) hyphen → ⊥)
      → Listed (p + 2) (λ x. f x || in_escape k x)
  listed_escape {k = k} l t n = more (in_escape k) l (ClassItems.several l.items t (λ d. n d.0))

  listed_byte : {p : ℕ} {f : ℕ → Bool} (b : ℕ) → b < 256 → Listed p f → At s p (byte_text true b)
      → (Is s (p + length (byte_text true b)) hyphen → ⊥)
      → Listed (p + length (byte_text true b)) (λ x. f x || takes b x)
  listed_byte b h l t n = more (takes b) l (ClassItems.single l.items (byte_atom s h t) (λ d. n d.0))

  listed_range : {p : ℕ} {f : ℕ → Bool} (a b : ℕ) → a ≤ b → b < 256 → Listed p f
      → At s p (byte_text true a ++ hyphen ∷ byte_text true b)
      → Listed (p + length (byte_text true a ++ hyphen ∷ byte_text true b)) (λ x. f x || between a b x)
  listed_range {p} {f} a b h k l t =
      let first : List ℕ = byte_text true a in
      let last : List ℕ = byte_text true b in
      let rest : At s (p + length first) (hyphen ∷ last) = at_back s p first (hyphen ∷ last) t in
      let dash : Is s (p + length first) hyphen = at_first s (p + length first) (hyphen ∷ last) (omega arith) rest in
      let behind : At s (p + length first + 1) last = at_back s (p + length first) (hyphen ∷ []) last rest in
      let e : p + length first + 1 + length last ≡ p + length (first ++ hyphen ∷ last)
      = omega (arith, length-append first (hyphen ∷ last)) in
      more (between a b) l (subst (λ (q : ℕ). ClassItems s o q (added l.set (between a b))) e
      (ClassItems.range l.items (byte_atom s (omega arith) (at_front s p first (hyphen ∷ last) t)) dash (byte_atom s k behind) h))

  -- A run, and then the runs of a test.
  abbrev pub Reads : ℕ → (ℕ → Bool) → (ℕ → Bool) → List ℕ → Type 0
  Reads p f g t = At s p t → (Is s (p + length t) hyphen → ⊥) → Listed (p + length t) (λ x. f x || g x)

  run_read : (first end : ℕ) → end ≤ 256 → {p : ℕ} {f : ℕ → Bool} → Listed p f → Reads p f (in_run first end) (run_text first end)
  unfolding run_text
  run_read first end k {p} {f} l =
      by_test P (leb end first)
      (λ e a n. listed_as l (sym (add-zero p)) (λ x i. rw (run_none first end x (leb-true end first e)) (sym (or-false (f x))))) (λ e.
      let h : first < end = leb-false end first e in
      by_test P (eqb end (first + 1))
      (λ e a n. listed_as (listed_byte first (omega arith) l a n) refl
      (λ x i. ap (λ (t : Bool). f x || t) (run_one first end x (eqb-true end (first + 1) e)))) (λ e.
      by_test P (eqb end (first + 2)) (λ e. two (eqb-true end (first + 2) e)) (λ e a n.
      listed_as (listed_range first (end - 1) (omega arith) (omega arith) l a) refl
      (λ x i. ap (λ (t : Bool). f x || t) (run_range first end x h)))))
    where
      P : List ℕ → Type 0
      P t = Reads p f (in_run first end) t

      two : end ≡ first + 2 → P (byte_text true first ++ byte_text true (first + 1))
      two e a n =
          let t : List ℕ = byte_text true first in
          let u : List ℕ = byte_text true (first + 1) in
          let back = at_back s p t u a in
          let place : p + length t + length u ≡ p + length (t ++ u) = omega (arith, length-append t u) in
          let one = listed_byte first (omega arith) l (at_front s p t u a)
          (alone s hyphen hyphen_guarded (λ q. omega arith) (p + length t) (first + 1) (omega arith) back) in
          listed_as (listed_byte (first + 1) (omega arith) one back (λ q. n (subst (λ (k : ℕ). Is s k hyphen) place q))) place
          (λ x i. or_assoc (f x) (takes first x) (takes (first + 1) x) ∙ ap (λ (t : Bool). f x || t) (run_two first end x e))

  pub runs_read : (test : ℕ → Bool) (n end : ℕ) → n ≤ end → end ≤ 256 → ((x : ℕ) → n ≤ x → x < end → test x ≡ true)
      → {p : ℕ} {f : ℕ → Bool} → Listed p f → Reads p f (λ x. test x && ltb x end) (runs_text test n end)
  unfolding runs_text
  runs_read test zero end h k all {p} {f} l = λ a n.
      listed_as (run_read zero end k l a n) refl (λ x i. ap (λ (t : Bool). f x || t) (iff_eq (in_run zero end x) (test x && ltb x end)
      (λ e. let (u, v) = in_run_lem zero end x e in and_of (test x) (ltb x end) (all x u v) (lt-ltb x end v))
      (λ e. to_run zero end x (omega arith) (ltb-true x end (and_true (test x) (ltb x end) e).1))))
  runs_read test (suc n) end h k all {p} {f} l =
      by_test (Reads p f (λ x. test x && ltb x end)) (test n)
      (λ e. runs_read test n end (omega arith) k (λ x u v. elim (dec_lt n x) [
        | yes d ↦ all x d v
        | no d ↦ let q : n ≡ x = omega arith in subst (λ (y : ℕ). test y ≡ true) q e
      ]) l)
      (λ e. joined e (runs_read test n n (omega arith) (omega arith) (λ x y z. absurd (omega arith)) l))
    where
      joined : test n ≡ false → Reads p f (λ x. test x && ltb x n) (runs_text test n n)
          → Reads p f (λ x. test x && ltb x end) (runs_text test n n ++ run_text (suc n) end)
      joined e first a free =
          let t : List ℕ = runs_text test n n in
          let u : List ℕ = run_text (suc n) end in
          let back = at_back s p t u a in
          let place : p + length t + length u ≡ p + length (t ++ u) = omega (arith, length-append t u) in
          let free' : Is s (p + length t + length u) hyphen → ⊥ = λ q. free (subst (λ (k : ℕ). Is s k hyphen) place q) in
          let one = first (at_front s p t u a)
          (run_kept s hyphen hyphen_guarded (λ q. omega arith) (p + length t) (suc n) end k back free') in
          listed_as (run_read (suc n) end k one back free') place
          (λ x i. or_assoc (f x) (test x && ltb x n) (in_run (suc n) end x) ∙ ap (λ (t : Bool). f x || t) (same e x))
        where
          same : test n ≡ false → (x : ℕ) → (test x && ltb x n || in_run (suc n) end x) ≡ (test x && ltb x end)
          same e x = iff_eq (test x && ltb x n || in_run (suc n) end x) (test x && ltb x end)
              (λ w. ⊎_elim (λ w. let (c, d) = and_true (test x) (ltb x n) w in
              and_of (test x) (ltb x end) c (lt-ltb x end (omega (arith, ltb-true x n d))))
              (λ w. let (c, d) = in_run_lem (suc n) end x w in and_of (test x) (ltb x end) (all x c d) (lt-ltb x end d))
              (either (test x && ltb x n) (in_run (suc n) end x) w))
              (λ w. let (c, d) = and_true (test x) (ltb x end) w in
              let below = ltb-true x end d in elim (dec_lt x n) [
                | yes q ↦ rw (and_of (test x) (ltb x n) c (lt-ltb x n q))
                | no q ↦ elim (dec_lt n x) [
                  | yes r ↦ rw (to_run (suc n) end x r below) (or-true (test x && ltb x n))
                  | no r ↦ let y : x ≡ n = omega arith in absurd (true≢false (sym c ∙ ap test y ∙ e))
                ]
              ])
