-- T2, T3, T4, T5, T9 and T10 keep what a law must: laws on a quantifier.
use Rattle.std.specs.Prelude.{◌≡◌, refl, Bool, true, false, cond, not, ◌&&◌, ◌||◌, ℕ, zero, suc, ◌≤◌, ◌<◌, T, eqb}
use Rattle.std.proofs.Common.{ap, arith, eqb→eq}
use Rattle.std.proofs.Math.Path.{subst⁻¹}
use Rattle.std.specs.Bool.{beq}
use Rattle.std.proofs.lemmas.Bool.{false≢true}
use Rattle.std.proofs.Math.Option.{Option, none, some}
use Rattle.std.proofs.Math.Dec.{eqb-suc-zero}
use Rattle.meaning.specs.Tests.{and_true, beq_eq}
use Rattle.meaning.specs.Node.{Node, Node.empty, Node.bset, Node.assert, Node.group, Node.seq, Node.alt, Node.many, Proper}
use Rattle.machine.specs.Layout.{size_of}
use Rattle.tidying_laws.specs.Groups.{group_free}
use Rattle.tidying_laws.specs.Alike.{Alike}
use Rattle.tidying_laws.specs.Quantified.{absorbed}
use Rattle.tidying_laws.proofs.Quantified.{T2-one, T2-none, T3, T4-none, T4-some, T5, T9, T10}
use Rattle.tidying_laws.specs.Equal.{same_eq}
use Rattle.meaning.specs.Flat.{Kind.sequence, Flat}
use Rattle.tidying_laws.specs.Measures.{weight, weighs}
use Rattle.tidying_laws.specs.Charge.{extra, charge, cost, extra_one, light}
use Rattle.tidying_laws.specs.Laws.{when, is_empty, on_many, on_assert, same_more, counts, t2, t3, t4, t5, t9, t10}
use Rattle.tidying_laws.specs.Kept.{Ok, ok_when, ok_else, Kept}

-- Counts that are these.
pub counts_eq : (n : ℕ) (e : Option ℕ) (m : ℕ) (f : Option ℕ) → counts n e m f ≡ true → (n ≡ m) × (e ≡ f)
counts_eq n e m f t = let (a, b) = and_true (eqb n m) (same_more e f) t in (eqb→eq n m (subst⁻¹ T a tt), more e f b)
  where
    more : (e f : Option ℕ) → same_more e f ≡ true → e ≡ f
    more none none t = refl
    more none (some f) t = absurd (false≢true t)
    more (some e) none t = absurd (false≢true t)
    more (some e) (some f) t = ap some (eqb→eq e f (subst⁻¹ T t tt))

-- The tests of a law on a quantifier in a quantifier.
pub tests : (n : ℕ) (e : Option ℕ) (n' : ℕ) (e' : Option ℕ) (m : ℕ) (f : Option ℕ) (m' : ℕ) (f' : Option ℕ) (b : Bool) (r : Node)
    → (counts n e n' e' && counts m f m' f' && b && group_free r) ≡ true
    → (n ≡ n') × (e ≡ e') × (m ≡ m') × (f ≡ f') × (b ≡ true) × (group_free r ≡ true)
tests n e n' e' m f m' f' b r t =
    let (t, p) = and_true (counts n e n' e' && counts m f m' f' && b) (group_free r) t in
    let (t, o) = and_true (counts n e n' e' && counts m f m' f') b t in
    let (t, u) = and_true (counts n e n' e') (counts m f m' f') t in
    let (a, b) = counts_eq n e n' e' t in
    let (c, d) = counts_eq m f m' f' u in
    (a, b, c, d, o, p)

-- What is alike, and of a size that is no greater, is kept.
kept : {r q : Node} → Alike r q → (Flat r → Flat q) → (Proper r → Proper q)
    → (size_of q ≤ size_of r) × (weight q < weight r) × (extra r ≡ 0) × (cost sequence q ≤ cost sequence r) → Kept r q
kept {r} {q} a f g h = record {
  like = a.like;
  numbers = a.numbers;
  flat = f;
  proper = g;
  fewer = h.0;
  less = h.1;
  light = light sequence r q h.2 h.3;
}

pub on_many_lem {κ} : (P : Node → Node → Type κ) (f : ℕ → Option ℕ → Bool → Node → Option Node)
    → ((n : ℕ) (e : Option ℕ) (lazy : Bool) (r : Node) → Ok (P (many n e lazy r)) (f n e lazy r))
    → (p : Node) → Ok (P p) (on_many f p)
on_many_lem P f h empty = tt
on_many_lem P f h (bset s) = tt
on_many_lem P f h (assert a) = tt
on_many_lem P f h (group k r) = tt
on_many_lem P f h (seq r q) = tt
on_many_lem P f h (alt r q) = tt
on_many_lem P f h (many n e lazy r) = h n e lazy r

pub on_assert_lem {κ} : (P : Node → Node → Type κ) (f : ℕ → Option Node) → ((a : ℕ) → Ok (P (assert a)) (f a))
    → (p : Node) → Ok (P p) (on_assert f p)
on_assert_lem P f h empty = tt
on_assert_lem P f h (bset s) = tt
on_assert_lem P f h (assert a) = h a
on_assert_lem P f h (group k r) = tt
on_assert_lem P f h (seq r q) = tt
on_assert_lem P f h (alt r q) = tt
on_assert_lem P f h (many n e lazy r) = tt

pub t2_kept : (r : Node) → Ok (Kept r) (t2 r)
unfolding size_of weight charge extra
t2_kept = on_many_lem Kept _ (λ n e lazy r. let P : Node → Type 1 = Kept (many n e lazy r) in
    ok_else P (when (counts n e 1 (some 0) && group_free r) r) (when (counts n e 0 (some 0) && group_free r) empty)
    (ok_when P (counts n e 1 (some 0) && group_free r) r (λ t.
    let (c, p) = and_true (counts n e 1 (some 0)) (group_free r) t in
    let (a, b) = counts_eq n e 1 (some 0) c in
    rw (a, b) (kept (T2-one lazy r p) (λ g. g) (λ g. g.1) (omega (arith, extra_one r)))))
    (ok_when P (counts n e 0 (some 0) && group_free r) empty (λ t.
    let (c, p) = and_true (counts n e 0 (some 0)) (group_free r) t in
    let (a, b) = counts_eq n e 0 (some 0) c in
    rw (a, b) (kept (T2-none lazy r p) (λ g. tt) (λ g. tt) (omega (arith, weighs r))))))

pub t3_kept : (r : Node) → Ok (Kept r) (t3 r)
unfolding size_of weight charge extra
t3_kept = on_many_lem Kept _ (λ n e lazy r.
    ok_when (Kept (many n e lazy r)) (is_empty r) empty (λ t.
    rw (same_eq r empty t) (kept (T3 n e lazy) (λ g. tt) (λ g. tt) (omega arith))))

pub t4_kept : (r : Node) → Ok (Kept r) (t4 r)
unfolding size_of weight charge extra
t4_kept = on_many_lem Kept _ (λ n e lazy. on_assert_lem (λ p q. Kept (many n e lazy p) q) _ (λ a. by n e lazy a))
  where
    by : (n : ℕ) (e : Option ℕ) (lazy : Bool) (a : ℕ) → Kept (many n e lazy (assert a)) (cond (eqb n 0) empty (assert a))
    by zero e lazy a = kept (T4-none e lazy a) (λ g. tt) (λ g. tt) (omega arith)
    by (suc n) none lazy a = rw (eqb-suc-zero n) (kept (T4-some n none lazy a) (λ g. tt) (λ g. g.1) (omega arith))
    by (suc n) (some k) lazy a = rw (eqb-suc-zero n) (kept (T4-some n (some k) lazy a) (λ g. tt) (λ g. g.1) (omega arith))

pub t5_kept : (r : Node) → Ok (Kept r) (t5 r)
unfolding size_of weight charge extra
t5_kept = on_many_lem Kept _ (λ n e lazy. on_many_lem (λ p q. Kept (many n e lazy p) q) _ (λ m f inner r.
    ok_when (Kept (many n e lazy (many m f inner r)))
    (counts n e 0 none && counts m f 0 none && absorbed inner lazy && group_free r) (many 0 none lazy r) (λ t.
    let (a, b, c, d, o, p) = tests n e 0 none m f 0 none (absorbed inner lazy) r t in
    rw (a, b, c, d) (kept (T5 inner lazy o r p) (λ g. g) (λ g. g.1) (omega arith)))))

pub t9_kept : (r : Node) → Ok (Kept r) (t9 r)
unfolding size_of weight charge extra
t9_kept = on_many_lem Kept _ (λ n e lazy. on_many_lem (λ p q. Kept (many n e lazy p) q) _ (λ m f inner r.
    ok_when (Kept (many n e lazy (many m f inner r)))
    (counts n e 0 (some 1) && counts m f 0 (some 1) && beq lazy inner && group_free r) (many 0 (some 1) lazy r) (λ t.
    let (a, b, c, d, o, p) = tests n e 0 (some 1) m f 0 (some 1) (beq lazy inner) r t in
    rw (a, b, c, d, ← beq_eq lazy inner o) (kept (T9 lazy r p) (λ g. g) (λ g. g.1) (omega arith)))))

-- Neither of two is lazy.
pub both_greedy : (a b : Bool) → not (a || b) ≡ true → (a ≡ false) × (b ≡ false)
both_greedy true b e = absurd (false≢true e)
both_greedy false true e = absurd (false≢true e)
both_greedy false false e = (refl, refl)

pub t10_kept : (r : Node) → Ok (Kept r) (t10 r)
unfolding size_of weight charge extra
t10_kept = on_many_lem Kept _ (λ n e lazy. on_many_lem (λ p q. Kept (many n e lazy p) q) _ (λ m f inner r.
    ok_when (Kept (many n e lazy (many m f inner r)))
    (counts n e 1 none && counts m f 0 none && not (lazy || inner) && group_free r) (many 0 none false r) (λ t.
    let (a, b, c, d, o, p) = tests n e 1 none m f 0 none (not (lazy || inner)) r t in
    let (u, v) = both_greedy lazy inner o in
    rw (a, b, c, d, u, v) (kept (T10 r p) (λ g. g) (λ g. g.1) (omega arith)))))
