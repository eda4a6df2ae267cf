-- Each law holds in the outline's words: what a part becomes is alike.
use Rattle.std.specs.Prelude.{◌≡◌, Bool, true, List, ℕ, zero, suc}
use Rattle.std.proofs.Common.{sym, subst, inl, inr, arith}
use Rattle.std.proofs.Math.Option.{Option}
use Rattle.meaning.specs.Node.{Node, Node.assert, Node.many}
use Rattle.meaning.specs.Flat.{Kind, Kind.sequence, Kind.alternation, parts, join, items, of_items, join_parts, adds_parts}
use Rattle.tidying_laws.specs.Groups.{Positive, group_free}
use Rattle.tidying_laws.specs.Alike.{Alike}
use Rattle.tidying_laws.specs.Measures.{groups_adds}
use Rattle.tidying_laws.proofs.Quantified.{T2-one, T2-none, T3, T4-none, T4-some, T5, T9, T10}
use Rattle.tidying_laws.specs.Words.{OnParts, EmptyItem, OnceOrNever, ManyEmpty, EmptyOrItself, ManyAssertion}
use Rattle.tidying_laws.specs.Words.{LoopOfLoops, EqualAlternative, EmptySet, SameFirst, OptionOfOption, LoopOnceOfLoops}
use Rattle.tidying_laws.proofs.Lists.{AlikeOn, T1, T6, T7, T7-sequence, T8}
use Rattle.tidying_laws.specs.Holds.{Holds}

on_parts_lem : (k : Kind) (L : List Node → List Node → Type 0) → AlikeOn k L → Holds (OnParts k L)
on_parts_lem k L h r q w p = let (m, two, x, e) = w in
    rw e (subst (λ s. Alike s (join k m)) (join_parts k r)
    (h (parts k r) m two x (subst Positive (sym (adds_parts (groups_adds k) r)) p)))

pub t1_holds : Holds (OnParts sequence EmptyItem)
t1_holds = on_parts_lem sequence EmptyItem T1

pub t2_holds : Holds OnceOrNever
t2_holds r q (inl h) p = rw h.1 (T2-one h.0 q h.2)
t2_holds r q (inr h) p = rw (h.1.1, h.2) (T2-none h.1.0 h.0 h.1.2)

pub t3_holds : Holds ManyEmpty
t3_holds r q h p = rw (h.3, h.4) (T3 h.0 h.1 h.2)

pub t4_holds : Holds ManyAssertion
t4_holds r q h p = let (n, e, lazy, a, f, c) = h in rw f (by n e lazy a c)
  where
    by : (n : ℕ) (e : Option ℕ) (lazy : Bool) (a : ℕ) → EmptyOrItself n a q → Alike (many n e lazy (assert a)) q
    by n e lazy a (inl h) = rw (h.0, h.1) (T4-none e lazy a)
    by zero e lazy a (inr h) = absurd (omega (arith, h.0))
    by (suc n) e lazy a (inr h) = rw h.1 (T4-some n e lazy a)

pub t5_holds : Holds LoopOfLoops
t5_holds r q h p = rw (h.3, h.6) (T5 h.0 h.1 h.4 h.2 h.5)

pub t6_holds : Holds (OnParts alternation EqualAlternative)
t6_holds = on_parts_lem alternation EqualAlternative T6

pub t7_holds : Holds EmptySet
t7_holds r q (inl h) p = on_parts_lem alternation _ T7 r q h p
t7_holds r q (inr h) p = let (m, two, x, e) = h.1 in
    rw e (subst (λ s. group_free s ≡ true → Alike s (of_items m)) (join_parts sequence r) (T7-sequence (items r) m x) h.0)

pub t8_holds : Holds (OnParts alternation SameFirst)
t8_holds = on_parts_lem alternation SameFirst T8

pub t9_holds : Holds OptionOfOption
t9_holds r q h p = rw (h.2, h.4) (T9 h.0 h.1 h.3)

pub t10_holds : Holds LoopOnceOfLoops
t10_holds r q h p = rw (h.1, h.3) (T10 h.0 h.2)
