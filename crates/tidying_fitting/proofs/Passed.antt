-- From the walks over series, and from the byte sets that were read, to what is told of the parts. Assumes nothing.
use mathlib.Core.Path.{◌≡◌, refl, sym, ap, subst, ◌∙◌}
use mathlib.Core.Bool.{Bool, false, not, false≢true}
use mathlib.Core.Option.{Option, none, some}
use Rattle.std.proofs.Common.{None}
use mathlib.Core.List.{List, [], ◌∷◌, ◌++◌, append-nil}
use Prim.Native.Nat.{ℕ, ◌-◌, ◌≤◌, ◌<◌}
use native.Mathlib.Omega.{arith}
use lib.ListN.{length}
use Rattle.sets.specs.Sets.{has, Formed, Holds, same_bytes}
use Rattle.sets.specs.Bits.{below_all}
use Rattle.sets.specs.Laws.{same_true, formed_same, same_words}
use Rattle.sets.specs.Laws.{same_refl as sets-refl}
use Rattle.meaning.specs.Node.{Node, Node.empty, Node.bset, Node.assert, Node.group, Node.seq, Node.alt, Node.many, Proper}
use Rattle.meaning.specs.Flat.{Kind.sequence, parts, join}
use Rattle.table.specs.Table.{set_kind, sequence_kind}
use Rattle.tidying_fitting.specs.Parts.{length_parts}
use Rattle.table.specs.Laws.{inner, kind_of, last_of}
use Rattle.tidying_laws.specs.Void.{no_bytes, no_bytes_lem}
use Rattle.tidying_laws.specs.Laws.{is_void, byte_set, first_set, rest_of}
use Rattle.tidying_laws.specs.Equal.{same, same_eq, same_refl}
use Rattle.table.specs.Stands.{Ends, Series, SomePart}
use Rattle.tidying_fitting.specs.Parts.{Tells, TellsBoth, FirstEnds, first_item}
use Rattle.table.specs.Roots.{last_ends, inside}
use Rattle.tidying_fitting.specs.Words.{own_of, start_of, same_test, when_some}
use Rattle.tidying_fitting.specs.Wants.{alike, begins_with}
use Rattle.tidying_fitting.specs.Fitting.{is_some}
use Rattle.tidying_fitting.specs.Places.{Place, Test, Walk, Turn, begin, turn}
use Rattle.tidying_fitting.specs.declared.Record.{Record}

-- A byte set is the same as the set of no byte exactly if it has no byte.
same_void : (s z : List ℕ) → Formed s → Holds z (λ x. false) → same_bytes s z ≡ no_bytes s
unfolding no_bytes
same_void s z f h = same_test (same_bytes s z) (no_bytes s)
    (λ t. below_all 256 (λ b. not (has s b)) (λ b l. ap not (same_true s z t b l ∙ h.bytes b l)))
    (λ t. rw (formed_same s z f h.formed (λ b l. no_bytes_lem s t b l ∙ sym (h.bytes b l))) (sets-refl z))

-- A part of a byte set's kind is one.
set_kind_lem : (r : Node) → kind_of r ≡ set_kind → r ≡ bset (last_of r)
set_kind_lem empty e = absurd (omega arith)
set_kind_lem (bset s) e = refl
set_kind_lem (assert a) e = absurd (omega arith)
set_kind_lem (group k r) e = absurd (omega arith)
set_kind_lem (seq r q) e = absurd (omega arith)
set_kind_lem (alt r q) e = absurd (omega arith)
set_kind_lem (many n f lazy r) e = absurd (omega arith)

module _ {table : List ℕ} {top : ℕ} where
  pub void_told : {o : Record} → Tells o table top own_of → o.kind ≡ set_kind → {w z : List ℕ} → Tells w table top last_of
      → Holds z (λ x. false) → {b : Bool} → b ≡ same_bytes w z → Tells b table top is_void
  void_told {o} t k {w} {z} u h {b} e = record {
    by = λ before r p. go r p.proper
        (sym (ap (λ d. d.kind) (t.by before r p)) ∙ k) (u.by before r p);
  }
    where
      go : (r : Node) → Proper r → kind_of r ≡ 2 → w ≡ last_of r → b ≡ is_void r
      go empty s k l = absurd (omega arith)
      go (bset s) f k l = e ∙ ap (λ x. same_bytes x z) l ∙ same_void s z f h
      go (assert a) s k l = absurd (omega arith)
      go (group n r) s k l = absurd (omega arith)
      go (seq r q) s k l = absurd (omega arith)
      go (alt r q) s k l = absurd (omega arith)
      go (many n m lazy r) s k l = absurd (omega arith)

-- A walk that looks for nothing.
abbrev pub nothing : Test
nothing seen r = false

-- The part that a turn comes to.
pub turn_part : {test : Test} {l : List Node} {table : List ℕ} {end left : ℕ} {before : List ℕ} {found : Place}
    → Turn test l table end left before found → SomePart table end
turn_part t = record { before = _; part = t.part; ends = last_ends t.front t.part t.series }

-- A sequence has two items or more, and where one is left it is the first.
pub record Passing (table : List ℕ) (top end left : ℕ) (before : List ℕ) (r : Node) : Type 0 where
  pub sequence : kind_of r ≡ sequence_kind
  pub some : 1 ≤ left
  pub walk : Walk nothing (inner r) table end left before None

two_items : (r : Node) → kind_of r ≡ sequence_kind → 2 ≤ length (inner r)
unfolding inner
two_items empty e = absurd (omega arith)
two_items (bset s) e = absurd (omega arith)
two_items (assert a) e = absurd (omega arith)
two_items (group k r) e = absurd (omega arith)
two_items (seq r q) e = omega (arith, length_parts sequence q)
two_items (alt r q) e = absurd (omega arith)
two_items (many n m lazy r) e = absurd (omega arith)

first_of_lem : (r q : Node) (l : List Node) → kind_of r ≡ sequence_kind → inner r ≡ q ∷ l → q ≡ first_item r
unfolding inner
first_of_lem empty q l e f = absurd (omega arith)
first_of_lem (bset s) q l e f = absurd (omega arith)
first_of_lem (assert a) q l e f = absurd (omega arith)
first_of_lem (group k r) q l e f = absurd (omega arith)
first_of_lem (seq r p) q l e f = cc
first_of_lem (alt r p) q l e f = absurd (omega arith)
first_of_lem (many n m lazy r) q l e f = absurd (omega arith)

module _ {table : List ℕ} {top : ℕ} {before : List ℕ} {r : Node} where
  pub pass_first : (p : Ends table top before r) {o : Record} → Tells o table top own_of → o.kind ≡ sequence_kind
      → Passing table top (top - 1) o.items before r
  pass_first p {o} t e =
      let own : o ≡ own_of r = t.by before r p in
      let kind : kind_of r ≡ sequence_kind = sym (ap (λ d. d.kind) own) ∙ e in
      rw own (record { sequence = kind; some = omega (arith, two_items r kind); walk = begin nothing (inside p) })

  pub pass_turn : {end left : ℕ} → Passing table top end left before r → 1 < left → Turn nothing (inner r) table end left
      before None
  pass_turn w h = turn w.walk (omega arith)

  pub pass_more : {end left : ℕ} (w : Passing table top end left before r) → 1 < left → {n : ℕ} → Tells n table end (start_of end)
      → Passing table top n (left - 1) before r
  pass_more {end} {left} w h {n} s =
      let t = pass_turn w h in
      rw (s.by _ t.part (last_ends t.front t.part t.series))
      (record { sequence = w.sequence; some = omega arith; walk = t.walk })

  pub pass_last : {end left : ℕ} → Passing table top end left before r → left ≤ 1 → Ends table end before (first_item r)
  pass_last {end} {left} w h = go w.walk.rest w.walk.split w.walk.series
    where
      go : (rest : List Node) → inner r ≡ rest ++ w.walk.more → Series table end left before rest → Ends table end before
          (first_item r)
      go [] e series = absurd (omega (arith, series.counted, w.some))
      go (q ∷ []) e series =
          subst (Ends table end before) (first_of_lem r q w.walk.more w.sequence e) (rw append-nil at (last_ends [] q series))
      go (q ∷ p ∷ l) e series = absurd (omega (arith, series.counted))

-- T8: two parts begin alike if their first items are the same byte set.
abbrev same_set : Option (List ℕ) → Node → Bool
same_set none y = false
same_set (some s) y = same y (bset s)

first_set_lem : (r : Node) → first_set (parts sequence r) ≡ byte_set (first_item r)
unfolding parts
first_set_lem empty = refl
first_set_lem (bset s) = refl
first_set_lem (assert a) = refl
first_set_lem (group k r) = refl
first_set_lem (seq r q) = refl
first_set_lem (alt r q) = refl
first_set_lem (many n e lazy r) = refl

rest_first : (s : List ℕ) (r : Node) → is_some (rest_of s (parts sequence r)) ≡ same (first_item r) (bset s)
unfolding parts
rest_first s empty = when_some (same empty (bset s)) empty
rest_first s (bset u) = when_some (same (bset u) (bset s)) empty
rest_first s (assert a) = when_some (same (assert a) (bset s)) empty
rest_first s (group k r) = when_some (same (group k r) (bset s)) empty
rest_first s (seq r q) = when_some (same r (bset s)) (join sequence (parts sequence q))
rest_first s (alt r q) = when_some (same (alt r q) (bset s)) empty
rest_first s (many n e lazy r) = when_some (same (many n e lazy r) (bset s)) empty

alike_first : (p q : Node) → alike p q ≡ same_set (byte_set (first_item p)) (first_item q)
alike_first p q = ap (λ o. begins_with o q) (first_set_lem p) ∙ go (byte_set (first_item p))
  where
    go : (o : Option (List ℕ)) → begins_with o q ≡ same_set o (first_item q)
    go none = refl
    go (some s) = rest_first s q

-- Well-formed sets are the same words exactly if they hold the same bytes.
same_sets : (s u : List ℕ) → Formed s → Formed u → same_bytes s u ≡ same (bset u) (bset s)
same_sets s u f g = same_test (same_bytes s u) (same (bset u) (bset s))
    (λ t. rw (same_words s u f g t) (same_refl (bset u)))
    (λ t. let e : bset u ≡ bset s = same_eq (bset u) (bset s) t in rw (ap last_of e) (sets-refl s))

not_set : (r : Node) → (kind_of r ≡ set_kind → ⊥) → byte_set r ≡ none
not_set empty h = refl
not_set (bset s) h = absurd (h refl)
not_set (assert a) h = refl
not_set (group k r) h = refl
not_set (seq r q) h = refl
not_set (alt r q) h = refl
not_set (many n e lazy r) h = refl

none_alike : (o : Option (List ℕ)) (y : Node) → (kind_of y ≡ set_kind → ⊥) → false ≡ same_set o y
none_alike none y h = refl
none_alike (some s) y h =
    sym (same_test (same y (bset s)) false (λ t. absurd (h (ap kind_of (same_eq y (bset s) t)))) (λ t. absurd (false≢true t)))

module _ {table : List ℕ} {one other a b : ℕ} (fa : FirstEnds a table one) (fb : FirstEnds b table other) where
  alike_by : {x : Bool} → ((before before' : List ℕ) (p q : Node) → Ends table a before p → Ends table b before' q → x ≡
      same_set (byte_set p) q)
      → TellsBoth x table one other alike
  alike_by h = record {
    by = λ before before' p q hp hq.
        h before before' (first_item p) (first_item q) (fa.by before p hp) (fb.by before' q hq) ∙ sym (alike_first p q);
  }

  pub first_differs : {o : Record} → Tells o table a own_of → (o.kind ≡ set_kind → ⊥) → TellsBoth false table one other alike
  first_differs t h = alike_by (λ before before' p q hp hq.
      sym (ap (λ o. same_set o q) (not_set p (λ e. h (ap (λ d. d.kind) (t.by before p hp) ∙ e)))))

  pub second_differs : {o : Record} → Tells o table b own_of → (o.kind ≡ set_kind → ⊥) → TellsBoth false table one other alike
  second_differs t h = alike_by (λ before before' p q hp hq.
      none_alike (byte_set p) q (λ e. h (ap (λ d. d.kind) (t.by before' q hq) ∙ e)))

  pub sets_told : {o u : Record} → Tells o table a own_of → o.kind ≡ set_kind → Tells u table b own_of → u.kind ≡ set_kind
      → {v w : List ℕ} → Tells v table a last_of → Tells w table b last_of → {x : Bool} → x ≡ same_bytes v w → TellsBoth x table
      one other alike
  sets_told t k t' k' {v} {w} s u {x} e = alike_by (λ before before' p q hp hq.
      go p q hp.proper hq.proper (sym (ap (λ d. d.kind) (t.by before p hp)) ∙ k)
      (sym (ap (λ d. d.kind) (t'.by before' q hq)) ∙ k')
      (s.by before p hp) (u.by before' q hq))
    where
      set : (p q : Node) (y z : List ℕ) → p ≡ bset y → q ≡ bset z → Proper p → Proper q → v ≡ y → w ≡ z
          → x ≡ same_set (byte_set p) q
      set p q y z ep eq sp sq lp lq =
          let fp : Proper (bset y) = rw ep at sp in
          let fq : Proper (bset z) = rw eq at sq in
          rw (ep, eq) (e ∙ rw (lp, lq) (same_sets y z fp fq))

      go : (p q : Node) → Proper p → Proper q → kind_of p ≡ 2 → kind_of q ≡ 2 → v ≡ last_of p → w ≡ last_of q → x ≡ same_set
          (byte_set p) q
      go p q sp sq kp kq lp lq = set p q (last_of p) (last_of q) (set_kind_lem p kp) (set_kind_lem q kq) sp sq lp lq
