-- Words that pass are of a part on the items that they close.
use Rattle.std.specs.Prelude.{◌≡◌, refl, Bool, true, false, cond, not, ◌||◌, ◌&&◌, ◌⊎◌, List, [], ◌∷◌, ℕ, zero, suc, ◌-◌, ◌^◌, ◌≤◌, ◌<◌, eqb, leb, length, get_or, replicate}
use Rattle.std.proofs.Common.{sym, ap₂, subst, ◌∙◌, inl, inr, arith, eqb-true, leb-true}
use Rattle.std.proofs.lemmas.Bool.{eqb-false, not-true}
use Rattle.std.proofs.Math.Option.{Option, none, some}
use Rattle.sets.specs.Sets.{Formed, same_bytes}
use Rattle.sets.specs.Laws.{same_words}
use Rattle.meaning.specs.Limits.{count_limit, no_maximum, last_assertion}
use Rattle.meaning.specs.Node.{Node, Node.empty, Node.bset, Node.assert, Node.group, Node.seq, Node.alt, Node.many, Within, Proper}
use Rattle.meaning.specs.Flat.{Kind, Kind.sequence, Kind.alternation, Not, Part, link, Flat, flat_spreads, spreads_link}
use Rattle.meaning.specs.Numbering.{Numbers}
use Rattle.meaning.specs.Tests.{and_true}
use Rattle.meaning.specs.All.{All, all_imp}
use Rattle.table.specs.Table.{empty_kind, set_kind, assertion_kind, group_kind, sequence_kind, alternation_kind, quantifier_kind, no_set}
use Rattle.table.specs.Table.{maximum, bit_of}
use Rattle.table.specs.Laws.{inner, kind_of, operand_of, last_of, inner_link, proper_link}
use Rattle.reading_items.specs.Parts.{NumbersIn, numbers_join}
use Rattle.showing_form.specs.Parts.{Good}
use Rattle.showing_form.specs.Order.{next_of, in_order, order_sound}
use Rattle.showing_form.specs.Shapes.{counts_fit, bare, shaped, barred, unlike, opens}

-- A part whose own record has these words, on these items.
pub record Built (kind operand : ℕ) (last : List ℕ) (m : List Node) : Type 0 where
  pub part : Node
  pub kind_is : kind ≡ kind_of part
  pub operand_is : operand ≡ operand_of part
  pub inner_is : inner part ≡ m
  pub last_is : last ≡ last_of part
  pub good : Good part

-- Parts without groups of their own.
leaf : (r : Node) → Flat r → Proper r → Numbers 1 r 1 → Good r
leaf r f p n = record { flat = f; proper = p; from = 1; to = 1; some = omega arith; numbers = n }

-- No items where none are said.
no_items : {A : Type 0} (r : Node) (l : List Node) (b : Bool) → (b && eqb (length (r ∷ l)) 0) ≡ true → A
no_items r l b e = absurd (omega (arith, eqb-true (suc (length l)) 0 (and_true b (eqb (suc (length l)) 0) e).1))

set_built : (operand : ℕ) (last : List ℕ) (m : List Node) → Formed last → (eqb operand 0 && eqb (length m) 0) ≡ true
    → Built set_kind operand last m
unfolding inner
set_built operand last [] f e = record {
  part = bset last;
  kind_is = refl;
  operand_is = eqb-true operand 0 (and_true (eqb operand 0) true e).0;
  inner_is = refl;
  last_is = refl;
  good = leaf (bset last) tt f refl;
}
set_built operand last (r ∷ l) f e = no_items r l (eqb operand 0) e

empty_built : (operand : ℕ) (last : List ℕ) (m : List Node) → last ≡ no_set → (eqb operand 0 && eqb (length m) 0) ≡ true
    → Built empty_kind operand last m
unfolding inner
empty_built operand last [] f e = record {
  part = empty;
  kind_is = refl;
  operand_is = eqb-true operand 0 (and_true (eqb operand 0) true e).0;
  inner_is = refl;
  last_is = f;
  good = leaf empty tt tt refl;
}
empty_built operand last (r ∷ l) f e = no_items r l (eqb operand 0) e

assertion_built : (operand : ℕ) (last : List ℕ) (m : List Node) → last ≡ no_set
    → (leb operand last_assertion && eqb (length m) 0) ≡ true → Built assertion_kind operand last m
unfolding inner
assertion_built operand last [] f e = record {
  part = assert operand;
  kind_is = refl;
  operand_is = refl;
  inner_is = refl;
  last_is = f;
  good = leaf (assert operand) tt (leb-true operand last_assertion (and_true (leb operand last_assertion) true e).0) refl;
}
assertion_built operand last (r ∷ l) f e = no_items r l (leb operand last_assertion) e

-- One item.
one_item : (m : List Node) (b : Bool) → (b && eqb (length m) 1) ≡ true → (r : Node) × (m ≡ r ∷ [])
one_item m b e = go m (eqb-true (length m) 1 (and_true b (eqb (length m) 1) e).1)
  where
    go : (m : List Node) → length m ≡ 1 → (r : Node) × (m ≡ r ∷ [])
    go [] e = absurd (omega arith)
    go (r ∷ []) e = (r, refl)
    go (r ∷ q ∷ l) e = absurd (omega arith)

group_built : (operand : ℕ) (last : List ℕ) (m : List Node) → last ≡ no_set → (leb 1 operand && eqb (length m) 1) ≡ true
    → All Good m → in_order m ≡ true → (eqb (next_of m) 0 || eqb (next_of m - 1) operand) ≡ true → Built group_kind operand last m
unfolding inner
group_built operand last m f e g o n =
    let (r, same) = one_item m (leb 1 operand) e in
    let (b, numbers) = order_sound m g o (suc operand) (omega arith) (next (eqb (next_of m) 0) refl n) in
    let (x, of-r, last_one) = subst (λ (l : List Node). NumbersIn (suc operand) l b) same numbers in
    let good-r : Good r = (subst (All Good) same g).0 in
    record {
      part = group operand r;
      kind_is = refl;
      operand_is = refl;
      inner_is = sym same;
      last_is = f;
      good = record {
        flat = good-r.flat;
        proper = (leb-true 1 operand (and_true (leb 1 operand) (eqb (length m) 1) e).0, good-r.proper);
        from = operand;
        to = x;
        some = leb-true 1 operand (and_true (leb 1 operand) (eqb (length m) 1) e).0;
        numbers = (refl, of-r);
      };
    }
  where
    next : (t : Bool) → eqb (next_of m) 0 ≡ t → (t || eqb (next_of m - 1) operand) ≡ true
        → (next_of m ≡ 0) ⊎ (next_of m ≡ suc operand)
    next true e h = inl (eqb-true (next_of m) 0 e)
    next false e h = let z = eqb-false (next_of m) 0 e in let q = eqb-true (next_of m - 1) operand h in inr (omega arith)

-- Two items or more, none of the own kind.
abbrev row_kind : Kind → ℕ
row_kind sequence = sequence_kind
row_kind alternation = alternation_kind

row_kind_lem : (k : Kind) (r q : Node) (l : List Node)
    → (kind_of (link k r (q ∷ l)) ≡ row_kind k) × (operand_of (link k r (q ∷ l)) ≡ 0) × (last_of (link k r (q ∷ l)) ≡ no_set)
row_kind_lem sequence r q l = (refl, refl, refl)
row_kind_lem alternation r q l = (refl, refl, refl)

unlike_not : (k : Kind) (l : List Node) → unlike (row_kind k) l ≡ true → All (Not k) l
unlike_not k [] e = tt
unlike_not k (r ∷ l) e =
    let (h, t) = and_true (not (eqb (kind_of r) (row_kind k))) (unlike (row_kind k) l) e in
    (one k r (eqb-false (kind_of r) (row_kind k) (not-true (eqb (kind_of r) (row_kind k)) h)), unlike_not k l t)
  where
    one : (k : Kind) (r : Node) → (kind_of r ≡ row_kind k → ⊥) → Not k r
    one k empty n = tt
    one k (bset s) n = tt
    one k (assert a) n = tt
    one k (group j r) n = tt
    one sequence (seq r q) n = n refl
    one alternation (seq r q) n = tt
    one sequence (alt r q) n = tt
    one alternation (alt r q) n = n refl
    one k (many i e lazy r) n = tt

row_built : (k : Kind) (operand : ℕ) (last : List ℕ) (m : List Node) → last ≡ no_set → (eqb operand 0 && leb 2 (length m)) ≡ true
    → All Good m → unlike (row_kind k) m ≡ true → in_order m ≡ true → Built (row_kind k) operand last m
row_built k operand last [] f e g u o = absurd (omega (arith, leb-true 2 0 (and_true (eqb operand 0) (leb 2 0) e).1))
row_built k operand last (r ∷ []) f e g u o = absurd (omega (arith, leb-true 2 1 (and_true (eqb operand 0) (leb 2 1) e).1))
row_built k operand last (r ∷ q ∷ l) f e g u o =
    let m : List Node = r ∷ q ∷ l in
    let nots = unlike_not k m u in
    let (kind, none_of, set) = row_kind_lem k r q l in
    let (a, pos, n) = start (next_of m) in
    let (b, numbers) = order_sound m g o a pos n in
    record {
      part = link k r (q ∷ l);
      kind_is = sym kind;
      operand_is = eqb-true operand 0 (and_true (eqb operand 0) (leb 2 (length m)) e).0 ∙ sym none_of;
      inner_is = inner_link k r q l nots;
      last_is = f ∙ sym set;
      good = record {
        flat = spreads_link (flat_spreads k) r (q ∷ l) (nots.0, g.0.flat) (flats k (q ∷ l) nots.1 g.1);
        proper = proper_link k r (q ∷ l) (all_imp Good Proper (λ x h. h.proper) m g);
        from = a;
        to = b;
        some = pos;
        numbers = numbers_join k m a b numbers;
      };
    }
  where
    start : (n : ℕ) → (a : ℕ) × (1 ≤ a) × ((n ≡ 0) ⊎ (n ≡ a))
    start zero = (1, omega arith, inl refl)
    start (suc n) = (suc n, omega arith, inr refl)

    flats : (k : Kind) (l : List Node) → All (Not k) l → All Good l → All (Part k) l
    flats k [] n g = tt
    flats k (x ∷ l) n g = ((n.0, g.0.flat), flats k l n.1 g.1)

-- A quantifier on one item.
counts_formed : (last : List ℕ) → Formed last → Formed (get_or last 0 0 ∷ get_or last 1 0 ∷ get_or last 2 0 ∷ replicate 5 0)
counts_formed last f = record { eight = refl; words = go }
  where
    zeros : (n i : ℕ) → get_or (replicate n 0) i 0 < 2 ^ 32
    zeros zero i = omega arith
    zeros (suc n) zero = omega arith
    zeros (suc n) (suc i) = zeros n i

    go : (i : ℕ) → get_or (get_or last 0 0 ∷ get_or last 1 0 ∷ get_or last 2 0 ∷ replicate 5 0) i 0 < 2 ^ 32
    go zero = f.words 0
    go (suc zero) = f.words 1
    go (suc (suc zero)) = f.words 2
    go (suc (suc (suc i))) = zeros 5 i

extras : (n m : ℕ) → n ≤ count_limit → (eqb m no_maximum || (leb n m && leb m count_limit)) ≡ true
    → (e : Option ℕ) × Within n e × (maximum n e ≡ m)
extras n m h t = go (eqb m no_maximum) refl t
  where
    go : (b : Bool) → eqb m no_maximum ≡ b → (b || (leb n m && leb m count_limit)) ≡ true
        → (e : Option ℕ) × Within n e × (maximum n e ≡ m)
    go true e t = (none, h, sym (eqb-true m no_maximum e))
    go false e t =
        let (u, v) = and_true (leb n m) (leb m count_limit) t in
        let l = leb-true n m u in
        let k = leb-true m count_limit v in
        (some (m - n), omega arith, omega arith)

bits : (z : ℕ) → z ≤ 1 → bit_of (eqb z 1) ≡ z
bits zero h = refl
bits (suc zero) h = refl
bits (suc (suc z)) h = absurd (omega arith)

quantifier_built : (operand : ℕ) (last : List ℕ) (m : List Node) → Formed last
    → (eqb operand 0 && eqb (length m) 1 && counts_fit last) ≡ true → All Good m → Built quantifier_kind operand last m
unfolding inner
quantifier_built operand last m f e g =
    let (first, counts) = and_true (eqb operand 0 && eqb (length m) 1) (counts_fit last) e in
    let (r, same) = one_item m (eqb operand 0) first in
    let n : ℕ = get_or last 0 0 in
    let x : ℕ = get_or last 1 0 in
    let z : ℕ = get_or last 2 0 in
    let (c, All-same) = and_true (leb n count_limit && (eqb x no_maximum || (leb n x && leb x count_limit)) && leb z 1)
    (same_bytes last (n ∷ x ∷ z ∷ replicate 5 0)) counts in
    let (d, lazy) = and_true (leb n count_limit && (eqb x no_maximum || (leb n x && leb x count_limit))) (leb z 1) c in
    let (low, high) = and_true (leb n count_limit) (eqb x no_maximum || (leb n x && leb x count_limit)) d in
    let (extra, within, most) = extras n x (leb-true n count_limit low) high in
    let words : last ≡ n ∷ x ∷ z ∷ replicate 5 0 = same_words last (n ∷ x ∷ z ∷ replicate 5 0) f (counts_formed last f) All-same in
    let good-r : Good r = (subst (All Good) same g).0 in
    record {
      part = many n extra (eqb z 1) r;
      kind_is = refl;
      operand_is = eqb-true operand 0 (and_true (eqb operand 0) (eqb (length m) 1) first).0;
      inner_is = sym same;
      last_is = words ∙ ap₂ (λ (y w : ℕ). n ∷ y ∷ w ∷ replicate 5 0) (sym most) (sym (bits z (leb-true z 1 lazy)));
      good = record {
        flat = good-r.flat;
        proper = (within, good-r.proper);
        from = good-r.from;
        to = good-r.to;
        some = good-r.some;
        numbers = good-r.numbers;
      };
    }

-- Whatever the kind is.
pub builds : (kind operand : ℕ) (last : List ℕ) (m : List Node) → Formed last → Formed no_set → All Good m
    → shaped kind operand (length m) last ≡ true → unlike (barred kind) m ≡ true → in_order m ≡ true
    → opens kind operand (next_of m) ≡ true → Built kind operand last m
unfolding shaped
builds kind operand last m f blank g s u o p = by_set (eqb kind set_kind) refl s
  where
    B : ℕ → Type 0
    B k = Built k operand last m

    by_row : last ≡ no_set → (eqb kind alternation_kind && eqb operand 0 && leb 2 (length m)) ≡ true → B kind
    by_row w h =
        let (x, y) = and_true (eqb kind alternation_kind && eqb operand 0) (leb 2 (length m)) h in
        let (k, z) = and_true (eqb kind alternation_kind) (eqb operand 0) x in
        let e : kind ≡ alternation_kind = eqb-true kind alternation_kind k in
        subst B (sym e) (row_built alternation operand last m w (rw (z, y)) g (subst (λ (k : ℕ). unlike (barred k) m ≡ true) e u) o)

    by_sequence : last ≡ no_set → (b : Bool) → eqb kind sequence_kind ≡ b
        → cond b (eqb operand 0 && leb 2 (length m)) (eqb kind alternation_kind && eqb operand 0 && leb 2 (length m)) ≡ true → B kind
    by_sequence w true k h =
        let e : kind ≡ sequence_kind = eqb-true kind sequence_kind k in
        subst B (sym e) (row_built sequence operand last m w h g (subst (λ (k : ℕ). unlike (barred k) m ≡ true) e u) o)
    by_sequence w false k h = by_row w h

    by_group : last ≡ no_set → (b : Bool) → eqb kind group_kind ≡ b
        → cond b (leb 1 operand && eqb (length m) 1) (cond (eqb kind sequence_kind) (eqb operand 0 && leb 2 (length m))
        (eqb kind alternation_kind && eqb operand 0 && leb 2 (length m))) ≡ true → B kind
    by_group w true k h =
        let e : kind ≡ group_kind = eqb-true kind group_kind k in
        subst B (sym e) (group_built operand last m w h g o (subst (λ (k : ℕ). opens k operand (next_of m) ≡ true) e p))
    by_group w false k h = by_sequence w (eqb kind sequence_kind) refl h

    by_assertion : last ≡ no_set → (b : Bool) → eqb kind assertion_kind ≡ b
        → cond b (leb operand last_assertion && eqb (length m) 0) (cond (eqb kind group_kind) (leb 1 operand && eqb (length m) 1)
        (cond (eqb kind sequence_kind) (eqb operand 0 && leb 2 (length m))
        (eqb kind alternation_kind && eqb operand 0 && leb 2 (length m)))) ≡ true → B kind
    by_assertion w true k h = subst B (sym (eqb-true kind assertion_kind k)) (assertion_built operand last m w h)
    by_assertion w false k h = by_group w (eqb kind group_kind) refl h

    by_empty : last ≡ no_set → (b : Bool) → eqb kind empty_kind ≡ b
        → cond b (eqb operand 0 && eqb (length m) 0) (cond (eqb kind assertion_kind) (leb operand last_assertion && eqb (length m) 0)
        (cond (eqb kind group_kind) (leb 1 operand && eqb (length m) 1)
        (cond (eqb kind sequence_kind) (eqb operand 0 && leb 2 (length m))
        (eqb kind alternation_kind && eqb operand 0 && leb 2 (length m))))) ≡ true → B kind
    by_empty w true k h = subst B (sym (eqb-true kind empty_kind k)) (empty_built operand last m w h)
    by_empty w false k h = by_assertion w (eqb kind assertion_kind) refl h

    by_quantifier : (b : Bool) → eqb kind quantifier_kind ≡ b
        → cond b (eqb operand 0 && eqb (length m) 1 && counts_fit last) (same_bytes last no_set && bare kind operand (length m)) ≡ true
        → B kind
    by_quantifier true k h = subst B (sym (eqb-true kind quantifier_kind k)) (quantifier_built operand last m f h g)
    by_quantifier false k h =
        let (w, x) = and_true (same_bytes last no_set) (bare kind operand (length m)) h in
        by_empty (same_words last no_set f blank w) (eqb kind empty_kind) refl x

    by_set : (b : Bool) → eqb kind set_kind ≡ b
        → cond b (eqb operand 0 && eqb (length m) 0) (cond (eqb kind quantifier_kind) (eqb operand 0 && eqb (length m) 1 && counts_fit last)
        (same_bytes last no_set && bare kind operand (length m))) ≡ true
        → B kind
    by_set true k h = subst B (sym (eqb-true kind set_kind k)) (set_built operand last m f h)
    by_set false k h = by_quantifier (eqb kind quantifier_kind) refl h
