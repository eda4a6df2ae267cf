-- What is tested of a record's own words, by its kind; a part that they are of, and that every part passes.
use Rattle.std.specs.Prelude.{◌≡◌, refl, Bool, true, false, cond, not, ◌||◌, ◌&&◌, List, [], ◌∷◌, ℕ, suc, ◌+◌, ◌-◌, ◌≤◌, eqb, leb, length, get_or, replicate}
use Rattle.std.proofs.Common.{arith, le-leb}
use Rattle.std.proofs.Math.Bool.{or-true}
use Rattle.std.proofs.Math.Option.{none, some}
use Rattle.sets.specs.Sets.{same_bytes}
use Rattle.sets.specs.Laws.{same_refl}
use Rattle.meaning.specs.Limits.{count_limit, no_maximum, last_assertion}
use Rattle.meaning.specs.Node.{Node, Node.empty, Node.bset, Node.assert, Node.group, Node.seq, Node.alt, Node.many, Proper}
use Rattle.meaning.specs.Flat.{Kind, Kind.sequence, Kind.alternation, parts, by_parts}
use Rattle.table.specs.Table.{empty_kind, set_kind, assertion_kind, group_kind, sequence_kind, alternation_kind, quantifier_kind, no_set}
use Rattle.table.specs.Table.{bit_of}
use Rattle.table.specs.Laws.{inner, kind_of, operand_of, last_of}

-- The last words of a quantifier: minimum, maximum and laziness within the limits, and zeros.
abbrev pub counts_fit : List ℕ → Bool
counts_fit last =
    leb (get_or last 0 0) count_limit
    && (eqb (get_or last 1 0) no_maximum || (leb (get_or last 0 0) (get_or last 1 0) && leb (get_or last 1 0) count_limit))
    && leb (get_or last 2 0) 1 && same_bytes last (get_or last 0 0 ∷ get_or last 1 0 ∷ get_or last 2 0 ∷ replicate 5 0)

-- The operand and the number of items of a record with neither set nor counts.
abbrev pub bare : ℕ → ℕ → ℕ → Bool
bare kind operand items =
    cond (eqb kind empty_kind) (eqb operand 0 && eqb items 0)
    (cond (eqb kind assertion_kind) (leb operand last_assertion && eqb items 0)
    (cond (eqb kind group_kind) (leb 1 operand && eqb items 1)
    (cond (eqb kind sequence_kind) (eqb operand 0 && leb 2 items)
    (eqb kind alternation_kind && eqb operand 0 && leb 2 items))))

-- A record's kind, operand, number of items and last words.
unfoldable pub shaped : ℕ → ℕ → ℕ → List ℕ → Bool
shaped kind operand items last =
    cond (eqb kind set_kind) (eqb operand 0 && eqb items 0)
    (cond (eqb kind quantifier_kind) (eqb operand 0 && eqb items 1 && counts_fit last)
    (same_bytes last no_set && bare kind operand items))

-- Items of a sequence or an alternation are not of its own kind; 0 where any may be.
abbrev pub barred : ℕ → ℕ
barred kind = cond (eqb kind sequence_kind || eqb kind alternation_kind) kind 0

abbrev pub unlike : ℕ → List Node → Bool
unlike kind [] = true
unlike kind (r ∷ l) = not (eqb (kind_of r) kind) && unlike kind l

-- A group's number stands right before the lowest of those inside it.
abbrev pub opens : ℕ → ℕ → ℕ → Bool
opens kind operand next = not (eqb kind group_kind) || (eqb next 0 || eqb (next - 1) operand)

some_parts : (k : Kind) (r : Node) → 1 ≤ length (parts k r)
some_parts k = by_parts k (λ r l. 1 ≤ length l) (λ r n. omega arith) (λ r q l h. omega arith)

-- Every part passes.
pub shape_of : (q : Node) → Proper q → shaped (kind_of q) (operand_of q) (length (inner q)) (last_of q) ≡ true
unfolding shaped inner
shape_of empty p = rw (same_refl no_set)
shape_of (bset s) p = refl
shape_of (assert a) p = rw (same_refl no_set, le-leb a last_assertion p)
shape_of (group k r) p = rw (same_refl no_set, le-leb 1 k p.0)
shape_of (seq r q) p = rw (same_refl no_set, le-leb 2 (suc (length (parts sequence q))) (omega (arith, some_parts sequence q)))
shape_of (alt r q) p = rw (same_refl no_set, le-leb 2 (suc (length (parts alternation q))) (omega (arith, some_parts alternation q)))
shape_of (many n none lazy r) p =
    rw (le-leb n count_limit p.0, le-leb (bit_of lazy) 1 (bit lazy), same_refl (n ∷ no_maximum ∷ bit_of lazy ∷ replicate 5 0))
  where
    bit : (b : Bool) → bit_of b ≤ 1
    bit true = omega arith
    bit false = omega arith
shape_of (many n (some e) lazy r) p =
    rw (
      le-leb n count_limit (omega (arith, p.0)),
      le-leb n (n + e) (omega arith),
      le-leb (n + e) count_limit p.0,
      or-true,
      le-leb (bit_of lazy) 1 (bit lazy),
      same_refl (n ∷ (n + e) ∷ bit_of lazy ∷ replicate 5 0),
    )
  where
    bit : (b : Bool) → bit_of b ≤ 1
    bit true = omega arith
    bit false = omega arith
