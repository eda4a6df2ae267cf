-- How deep a text's parentheses are, by the records of its tree: a part and its items.
use Rattle.std.specs.Prelude.{◌≡◌, refl, Bool, List, [], ◌∷◌, ℕ, ◌+◌, ◌≤◌, ◌<◌, max, eqb}
use Rattle.std.proofs.Common.{sym, ap, ap₂, ◌∙◌, zero-add, arith}
use Rattle.std.proofs.Math.Nat.{max-zero}
use Rattle.meaning.specs.Node.{Node, Node.empty, Node.bset, Node.assert, Node.group, Node.seq, Node.alt, Node.many}
use Rattle.meaning.specs.Flat.{Kind.sequence, Kind.alternation, parts, by_parts}
use Rattle.table.specs.Table.{assertion_kind, group_kind, sequence_kind}
use Rattle.table.specs.Table.{alternation_kind, quantifier_kind, bit_of}
use Rattle.table.specs.Laws.{inner, kind_of}
use Rattle.showing.specs.Text.{loose, depth}
use Rattle.showing.specs.Rows.{wraps, wraps_loose, wraps_bound}

-- The deepest of some items of a part of a kind.
unfoldable pub row_depth : ℕ → List Node → ℕ
row_depth parent [] = 0
row_depth parent (r ∷ l) = max (bit_of (wraps parent (kind_of r)) + depth r) (row_depth parent l)

-- A leaf has none.
pub depth_leaf : (r : Node) → kind_of r ≤ assertion_kind → depth r ≡ 0
unfolding depth
depth_leaf empty h = refl
depth_leaf (bset s) h = refl
depth_leaf (assert a) h = refl
depth_leaf (group k r) h = absurd (omega arith)
depth_leaf (seq r q) h = absurd (omega arith)
depth_leaf (alt r q) h = absurd (omega arith)
depth_leaf (many n e lazy r) h = absurd (omega arith)

one_deep : (parent : ℕ) (r : Node) → row_depth parent (r ∷ []) ≡ bit_of (wraps parent (kind_of r)) + depth r
unfolding row_depth
one_deep parent r = max-zero (bit_of (wraps parent (kind_of r)) + depth r)

more_items : (r q : Node) (l : List Node) → row_depth sequence_kind l ≡ bit_of (loose q) + depth q
    → row_depth sequence_kind (r ∷ l) ≡ depth (seq r q)
unfolding row_depth depth
more_items r q l e = ap₂ (λ (b : Bool) (d : ℕ). max (bit_of b + depth r) d) (wraps_loose r) e

sequence_deep : (q : Node) → row_depth sequence_kind (parts sequence q) ≡ bit_of (loose q) + depth q
sequence_deep = by_parts sequence (λ q l. row_depth sequence_kind l ≡ bit_of (loose q) + depth q)
    (λ r n. one_deep sequence_kind r ∙ ap (λ (b : Bool). bit_of b + depth r) (wraps_loose r))
    (λ r q l e. more_items r q l e ∙ sym (zero-add (depth (seq r q))))

more_alternatives : (r q : Node) (l : List Node) → row_depth alternation_kind l ≡ depth q
    → row_depth alternation_kind (r ∷ l) ≡ depth (alt r q)
unfolding row_depth depth
more_alternatives r q l e = ap₂ (λ (c d : ℕ). max c d) (zero-add (depth r)) e

alternation_deep : (q : Node) → row_depth alternation_kind (parts alternation q) ≡ depth q
alternation_deep = by_parts alternation (λ q l. row_depth alternation_kind l ≡ depth q)
    (λ r n. one_deep alternation_kind r ∙ zero-add (depth r)) more_alternatives

-- A part with items: one more if it is a group.
pub depth_rows : (r : Node) → assertion_kind < kind_of r
    → depth r ≡ bit_of (eqb (kind_of r) group_kind) + row_depth (kind_of r) (inner r)
unfolding inner depth
depth_rows empty h = absurd (omega arith)
depth_rows (bset s) h = absurd (omega arith)
depth_rows (assert a) h = absurd (omega arith)
depth_rows (group k r) h = omega (arith, one_deep group_kind r)
depth_rows (seq r q) h = sym (more_items r q (parts sequence q) (sequence_deep q)) ∙ sym (zero-add _)
depth_rows (alt r q) h = sym (more_alternatives r q (parts alternation q) (alternation_deep q)) ∙ sym (zero-add _)
depth_rows (many n e lazy r) h =
    ap (λ (b : Bool). bit_of b + depth r) (sym (wraps_bound r)) ∙ sym (one_deep quantifier_kind r) ∙ sym (zero-add _)
