-- The text of a tree by its records: what opens a part, its items one after the other, and what closes it.
use Rattle.std.specs.Prelude.{◌≡◌, refl, Bool, true, false, cond, not, ◌||◌, ◌&&◌, List, [], ◌∷◌, ◌++◌, ℕ, ◌≤◌, ◌<◌, eqb, length, get_or}
use Rattle.std.proofs.Common.{sym, ap, ap₂, ◌∙◌, append-nil, arith}
use Rattle.meaning.specs.Node.{Node, Node.empty, Node.bset, Node.assert, Node.group, Node.seq, Node.alt, Node.many}
use Rattle.meaning.specs.Flat.{Kind.sequence, Kind.alternation, parts, by_parts}
use Rattle.table.specs.Table.{empty_kind, set_kind, assertion_kind, group_kind, sequence_kind, alternation_kind, quantifier_kind, maximum, bit_of}
use Rattle.table.specs.Laws.{inner, kind_of, operand_of, last_of}
use Rattle.reading_atoms.specs.Chars.{open_paren, close_paren, bar}
use Rattle.showing_spelling.specs.Spelling.{set_text, assertion_text, quantifier_text}
use Rattle.showing.specs.Text.{around, loose, bound, text}

-- Whether an item stands in `(?:` and `)`, by the kind of the part and its own.
abbrev pub wraps : ℕ → ℕ → Bool
wraps parent item =
    cond (eqb parent sequence_kind) (eqb item empty_kind || eqb item alternation_kind)
    (cond (eqb parent quantifier_kind) (not (eqb item set_kind || eqb item group_kind)) false)

-- An item, and a row of items, with bars between alternatives.
abbrev pub is_none : List Node → Bool
is_none [] = true
is_none (r ∷ l) = false

abbrev pub item_text : ℕ → Node → List ℕ
item_text parent r = around (wraps parent (kind_of r)) (text r)

abbrev pub bar_text : ℕ → Bool → List ℕ
bar_text parent last = cond (eqb parent alternation_kind && not last) (bar ∷ []) []

unfoldable pub row_text : ℕ → List Node → List ℕ
row_text parent [] = []
row_text parent (r ∷ l) = item_text parent r ++ (bar_text parent (is_none l) ++ row_text parent l)

-- What opens and what closes a part with items, by its kind and last words; and a part with none.
abbrev pub open_text : ℕ → List ℕ
open_text kind = cond (eqb kind group_kind) (open_paren ∷ []) []

abbrev pub close_text : ℕ → List ℕ → List ℕ
close_text kind last =
    cond (eqb kind group_kind) (close_paren ∷ [])
    (cond (eqb kind quantifier_kind) (quantifier_text (get_or last 0 0) (get_or last 1 0) (eqb (get_or last 2 0) 1)) [])

abbrev pub leaf_text : ℕ → ℕ → List ℕ → List ℕ
leaf_text kind operand last =
    cond (eqb kind set_kind) (set_text last) (cond (eqb kind assertion_kind) (assertion_text operand) [])

-- A leaf.
pub text_leaf : (r : Node) → kind_of r ≤ assertion_kind → text r ≡ leaf_text (kind_of r) (operand_of r) (last_of r)
unfolding text
text_leaf empty h = refl
text_leaf (bset s) h = refl
text_leaf (assert a) h = refl
text_leaf (group k r) h = absurd (omega arith)
text_leaf (seq r q) h = absurd (omega arith)
text_leaf (alt r q) h = absurd (omega arith)
text_leaf (many n e lazy r) h = absurd (omega arith)

-- What is wrapped is what needs it.
pub wraps_loose : (r : Node) → wraps sequence_kind (kind_of r) ≡ loose r
wraps_loose empty = refl
wraps_loose (bset s) = refl
wraps_loose (assert a) = refl
wraps_loose (group k r) = refl
wraps_loose (seq r q) = refl
wraps_loose (alt r q) = refl
wraps_loose (many n e lazy r) = refl

pub wraps_bound : (r : Node) → wraps quantifier_kind (kind_of r) ≡ bound r
wraps_bound empty = refl
wraps_bound (bset s) = refl
wraps_bound (assert a) = refl
wraps_bound (group k r) = refl
wraps_bound (seq r q) = refl
wraps_bound (alt r q) = refl
wraps_bound (many n e lazy r) = refl

-- A row of one item, and the rows of a sequence and an alternation.
one_row : (parent : ℕ) (r : Node) → row_text parent (r ∷ []) ≡ item_text parent r
unfolding row_text
one_row parent r = go (eqb parent alternation_kind)
  where
    go : (b : Bool) → item_text parent r ++ (cond (b && false) (bar ∷ []) [] ++ []) ≡ item_text parent r
    go true = append-nil (item_text parent r)
    go false = append-nil (item_text parent r)

more_items : (r q : Node) (l : List Node) → row_text sequence_kind l ≡ around (loose q) (text q)
    → row_text sequence_kind (r ∷ l) ≡ text (seq r q)
unfolding row_text text
more_items r q l e = ap₂ (λ (b : Bool) (t : List ℕ). around b (text r) ++ t) (wraps_loose r) e

sequence_row : (q : Node) → row_text sequence_kind (parts sequence q) ≡ around (loose q) (text q)
sequence_row = by_parts sequence (λ q l. row_text sequence_kind l ≡ around (loose q) (text q))
    (λ r n. one_row sequence_kind r ∙ ap (λ (b : Bool). around b (text r)) (wraps_loose r)) more_items

more_alternatives : (r q : Node) (l : List Node) → 1 ≤ length l → row_text alternation_kind l ≡ text q
    → row_text alternation_kind (r ∷ l) ≡ text (alt r q)
unfolding row_text text
more_alternatives r q [] h e = absurd (omega arith)
more_alternatives r q (x ∷ l) h e = ap (λ (t : List ℕ). text r ++ bar ∷ t) e

alternation_row : (q : Node) → (1 ≤ length (parts alternation q)) × (row_text alternation_kind (parts alternation q) ≡ text q)
alternation_row = by_parts alternation (λ q l. (1 ≤ length l) × (row_text alternation_kind l ≡ text q))
    (λ r n. (omega arith, one_row alternation_kind r))
    (λ r q l h. (omega arith, more_alternatives r q l h.0 h.1))

-- A part with items.
pub text_rows : (r : Node) → assertion_kind < kind_of r
    → text r ≡ open_text (kind_of r) ++ (row_text (kind_of r) (inner r) ++ close_text (kind_of r) (last_of r))
unfolding inner text
text_rows empty h = absurd (omega arith)
text_rows (bset s) h = absurd (omega arith)
text_rows (assert a) h = absurd (omega arith)
text_rows (group k r) h = ap (λ (t : List ℕ). open_paren ∷ t ++ close_paren ∷ []) (sym (one_row group_kind r))
text_rows (seq r q) h = sym (more_items r q (parts sequence q) (sequence_row q)) ∙ sym (append-nil _)
text_rows (alt r q) h =
    let (some, rest) = alternation_row q in sym (more_alternatives r q (parts alternation q) some rest) ∙ sym (append-nil _)
text_rows (many n e lazy r) h =
    ap₂ (λ (t : List ℕ) (b : Bool). t ++ quantifier_text n (maximum n e) b)
    (ap (λ (b : Bool). around b (text r)) (sym (wraps_bound r)) ∙ sym (one_row quantifier_kind r)) (laziness lazy)
  where
    laziness : (b : Bool) → b ≡ eqb (bit_of b) 1
    laziness true = refl
    laziness false = refl
