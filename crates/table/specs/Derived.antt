-- The derived words of a record, by those of its parts: how many records a part has, its size in rows, its lowest and highest
-- group.
use Rattle.std.specs.Prelude.{◌≡◌, refl, Bool, List, [], ◌∷◌, ℕ, zero, suc, ◌+◌, ◌-◌, ◌*◌, ◌≤◌, ◌<◌, min, max, length, get_or, eqb, cond}
use Rattle.std.proofs.Common.{sym, ap, ◌∙◌, mul-le-mul_right, not-suc-le-zero, ne_eqb, arith}
use Rattle.std.proofs.Math.Option.{Option, none, some}
use Rattle.std.proofs.Math.Decide.{dec_le}
use Rattle.meaning.specs.Limits.{pattern_limit, no_maximum}
use Rattle.meaning.specs.Node.{Node, Node.empty, Node.bset, Node.assert, Node.group, Node.seq, Node.alt, Node.many, lower, lo}
use Rattle.meaning.specs.Node.{hi, Within, Proper}
use Rattle.meaning.specs.Flat.{Kind, Kind.sequence, Kind.alternation, parts, link, join_parts}
use Rattle.machine.specs.Layout.{size_of}
use Rattle.table.specs.Table.{records_word, size_word, lowest_word, highest_word, empty_kind, group_kind, alternation_kind}
use Rattle.table.specs.Table.{quantifier_kind, record_words, size_cap, maximum, records_in, record_count}
use Rattle.table.specs.Laws.{inner, row_count, kind_of, operand_of, last_of, count_all}
use Rattle.table.specs.declared.Derived.{Derived}

-- The most records that a table is asked to hold: those that the longest pattern has room for.
abbrev pub record_limit : ℕ
record_limit = 2 * (pattern_limit + 1)

-- A size held at the cap.
abbrev pub capped : ℕ → ℕ
capped n = min n size_cap

abbrev pub make : ℕ → ℕ → ℕ → ℕ → Derived
make n s l h = record { records = n; size = s; lowest = l; highest = h }

-- The derived words of a pattern.
abbrev pub derived_of : Node → Derived
derived_of r = make (record_count r) (capped (size_of r)) (lo r) (hi r)

-- The derived words of the record that stands before record number `top`.
abbrev pub root_of : List ℕ → ℕ → Derived
root_of table top =
    let base : ℕ = record_words * (top - 1) in
    record {
      records = get_or table (base + records_word) 0;
      size = get_or table (base + size_word) 0;
      lowest = get_or table (base + lowest_word) 0;
      highest = get_or table (base + highest_word) 0;
    }

-- Of a part with no parts inside it, by its kind.
abbrev pub leaf_of : ℕ → Derived
leaf_of kind = make 1 (cond (eqb kind empty_kind) 0 1) 1 0

-- Of two neighbours together.
abbrev pub beside_of : Derived → Derived → Derived
beside_of a b = record {
  records = a.records + b.records;
  size = capped (a.size + b.size);
  lowest = lower a.highest a.lowest b.lowest;
  highest = max a.highest b.highest;
}

-- Of a part and those behind it, and so of a list of parts that is not empty.
abbrev pub along_from : Node → List Node → Derived
along_from r [] = derived_of r
along_from r (q ∷ l) = beside_of (derived_of r) (along_from q l)

abbrev pub along_of : List Node → Derived
along_of [] = derived_of empty
along_of (r ∷ l) = along_from r l

-- The size of a quantifier over a part: min times its rows and a Reset, and then the turns that can be left out.
abbrev pub turns_of : ℕ → ℕ → ℕ → ℕ
turns_of size min max = min * (size + 1) + cond (eqb max no_maximum) (size + 4) ((max - min) * (size + 4))

-- Of a pattern, by its kind, operand, items and counts, and by the derived words of its parts together.
abbrev pub closed_size : ℕ → ℕ → ℕ → ℕ → ℕ → ℕ
closed_size kind items least most size =
    capped (cond (eqb kind group_kind) (size + 2)
    (cond (eqb kind alternation_kind) (size + 2 * (items - 1))
    (cond (eqb kind quantifier_kind) (turns_of size least most) size)))

abbrev pub closed_of : ℕ → ℕ → ℕ → ℕ → ℕ → Derived → Derived
closed_of kind operand items least most d = record {
  records = d.records + 1;
  size = closed_size kind items least most d.size;
  lowest = cond (eqb kind group_kind) operand d.lowest;
  highest = cond (eqb kind group_kind) (max operand d.highest) d.highest;
}

pub lower_some : (h a b : ℕ) → (h ≡ 0 → ⊥) → a ≡ lower h a b
lower_some zero a b f = absurd (f refl)
lower_some (suc h) a b f = refl

-- The derived words of parts in a series are those of the pattern that they make, but for an alternation's own rows.
pub along_count : (r : Node) (l : List Node) → (along_from r l).records ≡ count_all (r ∷ l)
along_count r [] = omega arith
along_count r (q ∷ l) = omega (arith, along_count q l)

along_lowest : (k : Kind) (r : Node) (l : List Node) → (along_from r l).lowest ≡ lo (link k r l)
unfolding lo
along_lowest k r [] = refl
along_lowest sequence r (q ∷ l) = ap (lower (hi r) (lo r)) (along_lowest sequence q l)
along_lowest alternation r (q ∷ l) = ap (lower (hi r) (lo r)) (along_lowest alternation q l)

along_highest : (k : Kind) (r : Node) (l : List Node) → (along_from r l).highest ≡ hi (link k r l)
unfolding hi
along_highest k r [] = refl
along_highest sequence r (q ∷ l) = ap (max (hi r)) (along_highest sequence q l)
along_highest alternation r (q ∷ l) = ap (max (hi r)) (along_highest alternation q l)

along_items : (r : Node) (l : List Node) → (along_from r l).size ≡ capped (size_of (link sequence r l))
unfolding size_of
along_items r [] = refl
along_items r (q ∷ l) = omega (arith, along_items q l)

along_alternatives : (r : Node) (l : List Node)
    → capped ((along_from r l).size + 2 * length l) ≡ capped (size_of (link alternation r l))
unfolding size_of
along_alternatives r [] = omega arith
along_alternatives r (q ∷ l) = omega (arith, along_alternatives q l)

-- A quantifier's size held at the cap is that of its part's size held at the cap.
abbrev rows_of_turns : ℕ → ℕ → ℕ → ℕ
rows_of_turns n e size = n * (size + 1) + e * (size + 4)

-- A turn of a part at the cap is at the cap.
turn_above : (n s d : ℕ) → size_cap < s → size_cap ≤ suc n * (s + d)
turn_above n s d h = let one : 1 ≤ suc n = omega arith in omega (arith, mul-le-mul_right (s + d) one)

turns_above : (n e s : ℕ) → size_cap < s → capped (rows_of_turns n e size_cap) ≡ capped (rows_of_turns n e s)
turns_above zero zero s h = omega arith
turns_above (suc n) e s h = omega (arith, turn_above n s 1 h)
turns_above zero (suc e) s h = omega (arith, turn_above e s 4 h)

turns_capped : (n e s : ℕ) → capped (rows_of_turns n e (capped s)) ≡ capped (rows_of_turns n e s)
turns_capped n e s = go (dec_le s size_cap)
  where
    go : Dec (s ≤ size_cap) → capped (rows_of_turns n e (capped s)) ≡ capped (rows_of_turns n e s)
    go (yes h) = let same : capped s ≡ s = omega arith in rw same
    go (no h) = let same : capped s ≡ size_cap = omega arith in rw same (turns_above n e s (omega arith))

quantifier_size : (n : ℕ) (e : Option ℕ) (lazy : Bool) (r : Node) → Within n e
    → capped (size_of (many n e lazy r)) ≡ capped (turns_of (capped (size_of r)) n (maximum n e))
unfolding size_of
quantifier_size n none lazy r h = omega (arith, turns_capped n 1 (size_of r))
quantifier_size n (some e) lazy r h =
    let extra : n + e - n ≡ e = omega arith in
    rw (ne_eqb (n + e) no_maximum (λ q. omega arith), extra) (sym (turns_capped n e (size_of r)))

pub make_same : {n n' s s' l l' h h' : ℕ} → n ≡ n' → s ≡ s' → l ≡ l' → h ≡ h' → make n s l h ≡ make n' s' l' h'
make_same a b c d = cc

-- The derived words of a pattern with parts are closed from those of its parts together.
pub closed : (r : Node) → 0 < length (inner r) → Proper r
    → derived_of r ≡ closed_of (kind_of r) (operand_of r) (length (inner r)) (get_or (last_of r) 0 0) (get_or (last_of r) 1 0)
    (along_of (inner r))
unfolding inner lo hi size_of parts records_in
closed empty h m = absurd (not-suc-le-zero h)
closed (bset s) h m = absurd (not-suc-le-zero h)
closed (assert a) h m = absurd (not-suc-le-zero h)
closed (group k r) h m = make_same refl (omega arith) refl refl
closed (seq r q) h m =
    let l : List Node = parts sequence q in
    let whole : link sequence r l ≡ seq r q = join_parts sequence (seq r q) in
    make_same (rw (row_count sequence q, along_count r l)) (omega (arith, along_items r l, ap size_of whole))
    (sym (along_lowest sequence r l ∙ ap lo whole)) (sym (along_highest sequence r l ∙ ap hi whole))
closed (alt r q) h m =
    let l : List Node = parts alternation q in
    let whole : link alternation r l ≡ alt r q = join_parts alternation (alt r q) in
    make_same (rw (row_count alternation q, along_count r l)) (omega (arith, along_alternatives r l, ap size_of whole))
    (sym (along_lowest alternation r l ∙ ap lo whole)) (sym (along_highest alternation r l ∙ ap hi whole))
closed (many n e lazy r) h p = make_same refl (quantifier_size n e lazy r p.0) refl refl
