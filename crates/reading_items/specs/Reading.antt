-- How a pattern is read: the outline's "What a pattern may hold" and "When a pattern is turned away". Definitions only.
-- It goes left to right, so the smallest place wins. d is how many parentheses may still be opened, g how many groups were.
use Rattle.std.specs.Prelude.{Bool, false, cond, ◌||◌, List, [], ◌∷◌, ◌++◌, ℕ, zero, suc, ◌+◌, ◌-◌, ◌*◌, eqb, leb, ltb, length, replicate}
use Rattle.sets.specs.Sets.{set_of, is_dot, in_escape}
use Rattle.meaning.specs.Refusals as No
use Rattle.meaning.specs.Limits.{pattern_limit, table_words, depth_limit, group_limit}
use Rattle.meaning.specs.Node.{Node, Node.bset, Node.assert, Node.group, Node.many}
use Rattle.meaning.specs.Flat.{Kind.sequence, Kind.alternation, parts, join}
use Rattle.table.specs.Table.{record_words, record_count, records}
use Rattle.reading_atoms.specs.Chars.{byte_at, choose, caret, dollar, backslash, dot, question, open_paren, close_paren}
use Rattle.reading_atoms.specs.Chars.{open_bracket, close_bracket, close_brace, bar, colon, is_quantifier, ends_sequence}
use Rattle.reading_atoms.specs.Escapes.{Escape, Escape.byte, Escape.named, Escape.assertion, Escape.wrong, escape_at}
use Rattle.reading_atoms.specs.Classes.{Class, Class.holds, Class.broken, takes, class_at}
use Rattle.reading_atoms.specs.Braces.{Quantifier, Quantifier.once, Quantifier.repeated, Quantifier.miscounted, quantifier_at}

-- What was read: a part, the place behind it and the groups so far; or a refusal's number and place.
pub data Part : Type 0 where
  part : Node → ℕ → ℕ → Part
  turned : ℕ → ℕ → Part

abbrev pub and_then : Part → (Node → ℕ → ℕ → Part) → Part
and_then (part r at g) f = f r at g
and_then (turned number place) f = turned number place

-- The sets of a literal and of the dot.
abbrev pub literal_set : ℕ → List ℕ
literal_set b = set_of (takes b)

abbrev pub dot_set : List ℕ
dot_set = set_of is_dot

-- A part with its quantifier.
abbrev pub quantified : Quantifier → Node → ℕ → ℕ → Part
quantified once r at g = part r at g
quantified (repeated min extra lazy end) r at g = part (many min extra lazy r) end g
quantified (miscounted number place) r at g = turned number place

-- An atom that is a byte set, or an assertion, which is never directly quantified.
abbrev pub set_item : List ℕ → List ℕ → ℕ → ℕ → Part
set_item s set at g = quantified (quantifier_at s at) (bset set) at g

abbrev pub escape_item : List ℕ → ℕ → ℕ → Escape → Part
escape_item s at g (byte b end) = set_item s (literal_set b) end g
escape_item s at g (named k) = set_item s (set_of (in_escape k)) (at + 2) g
escape_item s at g (assertion a) = part (assert a) (at + 2) g
escape_item s at g (wrong number) = turned number at

abbrev pub class_part : List ℕ → ℕ → Class → Part
class_part s g (holds set end) = set_item s set end g
class_part s g (broken number place) = turned number place

-- What a `(` opens: a group; `(?:`; or nothing, refused as 5 for `(?=` `(?!` `(?<` and else as 6 at the `?`.
pub data Opening : Type 0 where
  capturing : Opening
  plain : Opening
  neither : ℕ → ℕ → Opening

abbrev pub is_look : ℕ → Bool
is_look b = eqb b 0x3D || eqb b 0x21 || eqb b 0x3C

unfoldable pub opening_at : List ℕ → ℕ → Opening
opening_at s at =
    cond (eqb (byte_at s (at + 1)) question)
    (cond (eqb (byte_at s (at + 2)) colon) plain (cond (is_look (byte_at s (at + 2))) (neither No.left_out at)
    (neither No.no_atom (at + 1))))
    capturing

-- At the deepest level nothing opens: 13 at the `(`, but 5 where its number is smaller.
abbrev pub too_deep : ℕ → Opening → Part
too_deep at capturing = turned No.too_deep at
too_deep at plain = turned No.too_deep at
too_deep at (neither number place) = cond (eqb place at) (turned number at) (turned No.too_deep at)

-- Behind what a `(` opened: its `)` and its quantifier, or 11 at the end.
abbrev pub closed : List ℕ → Node → ℕ → ℕ → Part
closed s r at g =
    cond (eqb (byte_at s at) close_paren) (quantified (quantifier_at s (at + 1)) r (at + 1) g) (turned No.unmatched at)

-- What a `(` opens, where `inside` reads alternatives: 14 for a group above the limit.
abbrev pub opened : List ℕ → (ℕ → ℕ → Part) → ℕ → ℕ → Opening → Part
opened s inside at g capturing =
    choose (leb group_limit g) (λ _. turned No.many_groups at)
    (λ _. and_then (inside (at + 1) (g + 1)) (λ r end g'. closed s (group (g + 1) r) end g'))
opened s inside at g plain = and_then (inside (at + 3) g) (λ r end g'. closed s r end g')
opened s inside at g (neither number place) = turned number place

-- An item: an assertion; an atom with its quantifier; 6 for a quantifier with no atom; 12 for a stray ] or }. `paren` reads
-- what a `(` opens.
unfoldable pub item_by : (Opening → Part) → List ℕ → ℕ → ℕ → Part
item_by paren s at g =
    let b : ℕ = byte_at s at in
    choose (eqb b open_paren) (λ _. paren (opening_at s at)) (λ _.
    choose (eqb b open_bracket) (λ _. class_part s g (class_at s at)) (λ _.
    choose (eqb b backslash) (λ _. escape_item s at g (escape_at false s at)) (λ _.
    choose (eqb b dot) (λ _. set_item s dot_set (at + 1) g) (λ _.
    choose (eqb b caret) (λ _. part (assert 0) (at + 1) g) (λ _.
    choose (eqb b dollar) (λ _. part (assert 1) (at + 1) g) (λ _.
    choose (is_quantifier b) (λ _. turned No.no_atom at) (λ _.
    choose (eqb b close_bracket || eqb b close_brace) (λ _. turned No.stray at) (λ _.
    set_item s (literal_set b) (at + 1) g))))))))

-- Items up to the end of a sequence; a sequence in a sequence gives its items.
unfoldable pub sequence_go : List ℕ → (ℕ → ℕ → Part) → ℕ → List Node → ℕ → ℕ → Part
sequence_go s item zero items at g = turned 0 at
sequence_go s item (suc fuel) items at g =
    choose (ends_sequence (byte_at s at)) (λ _. part (join sequence items) at g) (λ _.
    and_then (item at g) (λ r at' g'. sequence_go s item fuel (items ++ parts sequence r) at' g'))

-- Alternatives with | between them; an alternation as an alternative gives its own.
unfoldable pub alternatives_go : List ℕ → (ℕ → ℕ → Part) → ℕ → List Node → ℕ → ℕ → Part
alternatives_go s one zero alternatives at g = turned 0 at
alternatives_go s one (suc fuel) alternatives at g =
    and_then (one at g) (λ r at' g'.
    choose (eqb (byte_at s at') bar)
    (λ _. alternatives_go s one fuel (alternatives ++ parts alternation r) (at' + 1) g')
    (λ _. part (join alternation (alternatives ++ parts alternation r)) at' g'))

-- The readers of items, sequences and alternatives, with d parentheses still allowed.
abbrev pub alternatives_by : (ℕ → ℕ → Part) → List ℕ → ℕ → ℕ → Part
alternatives_by item s at g =
    alternatives_go s (λ at' g'. sequence_go s item (suc (length s)) [] at' g') (suc (length s)) [] at g

unfoldable pub item_at : ℕ → List ℕ → ℕ → ℕ → Part
item_at zero s at g = item_by (too_deep at) s at g
item_at (suc d) s at g = item_by (opened s (alternatives_by (item_at d s) s) at g) s at g

abbrev pub sequence_at : ℕ → List ℕ → ℕ → ℕ → Part
sequence_at d s at g = sequence_go s (item_at d s) (suc (length s)) [] at g

abbrev pub alternatives_at : ℕ → List ℕ → ℕ → ℕ → Part
alternatives_at d s at g = alternatives_by (item_at d s) s at g

-- A reading: a pattern and its number of groups, or a refusal's number and place.
pub data Reading : Type 0 where
  pattern : Node → ℕ → Reading
  refused : ℕ → ℕ → Reading

-- A whole pattern ends at its end; what is left begins with an unmatched `)`.
abbrev pub whole : List ℕ → Part → Reading
whole s (part r at g) = cond (ltb at (length s)) (refused No.unmatched at) (pattern r g)
whole s (turned number place) = refused number place

-- The place of the first byte above 7F, or the pattern's length.
abbrev pub high_go : List ℕ → ℕ → ℕ
high_go [] at = at
high_go (b ∷ s) at = cond (ltb 0x7F b) at (high_go s (at + 1))

abbrev pub first_high : List ℕ → ℕ
first_high s = high_go s 0

-- The reading of a pattern with a table of so many words: checks 1 to 3 first, in order.
unfoldable pub reading : List ℕ → ℕ → Reading
reading s table =
    choose (ltb pattern_limit (length s)) (λ _. refused No.long_pattern 0) (λ _.
    choose (ltb table (table_words (length s))) (λ _. refused No.small_table 0) (λ _.
    choose (ltb (first_high s) (length s)) (λ _. refused No.high_byte (first_high s)) (λ _.
    whole s (alternatives_at depth_limit s 0 0))))

-- The table after a reading: the records and zeros behind them; unchanged for 1 to 3, all zero for any other refusal.
abbrev pub table_by : Reading → List ℕ → List ℕ
table_by (pattern r g) table = records r ++ replicate (length table - record_words * record_count r) 0
table_by (refused number place) table = cond (leb number No.high_byte) table (replicate (length table) 0)

unfoldable pub table_after : List ℕ → List ℕ → List ℕ
table_after s table = table_by (reading s (length table)) table
