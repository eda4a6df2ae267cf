-- A tree as pattern bytes, from the tree alone: one spelling, with parentheses only where the grammar needs them. Definitions
-- only.
use Rattle.std.specs.Prelude.{Bool, true, false, cond, List, [], ◌∷◌, ◌++◌, ℕ, suc, ◌+◌, max}
use Rattle.meaning.specs.Node.{Node, Node.empty, Node.bset, Node.assert, Node.group, Node.seq, Node.alt, Node.many}
use Rattle.table.specs.Table.{maximum, bit_of}
use Rattle.reading_atoms.specs.Chars.{question, open_paren, close_paren, bar, colon}
use Rattle.showing_spelling.specs.Spelling.{set_text, assertion_text, quantifier_text}

-- `(?:` and `)` around a text where they are needed.
abbrev pub around : Bool → List ℕ → List ℕ
around needed t = cond needed (open_paren ∷ question ∷ colon ∷ t ++ close_paren ∷ []) t

-- In a sequence they are needed around an empty part and an alternation,
abbrev pub loose : Node → Bool
loose empty = true
loose (bset s) = false
loose (assert a) = false
loose (group k r) = false
loose (seq r q) = false
loose (alt r q) = true
loose (many n e lazy r) = false

-- and under a quantifier around all but byte sets and groups.
abbrev pub bound : Node → Bool
bound empty = true
bound (bset s) = false
bound (assert a) = true
bound (group k r) = false
bound (seq r q) = true
bound (alt r q) = true
bound (many n e lazy r) = true

-- The text of a tree.
unfoldable pub text : Node → List ℕ
text empty = []
text (bset s) = set_text s
text (assert a) = assertion_text a
text (group k r) = open_paren ∷ text r ++ close_paren ∷ []
text (seq r q) = around (loose r) (text r) ++ around (loose q) (text q)
text (alt r q) = text r ++ bar ∷ text q
text (many n e lazy r) = around (bound r) (text r) ++ quantifier_text n (maximum n e) lazy

-- How deep its parentheses are.
unfoldable pub depth : Node → ℕ
depth empty = 0
depth (bset s) = 0
depth (assert a) = 0
depth (group k r) = suc (depth r)
depth (seq r q) = max (bit_of (loose r) + depth r) (bit_of (loose q) + depth q)
depth (alt r q) = max (depth r) (depth q)
depth (many n e lazy r) = bit_of (bound r) + depth r
