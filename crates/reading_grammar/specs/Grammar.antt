-- The grammar, second part: alternatives hold sequences, sequences hold atoms, and an atom may hold alternatives again. `d` is
-- how many parentheses may still be opened (13), groups are numbered by their opening parenthesis from g on, up to the limit
-- (14); what is in a sequence, or an alternation, is flat. A rule for each line, no parser. Definitions only.
use Rattle.std.specs.Prelude.{◌≡◌, Bool, false, ◌||◌, List, [], ◌∷◌, ◌++◌, ℕ, suc, ◌+◌, ◌≤◌, ◌<◌, eqb, length, get_or}
use Rattle.std.proofs.Math.Option.{Option}
use Rattle.sets.specs.Sets.{set_of, in_escape}
use Rattle.meaning.specs.Limits.{pattern_limit, depth_limit, group_limit}
use Rattle.meaning.specs.Node.{Node, Node.bset, Node.assert, Node.group, Node.many}
use Rattle.meaning.specs.Flat.{Kind, parts, join}
use Rattle.reading_atoms.specs.Chars.{no_byte, byte_at, caret, dollar, backslash, dot, question, open_paren, close_paren}
use Rattle.reading_atoms.specs.Chars.{open_bracket}
use Rattle.reading_atoms.specs.Chars.{close_bracket, close_brace, bar, colon, is_quantifier}
use Rattle.reading_items.specs.Reading.{literal_set, dot_set}
use Rattle.reading_grammar.specs.Atoms.{Is, Quantified, EscapedByte, EscapedSet, Class}

-- A literal: a byte that is none of ^ $ \ . * + ? ( ) [ ] { } |
unfoldable pub special : ℕ → Bool
special b = eqb b caret || eqb b dollar || eqb b backslash || eqb b dot || is_quantifier b || eqb b open_paren || eqb b close_paren
    || eqb b open_bracket || eqb b close_bracket || eqb b close_brace || eqb b bar

-- Assertions ^ $ \b \B by their number.
pub data Assertion (s : List ℕ) : ℕ → ℕ → ℕ → Type 0 where
  begins : {a : ℕ} → Is s a caret → Assertion s a (a + 1) 0
  ends : {a : ℕ} → Is s a dollar → Assertion s a (a + 1) 1
  edge : {a : ℕ} → Is s a backslash → Is s (a + 1) 0x62 → Assertion s a (a + 2) 2
  inner : {a : ℕ} → Is s a backslash → Is s (a + 1) 0x42 → Assertion s a (a + 2) 3

-- Atoms that are byte sets.
pub data SetAtom (s : List ℕ) : ℕ → ℕ → List ℕ → Type 0 where
  literal : {a b : ℕ} → Is s a b → (b ≡ no_byte → ⊥) → special b ≡ false → SetAtom s a (a + 1) (literal_set b)
  dots : {a : ℕ} → Is s a dot → SetAtom s a (a + 1) dot_set
  escape : {a c b : ℕ} → EscapedByte s false a c b → SetAtom s a c (literal_set b)
  named : {a k : ℕ} → EscapedSet s a k → SetAtom s a (a + 2) (set_of (in_escape k))
  class : {a b : ℕ} {set : List ℕ} → Class s a b set → SetAtom s a b set

-- What a rule derives: alternatives, a sequence, an item or an atom.
pub data Sort : Type 0 where
  alternatives sequence item atom : Sort

-- The rules. What is derived from the bytes from one place up to another is a list of alternatives, a list of items, or one
-- part.
pub data Rule (s : List ℕ) : Sort → ℕ → ℕ → ℕ → ℕ → ℕ → List Node → Type 0 where
  -- Alternatives with | between them; an alternation as an alternative gives its own.
  first : {d a b g h : ℕ} {l : List Node} → Rule s sequence d a b g h l
      → Rule s alternatives d a b g h (parts Kind.alternation (join Kind.sequence l))
  next : {d a b c g h i : ℕ} {l m : List Node} → Rule s alternatives d a b g h l → Is s b bar → Rule s sequence d (b + 1) c h i m
      → Rule s alternatives d a c g i (l ++ parts Kind.alternation (join Kind.sequence m))
  -- Items one after the other; a sequence as an item gives its own.
  nothing : {d a g : ℕ} → Rule s sequence d a a g g []
  more : {d a b c g h i : ℕ} {l : List Node} {r : Node} → Rule s sequence d a b g h l → Rule s item d b c h i (r ∷ [])
      → Rule s sequence d a c g i (l ++ parts Kind.sequence r)
  -- An assertion, never directly quantified; an atom; an atom with its quantifier.
  assertion : {d a b g k : ℕ} → Assertion s a b k → Rule s item d a b g g (assert k ∷ [])
  once : {d a b g h : ℕ} {r : Node} → Rule s atom d a b g h (r ∷ []) → is_quantifier (byte_at s b) ≡ false
      → Rule s item d a b g h (r ∷ [])
  repeated : {d a b c g h n : ℕ} {e : Option ℕ} {lazy : Bool} {r : Node} → Rule s atom d a b g h (r ∷ [])
      → Quantified s b c n e lazy
      → Rule s item d a c g h (many n e lazy r ∷ [])
  -- A byte set; `(r)`, numbered by its opening parenthesis; `(?:r)`, which leaves no node.
  bytes : {d a b g : ℕ} {set : List ℕ} → SetAtom s a b set → Rule s atom d a b g g (bset set ∷ [])
  grouped : {d a b g h : ℕ} {l : List Node} → Is s a open_paren → (Is s (a + 1) question → ⊥) → g < group_limit
      → Rule s alternatives d (a + 1) b (g + 1) h l → Is s b close_paren
      → Rule s atom (suc d) a (b + 1) g h (group (g + 1) (join Kind.alternation l) ∷ [])
  plain : {d a b g h : ℕ} {l : List Node} → Is s a open_paren → Is s (a + 1) question → Is s (a + 2) colon
      → Rule s alternatives d (a + 3) b g h l → Is s b close_paren
      → Rule s atom (suc d) a (b + 1) g h (join Kind.alternation l ∷ [])

-- A pattern of at most 2,048 bytes (1), none above 7F (3), that derives a tree with its number of groups.
pub record Derives (s : List ℕ) (r : Node) (g : ℕ) : Type 0 where
  pub short : length s ≤ pattern_limit
  pub low : (i : ℕ) → i < length s → get_or s i 0 ≤ 0x7F
  pub list : List Node
  pub derivation : Rule s Sort.alternatives depth_limit 0 (length s) 0 g list
  pub tree : join Kind.alternation list ≡ r
