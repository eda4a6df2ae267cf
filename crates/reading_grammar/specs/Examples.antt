-- Derivations, each made by hand from the rules: no reader has a part in them.
use Rattle.std.specs.Prelude.{◌≡◌, refl, true, false, ◌||◌, List, [], ◌∷◌, ℕ, ◌+◌, ◌≤◌, eqb, length}
use Rattle.std.proofs.Math.Option.{none, some}
use Rattle.std.proofs.Common.{arith}
use Rattle.std.proofs.lemmas.Bool.{eqb-false}
use Rattle.sets.specs.Sets.{set_of, between, is_digit, is_word, in_escape}
use Rattle.meaning.specs.Quoted.{bytes}
use Rattle.meaning.specs.Limits.{pattern_limit, depth_limit}
use Rattle.meaning.specs.Node.{Node, Node.empty, Node.bset, Node.assert, Node.group, Node.seq, Node.alt, Node.many}
use Rattle.meaning.specs.Flat.{Kind, parts, join}
use Rattle.reading_atoms.specs.Chars.{no_byte, byte_at, is_quantifier}
use Rattle.reading_atoms.specs.Classes.{added, takes, class_set}
use Rattle.reading_items.specs.Reading.{literal_set, dot_set, high_go}
use Rattle.reading_grammar.specs.Atoms.{Digits, Counts, Times, Quantified, EscapedByte, EscapedSet, Named, ByteAtom}
use Rattle.reading_grammar.specs.Atoms.{ClassItems}
use Rattle.reading_grammar.specs.Atoms.{Is, Class}
use Rattle.reading_grammar.specs.AtomsSound.{not_both}
use Rattle.reading_grammar.specs.Grammar.{special, Assertion, SetAtom, Sort, Rule, Derives}
use Rattle.reading_grammar.specs.Checked.{low_bytes}

-- A short pattern of low bytes derives what its list of alternatives makes.
derives : {s : List ℕ} {r : Node} {g : ℕ} {l : List Node} → Rule s Sort.alternatives depth_limit 0 (length s) 0 g l
    → join Kind.alternation l ≡ r → length s ≤ pattern_limit × length s ≤ high_go s 0
    → Derives s r g
derives {s} {l = l} t e (h, k) = record { short = h; low = low_bytes s 0 (omega arith); list = l; derivation = t; tree = e }

-- A literal, at any depth; an item that is one.
module _ {s : List ℕ} {d g : ℕ} where
  pub literal : (a b : ℕ) → Is s a b → (eqb b no_byte || special b) ≡ false
      → Rule s Sort.atom d a (a + 1) g g (bset (literal_set b) ∷ [])
  literal a b h e =
      let (n, m) = not_both (eqb b no_byte) (special b) e in
      Rule.bytes (SetAtom.literal h (λ x. eqb-false b no_byte n x) m)

  pub lone : (a b : ℕ) → Is s a b → (eqb b no_byte || special b) ≡ false → is_quantifier (byte_at s (a + 1)) ≡ false
      → Rule s Sort.item d a (a + 1) g g (bset (literal_set b) ∷ [])
  lone a b h e q = Rule.once (literal a b h e) q

-- The letters `a` to `e`.
abbrev A : Node
A = bset (literal_set 0x61)

abbrev B : Node
B = bset (literal_set 0x62)

abbrev C : Node
C = bset (literal_set 0x63)

abbrev D : Node
D = bset (literal_set 0x64)

abbrev E : Node
E = bset (literal_set 0x65)

-- The empty pattern; alternatives, one of them empty.
pub nothing : Derives (bytes "") empty 0
unfolding parts
nothing = derives
    (Rule.first Rule.nothing)
    refl (omega arith)

pub alternatives : Derives (bytes "a||bc") (alt A (alt empty (seq B C))) 0
unfolding parts special
alternatives = derives
    (Rule.next (Rule.next (Rule.first (Rule.more Rule.nothing (lone 0 0x61 refl refl refl))) refl Rule.nothing) refl
    (Rule.more (Rule.more Rule.nothing (lone 3 0x62 refl refl refl)) (lone 4 0x63 refl refl refl)))
    refl (omega arith)

-- Groups are numbered by their opening parenthesis; `(?:r)` leaves no node, and a sequence in it gives its items.
pub groups : Derives (bytes "((a)b)(?:c(d))") (seq (group 1 (seq (group 2 A) B)) (seq C (group 3 D))) 3
unfolding parts special
groups = derives
    (Rule.first (Rule.more (Rule.more Rule.nothing
    (Rule.once (Rule.grouped refl (λ x. omega arith) (omega arith)
    (Rule.first (Rule.more (Rule.more Rule.nothing
    (Rule.once (Rule.grouped refl (λ x. omega arith) (omega arith)
    (Rule.first (Rule.more Rule.nothing (lone 2 0x61 refl refl refl))) refl) refl))
    (lone 4 0x62 refl refl refl))) refl) refl))
    (Rule.once (Rule.plain refl refl refl
    (Rule.first (Rule.more (Rule.more Rule.nothing (lone 9 0x63 refl refl refl))
    (Rule.once (Rule.grouped refl (λ x. omega arith) (omega arith)
    (Rule.first (Rule.more Rule.nothing (lone 11 0x64 refl refl refl))) refl) refl))) refl) refl)))
    refl (omega arith)

-- A count with a leading zero, lazy; the other forms of counts.
pub counts : Derives (bytes "a{02,3}?b{1}c{4,}d+?e?") (seq (many 2 (some 1) true A) (seq (many 1 (some 0) false B)
    (seq (many 4 none false C) (seq (many 1 none true D) (many 0 (some 1) false E))))) 0
unfolding parts special is_digit
counts = derives
    (Rule.first (Rule.more (Rule.more (Rule.more (Rule.more (Rule.more Rule.nothing
    (Rule.repeated (literal 0 0x61 refl refl) (Quantified.lazy (Times.counted
    (Counts.range refl (Digits.more (Digits.digit refl) refl) refl (Digits.digit refl) refl (omega arith) (omega arith))) refl)))
    (Rule.repeated (literal 8 0x62 refl refl) (Quantified.greedy (Times.counted
    (Counts.exactly refl (Digits.digit refl) refl (omega arith))) (λ x. omega arith))))
    (Rule.repeated (literal 12 0x63 refl refl) (Quantified.greedy (Times.counted
    (Counts.least refl (Digits.digit refl) refl refl (omega arith))) (λ x. omega arith))))
    (Rule.repeated (literal 17 0x64 refl refl) (Quantified.lazy (Times.some_times refl) refl)))
    (Rule.repeated (literal 20 0x65 refl refl) (Quantified.greedy (Times.maybe refl) (λ x. omega arith)))))
    refl (omega arith)

-- An assertion is quantified only in `(?:r)`.
pub assertions : Derives (bytes "(?:^)*\\b$") (seq (many 0 none false (assert 0)) (seq (assert 2) (assert 1))) 0
unfolding parts
assertions = derives
    (Rule.first (Rule.more (Rule.more (Rule.more Rule.nothing
    (Rule.repeated
    (Rule.plain refl refl refl (Rule.first (Rule.more Rule.nothing (Rule.assertion (Assertion.begins refl)))) refl)
    (Quantified.greedy (Times.any refl) (λ x. omega arith))))
    (Rule.assertion (Assertion.edge refl refl))) (Rule.assertion (Assertion.ends refl))))
    refl (omega arith)

-- Escapes: a letter mod 32, two hex digits, `\0` before no digit, a byte that is itself; the dot, and a set.
pub escapes : Derives (bytes "\\cJ\\x4a\\0\\..\\D") (seq (bset (literal_set 0x0A)) (seq (bset (literal_set 0x4A))
    (seq (bset (literal_set 0)) (seq (bset (literal_set 0x2E)) (seq (bset dot_set) (bset (set_of (in_escape 1)))))))) 0
unfolding parts is_digit is_word
escapes = derives
    (Rule.first (Rule.more (Rule.more (Rule.more (Rule.more (Rule.more (Rule.more Rule.nothing
    (Rule.once (Rule.bytes (SetAtom.escape (EscapedByte.letter refl refl refl refl))) refl))
    (Rule.once (Rule.bytes (SetAtom.escape (EscapedByte.hex refl refl refl refl refl refl))) refl))
    (Rule.once (Rule.bytes (SetAtom.escape (EscapedByte.nul refl refl refl))) refl))
    (Rule.once (Rule.bytes (SetAtom.escape (EscapedByte.itself refl refl (λ x. omega arith) refl))) refl))
    (Rule.once (Rule.bytes (SetAtom.dots refl)) refl))
    (Rule.once (Rule.bytes (SetAtom.named (EscapedSet.named refl refl Named.no_digits))) refl)))
    refl (omega arith)

-- A class: a range, a set, `\b` as 08, and a `-` that is last; complemented.
pub classes : Derives (bytes "[^a-c\\d\\b-]") (bset (class_set true (added (added (added (added (set_of (λ x. false))
    (between 0x61 0x63)) (in_escape 0)) (takes 0x08)) (takes 0x2D)))) 0
unfolding parts
classes = derives
    (Rule.first (Rule.more Rule.nothing (Rule.once (Rule.bytes (SetAtom.class (Class.lacking refl refl
    (ClassItems.single (ClassItems.single (ClassItems.several (ClassItems.range ClassItems.nothing
    (ByteAtom.plain refl (λ x. omega arith) (λ x. omega arith) (λ x. omega arith)) refl
    (ByteAtom.plain refl (λ x. omega arith) (λ x. omega arith) (λ x. omega arith)) (omega arith))
    (EscapedSet.named refl refl Named.digits) (λ x. omega (arith, x.0)))
    (ByteAtom.escaped (EscapedByte.backspace refl refl refl)) (λ x. x.1 refl))
    (ByteAtom.plain refl (λ x. omega arith) (λ x. omega arith) (λ x. omega arith)) (λ x. omega (arith, x.0))) refl))) refl)))
    refl (omega arith)
