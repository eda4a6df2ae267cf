-- Classes: `[` to `]`. Definitions only.
use Rattle.std.specs.Prelude.{Bool, true, false, cond, not, ◌||◌, ◌&&◌, List, ℕ, zero, suc, ◌+◌, eqb, leb, length}
use Rattle.sets.specs.Sets.{has, set_of, between, in_escape}
use Rattle.meaning.specs.Refusals as No
use Rattle.reading_atoms.specs.Chars.{no_byte, byte_at, choose, backslash, caret, close_bracket, hyphen}
use Rattle.reading_atoms.specs.Escapes.{Escape, Escape.byte, Escape.named, Escape.assertion, Escape.wrong, escape_at}

-- A class atom: a byte, or the set of an escape by its number, and the place behind it; or a refusal at its `\`.
pub data ClassAtom : Type 0 where
  one : ℕ → ℕ → ClassAtom
  several : ℕ → ℕ → ClassAtom
  bad : ℕ → ℕ → ClassAtom

abbrev pub escaped : ℕ → Escape → ClassAtom
escaped at (byte b end) = one b end
escaped at (named k) = several k (at + 2)
escaped at (assertion a) = bad 4 at
escaped at (wrong number) = bad number at

-- The atom at a place; `-` where an atom is due is itself.
unfoldable pub class_atom : List ℕ → ℕ → ClassAtom
class_atom s at = cond (eqb (byte_at s at) backslash) (escaped at (escape_at true s at)) (one (byte_at s at) (at + 1))

-- What a class has read: a set and the place behind it, or a refusal.
pub data Class : Type 0 where
  holds : List ℕ → ℕ → Class
  broken : ℕ → ℕ → Class

-- A set with the bytes of a test added.
abbrev pub added : List ℕ → (ℕ → Bool) → List ℕ
added held test = set_of (λ x. has held x || test x)

-- The bytes that an atom by itself takes.
abbrev pub takes : ℕ → ℕ → Bool
takes b x = eqb x b

-- A range whose first byte stands at `from`, once both ends are read: 10 if it is reversed or has a set as an end.
abbrev pub ranged : List ℕ → ℕ → ClassAtom → ClassAtom → Class
ranged held from (one a _) (one b end) = cond (leb a b) (holds (added held (between a b)) end) (broken No.bad_class from)
ranged held from (one a _) (several k end) = broken No.bad_class from
ranged held from (one a _) (bad number place) = broken number place
ranged held from (several j _) (one b end) = broken No.bad_class from
ranged held from (several j _) (several k end) = broken No.bad_class from
ranged held from (several j _) (bad number place) = broken number place
ranged held from (bad number place) last = broken number place

-- Whether the atom that ends at a place begins a range: a `-` follows that is not the last.
abbrev pub begins_range : List ℕ → ℕ → Bool
begins_range s end = eqb (byte_at s end) hyphen && not (eqb (byte_at s (end + 1)) close_bracket) && not
    (eqb (byte_at s (end + 1)) no_byte)

-- An atom, or a range, added to a set.
abbrev pub class_item : List ℕ → List ℕ → ℕ → ClassAtom → Class
class_item s held at (one b end) =
    choose (begins_range s end) (λ _. ranged held at (one b end) (class_atom s (end + 1))) (λ _. holds (added held (takes b)) end)
class_item s held at (several k end) =
    choose (begins_range s end) (λ _. ranged held at (several k end) (class_atom s (end + 1)))
    (λ _. holds (added held (in_escape k)) end)
class_item s held at (bad number place) = broken number place

-- The closing of a class, complemented or not.
abbrev pub class_set : Bool → List ℕ → List ℕ
class_set negated held = cond negated (set_of (λ x. not (has held x))) held

-- What was read, and then more of it.
abbrev pub further : Class → (List ℕ → ℕ → Class) → Class
further (holds held' at') go = go held' at'
further (broken number place) go = broken number place

-- The atoms of a class up to its `]`; 10 at the end of the pattern where it is unclosed.
unfoldable pub class_go : List ℕ → Bool → ℕ → List ℕ → ℕ → Class
class_go s negated zero held at = broken No.bad_class at
class_go s negated (suc fuel) held at =
    choose (eqb (byte_at s at) no_byte) (λ _. broken No.bad_class at) (λ _.
    choose (eqb (byte_at s at) close_bracket) (λ _. holds (class_set negated held) (at + 1)) (λ _.
    further (class_item s held at (class_atom s at)) (λ held' at'. class_go s negated fuel held' at')))

-- The class whose `[` stands at a place.
unfoldable pub class_at : List ℕ → ℕ → Class
class_at s at =
    let negated : Bool = eqb (byte_at s (at + 1)) caret in
    class_go s negated (suc (length s)) (set_of (λ x. false)) (cond negated (at + 2) (at + 1))
