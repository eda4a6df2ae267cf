-- The numbers that the readers of atoms refuse by: none is one of the checks that come first.
use Rattle.std.specs.Prelude.{◌≡◌, refl, Bool, true, false, cond, ◌||◌, ◌&&◌, List, ℕ, zero, suc, ◌+◌, ◌<◌, eqb, leb, ltb, length}
use Rattle.std.proofs.Common.{arith}
use Rattle.std.proofs.Math.Option.{none, some}
use Rattle.sets.specs.Sets.{set_of, is_digit, is_word}
use Rattle.meaning.specs.Limits.{count_limit}
use Rattle.reading_atoms.specs.Chars.{byte_at, no_byte, choose, caret, backslash, close_bracket, star, plus, question, open_brace}
use Rattle.reading_atoms.specs.Chars.{close_brace, comma, is_letter, is_hex}
use Rattle.reading_atoms.specs.Places.{by_cond}
use Rattle.reading_atoms.specs.Escapes.{Escape, Escape.byte, Escape.named, Escape.assertion, Escape.wrong, control, set_number}
use Rattle.reading_atoms.specs.Escapes.{other_escape, escape_at}
use Rattle.reading_atoms.specs.Classes.{Class, Class.holds, Class.broken, ClassAtom, ClassAtom.one, ClassAtom.several}
use Rattle.reading_atoms.specs.Classes.{ClassAtom.bad}
use Rattle.reading_atoms.specs.Classes.{escaped, class_atom, ranged, begins_range, class_item, class_go, class_at}
use Rattle.reading_atoms.specs.Braces.{Braces, Braces.counts, Braces.refused, Number, number_at, judged, unlimited, after_comma}
use Rattle.reading_atoms.specs.Braces.{braces_at}
use Rattle.reading_atoms.specs.Braces.{Quantifier, Quantifier.once, Quantifier.repeated, Quantifier.miscounted, lazily}
use Rattle.reading_atoms.specs.Braces.{quantifier_at}

-- An escape.
abbrev EscapeLate : Escape → Type 0
EscapeLate (byte b end) = Unit {0}
EscapeLate (named k) = Unit {0}
EscapeLate (assertion a) = Unit {0}
EscapeLate (wrong number) = 3 < number

escape_late : (inClass : Bool) (s : List ℕ) (at : ℕ) → EscapeLate (escape_at inClass s at)
unfolding escape_at
escape_late inClass s at =
    let b = byte_at s (at + 1) in
    by_cond EscapeLate (eqb (set_number b) 6) (λ e.
    by_cond EscapeLate (eqb (control b) 0) (λ e.
    by_cond EscapeLate (eqb b 0x63) (λ e. by_cond EscapeLate (is_letter (byte_at s (at + 2))) (λ e. tt) (λ e. omega arith)) (λ e.
    by_cond EscapeLate (eqb b 0x78) (λ e. by_cond EscapeLate (is_hex (byte_at s (at + 2)) && is_hex (byte_at s (at + 3))) (λ e. tt)
    (λ e. omega arith)) (λ e.
    by_cond EscapeLate (eqb b 0x30) (λ e. by_cond EscapeLate (is_digit (byte_at s (at + 2))) (λ e. omega arith) (λ e. tt)) (λ e.
    by_cond EscapeLate (eqb b 0x62) (λ e. by_cond EscapeLate inClass (λ c. tt) (λ c. tt)) (λ e.
    by_cond EscapeLate (eqb b 0x42) (λ e. by_cond EscapeLate inClass (λ c. omega arith) (λ c. tt)) (λ e.
    by_cond EscapeLate (eqb b 0x75) (λ e. omega arith) (λ e. other b)))))))
    (λ e. tt))
    (λ e. tt)
  where
    other : (b : ℕ) → EscapeLate (other_escape inClass b (at + 2))
    other b =
        by_cond EscapeLate (is_digit b || eqb b 0x6B) (λ e. by_cond (λ n. 3 < n) inClass (λ c. omega arith) (λ c. omega arith))
        (λ e.
        by_cond EscapeLate (is_word b || eqb b no_byte) (λ e. omega arith) (λ e. tt))

pub wrong_late : (inClass : Bool) (s : List ℕ) (at : ℕ) {number : ℕ} → escape_at inClass s at ≡ wrong number → 3 < number
wrong_late inClass s at e = rw e at (escape_late inClass s at)

-- A class.
abbrev AtomLate : ClassAtom → Type 0
AtomLate (one b end) = Unit {0}
AtomLate (several k end) = Unit {0}
AtomLate (bad number place) = 3 < number

abbrev ClassLate : Class → Type 0
ClassLate (holds set end) = Unit {0}
ClassLate (broken number place) = 3 < number

escaped_late : (at : ℕ) (x : Escape) → EscapeLate x → AtomLate (escaped at x)
escaped_late at (byte b end) h = tt
escaped_late at (named k) h = tt
escaped_late at (assertion a) h = omega arith
escaped_late at (wrong number) h = h

atom_late : (s : List ℕ) (at : ℕ) → AtomLate (class_atom s at)
unfolding class_atom
atom_late s at =
    by_cond AtomLate (eqb (byte_at s at) backslash) (λ e. escaped_late at (escape_at true s at) (escape_late true s at)) (λ e. tt)

ranged_late : (held : List ℕ) (from : ℕ) (a b : ClassAtom) → AtomLate a → AtomLate b → ClassLate (ranged held from a b)
ranged_late held from (one a x) (one b end) h k = by_cond ClassLate (leb a b) (λ e. tt) (λ e. omega arith)
ranged_late held from (one a x) (several j end) h k = omega arith
ranged_late held from (one a x) (bad number place) h k = k
ranged_late held from (several i x) (one b end) h k = omega arith
ranged_late held from (several i x) (several j end) h k = omega arith
ranged_late held from (several i x) (bad number place) h k = k
ranged_late held from (bad number place) b h k = h

chosen_late : (t : Bool) (x y : Unit {0} → Class) → ClassLate (x tt) → ClassLate (y tt) → ClassLate (choose t x y)
chosen_late true x y h k = h
chosen_late false x y h k = k

item_late : (s held : List ℕ) (at : ℕ) (x : ClassAtom) → AtomLate x → ClassLate (class_item s held at x)
item_late s held at (one b end) h =
    chosen_late (begins_range s end) _ _ (ranged_late held at (one b end) (class_atom s (end + 1)) h (atom_late s (end + 1))) tt
item_late s held at (several k end) h =
    chosen_late (begins_range s end) _ _ (ranged_late held at (several k end) (class_atom s (end + 1)) h
    (atom_late s (end + 1))) tt
item_late s held at (bad number place) h = h

class_late : (s : List ℕ) (negated : Bool) (fuel : ℕ) (held : List ℕ) (at : ℕ) → ClassLate (class_go s negated fuel held at)
unfolding class_go
class_late s negated zero held at = omega arith
class_late s negated (suc fuel) held at =
    go (eqb (byte_at s at) no_byte) refl (eqb (byte_at s at) close_bracket) refl (class_item s held at (class_atom s at)) refl
    (item_late s held at (class_atom s at) (atom_late s at)) (class_late s negated fuel)
  where
    go : (p : Bool) → eqb (byte_at s at) no_byte ≡ p → (q : Bool) → eqb (byte_at s at) close_bracket ≡ q
        → (x : Class) → class_item s held at (class_atom s at) ≡ x → ClassLate (class_item s held at (class_atom s at))
        → ((held : List ℕ) (at : ℕ) → ClassLate (class_go s negated fuel held at))
        → ClassLate (class_go s negated (suc fuel) held at)
    go true e q f x i h again = rw e (omega arith)
    go false e true f x i h again = rw (e, f) tt
    go false e false f (holds more end) i h again = rw (e, f, i) (again more end)
    go false e false f (broken number place) i h again = rw (e, f, i) (rw i at h)

pub broken_late : (s : List ℕ) (at : ℕ) {number place : ℕ} → class_at s at ≡ broken number place → 3 < number
unfolding class_at
broken_late s at e =
    let negated = eqb (byte_at s (at + 1)) caret in
    rw e at (class_late s negated (suc (length s)) (set_of (λ x. false)) (cond negated (at + 2) (at + 1)))

-- A quantifier.
abbrev BracesLate : Braces → Type 0
BracesLate (counts min max end) = Unit {0}
BracesLate (refused number) = 3 < number

abbrev QuantifierLate : Quantifier → Type 0
QuantifierLate once = Unit {0}
QuantifierLate (repeated min extra lazy end) = Unit {0}
QuantifierLate (miscounted number place) = 3 < number

judged_late : (min max end : ℕ) → BracesLate (judged min max end)
judged_late min max end =
    by_cond BracesLate (ltb count_limit min || ltb count_limit max) (λ e. omega arith) (λ e.
    by_cond BracesLate (ltb max min) (λ e. omega arith) (λ e. tt))

unlimited_late : (min end : ℕ) → BracesLate (unlimited min end)
unlimited_late min end = by_cond BracesLate (ltb count_limit min) (λ e. omega arith) (λ e. tt)

comma_late : (s : List ℕ) (min at : ℕ) → BracesLate (after_comma s min at)
comma_late s min at =
    let m : Number = number_at s at in
    by_cond BracesLate (eqb (byte_at s at) close_brace) (λ e. unlimited_late min (at + 1)) (λ e.
    by_cond BracesLate (is_digit (byte_at s at) && eqb (byte_at s m.end) close_brace)
    (λ e. judged_late min m.value (m.end + 1))
    (λ e. omega arith))

braces_late : (s : List ℕ) (at : ℕ) → BracesLate (braces_at s at)
unfolding braces_at
braces_late s at =
    let n : Number = number_at s (at + 1) in
    by_cond BracesLate (is_digit (byte_at s (at + 1))) (λ e.
    by_cond BracesLate (eqb (byte_at s n.end) close_brace) (λ e. judged_late n.value n.value (n.end + 1)) (λ e.
    by_cond BracesLate (eqb (byte_at s n.end) comma) (λ e. comma_late s n.value (n.end + 1)) (λ e. omega arith)))
    (λ e. omega arith)

lazily_late : (s : List ℕ) (at : ℕ) (x : Braces) → BracesLate x → QuantifierLate (lazily s at x)
lazily_late s at (counts min none end) h = tt
lazily_late s at (counts min (some max) end) h = tt
lazily_late s at (refused number) h = h

quantifier_late : (s : List ℕ) (at : ℕ) → QuantifierLate (quantifier_at s at)
unfolding quantifier_at
quantifier_late s at =
    let b = byte_at s at in
    by_cond QuantifierLate (eqb b star) (λ e. tt) (λ e.
    by_cond QuantifierLate (eqb b plus) (λ e. tt) (λ e.
    by_cond QuantifierLate (eqb b question) (λ e. tt) (λ e.
    by_cond QuantifierLate (eqb b open_brace) (λ e. lazily_late s at (braces_at s at) (braces_late s at)) (λ e. tt))))

pub miscounted_late : (s : List ℕ) (at : ℕ) {number place : ℕ} → quantifier_at s at ≡ miscounted number place → 3 < number
miscounted_late s at e = rw e at (quantifier_late s at)
