-- A class lies within the pattern and gives a well-formed set; the steps of its reading.
use Rattle.std.specs.Prelude.{◌≡◌, refl, Bool, true, false, cond, not, ◌||◌, ◌&&◌, List, ℕ, zero, suc, ◌+◌, ◌-◌, ◌≤◌, ◌<◌, eqb, leb, length, get_or}
use Rattle.std.proofs.Common.{sym, ap, ◌∙◌, arith}
use borrow.Author.Tests.{eqb-true, eqb-false, eq-eqb, ne_eqb}
use Rattle.sets.specs.Sets.{has, Formed, Holds, set_of, in_escape}
use Rattle.sets.specs.Laws.{holds_to, words_of, set_of_holds}
use Rattle.meaning.specs.Bytes.{Bytes}
use Rattle.reading_atoms.specs.Chars.{no_byte, byte_at, choose, backslash, hyphen, close_bracket, caret}
use Rattle.reading_atoms.specs.Escapes.{Escape, Escape.byte, Escape.named, Escape.assertion, Escape.wrong, escape_at}
use Rattle.reading_atoms.specs.Classes.{ClassAtom, ClassAtom.one, ClassAtom.several, ClassAtom.bad, escaped, class_atom}
use Rattle.reading_atoms.specs.Classes.{Class, Class.holds, Class.broken, added, takes, ranged, begins_range, class_item}
use Rattle.reading_atoms.specs.Classes.{class_set, class_go, class_at}
use Rattle.reading_atoms.specs.Places.{by_cond, byte_there, byte_none, byte_within, byte_passes, byte_some, both}
use Rattle.reading_atoms.specs.EscapeLaws.{EscapeFine, escape_fine}

-- What a class atom answers.
abbrev pub AtomBy : List ℕ → ℕ → ClassAtom → Type 0
AtomBy s at (one b end) = (at < end) × (end ≤ length s) × (b < 256)
AtomBy s at (several k end) = (at < end) × (end ≤ length s) × (k < 6)
AtomBy s at (bad number place) = Unit {0}

pub record AtomFine (s : List ℕ) (at : ℕ) (x : ClassAtom) : Type 0 where
  pub by : AtomBy s at x

-- What a class answers.
abbrev pub ClassBy : List ℕ → ℕ → Class → Type 0
ClassBy s at (holds set end) = Formed set × (at < end) × (end ≤ length s)
ClassBy s at (broken number place) = Unit {0}

pub record ClassFine (s : List ℕ) (at : ℕ) (x : Class) : Type 0 where
  pub by : ClassBy s at x

-- A set and what holds a test's bytes make the set with the bytes of the test added.
pub added_of : (held : List ℕ) {more all : List ℕ} {test : ℕ → Bool} → Holds more test
    → Holds all (λ x. has held x || has more x) → all ≡ added held test
added_of held m u = words_of (holds_to u (λ x l. ap (λ p. has held x || p) (m.bytes x l)))

-- What begins a range has an atom behind its `-`.
pub range_begins : (s : List ℕ) (end : ℕ) → begins_range s end ≡ true → end + 1 < length s
range_begins s end e =
    let next = byte_at s (end + 1) in
    byte_passes (λ x. not (eqb x no_byte)) s (end + 1) refl
    (both (eqb (byte_at s end) hyphen && not (eqb next close_bracket)) (not (eqb next no_byte)) e).1

-- An atom lies within the pattern, and its byte and its set are of their kind.
pub atom_fine : (s : List ℕ) (at : ℕ) → Bytes s → at < length s → AtomFine s at (class_atom s at)
unfolding class_atom
atom_fine s at fine h =
    by_cond (AtomFine s at) (eqb (byte_at s at) backslash) (λ e. go (escape_at true s at) (escape_fine true s at fine))
    (λ e. record { by = (omega arith, omega arith, rw (byte_there s at h) (fine.byte at)) })
  where
    go : (x : Escape) → EscapeFine s at x → AtomFine s at (escaped at x)
    go (byte b end) f = record { by = (omega arith, omega arith, f.by.2) }
    go (named k) f = record { by = (omega arith, omega arith, f.by.0) }
    go (assertion a) f = record { by = tt }
    go (wrong number) f = record { by = tt }

-- A range, and an item, lies within the pattern and gives a well-formed set.
range_fine : (s held : List ℕ) (at from : ℕ) → at ≤ from → (first last : ClassAtom) → AtomFine s from last
    → ClassFine s at (ranged held at first last)
range_fine s held at from h (one a _) (one b end) f =
    by_cond (ClassFine s at) (leb a b) (λ e. record { by = ((set_of_holds _).formed, omega arith, omega arith) })
    (λ e. record { by = tt })
range_fine s held at from h (one a _) (several k end) f = record { by = tt }
range_fine s held at from h (one a _) (bad number place) f = record { by = tt }
range_fine s held at from h (several j _) (one b end) f = record { by = tt }
range_fine s held at from h (several j _) (several k end) f = record { by = tt }
range_fine s held at from h (several j _) (bad number place) f = record { by = tt }
range_fine s held at from h (bad number place) last f = record { by = tt }

pub item_fine : (s held : List ℕ) (at : ℕ) → Bytes s → at < length s → ClassFine s at (class_item s held at (class_atom s at))
item_fine s held at fine h = go (class_atom s at) (atom_fine s at fine h)
  where
    alone : (first : ClassAtom) (test : ℕ → Bool) (end : ℕ) → at < end → end ≤ length s → (p : Bool) → begins_range s end ≡ p
        → ClassFine s at (choose p (λ _. ranged held at first (class_atom s (end + 1))) (λ _. holds (added held test) end))
    alone first test end l m true e =
        let last = atom_fine s (end + 1) fine (range_begins s end e) in
        range_fine s held at (end + 1) (omega arith) first (class_atom s (end + 1)) last
    alone first test end l m false e = record { by = ((set_of_holds _).formed, l, m) }

    go : (x : ClassAtom) → AtomFine s at x → ClassFine s at (class_item s held at x)
    go (one b end) f = alone (one b end) (takes b) end f.by.0 f.by.1 (begins_range s end) refl
    go (several k end) f = alone (several k end) (in_escape k) end f.by.0 f.by.1 (begins_range s end) refl
    go (bad number place) f = record { by = tt }

-- The steps of a class: its end, its `]`, and an item.
module _ (s : List ℕ) (negated : Bool) (fuel : ℕ) (held : List ℕ) (at : ℕ) where
  go_end : byte_at s at ≡ no_byte → class_go s negated (suc fuel) held at ≡ broken 10 at
  unfolding class_go
  go_end e = rw (eq-eqb (byte_at s at) no_byte e)

  go_close : byte_at s at ≡ close_bracket → class_go s negated (suc fuel) held at ≡ holds (class_set negated held) (at + 1)
  unfolding class_go
  go_close e = rw e

  module _ (there : byte_at s at ≡ no_byte → ⊥) (unclosed : byte_at s at ≡ close_bracket → ⊥) where
    go_on : {more : List ℕ} {end : ℕ} → class_item s held at (class_atom s at) ≡ holds more end
        → class_go s negated (suc fuel) held at ≡ class_go s negated fuel more end
    unfolding class_go
    go_on e = rw (ne_eqb (byte_at s at) no_byte there, ne_eqb (byte_at s at) close_bracket unclosed, e)

    go_broken : {number place : ℕ} → class_item s held at (class_atom s at) ≡ broken number place
        → class_go s negated (suc fuel) held at ≡ broken number place
    unfolding class_go
    go_broken e = rw (ne_eqb (byte_at s at) no_byte there, ne_eqb (byte_at s at) close_bracket unclosed, e)

-- What is fine from a place on is fine from an earlier one.
class_later : (s : List ℕ) (at from : ℕ) → at ≤ from → (x : Class) → ClassFine s from x → ClassFine s at x
class_later s at from h (holds set end) f = record { by = (f.by.0, omega arith, f.by.2) }
class_later s at from h (broken number place) f = record { by = tt }

-- The reading of a class whose atoms begin at a place.
abbrev class_from : List ℕ → Bool → ℕ → Class
class_from s negated from = class_go s negated (suc (length s)) (set_of (λ x. false)) from

-- What a class has read so far: the rest of its reading is the whole's, with fuel for every byte that is left.
pub record Reading (s : List ℕ) (negated : Bool) (from : ℕ) (held : List ℕ) (at : ℕ) : Type 0 where
  pub fuel : ℕ
  pub same : class_from s negated from ≡ class_go s negated (suc fuel) held at
  pub enough : length s ≤ fuel + at
  pub within : at ≤ length s

pub reading_none : {s held : List ℕ} (negated : Bool) {from : ℕ} → held ≡ set_of (λ x. false) → from ≤ length s
    → Reading s negated from held from
reading_none {s} negated {from} e h = record {
  fuel = length s;
  same = ap (λ none. class_go s negated (suc (length s)) none from) (sym e);
  enough = omega arith;
  within = h;
}

-- It ends with the pattern, or at its `]`, or goes on with an item.
module _ {s : List ℕ} {negated : Bool} {from : ℕ} {held : List ℕ} {at : ℕ} (r : Reading s negated from held at) where
  pub reading_end : length s ≤ at → broken 10 at ≡ class_from s negated from
  reading_end h = sym (r.same ∙ go_end s negated r.fuel held at (byte_none s at h))

  module _ (h : at < length s) where
    pub reading_closed : get_or s at 0 ≡ close_bracket → holds (class_set negated held) (at + 1) ≡ class_from s negated from
    reading_closed e = sym (r.same ∙ go_close s negated r.fuel held at (byte_there s at h ∙ e))

    module _ (fine : Bytes s) (unclosed : get_or s at 0 ≡ close_bracket → ⊥) {x : Class}
        (item : x ≡ class_item s held at (class_atom s at)) where
      next : byte_at s at ≡ close_bracket → ⊥
      next e = unclosed (sym (byte_there s at h) ∙ e)

      pub reading_broken : {number place : ℕ} → x ≡ broken number place → x ≡ class_from s negated from
      reading_broken e = e ∙ sym (r.same ∙ go_broken s negated r.fuel held at (byte_some s at fine h) next (sym item ∙ e))

      pub reading_less : {more : List ℕ} {end : ℕ} → x ≡ holds more end → length s - end < length s - at
      reading_less e = let f = rw (sym item ∙ e) at (item_fine s held at fine h) in omega (arith, f.by)

      pub reading_more : {more : List ℕ} {end : ℕ} → x ≡ holds more end → Reading s negated from more end
      reading_more {more} {end} e = go r.fuel r.same r.enough (rw (sym item ∙ e) at (item_fine s held at fine h))
        where
          go : (fuel : ℕ) → class_from s negated from ≡ class_go s negated (suc fuel) held at → length s ≤ fuel + at
              → ClassFine s at (holds more end) → Reading s negated from more end
          go zero p l f = absurd (omega arith)
          go (suc fuel) p l f = record {
            fuel = fuel;
            same = p ∙ go_on s negated (suc fuel) held at (byte_some s at fine h) next (sym item ∙ e);
            enough = omega (arith, f.by);
            within = f.by.2;
          }

-- A class lies within the pattern and gives a well-formed set.
go_fine : (s : List ℕ) (negated : Bool) (fuel : ℕ) (held : List ℕ) (at : ℕ) → Bytes s → Formed held
    → ClassFine s at (class_go s negated fuel held at)
unfolding class_go
go_fine s negated zero held at fine formed = record { by = tt }
go_fine s negated (suc fuel) held at fine formed =
    go (eqb (byte_at s at) no_byte) refl (eqb (byte_at s at) close_bracket) refl (class_item s held at (class_atom s at)) refl
    (λ more end f. go_fine s negated fuel more end fine f)
  where
    set_fine : (negated : Bool) → Formed (class_set negated held)
    set_fine true = (set_of_holds _).formed
    set_fine false = formed

    go : (p : Bool) → eqb (byte_at s at) no_byte ≡ p → (q : Bool) → eqb (byte_at s at) close_bracket ≡ q
        → (x : Class) → class_item s held at (class_atom s at) ≡ x
        → ((more : List ℕ) (end : ℕ) → Formed more → ClassFine s end (class_go s negated fuel more end))
        → ClassFine s at (class_go s negated (suc fuel) held at)
    go true e q f x i again = rw e (record { by = tt })
    go false e true f x i again =
        let h = byte_within s at (eqb-false (byte_at s at) no_byte e) in
        rw (go_close s negated fuel held at (eqb-true (byte_at s at) close_bracket f))
        (record { by = (set_fine negated, omega arith, omega arith) })
    go false e false f (holds more end) i again =
        let there = eqb-false (byte_at s at) no_byte e in
        let item = rw i at (item_fine s held at fine (byte_within s at there)) in
        rw (go_on s negated fuel held at there (eqb-false (byte_at s at) close_bracket f) i)
        (class_later s at end (omega arith) (class_go s negated fuel more end) (again more end item.by.0))
    go false e false f (broken number place) i again =
        let there = eqb-false (byte_at s at) no_byte e in
        rw (go_broken s negated fuel held at there (eqb-false (byte_at s at) close_bracket f) i) (record { by = tt })

pub class_fine : (s : List ℕ) (at : ℕ) → Bytes s → ClassFine s (at + 1) (class_at s at)
unfolding class_at
class_fine s at fine =
    let negated = eqb (byte_at s (at + 1)) caret in
    class_later s (at + 1) (cond negated (at + 2) (at + 1))
    (by_cond (λ n. at + 1 ≤ n) negated (λ e. omega arith) (λ e. omega arith)) (class_at s at)
    (go_fine s negated (suc (length s)) (set_of (λ x. false)) (cond negated (at + 2) (at + 1)) fine (set_of_holds _).formed)
