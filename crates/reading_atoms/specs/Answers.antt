-- The outline's values for each case of what the code answers. Definitions only.
use Rattle.std.specs.Prelude.{◌≡◌, cond, ℕ, ◌-◌, ◌≤◌, min, eqb, Option, None, Some, Result, Ok, Err}
use Rattle.std.proofs.Math.Option.{none, some}
use Rattle.meaning.specs.Limits.{no_maximum}
use Rattle.meaning.specs.Refusing.{number_of}
use Rattle.meaning.specs.declared.refusals.Refusal.{Refusal}
use Rattle.meaning.specs.declared.refusals.Refused.{Refused}
use Rattle.reading_atoms.specs.Chars.{no_byte}
use Rattle.reading_atoms.specs.Escapes as escapes
use Rattle.reading_atoms.specs.Classes as classes
use Rattle.reading_atoms.specs.Braces as braces
use Rattle.reading_atoms.specs.declared.escapes.Escape.{Escape}
use Rattle.reading_atoms.specs.declared.escapes.Escape.TheVariants.{Byte, Named, Assertion}
use Rattle.reading_atoms.specs.declared.classes.ClassAtom.{ClassAtom}
use Rattle.reading_atoms.specs.declared.classes.ClassAtom.TheVariants.{One, Several}
use Rattle.reading_atoms.specs.declared.classes.Class.{Class}
use Rattle.reading_atoms.specs.declared.braces.Number.{Number}
use Rattle.reading_atoms.specs.declared.braces.Braces.{Braces}
use Rattle.reading_atoms.specs.declared.braces.Braces.TheVariants.{Counts, Refused as Miscounted}
use Rattle.reading_atoms.specs.declared.braces.Repeat.{Repeat}

-- The byte at a place, where there is one.
abbrev pub byte_of : Option ℕ → ℕ
byte_of None = no_byte
byte_of (Some b) = b

-- The byte of a control, and the number of a set, where a letter has one.
abbrev pub control_in : ℕ → Option ℕ
control_in b = cond (eqb (escapes.control b) 0) None (Some (escapes.control b))

abbrev pub set_in : ℕ → Option ℕ
set_in b = cond (eqb (escapes.set_number b) 6) None (Some (escapes.set_number b))

-- An escape.
abbrev pub escape_of : Result Escape Refusal → escapes.Escape
escape_of (Ok (Byte b end)) = escapes.Escape.byte b end
escape_of (Ok (Named k)) = escapes.Escape.named k
escape_of (Ok (Assertion a)) = escapes.Escape.assertion a
escape_of (Err why) = escapes.Escape.wrong (number_of why)

-- An atom of a class.
abbrev pub atom_of : Result ClassAtom Refused → classes.ClassAtom
atom_of (Ok (One b end)) = classes.ClassAtom.one b end
atom_of (Ok (Several k end)) = classes.ClassAtom.several k end
atom_of (Err e) = classes.ClassAtom.bad (number_of e.why) e.place

-- A class: a set and the place behind it, or a refusal's number and place.
abbrev pub class_of : Result Class Refused → classes.Class
class_of (Ok r) = classes.Class.holds r.set r.end
class_of (Err e) = classes.Class.broken (number_of e.why) e.place

-- A number that the code holds at the cap.
pub record Capped (r : Number) (n : braces.Number) : Type 0 where
  pub value : r.value ≡ min n.value no_maximum
  pub end : r.end ≡ n.end

-- The counts of braces.
abbrev pub counts_of : ℕ → ℕ → ℕ → braces.Braces
counts_of min max end = braces.Braces.counts min (cond (eqb max no_maximum) none (some max)) end

abbrev pub braces_of : Braces → braces.Braces
braces_of (Counts min max end) = counts_of min max end
braces_of (Miscounted why) = braces.Braces.refused (number_of why)

-- A quantifier, whose counts are a minimum and what may be added to it.
abbrev pub quantifier_of : Result (Option Repeat) Refused → braces.Quantifier
quantifier_of (Ok None) = braces.Quantifier.once
quantifier_of (Ok (Some q)) =
    braces.Quantifier.repeated q.min (cond (eqb q.max no_maximum) none (some (q.max - q.min))) q.lazy q.end
quantifier_of (Err e) = braces.Quantifier.miscounted (number_of e.why) e.place

-- The minimum is at most the maximum, so that the maximum is the minimum and what may be added.
abbrev pub Ordered : Result (Option Repeat) Refused → Type 0
Ordered (Ok None) = Unit {0}
Ordered (Ok (Some q)) = q.min ≤ q.max
Ordered (Err e) = Unit {0}

-- A quantifier's answer.
pub record QuantifierIs (r : Result (Option Repeat) Refused) (q : braces.Quantifier) : Type 0 where
  pub same : quantifier_of r ≡ q
  pub ordered : Ordered r
