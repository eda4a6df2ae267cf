-- What an escape, a class and a quantifier answer, of any pattern: it lies within the pattern and within the limits.
use Rattle.std.specs.Prelude.{◌≡◌, refl, Bool, Ok, Err, List, ℕ, ◌+◌, ◌≤◌, ◌<◌, length}
use Rattle.std.proofs.Math.Option.{Option}
use Rattle.std.proofs.Common.{arith}
use Rattle.sets.specs.Sets.{Formed}
use Rattle.meaning.specs.Bytes.{Bytes}
use Rattle.meaning.specs.Node.{Within}
use Rattle.reading_atoms.specs.Escapes.{Escape.byte, Escape.named, Escape.assertion, escape_at}
use Rattle.meaning.specs.Refusing.{number_of}
use Rattle.meaning.specs.declared.refusals.Refused.{Refused}
use Rattle.reading_atoms.specs.Classes.{Class.holds, Class.broken, class_at}
use Rattle.reading_atoms.specs.Braces.{Quantifier.repeated, quantifier_at}
use Rattle.reading_atoms.specs.Answers.{class_of}
use Rattle.reading_atoms.specs.declared.classes.Class.{Class}
use Rattle.reading_atoms.specs.EscapeLaws.{escape_fine}
use Rattle.reading_atoms.specs.ClassLaws.{class_fine}
use Rattle.reading_atoms.specs.BraceLaws.{quantifier_fine}

module _ (inClass : Bool) (s : List ℕ) (at : ℕ) (fine : Bytes s) where
  -- A byte, with the place behind it.
  pub escape_byte : {b end : ℕ} → escape_at inClass s at ≡ byte b end → (at + 2 ≤ end) × (end ≤ length s) × (b < 256)
  escape_byte e = (rw e at (escape_fine inClass s at fine)).by

  -- A set, by its number.
  pub escape_named : {k : ℕ} → escape_at inClass s at ≡ named k → (k < 6) × (at + 2 ≤ length s)
  escape_named e = (rw e at (escape_fine inClass s at fine)).by

  -- An assertion, by its number.
  pub escape_assertion : {a : ℕ} → escape_at inClass s at ≡ assertion a → (a ≤ 3) × (at + 2 ≤ length s)
  escape_assertion e = (rw e at (escape_fine inClass s at fine)).by

-- What a class's reader answers, closed and not.
pub class_closed : (r : Class) → class_of (Ok r) ≡ holds r.set r.end
class_closed r = refl

pub class_refused : (e : Refused) → class_of (Err e) ≡ broken (number_of e.why) e.place
class_refused e = refl

-- A class's set, with the place behind it.
pub class_holds : (s : List ℕ) (at : ℕ) → Bytes s → {set : List ℕ} {end : ℕ} → class_at s at ≡ holds set end
    → Formed set × (at + 2 ≤ end) × (end ≤ length s)
class_holds s at fine e = let f = rw e at (class_fine s at fine) in (f.by.0, omega arith, f.by.2)

-- A quantifier's counts, with the place behind it.
pub quantifier_repeated : (s : List ℕ) (at : ℕ) {min : ℕ} {extra : Option ℕ} {lazy : Bool} {end : ℕ}
    → quantifier_at s at ≡ repeated min extra lazy end
    → (at < end) × (end ≤ length s) × Within min extra
quantifier_repeated s at e = (rw e at (quantifier_fine s at)).by
