-- Floats against one another, as gates compare them.
use Rattle.std.specs.Prelude.{◌≡◌, refl, Bool, true, false, not, ◌&&◌, Float}
use Rattle.std.proofs.Math.Bool.{or-true, and-true}
use Rattle.std.specs.Bool.{beq}
use Rattle.std.proofs.lemmas.Bool.{false≢true}
use Rattle.std.proofs.Common.{eq-eqb}
use Rattle.std.specs.Float.{nan, inf, fin}
use Rattle.std.specs.Float.Ieee.{eq, lt, le, is_nan}

same_sign : (s : Bool) → beq s s ≡ true
same_sign true = refl
same_sign false = refl

-- A number equals itself, and what is none does not.
pub equals_itself : (x : Float) → eq x x ≡ not (is_nan x)
unfolding eq is_nan
equals_itself nan = refl
equals_itself (inf s) = same_sign s
equals_itself (fin s m e) = rw (eq-eqb _ _ refl, same_sign s)

-- Where one is below another, both are numbers.
pub above_numbers : (x y : Float) → lt x y ≡ true → not (is_nan x) ≡ true
unfolding lt is_nan
above_numbers nan y e = absurd (false≢true e)
above_numbers (inf s) y e = refl
above_numbers (fin s m k) y e = refl

pub below_numbers : (x y : Float) → lt x y ≡ true → not (is_nan y) ≡ true
unfolding lt is_nan
below_numbers nan y e = absurd (false≢true e)
below_numbers (inf s) nan e = absurd (false≢true e)
below_numbers (inf s) (inf t) e = refl
below_numbers (inf s) (fin t n k) e = refl
below_numbers (fin s m k) nan e = absurd (false≢true e)
below_numbers (fin s m k) (inf t) e = refl
below_numbers (fin s m k) (fin t n l) e = refl

-- A number is at most itself.
pub at_itself : (x : Float) → is_nan x ≡ false → le x x ≡ true
unfolding le
at_itself x e = rw (equals_itself x, e, or-true)

-- Nothing is below -∞ or above ∞, and every number is between them; what is none is neither at most nor at least anything.
pub none_below : (x : Float) → lt x (inf true) ≡ false
unfolding lt
none_below nan = refl
none_below (inf true) = refl
none_below (inf false) = refl
none_below (fin s m e) = refl

pub none_above : (x : Float) → lt (inf false) x ≡ false
unfolding lt
none_above nan = refl
none_above (inf s) = refl
none_above (fin s m e) = refl

pub from_below : (x y : Float) → (le (inf true) x && le x y) ≡ le x y
unfolding le lt eq
from_below nan y = refl
from_below (inf true) y = refl
from_below (inf false) y = refl
from_below (fin s m e) y = refl

pub to_above : (x y : Float) → (le x y && le y (inf false)) ≡ le x y
unfolding le lt eq
to_above nan nan = refl
to_above (inf s) nan = refl
to_above (fin s m e) nan = refl
to_above x (inf true) = and-true (le x (inf true))
to_above x (inf false) = and-true (le x (inf false))
to_above x (fin s m e) = and-true (le x (fin s m e))
