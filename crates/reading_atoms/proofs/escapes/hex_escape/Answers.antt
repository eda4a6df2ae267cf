-- Two hex digits have a value below 256.
use mathlib.Core.Path.{◌≡◌, sym}
use mathlib.Core.Bool.{true}
use Prim.Native.Nat.{ℕ, ◌≤◌}
use native.Mathlib.Omega.{arith}
use Rattle.reading_atoms.specs.Chars.{is_hex, hex_value}
use Rattle.reading_atoms.specs.Places.{hex_small}
use Rattle.reading_atoms.proofs.escapes.hex_escape.Goals as goal

-- A hex digit that was tested has a value below 16.
value-small : (b : ℕ) {v : ℕ} → true ≡ is_hex b → v ≡ hex_value b → v ≤ 15
value-small b e g = rw g (hex_small b (sym e))

pub overflow_mul-result : goal.overflow_mul-result
overflow_mul-result c = omega (arith, value-small c.in-Some-Some.high c.if-not-is_hex.ensures c.hex_value.ensures)

pub overflow_add-result : goal.overflow_add-result
overflow_add-result c =
    omega (
      arith,
      value-small c.in-Some-Some.high c.if-not-is_hex.ensures c.hex_value.ensures,
      value-small c.in-Some-Some.low c.if-not-is_hex-2.ensures c.hex_value-2.ensures,
    )
