-- By the first byte, if there is one.
use Rattle.std.specs.Prelude.{◌≡◌, Bool, true, false, cond, List, [], ◌∷◌, ℕ, eqb, drop, Some}
use Rattle.std.proofs.Common.{refl, sym, ap, ◌∙◌}
use Rattle.std.proofs.lemmas.Bool.{false≢true}
use Rattle.std.specs.Option.{option_eq}
use Rattle.std.specs.List.{slice_get}
use Rattle.fields.specs.Scanning.{unsigned, numeral_in}
use Rattle.fields.specs.Views.{reading_by}
use Rattle.fields.proofs.read_bytes.Goals as goal

first_byte : (s : List ℕ) (v : Bool) → v ≡ option_eq eqb (slice_get s 0) (Some 0x2D)
    → cond v (unsigned true (drop 1 s)) (unsigned false (drop 0 s)) ≡ numeral_in s
unfolding numeral_in
first_byte [] true e = absurd (false≢true (sym e))
first_byte [] false e = refl
first_byte (b ∷ s) v e = rw e

pub returns-then-eq : goal.returns-then-eq
returns-then-eq c =
    let first = ap (λ x. option_eq eqb x (Some 0x2D)) (c.copied.ensures ∙ c.first.ensures.value) in
    c.read_unsigned.ensures ∙ ap reading_by (first_byte c.args.s.now true (c.if-eq.ensures ∙ first))

pub returns : goal.returns
returns c =
    let first = ap (λ x. option_eq eqb x (Some 0x2D)) (c.copied.ensures ∙ c.first.ensures.value) in
    c.read_unsigned-2.ensures ∙ ap reading_by (first_byte c.args.s.now false (c.if-eq.ensures ∙ first))
