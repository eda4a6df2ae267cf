-- The atom by itself, or the range that it begins.
use mathlib.Core.Path.{◌≡◌, ap, ◌∙◌}
use mathlib.Core.Bool.{false, ◌||◌}
use mathlib.Core.List.{List}
use Prim.Native.Nat.{ℕ}
use Rattle.sets.specs.Sets.{has, Holds, set_of, in_escape}
use Rattle.sets.specs.Laws.{of_words}
use Rattle.reading_atoms.specs.Classes.{ClassAtom.one, ClassAtom.several, Class.holds, takes, begins_range, class_atom, class_item}
use Rattle.reading_atoms.specs.ClassLaws.{added_of, atom_fine}
use Rattle.reading_atoms.specs.Places.{bytes_of}
use Rattle.reading_atoms.proofs.classes.class_item.Goals as goal
use Rattle.reading_atoms.proofs.classes.class_item.Goals.{in-One, in-Several}

-- An atom that begins no range adds its own bytes.
module _ (s held : List ℕ) (at : ℕ) {end k : ℕ} {more all : List ℕ} (alone : false ≡ begins_range s end)
    (union : Holds all (λ x. has held x || has more x)) where
  byte_added : one k end ≡ class_atom s at → more ≡ set_of (takes k) → holds all end ≡ class_item s held at (class_atom s at)
  byte_added e m = rw (← e, ← alone) (ap (λ w. holds w end) (added_of held (of_words m) union))

  set_added : several k end ≡ class_atom s at → more ≡ set_of (in_escape k) → holds all end ≡ class_item s held at (class_atom s at)
  set_added e m = rw (← e, ← alone) (ap (λ w. holds w end) (added_of held (of_words m) union))

pub named_set-requires : goal.named_set-requires
named_set-requires c =
    let fine = bytes_of c.args.s.now c.type_inv.s in
    let e = rw c.in-Several.is at c.in_ok-first.ensures in
    (rw (← e) at (atom_fine c.args.s.now c.args.at fine c.requires)).by.2

pub returns : goal.returns
returns c =
    elim c.match-first.branch [
      | in-One w ↦
          byte_added c.args.s.now c.args.held c.args.at c.if-begins_range.ensures c.union.ensures
          (rw (w.in-One.is, ← ap (λ (t : List ℕ × ℕ). t.1) w.end-is) at c.in_ok-first.ensures)
          (ap (λ (t : List ℕ × ℕ). t.0) w.end-is ∙ w.literal_set.ensures)
      | in-Several w ↦
          set_added c.args.s.now c.args.held c.args.at c.if-begins_range.ensures c.union.ensures
          (rw (w.in-Several.is, ← ap (λ (t : List ℕ × ℕ). t.1) w.end-is) at c.in_ok-first.ensures)
          (ap (λ (t : List ℕ × ℕ). t.0) w.end-is ∙ w.named_set.ensures)
    ]
