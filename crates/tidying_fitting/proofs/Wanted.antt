-- From what is found in a series to what is told of the law that looks for it. Assumes nothing.
use mathlib.Core.Path.{◌≡◌, sym, ap, subst, ◌∙◌}
use mathlib.Core.Bool.{Bool, true, false, ◌&&◌, ◌||◌}
use mathlib.Core.List.{List, []}
use Prim.Native.Nat.{ℕ}
use lib.Dec.{eqb}
use borrow.Author.Tests.{eq-eqb, ne_eqb}
use Rattle.meaning.specs.Node.{Node, hi}
use Rattle.table.specs.Table.{empty_kind, sequence_kind, alternation_kind}
use Rattle.tidying_laws.specs.ByNumber.{IsLaw, law_of}
use Rattle.tidying_laws.proofs.ByNumber.{no_law}
use Rattle.tidying_laws.specs.Groups.{group_free, proper_positive}
use Rattle.tidying_laws.specs.Alternatives.{past}
use Rattle.tidying_laws.specs.Laws.{is_empty, t7}
use Rattle.tidying_fitting.specs.Fitting.{fits}
use Rattle.table.specs.Stands.{Ends}
use Rattle.table.specs.Roots.{last_ends}
use Rattle.tidying_fitting.specs.Parts.{Tells, TellsLast}
use Rattle.tidying_fitting.specs.Words.{own_of, free_highest, empty_kind_lem}
use Rattle.tidying_fitting.specs.Wants.{repeats, goes, wants, has_wanted, t7_wanted}
use Rattle.tidying_fitting.specs.declared.Record.{Record}
use Rattle.tidying_fitting.specs.declared.Want.{Want}
use Rattle.tidying_fitting.specs.declared.Want.TheVariants.{Void}

module _ {table : List ℕ} {top : ℕ} where
  -- T1: an empty part is told by its kind.
  pub empty_told : {o : Record} → Tells o table top own_of → Tells (eqb o.kind empty_kind) table top is_empty
  empty_told t = record { by = λ before r p. ap (λ d. eqb d.kind empty_kind) (t.by before r p) ∙ sym (empty_kind_lem r) }

  -- T6: a part with a group stays, and one without goes if it equals an earlier one.
  no_group : {o : Record} → Tells o table top own_of → (before : List ℕ) (r : Node) → Ends table top before r → group_free r ≡
      eqb o.highest 0
  no_group t before r p = free_highest r (proper_positive r p.proper) ∙ sym (ap (λ d. eqb d.highest 0) (t.by before r p))

  pub grouped_told : (items : ℕ) {o : Record} → Tells o table top own_of → (o.highest ≡ 0 → ⊥)
      → TellsLast false table top items (λ front q. goes (past front []) q)
  grouped_told items {o} t h = record {
    by = λ before front q series.
        sym (ap (λ b. b && repeats (past front []) q) (no_group t _ q (last_ends front q series) ∙ ne_eqb o.highest 0 h));
  }

  pub ungrouped_told : {items : ℕ} {o : Record} → Tells o table top own_of → o.highest ≡ 0 → {b : Bool}
      → TellsLast b table top items (λ front q. repeats (past front []) q) → TellsLast b table top items
      (λ front q. goes (past front []) q)
  ungrouped_told {items} {o} t h u = record {
    by = λ before front q series.
        u.by before front q series
        ∙ sym (ap (λ b. b && repeats (past front []) q) (no_group t _ q (last_ends front q series) ∙ eq-eqb o.highest 0 h));
  }

  -- T7: among alternatives, or among the items of a sequence without groups.
  module _ {a : Bool} (t : Tells a table top (has_wanted alternation_kind Void)) where
    alternatives : (r : Node) (before : List ℕ) → Ends table top before r → fits t7 r ≡
        (a || (has_wanted sequence_kind Void r && eqb (hi r) 0))
    alternatives r before p =
        t7_wanted r p.proper ∙ ap (λ b. b || (has_wanted sequence_kind Void r && eqb (hi r) 0)) (sym (t.by before r p))

    pub void_alternative : a ≡ true → Tells a table top (fits t7)
    void_alternative e = record {
      by = λ before r p. e ∙ sym (alternatives r before p ∙ ap (λ b. b || (has_wanted sequence_kind Void r && eqb (hi r) 0)) e);
    }

    module _ (e : a ≡ false) {b : Bool} (u : Tells b table top (has_wanted sequence_kind Void)) where
      items : (r : Node) (before : List ℕ) → Ends table top before r → fits t7 r ≡ (b && eqb (hi r) 0)
      items r before p =
          alternatives r before p ∙ ap (λ b. b || (has_wanted sequence_kind Void r && eqb (hi r) 0)) e
          ∙ ap (λ b. b && eqb (hi r) 0) (sym (u.by before r p))

      pub no_void : b ≡ false → Tells b table top (fits t7)
      no_void f = record { by = λ before r p. f ∙ sym (items r before p ∙ ap (λ b. b && eqb (hi r) 0) f) }

      pub void_item : b ≡ true → {o : Record} → Tells o table top own_of → Tells (eqb o.highest 0) table top (fits t7)
      void_item f t = record {
        by = λ before r p.
            ap (λ d. eqb d.highest 0) (t.by before r p) ∙ sym (items r before p ∙ ap (λ b. b && eqb (hi r) 0) f);
      }

-- What is told for the want that is looked for is told for the one that was named.
pub as_want : {table : List ℕ} {top items : ℕ} {b : Bool} {want : Want} (v : Want) → want ≡ v
    → TellsLast b table top items (λ front q. wants v (past front []) q)
    → TellsLast b table top items (λ front q. wants want (past front []) q)
as_want {table} {top} {items} {b} v e t =
    subst (λ (m : Want). TellsLast b table top items (λ front q. wants m (past front []) q)) (sym e) t

-- What is told of a law is told of its number, and of a number that no law has that it fits nothing.
pub as_law : {table : List ℕ} {top : ℕ} {b : Bool} {k : ℕ} (v : ℕ) → k ≡ v → Tells b table top (fits (law_of v))
    → Tells b table top (fits (law_of k))
as_law {table} {top} {b} v e t = subst (λ (k : ℕ). Tells b table top (fits (law_of k))) (sym e) t

pub as_none : {table : List ℕ} {top : ℕ} (k : ℕ) → (IsLaw k → ⊥) → Tells false table top (fits (law_of k))
as_none k h = record { by = λ before r p. ap (λ law. fits law r) (sym (no_law k h)) }
