-- What `compile` and `compile_tidied` do meets their promise.
use Rattle.std.proofs.Math.Path.{◌≡◌, refl, sym, ap, ap₂}
use Rattle.std.proofs.Common.{◌∙◌, subst, arith, lt-ltb, le-ltb, ltb-true, ltb-false}
use Rattle.std.specs.Prelude.{Bool, true, false, cond, List, ◌++◌, ℕ, zero, suc, ◌+◌, ◌*◌, ◌-◌, ◌≤◌, ◌<◌, min, ltb, length, take, replicate, Err}
use mathlib.Core.Logic.{⊎_elim}
use Rattle.meaning.specs.Limits.{row_limit, least_rows, code_words}
use Rattle.meaning.specs.Refusals as No
use Rattle.meaning.specs.Refusing.{number_of}
use Rattle.meaning.specs.declared.refusals.Refusal.{Refusal}
use Rattle.meaning.specs.declared.refusals.Refusal.TheVariants as Why
use Rattle.meaning.specs.Node.{Node, Proper}
use Rattle.meaning.specs.Numbering.{Numbers}
use Rattle.machine.specs.Layout.{size_of}
use Rattle.table.specs.Table.{record_words, size_cap, record_count}
use Rattle.table.specs.Derived.{root_of}
use Rattle.table.specs.Roots.{root_derived, some_records, few_records_lem}
use Rattle.table.specs.declared.Derived.{Derived}
use Rattle.tidying_laws.proofs.Tidy.{tidy_rows, tidy_numbers, tidy_proper}
use Rattle.reading_items.specs.Reading.{Reading, Reading.pattern, Reading.refused, reading, table_by, table_after}
use Rattle.reading.specs.Answers.{Reads, answer_of, Reading as Answer, Reading.Pattern, Reading.Turned}
use Rattle.code_rows.specs.Program.{Tabled}
use Rattle.code_rows.specs.Emission.{Emission, Rows as Emitted, TooMany, TooShort, emission_of, refused_as}
use Rattle.code_rows.specs.Emission.{answer_of as answer_by_emit}
use Rattle.code_rows.specs.Emission.{emission, code_emitted, SomeTabled, Emits, rows_needed}
use Rattle.tidying.specs.Held.{Held, SomeHeld, table_of, Tidies}
use Rattle.compiler.specs.Compiling.{shaped, unwritten, table_for, code_for, answer_by, table_left, code_left}
use Rattle.compiler.specs.Compiling.{Compiles}
use Rattle.compiler.specs.Programs.{Stored, SomeStored, TellsRows, Shapes, Cleared, Programs}
use Rattle.compiler.specs.Given.{Given}
use Rattle.compiler.specs.Steps.{Fitting, Written, WrittenBy}
use Rattle.compiler.specs.Compiling.{Compilation, Compilation.Rows, Compilation.Refused}

-- ---- the pattern in the table

-- The pattern that a table holds ends where its records do.
held_tabled : {table : List ℕ} {n g p : ℕ} {r : Node} → Held table n r g p → Tabled table n r
held_tabled h = record { stands = h.stands; proper = h.proper }

-- A stored pattern has a record, whose size is held just above the limit of rows.
pub stored_some : {table : List ℕ} {n : ℕ} → SomeStored table n → (0 < n) × (record_words * n ≤ length table)
stored_some s =
    let whole = held_tabled s.stored.held in (
      omega (arith, some_records whole, few_records_lem whole),
      whole.stands.room,
    )

held_size : {table : List ℕ} {n g p : ℕ} {r : Node} (d : Derived) → Held table n r g p → d ≡ root_of table n
    → d.size ≡ min (size_of r) size_cap
held_size d h e = ap (λ (x : Derived). x.size) (e ∙ root_derived (held_tabled h))

pub size_small : {table : List ℕ} {n : ℕ} (d : Derived) → SomeStored table n → d ≡ root_of table n → d.size ≤ size_cap
size_small d s e = omega (arith, held_size d s.stored.held e)

-- So it tells whether there are too many rows.
pub tells_rows : {table : List ℕ} {n : ℕ} (d : Derived) → d ≡ root_of table n
    → TellsRows (ltb row_limit (least_rows + d.size)) table n
tells_rows d e = record { by = λ r g p h. same (size_of r) (held_size d h.held e) }
  where
    same : (s : ℕ) → d.size ≡ min s size_cap → ltb row_limit (least_rows + d.size) ≡ ltb row_limit (least_rows + s)
    same s f = go (ltb row_limit (least_rows + s)) refl
      where
        go : (b : Bool) → ltb row_limit (least_rows + s) ≡ b → ltb row_limit (least_rows + d.size) ≡ ltb row_limit (least_rows + s)
        go true t = lt-ltb row_limit (least_rows + d.size) (omega (arith, ltb-true row_limit (least_rows + s) t)) ∙ sym t
        go false t = le-ltb row_limit (least_rows + d.size) (omega (arith, ltb-false row_limit (least_rows + s) t)) ∙ sym t

-- ---- the pattern that becomes rows

-- It has the groups of the one that was read, is proper, and has no more rows.
pub record Shaped (r q : Node) (g : ℕ) : Type 0 where
  pub numbers : Numbers 1 q g
  pub proper : Proper q
  pub fewer : rows_needed q ≤ rows_needed r

pub is_shaped : (tidying : Bool) (r : Node) (g : ℕ) → Numbers 1 r g → Proper r → Shaped r (shaped tidying r) g
is_shaped true r g n p =
    record { numbers = tidy_numbers r g n; proper = tidy_proper r g n p; fewer = omega (arith, tidy_rows r g n) }
is_shaped false r g n p = record { numbers = n; proper = p; fewer = omega arith }

-- It stands in the table: tidied there, or as it stood.
pub held_some : {table : List ℕ} {n : ℕ} → SomeStored table n → SomeHeld table n
held_some s = record { node = s.node; groups = s.groups; bytes = s.bytes; held = s.stored.held }

pub shapes_tidied : {tidying : Bool} {table table' : List ℕ} {n n' : ℕ} → tidying ≡ true → Tidies table table' n n'
    → Shapes tidying table table' n n'
shapes_tidied e t = rw e (record {
  by = λ r g p h same. record {
    held = (t.by r g p h.held).held;
    whole = (t.by r g p h.held).table_is ∙ ap (table_of _) (sym same);
  };
})

pub shapes_plain : {tidying : Bool} {table : List ℕ} {n : ℕ} → tidying ≡ false → Shapes tidying table table n n
shapes_plain e = rw e (record { by = λ r g p h same. h })

-- Where it has few enough rows, the one that becomes rows has, and what is emitted of that is by the length of the code.
module _ (tidying : Bool) (r : Node) (g : ℕ) (code : List ℕ) (few : ltb row_limit (rows_needed r) ≡ false)
    (fewer : rows_needed (shaped tidying r) ≤ rows_needed r) where
  abbrev q : Node
  q = shaped tidying r

  few_too : ltb row_limit (rows_needed q) ≡ false
  few_too = le-ltb row_limit (rows_needed q) (omega (arith, ltb-false row_limit (rows_needed r) few))

  abbrev Outcome : Emission → Type 0
  Outcome (Emitted n) = (unwritten tidying r (length code) ≡ 0) × (n ≡ rows_needed q)
  Outcome TooMany = ⊥
  Outcome TooShort = unwritten tidying r (length code) ≡ No.short_code

  emits : (x : Emission) → emission q (length code) ≡ x → Outcome x
  emits x e = go (ltb (length code) (code_words (rows_needed q))) refl x (rw few_too at e)
    where
      go : (short : Bool) → ltb (length code) (code_words (rows_needed q)) ≡ short → (x : Emission)
          → cond short TooShort (Emitted (rows_needed q)) ≡ x → Outcome x
      go true s (Emitted n) e = absurd (let z : ◌≡◌ {A = ℕ} 0 1 = cc in omega arith)
      go true s TooMany e = absurd (let z : ◌≡◌ {A = ℕ} 0 1 = cc in omega arith)
      go true s TooShort e = rw (few, s)
      go false s (Emitted n) e = (rw (few, s), cc)
      go false s TooMany e = absurd (let z : ◌≡◌ {A = ℕ} 0 1 = cc in omega arith)
      go false s TooShort e = absurd (let z : ◌≡◌ {A = ℕ} 0 1 = cc in omega arith)

  leaves : code_emitted g q code ≡ code_for (unwritten tidying r (length code)) q g code
  leaves = rw (few, few_too) (go (ltb (length code) (code_words (rows_needed q))))
    where
      go : (short : Bool) → cond short code (code_for 0 q g code) ≡ code_for (cond short No.short_code 0) q g code
      go true = refl
      go false = refl

-- ---- its program

-- A table made zero from its first word on.
pub made_zero : (table : List ℕ) {table' : List ℕ} → table' ≡ take 0 table ++ replicate (length table - 0) 0
    → table' ≡ replicate (length table) 0
made_zero table e = let same : length table - 0 ≡ length table = omega arith in e ∙ ap (λ (n : ℕ). replicate n 0) same

module _ {tidying : Bool} {table : List ℕ} {n : ℕ} where
  -- A pattern with too many rows is refused before it is shaped.
  pub too_many : {g : ℕ} {over : Bool} {table' code : List ℕ} {answer : Compilation} → TellsRows over table n → over ≡ true
      → Cleared No.many_rows table table' answer → Programs tidying table table' n g code code answer
  too_many t e c = record {
    by = λ r h p held.
        let so : ltb row_limit (rows_needed r) ≡ true = sym (t.by r h p held) ∙ e in
        record { answers = rw so c.refuses; table_is = rw so c.zero; code_is = rw so };
  }

  -- One that is shaped, and its program written or not.
  module _ {over : Bool} {table₁ : List ℕ} {left : ℕ} (t : TellsRows over table n) (few : over ≡ false)
      (same : length table₁ ≡ length table) (s : Shapes tidying table table₁ n left) where
    pub shaped_tabled : SomeStored table n → SomeTabled table₁ left
    shaped_tabled k = record {
      node = shaped tidying k.node;
      tabled = held_tabled (s.by k.node k.groups k.bytes k.stored same).held;
    }

    module _ {g : ℕ} {code code' : List ℕ} {emitted : Emission} (em : Emits table₁ left g code code' emitted) where
      module _ (r : Node) (h p : ℕ) (held : Stored table n r h p) where
        few_rows : ltb row_limit (rows_needed r) ≡ false
        few_rows = sym (t.by r h p held) ∙ few

        fewer : rows_needed (shaped tidying r) ≤ rows_needed r
        fewer = (is_shaped tidying r h held.held.numbers held.held.proper).fewer

        now_stored : Stored table₁ left (shaped tidying r) h p
        now_stored = s.by r h p held same

        outcome : (x : Emission) → emitted ≡ x → Outcome tidying r g code few_rows fewer x
        outcome x e = emits tidying r g code few_rows fewer x
            (sym (em.answers (shaped tidying r) (held_tabled now_stored.held)) ∙ e)

        code_left_lem : code' ≡ code_for (unwritten tidying r (length code)) (shaped tidying r) g code
        code_left_lem = em.leaves (shaped tidying r) (held_tabled now_stored.held) ∙ leaves tidying r g code few_rows fewer

      pub written : {m : ℕ} → emitted ≡ Emitted m → Programs tidying table table₁ n g code code' (Rows m g)
      written {m} e = record {
        by = λ r h p held.
            let (fine, rows) = outcome r h p held (Emitted m) e in
            record {
              answers = rw fine (ap (λ k. Rows k g) rows);
              table_is = rw fine ((now_stored r h p held).whole ∙ ap (table_of (shaped tidying r)) same);
              code_is = code_left_lem r h p held;
            };
      }

      pub never_many : {table' : List ℕ} {answer : Compilation} → emitted ≡ TooMany
          → Programs tidying table table' n g code code' answer
      never_many e = record { by = λ r h p held. absurd (outcome r h p held TooMany e) }

      pub too_short : {table' : List ℕ} {answer : Compilation} → emitted ≡ TooShort → Cleared No.short_code table₁ table' answer
          → Programs tidying table table' n g code code' answer
      too_short e c = record {
        by = λ r h p held.
            let short = outcome r h p held TooShort e in
            record {
              answers = rw short c.refuses;
              table_is = rw short (c.zero ∙ ap (λ k. replicate k 0) same);
              code_is = code_left_lem r h p held;
            };
      }

-- What was written from the pattern that becomes rows is its program.
module _ {tidying : Bool} {table table₁ table' : List ℕ} {n left g : ℕ} {code code' : List ℕ} {answer : Compilation}
    (few : TellsRows false table n) (same : length table₁ ≡ length table) (s : Shapes tidying table table₁ n left) where
  pub written_programs : Written table₁ table' left g code code' answer → Programs tidying table table' n g code code' answer
  written_programs w = go w.emitted w.emits w.by
    where
      go : (x : Emission) → Emits table₁ left g code code' x → WrittenBy x table₁ table' g answer
          → Programs tidying table table' n g code code' answer
      go (Emitted m) e b = rw (b.0, b.1) (written few refl same s e refl)
      go TooMany e b = never_many few refl same s e refl
      go TooShort e b = too_short few refl same s e refl b

-- A program that was refused is refused by the ground that `emit` says.
pub written_refused : (g : ℕ) {why : Refusal} {table table' : List ℕ} {answer : Compilation}
    → Err why ≡ answer_by_emit (emission_of (Err why)) → Cleared (number_of why) table table' answer
    → WrittenBy (emission_of (Err why)) table table' g answer
written_refused g {why} {table} {table'} {answer} e c =
    let as_said : (y : Refusal) → why ≡ y → Cleared (number_of y) table table' answer
    = λ y p. subst (λ (x : Refusal). Cleared (number_of x) table table' answer) p c in
    ⊎_elim
    (λ w. subst (λ (x : Emission). WrittenBy x table table' g answer) (sym w.0) (as_said Why.ManyRows w.1))
    (λ w. subst (λ (x : Emission). WrittenBy x table table' g answer) (sym w.0) (as_said Why.ShortCode w.1))
    (refused_as e refl)

-- ---- the call

-- What is left of a table depends on its length alone.
same_left : (a b : List ℕ) → length a ≡ length b → (k : ℕ) (r : Node) (g : ℕ) → table_for k r g a ≡ table_for k r g b
same_left a b l zero r g = ap (table_of r) l
same_left a b l (suc k) r g = ap (λ n. replicate n 0) l

module _ {tidying : Bool} {s table table' : List ℕ} where
  -- A pattern that is turned away as it is read.
  pub turned_away_lem : {answer : Answer} {code : List ℕ} {n p : ℕ} → Reads s table table' answer → answer ≡ Turned n p
      → Compiles tidying s table table' code code (Refused n p)
  unfolding table_after
  turned_away_lem {answer} {code} {n} {p} r f = go (reading s (length table)) refl
    where
      go : (x : Reading) → reading s (length table) ≡ x → Compiles tidying s table table' code code (Refused n p)
      go (pattern q h) e =
          let no : Turned n p ≡ Pattern (record_count q) h = sym f ∙ r.answer_is ∙ ap answer_of e in
          absurd (let z : ◌≡◌ {A = ℕ} 0 1 = cc in omega arith)
      go (refused m o) e =
          let same : Turned n p ≡ Turned m o = sym f ∙ r.answer_is ∙ ap answer_of e in
          let u : n ≡ m = cc in
          let v : p ≡ o = cc in
          record {
            answers = ap₂ Refused u v ∙ ap (λ x. answer_by tidying x (length code)) (sym e);
            table_is = r.table_is ∙ ap (λ x. table_by x table) e ∙ ap (λ x. table_left tidying x (length code) table) (sym e);
            code_is = ap (λ x. code_left tidying x code) (sym e);
          }

  -- A pattern that was read, and what was done with it.
  pub programmed : {table₁ code code' : List ℕ} {top g : ℕ} {answer : Compilation} → length table₁ ≡ length table
      → Given s table table₁ top g → Programs tidying table₁ table' top g code code' answer
      → Compiles tidying s table table' code code' answer
  programmed {table₁} {code} {g = g} l k done =
      let r : Node = k.node in
      let back : pattern r g ≡ reading s (length table) = sym k.is_read in
      let made = done.by r (suc g) (length s) k.stored in
      record {
        answers = made.answers ∙ ap (λ y. answer_by tidying y (length code)) back;
        table_is = made.table_is ∙ same_left table₁ table l (unwritten tidying r (length code)) (shaped tidying r) g
            ∙ ap (λ y. table_left tidying y (length code) table) back;
        code_is = made.code_is ∙ ap (λ y. code_left tidying y code) back;
      }

  -- A pattern that was read and has few enough rows, and what was written of what it is shaped to.
  pub compiled : {table₁ table₂ code code' : List ℕ} {top left g : ℕ} {answer : Compilation} → Fitting s table table₁ top g
      → length table₂ ≡ length table₁ → Shapes tidying table₁ table₂ top left → Written table₂ table' left g code code' answer
      → Compiles tidying s table table' code code' answer
  compiled f same shapes w = programmed f.same f.given (written_programs f.few same shapes w)
