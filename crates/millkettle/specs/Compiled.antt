-- What was compiled passes the check, and its code says the program of the pattern that became rows.
use Rattle.std.specs.Prelude.{◌≡◌, refl, Bool, true, List, ◌++◌, ℕ, zero, suc, ◌≤◌, length, drop}
use Rattle.std.proofs.Common.{sym, ap, ◌∙◌, arith, ltb-false}
use Rattle.meaning.specs.Bytes.{Bytes}
use Rattle.meaning.specs.Limits.{depth_limit, group_limit, row_limit, code_words}
use Rattle.meaning.specs.Refusals as No
use Rattle.meaning.specs.Grounds.{none_holds}
use Rattle.meaning.specs.Node.{Node, Proper}
use Rattle.meaning.specs.Numbering.{Numbers}
use Rattle.machine.specs.Layout.{program_of}
use Rattle.machine.specs.Laid.{program_stands}
use Rattle.machine.specs.Words.{code_of, code_passes, decode, rows_said, groups_said}
use Rattle.machine.proofs.Coded.{compiled_code_passes, compiled_says, rows_in_length}
use Rattle.reading_items.specs.Facts.{fair_proper}
use Rattle.reading_items.specs.Read.{what_is_read}
use Rattle.reading_items.specs.Reading.{Reading, Reading.pattern, Reading.refused, reading}
use Rattle.code_rows.specs.Emission.{rows_needed}
use Rattle.compiler.specs.Compiling.{shaped, program_grounds, unwritten, answer_for, code_for, answer_by, code_left}
use Rattle.compiler.specs.Compiling.{compilation, code_at}
use Rattle.compiler.proofs.Laws.{is_shaped}
use Rattle.compiler.specs.Compiling.{Compilation.Rows, Compilation.Refused}

-- Code that says the program of a pattern of n rows and g groups, and passes.
pub record Coded (code : List ℕ) (n g : ℕ) (r : Node) : Type 0 where
  pub numbers : Numbers 1 r (suc g)
  pub proper : Proper r
  pub rows_are : n ≡ rows_needed r
  pub passes : code_passes code ≡ true
  pub says : decode code ≡ program_of g r
  pub rows_said_lem : rows_said code ≡ n
  pub groups_said_lem : groups_said code ≡ g

-- The code of a program is so, whatever words stand behind it.
pub coded : (g : ℕ) (r : Node) (rest : List ℕ) → Numbers 1 r (suc g) → Proper r → g ≤ group_limit → rows_needed r ≤ row_limit
    → Coded (code_of (program_of g r) ++ rest) (rows_needed r) g r
coded g r rest numbers proper groups rows =
    let code : List ℕ = code_of (program_of g r) ++ rest in
    let says : decode code ≡ program_of g r = compiled_says g r numbers proper rest in
    record {
      numbers = numbers;
      proper = proper;
      rows_are = refl;
      passes = compiled_code_passes g r numbers proper groups rows rest;
      says = says;
      rows_said_lem = sym (rows_in_length code (rows_said code) 0) ∙ ap (λ p. length p.rows) says ∙ (program_stands g r).counts;
      groups_said_lem = ap (λ p. p.groups) says;
    }

-- A pattern that was compiled: what it was read as, and its code.
pub record Compiled (tidying : Bool) (s table code : List ℕ) (n g : ℕ) : Type 0 where
  pub node : Node
  pub is_read : reading s (length table) ≡ pattern node g
  pub is_written : unwritten tidying node (length code) ≡ 0
  pub is_coded : Coded (code_at tidying s table code) n g (shaped tidying node)

pub compiled : (tidying : Bool) (s table code : List ℕ) (n g : ℕ) → Bytes s → compilation tidying s table code ≡ Rows n g
    → Compiled tidying s table code n g
compiled tidying s table code n g bytes e = go (reading s (length table)) refl
  where
    by_number : (r : Node) (h k : ℕ) → reading s (length table) ≡ pattern r h → unwritten tidying r (length code) ≡ k
        → answer_for k (shaped tidying r) h ≡ Rows n g → Compiled tidying s table code n g
    by_number r h (suc k) f u a = absurd (let z : ◌≡◌ {A = ℕ} 0 1 = cc in omega arith)
    by_number r h zero f u a =
        let q : Node = shaped tidying r in
        let known = what_is_read bytes (length table) r h f in
        let p = is_shaped tidying r (suc h) known.numbers (fair_proper r depth_limit known.fair) in
        let few : rows_needed r ≤ row_limit
        = ltb-false _ _ (none_holds No.many_rows (program_grounds tidying r (length code)) refl u) in
        let rows : rows_needed q ≡ n = cc in
        let groups : h ≡ g = cc in
        let is : code_at tidying s table code ≡ code_for 0 q h code
        = ap (λ x. code_left tidying x code) f ∙ ap (λ k. code_for k q h code) u in
        record {
          node = r;
          is_read = f ∙ ap (pattern r) groups;
          is_written = u;
          is_coded = rw (is, ← rows, ← groups)
              (coded h q (drop (code_words (rows_needed q)) code) p.numbers p.proper known.few_groups
              (omega (arith, p.fewer)));
        }

    go : (x : Reading) → reading s (length table) ≡ x → Compiled tidying s table code n g
    go (pattern r h) f =
        by_number r h (unwritten tidying r (length code)) f refl (sym (ap (λ y. answer_by tidying y (length code)) f) ∙ e)
    go (refused m o) f =
        let no : Refused m o ≡ Rows n g = sym (ap (λ y. answer_by tidying y (length code)) f) ∙ e in
        absurd (let z : ◌≡◌ {A = ℕ} 0 1 = cc in omega arith)
