-- The form of a table (docs/TABLE.md): the records of a tree, and zeros behind them, with all that readings and tidyings keep.
use Rattle.std.specs.Prelude.{◌≡◌, cond, ℕ, zero, suc, ◌+◌, ◌*◌, ◌≤◌, ◌<◌, eqb, length, get_or}
use Rattle.std.proofs.Math.Option.{Option, none, some}
use mathlib.Core.List.{List, [], List-discrete}
use Rattle.std.proofs.Common.{arith}
use Rattle.std.proofs.Math.Decide.{ℕ_discrete, dec_le, dec_lt}
use Rattle.meaning.specs.Limits.{group_limit, row_limit, least_rows}
use Rattle.meaning.specs.Node.{Node, hi, Proper}
use Rattle.meaning.specs.Flat.{Flat}
use Rattle.meaning.specs.Numbering.{Numbers}
use Rattle.machine.specs.Layout.{size_of}
use Rattle.table.specs.Table.{record_words, kind_word, record_count}
use Rattle.table.specs.Derived.{record_limit}
use Rattle.tidying_shapes.specs.Tokens.{tokens_of}
use Rattle.tidying_shapes.specs.Parse.{first_part, parse}
use Rattle.tidying.specs.Held.{table_of}
use Rattle.showing_form.specs.Decide.{flat?, proper?, numbers?}

-- A tree's records stand in a table, and zeros behind them. The tree is flat and proper, its groups are numbered from 1 on and
-- within the limit, it has no more records than the longest pattern has room for, and no more rows than code may have.
pub record OfForm (table : List ℕ) (r : Node) : Type 0 where
  pub flat : Flat r
  pub proper : Proper r
  pub numbers : Numbers 1 r (suc (hi r))
  pub groups : hi r ≤ group_limit
  pub few : record_count r < record_limit
  pub rows : least_rows + size_of r ≤ row_limit
  pub words : table ≡ table_of r (length table)

-- That is decided by going over the tree and comparing all words.
decided : {table : List ℕ} {r : Node} → Dec (Flat r) → Dec (Proper r) → Dec (Numbers 1 r (suc (hi r))) → Dec (hi r ≤ group_limit)
    → Dec (record_count r < record_limit) → Dec (least_rows + size_of r ≤ row_limit) → Dec (table ≡ table_of r (length table))
    → Dec (OfForm table r)
decided (yes a) (yes b) (yes c) (yes d) (yes e) (yes f) (yes g) =
    yes (record { flat = a; proper = b; numbers = c; groups = d; few = e; rows = f; words = g })
decided (yes a) (yes b) (yes c) (yes d) (yes e) (yes f) (no n) = no (λ h. n h.words)
decided (yes a) (yes b) (yes c) (yes d) (yes e) (no n) g = no (λ h. n h.rows)
decided (yes a) (yes b) (yes c) (yes d) (no n) f g = no (λ h. n h.few)
decided (yes a) (yes b) (yes c) (no n) e f g = no (λ h. n h.groups)
decided (yes a) (yes b) (no n) d e f g = no (λ h. n h.numbers)
decided (yes a) (no n) c d e f g = no (λ h. n h.proper)
decided (no n) b c d e f g = no (λ h. n h.flat)

pub form? : (table : List ℕ) (r : Node) → Dec (OfForm table r)
form? table r =
    decided (flat? r) (proper? r) (numbers? r 1 (suc (hi r)) (omega arith)) (dec_le (hi r) group_limit)
    (dec_lt (record_count r) record_limit) (dec_le (least_rows + size_of r) row_limit)
    (List-discrete ℕ_discrete table (table_of r (length table)))

-- The records of a table go up to the first of kind 0, of so many from record i on.
unfoldable pub used_from : List ℕ → ℕ → ℕ → ℕ
used_from table zero i = i
used_from table (suc turns) i = cond (eqb (get_or table (record_words * i + kind_word) 0) 0) i (used_from table turns (suc i))

abbrev pub used : List ℕ → ℕ
used table = used_from table (length table) 0

-- The only tree whose records they can be: a record closes the items that it says off a stack of trees.
abbrev pub candidate : List ℕ → Node
candidate table = first_part (parse [] (tokens_of table (used table)))

-- The tree of a table of the form; none of any other.
abbrev pub chosen : {table : List ℕ} (r : Node) → Dec (OfForm table r) → Option Node
chosen r (yes h) = some r
chosen r (no n) = none

unfoldable pub form_of : List ℕ → Option Node
form_of table = chosen (candidate table) (form? table (candidate table))
