-- What is asked and answered of a part, or of a series with a last part, whose records stand in a table.
use Rattle.std.specs.Prelude.{◌≡◌, List, [], ◌∷◌, ◌++◌, ℕ, ◌*◌, ◌≤◌, ◌<◌, length}
use Rattle.std.proofs.Common.{arith}
use Rattle.meaning.specs.Node.{Node, Node.empty, Node.bset, Node.assert, Node.group, Node.seq, Node.alt, Node.many}
use Rattle.meaning.specs.Flat.{Kind, parts, by_parts}
use Rattle.table.specs.Table.{record_words, record_count}
use Rattle.table.specs.Stands.{Ends, Series}
use Rattle.table.specs.Roots.{some_records, few_records_lem}

-- A part has at least one part of a kind: itself.
pub length_parts : (k : Kind) (r : Node) → 1 ≤ length (parts k r)
length_parts k = by_parts k (λ r l. 1 ≤ length l) (λ r n. omega arith) (λ r q l h. omega arith)

-- What is asked of a series: that it has a last part.
pub record SomeLast (table : List ℕ) (top items : ℕ) : Type 0 where
  pub before : List ℕ
  pub front : List Node
  pub last : Node
  pub series : Series table top items before (front ++ (last ∷ []))

-- What is answered: a function of the part, whatever the part is; or of the last part of a series and those before it.
pub record Tells {A : Type 0} (a : A) (table : List ℕ) (top : ℕ) (f : Node → A) : Type 0 where
  pub by : (before : List ℕ) (r : Node) → Ends table top before r → a ≡ f r

pub record TellsLast {A : Type 0} (a : A) (table : List ℕ) (top items : ℕ) (f : List Node → Node → A) : Type 0 where
  pub by : (before : List ℕ) (front : List Node) (q : Node) → Series table top items before (front ++ (q ∷ [])) → a ≡ f front q

-- Or a function of two parts.
pub record TellsBoth {A : Type 0} (a : A) (table : List ℕ) (one other : ℕ) (f : Node → Node → A) : Type 0 where
  pub by : (before before' : List ℕ) (p q : Node) → Ends table one before p → Ends table other before' q → a ≡ f p q

-- The first item of a part: of a sequence its first, and any other part is its own. It ends at `first`.
abbrev pub first_item : Node → Node
first_item empty = empty
first_item (bset s) = bset s
first_item (assert a) = assert a
first_item (group k r) = group k r
first_item (seq r q) = r
first_item (alt r q) = alt r q
first_item (many n e lazy r) = many n e lazy r

pub record FirstEnds (first : ℕ) (table : List ℕ) (top : ℕ) : Type 0 where
  pub by : (before : List ℕ) (r : Node) → Ends table top before r → Ends table first before (first_item r)

-- A part has a record, and no more than stand there; and there is room for them.
pub record Room (table : List ℕ) (top : ℕ) (r : Node) : Type 0 where
  pub some : 0 < record_count r
  pub few : record_count r ≤ top
  pub held : record_words * top ≤ length table

pub room : {table : List ℕ} {top : ℕ} {before : List ℕ} {r : Node} → Ends table top before r → Room table top r
room h = record { some = some_records h; few = few_records_lem h; held = h.stands.room }
