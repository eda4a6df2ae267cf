-- What stands in a table below a record, and the contracts of the table's functions. Each is a record, so that callers name no
-- argument.
use Rattle.std.specs.Prelude.{◌≡◌, List, ◌++◌, ℕ, ◌+◌, ◌*◌, ◌≤◌, ◌<◌, length, take, drop, get_or}
use Rattle.meaning.specs.Limits.{no_maximum}
use Rattle.meaning.specs.Node.{Node, Proper}
use Rattle.meaning.specs.Results.{concat_map}
use Rattle.table.specs.Table.{record_words, size_cap, quantifier_kind, records}
use Rattle.meaning.specs.All.{All}
use Rattle.table.specs.Laws.{inner, kind_of, operand_of, last_of}
use Rattle.table.specs.Derived.{record_limit, derived_of, along_of}
use Rattle.table.specs.declared.Derived.{Derived}

-- The words below record number `top`.
pub record Stands (table : List ℕ) (top : ℕ) (words : List ℕ) : Type 0 where
  pub below : take (record_words * top) table ≡ words
  pub room : record_words * top ≤ length table

-- The records of a proper pattern end at record number `top`, on some words.
pub record Ends (table : List ℕ) (top : ℕ) (before : List ℕ) (r : Node) : Type 0 where
  pub stands : Stands table top (before ++ records r)
  pub proper : Proper r

pub record SomePart (table : List ℕ) (top : ℕ) : Type 0 where
  pub before : List ℕ
  pub part : Node
  pub ends : Ends table top before part

-- The records of a series of proper parts end there, as many as `items` says.
pub record Series (table : List ℕ) (top items : ℕ) (before : List ℕ) (l : List Node) : Type 0 where
  pub stands : Stands table top (before ++ concat_map records l)
  pub counted : items ≡ length l
  pub proper : All Proper l

-- Below `top` stand the parts of a pattern whose own record has this kind, this operand, so many items and these counts.
pub record Made (table : List ℕ) (top kind operand items least most : ℕ) (before : List ℕ) (r : Node) : Type 0 where
  pub series : Series table top items before (inner r)
  pub same_kind : kind ≡ kind_of r
  pub same_operand : operand ≡ operand_of r
  pub same_least : least ≡ get_or (last_of r) 0 0
  pub same_most : most ≡ get_or (last_of r) 1 0
  pub proper : Proper r

-- What is asked: that there is such a series of one part or more, or such a pattern, and that a word can hold its numbers.
pub record SomeSeries (table : List ℕ) (top items : ℕ) : Type 0 where
  pub before : List ℕ
  pub parts : List Node
  pub series : Series table top items before parts
  pub some : 0 < items
  pub low : top < record_limit

pub record SomeMade (table : List ℕ) (top kind operand items least most : ℕ) : Type 0 where
  pub before : List ℕ
  pub node : Node
  pub made : Made table top kind operand items least most before node
  pub low : top < record_limit

-- What is answered, whatever the series or the pattern is.
pub record Along (d : Derived) (table : List ℕ) (top items : ℕ) : Type 0 where
  pub by : (before : List ℕ) (l : List Node) → Series table top items before l → d ≡ along_of l

pub record Derives (d : Derived) (table : List ℕ) (top kind operand items least most : ℕ) : Type 0 where
  pub by : (before : List ℕ) (r : Node) → Made table top kind operand items least most before r → d ≡ derived_of r

-- Words that two neighbours' derived words have, so that none wraps.
pub record Beside (a b : Derived) : Type 0 where
  pub records : a.records + b.records < record_limit
  pub left : a.size ≤ size_cap
  pub right : b.size ≤ size_cap

-- What a part's size is closed from.
pub record Closing (kind items least most size : ℕ) : Type 0 where
  pub some : 0 < items
  pub few : items < record_limit
  pub small : size ≤ size_cap
  pub counts : kind ≡ quantifier_kind → (least ≤ most) × (most ≤ no_maximum)

-- What is asked of a record that is to be put: a pattern whose own record it is, and room for it.
pub record Putting (table : List ℕ) (top kind operand items : ℕ) (last : List ℕ) : Type 0 where
  pub some : SomeMade table top kind operand items (get_or last 0 0) (get_or last 1 0)
  pub eight : length last ≡ 8
  pub room : record_words * (top + 1) ≤ length table

-- A record is put on top of the parts that it closes; what stands above it is as it was.
pub record Puts (table table' : List ℕ) (top kind operand items : ℕ) (last : List ℕ) : Type 0 where
  pub by : (before : List ℕ) (r : Node) → Made table top kind operand items (get_or last 0 0) (get_or last 1 0) before r
      → last ≡ last_of r
      → Stands table' (top + 1) (before ++ records r)
  pub above : drop (record_words * (top + 1)) table' ≡ drop (record_words * (top + 1)) table
