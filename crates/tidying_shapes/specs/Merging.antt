-- What the parent of a part is, and what it is for a part to merge: its own record goes where its parent is a row of its kind.
use Rattle.std.specs.Prelude.{◌≡◌, List, ◌++◌, ℕ, suc, ◌+◌, ◌*◌, ◌≤◌, ◌<◌, length, drop, Option, Some, None}
use Rattle.std.proofs.Math.Option.{none}
use Rattle.meaning.specs.Node.{Node}
use Rattle.table.specs.Table.{record_words}
use Rattle.table.specs.Derived.{record_limit}
use Rattle.tidying_shapes.specs.Skeleton.{Token, skeleton_in, skeleton, width}
use Rattle.tidying_shapes.specs.Spots.{Parent, Parent.top, Parent.alone, Parent.among, row_of, behind, Sound}
use Rattle.tidying_shapes.specs.Climb.{climb}
use Rattle.tidying_shapes.specs.Tokens.{Says}

-- The record of the parent of a part whose own record is `part`: as far behind that as the climb goes, past all if there is
-- none.
pub record Parented (table : List ℕ) (n part at : ℕ) : Type 0 where
  pub by : (l m : List Token) → length l ≡ suc part → Says table n (l ++ m) → at ≡ suc part + climb 0 m
  pub within : at ≤ n

-- Where the record of a parent is, past all n if there is none; and that it is one of the n.
abbrev pub place_of : ℕ → Option ℕ → ℕ
place_of n None = n
place_of n (Some at) = at

abbrev pub Inside : ℕ → Option ℕ → Type 0
Inside n None = Unit {0}
Inside n (Some at) = at < n

-- How many items the record of a part's parent has, where the part gives so many.
abbrev pub items_of : Parent none → ℕ → ℕ
items_of top m = 0
items_of (alone tok rest) m = 1
items_of (among k others later rest) m = others + m

-- A part whose own record is `root` stands among the tokens as it stands alone, with its parent behind it.
pub record Unmerged (table : List ℕ) (n root : ℕ) (before : List Token) (r : Node) (P : Parent none) : Type 0 where
  pub says : Says table n (before ++ (skeleton r ++ behind P 1))
  pub sound : Sound P
  pub here : length before + length (skeleton r) ≡ suc root
  pub few : items_of P (width (row_of P) r) ≤ record_limit

pub record SomeUnmerged (table : List ℕ) (n root : ℕ) : Type 0 where
  pub before : List Token
  pub part : Node
  pub parent : Parent none
  pub unmerged : Unmerged table n root before part parent

-- Any such part then stands as a part of its parent.
pub record Merged (table table' : List ℕ) (n root n' : ℕ) : Type 0 where
  pub by : (before : List Token) (r : Node) (P : Parent none) → Unmerged table n root before r P
      → Says table' n' (before ++ (skeleton_in (row_of P) r ++ behind P (width (row_of P) r)))
  pub above : drop (record_words * n) table' ≡ drop (record_words * n) table
  pub fewer : n' ≤ n
