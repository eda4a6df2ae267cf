-- What the readers ask and what they answer. Each is a record, so that a proof names no argument of it.
use Rattle.std.specs.Prelude.{◌≡◌, List, ◌++◌, ℕ, zero, suc, ◌+◌, ◌-◌, ◌*◌, ◌≤◌, ◌<◌, length, take}
use Rattle.meaning.specs.Bytes.{Bytes}
use Rattle.meaning.specs.Refusals as No
use Rattle.meaning.specs.Limits.{pattern_limit, table_words, depth_limit, group_limit}
use Rattle.meaning.specs.Node.{Node, Node.group}
use Rattle.meaning.specs.Flat.{Kind, Kind.sequence, Kind.alternation, Not, parts, join}
use Rattle.meaning.specs.Results.{concat_map}
use Rattle.table.specs.Table.{record_words, sequence_kind, alternation_kind, records}
use Rattle.meaning.specs.All.{All}
use Rattle.table.specs.Derived.{record_limit}
use Rattle.table.specs.Stands.{Stands, Ends, Series}
use Rattle.reading_atoms.specs.Chars.{byte_at, open_paren}
use Rattle.reading_atoms.specs.Braces.{quantifier_at}
use Rattle.reading_items.specs.Reading.{Part, Part.part, Part.turned, and_then, quantified, closed, item_at, alternatives_at}
use Rattle.reading_items.specs.Answers.{Got, Got.GotPart, Got.GotRefused, Opening, Opening.Inside, Opening.NotOpened}
use Rattle.reading_items.specs.declared.series.Spliced.{Spliced}

-- What every reader is handed: a place within a pattern that passed checks 1 to 3, groups within the limit, and a table with
-- room. A part has at most two records for each of its bytes and one more, so each reader begins with two for each byte.
pub record Fine (s table : List ℕ) (at groups top : ℕ) : Type 0 where
  pub within : at ≤ length s
  pub short : length s ≤ pattern_limit
  pub few : groups ≤ group_limit
  pub room : top ≤ 2 * at
  pub words : table_words (length s) ≤ length table
  pub bytes : Bytes s

-- The same, behind a part that was read: there is room for one record more.
pub record Behind (s table : List ℕ) (at top : ℕ) : Type 0 where
  pub within : at ≤ length s
  pub short : length s ≤ pattern_limit
  pub room : top ≤ 2 * length s + 1
  pub words : table_words (length s) ≤ length table
  pub bytes : Bytes s

-- There is room for a record at a top.
pub record Room (table : List ℕ) (top : ℕ) : Type 0 where
  pub low : top < record_limit
  pub words : record_words * (top + 1) ≤ length table

-- A reading was met: the part's records stand behind what stood before; or it was refused, by one of the numbers from 4 on.
abbrev pub MeetsBy : Part → Got → List ℕ → List ℕ → Type 0
MeetsBy (part r at g) answer before table' = (top : ℕ) × (answer ≡ GotPart at top g) × Stands table' top (before ++ records r)
MeetsBy (turned number place) answer before table' = (answer ≡ GotRefused number place) × (No.high_byte < number)

pub record Meets (x : Part) (answer : Got) (before table' : List ℕ) : Type 0 where
  pub by : MeetsBy x answer before table'

-- The same, where what stood before is what stands below a top.
abbrev pub Leaves : Part → Got → ℕ → List ℕ → List ℕ → Type 0
Leaves x answer top table table' = Meets x answer (take (record_words * top) table) table'

-- What a quantifier behind a part makes of it.
pub record Quantifies (s : List ℕ) (at groups top : ℕ) (table table' : List ℕ) (answer : Got) : Type 0 where
  pub by : (before : List ℕ) (r : Node) → Ends table top before r
      → Meets (quantified (quantifier_at s at) r at groups) answer before table'

-- A part as a group, by its number; 0 stands for no group.
abbrev pub grouped : ℕ → Node → Node
grouped zero r = r
grouped (suc k) r = group (suc k) r

-- What a `)` and a quantifier behind a part make of it.
pub record Closes (s : List ℕ) (at number groups top : ℕ) (table table' : List ℕ) (answer : Got) : Type 0 where
  pub by : (before : List ℕ) (r : Node) → Ends table top before r
      → Meets (closed s (grouped number r) at groups) answer before table'

pub record Groups (number top top' : ℕ) (table table' : List ℕ) : Type 0 where
  pub by : (before : List ℕ) (r : Node) → Ends table top before r
      → Stands table' top' (before ++ records (grouped number r))
  pub next : top' ≤ top + 1

-- A `(` stands at a place, below so many others.
pub record OpensAt (s : List ℕ) (at depth groups : ℕ) : Type 0 where
  pub within : at < length s
  pub short : length s ≤ pattern_limit
  pub deep : depth ≤ depth_limit
  pub few : groups ≤ group_limit
  pub opens : byte_at s at ≡ open_paren

-- What a `(` opens: alternatives from a place on, with the groups so far; or a refusal.
abbrev pub OpensBy : List ℕ → ℕ → ℕ → ℕ → Opening → Type 0
OpensBy s at depth g (Inside from number inside) =
    (depth < depth_limit) × (at < from) × (from ≤ length s) × (inside ≤ group_limit)
    × ((d : ℕ) → item_at (suc d) s at g
    ≡ and_then (alternatives_at d s from inside) (λ r end g'. closed s (grouped number r) end g'))
OpensBy s at depth g (NotOpened number place) = (item_at (depth_limit - depth) s at g ≡ turned number place)
    × (No.high_byte < number)

pub record Opens (s : List ℕ) (at depth groups : ℕ) (answer : Opening) : Type 0 where
  pub by : OpensBy s at depth groups answer

-- The kind of the record that closes a series of parts.
abbrev pub series_kind : Kind → ℕ
series_kind sequence = sequence_kind
series_kind alternation = alternation_kind

-- A series of parts that may be closed by a record of a kind.
pub record Gathered (k : Kind) (table : List ℕ) (top count : ℕ) (before : List ℕ) (l : List Node) : Type 0 where
  pub series : Series table top count before l
  pub apart : All (Not k) l

pub record SomeGathered (table : List ℕ) (top kind count : ℕ) : Type 0 where
  pub k : Kind
  pub is_kind : kind ≡ series_kind k
  pub before : List ℕ
  pub parts : List Node
  pub gathered : Gathered k table top count before parts
  pub room : Room table top

-- They are joined by a record on top of them, unless there is one part only.
pub record Joins (table table' : List ℕ) (top kind count top' : ℕ) : Type 0 where
  pub by : (k : Kind) → kind ≡ series_kind k → (before : List ℕ) (l : List Node) → Gathered k table top count before l
      → Stands table' top' (before ++ records (join k l))

-- A part that is itself such a series gives its own parts.
pub record Splices (table : List ℕ) (top kind : ℕ) (spliced : Spliced) : Type 0 where
  pub by : (k : Kind) → kind ≡ series_kind k → (before : List ℕ) (r : Node) → Ends table top before r
      → Stands table spliced.top (before ++ concat_map records (parts k r)) × (spliced.items ≡ length (parts k r))
