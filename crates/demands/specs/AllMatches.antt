-- What the promise of a call for every match says: its refusals in order, the bound of each run, the standard's matches, and
-- that plain and tidied code give one list.
-- The definitions stand here; proofs/AllMatches.antt has the theorems.
use Rattle.std.specs.Prelude.{◌≡◌, Bool, ℤ, length}
use mathlib.Core.List.{List}
use Prim.Native.Nat.{ℕ, suc, ◌+◌, ◌*◌, ◌-◌, ◌≤◌}
use Rattle.meaning.specs.All.{All}
use Rattle.meaning.specs.Grounds.{first_of}
use Rattle.meaning.specs.Text.{Regs}
use Rattle.meaning.specs.Bytes.{text_of}
use Rattle.meaning.specs.Node.{Node}
use Rattle.machine.specs.Steps.{Done, search_row}
use Rattle.machine.specs.Words.{rows_said}
use Rattle.machine.specs.Replies.{run_of}
use Rattle.machine.specs.Repetition.{executed_from, run_starts, executed_in, standard_all, list_words}
use Rattle.machine.specs.Repeated.{Rising}
use Rattle.machine.specs.Once.{Once}
use Rattle.reading_items.specs.Reading.{Reading.pattern, reading}
use Rattle.reading_grammar.specs.Grammar.{Derives}
use Rattle.compiler.specs.Compiling.{shaped}
use Rattle.repetition.specs.Listings.{lent_all, listing_to}
use Rattle.repetition.specs.Listings.{list_from}
use Rattle.repetition.specs.Listings.{Listing}
use Rattle.repetition.specs.Listings.{Listing.Listed, Listing.Short, Listing.Refused}

-- ---- demand 1

-- The runs of a repetition: each has ended and keeps within its bound, their starts rise strictly, and they are few.
pub record Bounded (code text : List ℕ) (start : ℕ) : Type 0 where
  pub ends : All (λ s. Done (run_of code text s search_row)) (run_starts code text start)
  pub each : All (λ s. executed_from code text s ≤ 2 * rows_said code * (length text - s + 1)) (run_starts code text start)
  pub rise : Rising (run_starts code text start)
  pub few : length (run_starts code text start) ≤ length text - start + 1

-- ---- demand 2

-- The answer is the standard's: every match of its repetition, each once; turned away only by 21, 22, 24 and 25.
pub record StandardAll (r : Node) (n g : ℕ) (code text : List ℕ) (start : ℕ) (list list' : List ℤ) (workspace : ℕ)
    (answer : Listing) : Type 0 where
  pub answers : first_of (lent_all n g text start workspace) ≡ 0 → let all : List Regs = standard_all (text_of text) g r start in
      answer ≡ listing_to 0 (list_words (length all) g) (length list) (length all) (executed_in code text start)
  pub list_is : first_of (lent_all n g text start workspace) ≡ 0 → let all : List Regs = standard_all (text_of text) g r start in
      list' ≡ list_from 0 (list_words (length all) g) all list
  pub refuses : (k : ℕ) → first_of (lent_all n g text start workspace) ≡ suc k → answer ≡ Refused (suc k)
  pub once : Once start (standard_all (text_of text) g r start)

-- So is the answer for what was compiled, plain or tidied.
pub record SomeStandardAll (tidying : Bool) (s table code' text : List ℕ) (start n g : ℕ) (list list' : List ℤ)
    (workspace : ℕ) (answer : Listing) : Type 0 where
  pub node : Node
  pub is_read : reading s (length table) ≡ pattern node g
  pub is_derived : Derives s node g
  pub standard : StandardAll (shaped tidying node) n g code' text start list list' workspace answer

-- An answer without its count.
abbrev pub outcome_all : Listing → Listing
outcome_all (Listed matches count) = Listed matches 0
outcome_all (Short needed) = Short needed
outcome_all (Refused number) = Refused number

-- What two calls leave in lists of their own: the spans of the same matches, before what stood behind them; or nothing new.
pub record SameLists (g : ℕ) (list list' list₂ list'' : List ℤ) : Type 0 where
  pub all : List Regs
  pub first : list' ≡ list_from 0 (list_words (length all) g) all list
  pub second : list'' ≡ list_from 0 (list_words (length all) g) all list₂
