-- What the words of a workspace stand for, and what the functions of this crate promise. Definitions only.
use Rattle.std.specs.Prelude.{◌≡◌, Bool, true, false, List, [], ◌∷◌, map, ℕ, zero, suc, ◌+◌, ◌*◌, ◌-◌, ◌<◌, ◌≤◌, length, get_or, set, replicate}
use Rattle.std.proofs.Math.Option.{none}
use Rattle.meaning.specs.Limits.{second_limit, word_limit}
use Rattle.meaning.specs.Text.{registers_of}
use Rattle.meaning.specs.Bytes.{text_of}
use Rattle.machine.specs.Words.{rows_said, groups_said, decode}
use Rattle.running_moves.specs.Keys.{keys_of, key_of}
use Rattle.running_moves.specs.declared.Move.{Move as Doing}
use Rattle.running_moves.specs.declared.Move.TheVariants.{Win, Lose, Eat, On, Both, Write, Wipe}
use Rattle.running_threads.specs.Words.{words_at, fresh}
use Rattle.running_threads.specs.Threads.{nowhere, reg_of, wipe, Seen}
use Rattle.running_settle.specs.Moved.{wins, best_of, moves_of}
use Rattle.second.specs.Plain.{Choice, choice, Memory, Search, Search.searching, try_one, result_of, count_of, second_run}
use Rattle.second.specs.declared.Layout.{Layout}
use Rattle.second.specs.declared.State.{State}
use Rattle.second.specs.declared.State.TheVariants.{Runs, Won, Ended}
use Rattle.second.specs.declared.Trial.{Trial}

-- ---- how a search stands

abbrev pub going_of : State → Bool
going_of Runs = true
going_of Won = false
going_of Ended = false

abbrev pub found_of : State → Bool
found_of Runs = false
found_of Won = true
found_of Ended = false

-- ---- where things lie

-- The word that marks a row and flag as tried.
abbrev pub tried_mark : ℕ
tried_mark = 1

-- Where the marks of a position lie, and where a choice does: its key, its position, its registers.
abbrev pub marks_at : Layout → ℕ → ℕ
marks_at l position = position * keys_of l.rows

abbrev pub choice_at : Layout → ℕ → ℕ
choice_at l index = l.marks + l.width + index * (l.width + 2)

-- A layout for words that have room for it: 2n marks for each position of the text, and as many choices.
pub record Laid (l : Layout) (len : ℕ) : Type 0 where
  pub marks : l.marks ≡ (l.length + 1) * keys_of l.rows
  pub short : l.length ≤ second_limit
  pub small : choice_at l l.marks < word_limit
  pub room : choice_at l l.marks ≤ len

-- It is for the rows and registers that code says, and for a text.
pub record Serves (code text : List ℕ) (l : Layout) : Type 0 where
  pub rows : l.rows ≡ rows_said code
  pub width : l.width ≡ registers_of (groups_said code)
  pub long : l.length ≡ length text

-- The layout that is made for code and a length.
abbrev pub LayoutOf : List ℕ → ℕ → Layout → Type 0
LayoutOf code size l = l ≡ record {
  length = size;
  rows = rows_said code;
  width = registers_of (groups_said code);
  marks = (size + 1) * keys_of (rows_said code);
}

-- ---- what the words stand for

-- The registers of the thread that runs.
abbrev pub own : List ℕ → Layout → List ℕ
own s l = words_at s l.marks l.width

-- A choice from words, and those that are stored, the newest first.
abbrev pub choice_of : ℕ → ℕ → List ℕ → Choice
choice_of position key rs = choice position (key_of key) (map reg_of rs)

abbrev pub choice_in : List ℕ → Layout → ℕ → Choice
choice_in s l i =
    choice_of (get_or s (choice_at l i + 1) 0) (get_or s (choice_at l i) 0) (words_at s (choice_at l i + 2) l.width)

unfoldable pub choices_in : List ℕ → Layout → ℕ → List Choice
choices_in s l zero = []
choices_in s l (suc n) = choice_in s l n ∷ choices_in s l n

-- The choices of a search: the thread that runs and those stored, or none where it has ended.
abbrev pub while_going : Bool → Choice → List Choice → List Choice
while_going true t cs = t ∷ cs
while_going false t cs = []

abbrev pub choices_of : List ℕ → Layout → Trial → List Choice
choices_of s l x =
    while_going (going_of x.state) (choice_of x.position x.key (own s l)) (choices_in s l x.stored)

-- The search that the words stand for, where something was tried.
abbrev pub search_of : List ℕ → Layout → Trial → Memory → Search
search_of s l x tried = searching (choices_of s l x) tried (best_of (found_of x.state) (own s l) none) x.count

-- The marks say what was tried.
pub record Marks (s : List ℕ) (l : Layout) (tried : Memory) : Type 0 where
  pub tells : (j : ℕ) → j ≤ l.length
      → Seen (words_at s (marks_at l j) (keys_of l.rows)) tried_mark (keys_of l.rows) (tried j)

-- How many marks are not set yet.
abbrev pub unmarked : List ℕ → Layout → ℕ
unmarked s l = fresh s tried_mark l.marks

-- ---- moves

-- What a move leaves of the choices, at a position, of a thread whose registers are rs.
abbrev pub goes_to : ℕ → Doing → List ℕ → List Choice → List Choice
goes_to p Win rs cs = []
goes_to p Lose rs cs = cs
goes_to p (Eat k) rs cs = choice_of (p + 1) k rs ∷ cs
goes_to p (On k) rs cs = choice_of p k rs ∷ cs
goes_to p (Both k j) rs cs = choice_of p k rs ∷ choice_of p j rs ∷ cs
goes_to p (Write r k) rs cs = choice_of p k (set rs r p) ∷ cs
goes_to p (Wipe from to k) rs cs = choice_of p k (wipe (to - from) from rs) ∷ cs

-- A byte is consumed only before the end of the text.
abbrev pub Ahead : ℕ → ℕ → Doing → Type 0
Ahead p size Win = Unit {0}
Ahead p size Lose = Unit {0}
Ahead p size (Eat k) = p < size
Ahead p size (On k) = Unit {0}
Ahead p size (Both k j) = Unit {0}
Ahead p size (Write r k) = Unit {0}
Ahead p size (Wipe from to k) = Unit {0}

-- The choices stored have keys of the program and positions of the text.
pub record Sound (s : List ℕ) (l : Layout) (n : ℕ) : Type 0 where
  pub each : (i : ℕ) → i < n → (get_or s (choice_at l i) 0 < keys_of l.rows) × (get_or s (choice_at l i + 1) 0 ≤ l.length)

-- A thread runs.
pub record Going (l : Layout) (x : Trial) (s : List ℕ) : Type 0 where
  pub laid : Laid l (length s)
  pub key : x.key < keys_of l.rows
  pub position : x.position ≤ l.length
  pub few : x.stored ≤ l.marks
  pub sound : Sound s l x.stored
  pub going : going_of x.state ≡ true
  pub quiet : found_of x.state ≡ false

-- A choice more is stored; marks and registers stay, and words behind all choices.
pub record Stored (l : Layout) (x : Trial) (k : ℕ) (s t : List ℕ) : Type 0 where
  pub choices : choices_in t l (suc x.stored) ≡ choice_of x.position k (own s l) ∷ choices_in s l x.stored
  pub own : own t l ≡ own s l
  pub key : get_or t (choice_at l x.stored) 0 ≡ k
  pub position : get_or t (choice_at l x.stored + 1) 0 ≡ x.position
  pub before : (i : ℕ) → i < choice_at l x.stored → get_or t i 0 ≡ get_or s i 0
  pub after : (i : ℕ) → choice_at l l.marks ≤ i → get_or t i 0 ≡ get_or s i 0

-- Registers became -1, and nothing else was done.
pub record Wiped (l : Layout) (from to : ℕ) (s t : List ℕ) : Type 0 where
  pub own : own t l ≡ wipe (to - from) from (own s l)
  pub before : (i : ℕ) → i < l.marks → get_or t i 0 ≡ get_or s i 0
  pub after : (i : ℕ) → l.marks + l.width ≤ i → get_or t i 0 ≡ get_or s i 0

-- One for a search that goes on.
abbrev pub alive : Bool → ℕ
alive true = 1
alive false = 0

-- A move was made.
pub record Went (l : Layout) (mv : Doing) (x : Trial) (s t : List ℕ) (y : Trial) : Type 0 where
  pub choices : choices_of t l y ≡ goes_to x.position mv (own s l) (choices_in s l x.stored)
  pub found : found_of y.state ≡ wins mv
  pub quiet : going_of y.state ≡ true → found_of y.state ≡ false
  pub words : found_of y.state ≡ true → own t l ≡ own s l
  pub count : y.count ≡ x.count
  pub key : y.key < keys_of l.rows
  pub position : y.position ≤ l.length
  pub sound : Sound t l y.stored
  pub few : y.stored ≤ x.stored + 1
  pub less : mv ≡ Lose → y.stored + alive (going_of y.state) ≤ x.stored
  pub marks : (i : ℕ) → i < l.marks → get_or t i 0 ≡ get_or s i 0
  pub tail : (i : ℕ) → choice_at l l.marks ≤ i → get_or t i 0 ≡ get_or s i 0

-- ---- steps

-- Each row executed set a mark, and there is room for what the others may store.
pub record Standing (l : Layout) (x : Trial) (s : List ℕ) : Type 0 where
  pub laid : Laid l (length s)
  pub key : x.key < keys_of l.rows
  pub position : x.position ≤ l.length
  pub sound : Sound s l x.stored
  pub few : x.stored + unmarked s l ≤ l.marks
  pub spent : x.count + unmarked s l ≡ l.marks
  pub quiet : going_of x.state ≡ true → found_of x.state ≡ false

-- What is left to do.
abbrev pub to_do : Layout → Trial → List ℕ → ℕ
to_do l x s = unmarked s l + unmarked s l + (x.stored + alive (going_of x.state))

-- One step, on the words.
pub record Attempted (code text : List ℕ) (l : Layout) (x : Trial) (s t : List ℕ) (y : Trial) : Type 0 where
  pub stands : length t ≡ length s → Standing l y t
  pub less : to_do l y t < to_do l x s
  pub tail : (i : ℕ) → choice_at l l.marks ≤ i → get_or t i 0 ≡ get_or s i 0
  pub one : (tried : Memory) → Marks s l tried
      → (tried' : Memory) × (length t ≡ length s → Marks t l tried')
      × (try_one (moves_of code text) (search_of s l x tried) ≡ search_of t l y tried')

-- The second engine's run of code on a text, from a position and a row.
abbrev pub second_of : List ℕ → List ℕ → ℕ → ℕ → Search
second_of code text start row = second_run (text_of text) (decode code) start row

-- What it answers; words behind those that it needs stay.
pub record Ran (code text : List ℕ) (l : Layout) (start row : ℕ) (s t : List ℕ) (x : Trial) : Type 0 where
  pub result : result_of (second_of code text start row) ≡ best_of (found_of x.state) (own t l) none
  pub unset : found_of x.state ≡ false → own t l ≡ replicate l.width nowhere
  pub count : count_of (second_of code text start row) ≡ x.count
  pub tail : (i : ℕ) → choice_at l l.marks ≤ i → get_or t i 0 ≡ get_or s i 0
