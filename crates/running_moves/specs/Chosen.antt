-- What a thread does at a row, in the words of the code: the move of the steps, with keys and registers as numbers.
use Rattle.std.specs.Prelude.{cond, List, ℕ, ◌+◌, ◌<◌, ◌≤◌, eqb, ltb, take, drop}
use Rattle.std.proofs.Math.Option.{Option, none, some}
use Rattle.sets.specs.Sets.{has}
use Rattle.meaning.specs.Limits.{set_words}
use Rattle.meaning.specs.Text.{passes}
use Rattle.meaning.specs.Bytes.{asserts}
use Rattle.machine.specs.Kinds.{set_word}
use Rattle.machine.specs.Rows.{Row, Row.accept, Row.consume, Row.jump, Row.fork, Row.opens, Row.closes, Row.reset}
use Rattle.machine.specs.Rows.{Row.begin, Row.end, Row.assertion}
use Rattle.machine.specs.Words.{row_start}
use Rattle.running_moves.specs.Keys.{key_number, keys_of, row_of, flag_of, next_key, start_of, end_of}
use Rattle.running_moves.specs.declared.Move.{Move}
use Rattle.running_moves.specs.declared.Move.TheVariants.{Win, Lose, Eat, On, Both, Write, Wipe}

-- A word stands for a byte below this number, and for no byte from it on.
abbrev pub byte_limit : ℕ
byte_limit = 256

unfoldable pub byte_of : ℕ → Option ℕ
byte_of b = cond (ltb b byte_limit) (some b) none

-- The words of row q's byte set.
abbrev pub set_in : List ℕ → ℕ → List ℕ
set_in code q = take set_words (drop (row_start q + set_word) code)

-- What the row of a key does between two bytes.
abbrev pub chosen : Option ℕ → Option ℕ → ℕ → Row → Move
chosen before after key accept = Win
chosen before after key (consume s) = cond (passes (has s) after) (Eat (key_number (row_of key + 1) 1)) Lose
chosen before after key (jump t) = On (key_number t (flag_of key))
chosen before after key (fork t u) = Both (key_number t (flag_of key)) (key_number u (flag_of key))
chosen before after key (opens k) = Write (start_of k) (next_key key)
chosen before after key (closes k) = Write (end_of k) (next_key key)
chosen before after key (reset l h) = Wipe (start_of l) (start_of (h + 1)) (next_key key)
chosen before after key begin = On (key_number (row_of key + 1) 0)
chosen before after key (end t) = cond (eqb (flag_of key) 1) (On (key_number t (flag_of key))) Lose
chosen before after key (assertion a) = cond (asserts a before after) (On (next_key key)) Lose

-- A move that leads to keys of n rows and writes only the first w registers.
abbrev pub Ranged : ℕ → ℕ → Move → Type 0
Ranged n w Win = Unit {0}
Ranged n w Lose = Unit {0}
Ranged n w (Eat k) = k < keys_of n
Ranged n w (On k) = k < keys_of n
Ranged n w (Both k l) = (k < keys_of n) × (l < keys_of n)
Ranged n w (Write s k) = (s < w) × (k < keys_of n)
Ranged n w (Wipe from to k) = (2 ≤ from) × (to ≤ w) × (k < keys_of n)
