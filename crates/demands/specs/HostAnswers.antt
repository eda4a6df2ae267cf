-- The bytes that the host's compiling leaves, run by the host's match or search: what is answered is what the standard finds.
-- The definitions stand here; proofs/HostAnswers.antt has the theorems.
use Rattle.std.specs.Prelude.{List, ◌∷◌, ℕ, zero, suc, ltb, length}
use Rattle.std.proofs.Math.Option.{Option}
use Rattle.meaning.specs.Text.{Regs}
use Rattle.meaning.specs.Limits.{code_size}
use Rattle.meaning.specs.Refusals as No
use Rattle.meaning.specs.Grounds.{Ground, ground}
use Rattle.machine.specs.Replies.{Lent, lent_grounds, spans}
use Rattle.wire.specs.Wire.{bytes_of_ints, written}
use Rattle.host.specs.Surface.{lent_words}

-- The grounds for turning away a run of bytes that were compiled: 20 if they are too many words, and 21 to 24 by what is lent.
abbrev pub kept_grounds : List ℕ → ℕ → ℕ → Lent → List Ground
kept_grounds kept n g lent = ground No.code_fails (ltb code_size (lent_words (length kept))) ∷ lent_grounds n g lent

-- The registers' bytes by the number of a refusal: those of the starts and ends before later bytes, or all as they were.
abbrev pub bytes_from : ℕ → ℕ → Option Regs → List ℕ → List ℕ
bytes_from zero g result before = written (bytes_of_ints (spans g result)) before
bytes_from (suc number) g result before = before
