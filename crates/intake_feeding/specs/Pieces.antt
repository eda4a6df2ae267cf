-- Two pieces of the input are one: what is written for them, and the work behind them.
use Rattle.std.specs.Prelude.{◌≡◌, refl, List, [], ◌∷◌, ◌++◌, ℕ}
use Rattle.std.proofs.Common.{sym, ap, ◌∙◌, append-nil, append_assoc}
use Rattle.intake_feeding.specs.Work.{Work, text_at, work_at, written, work_behind, last_text, written_for}

pub behind_append : (w : Work) (a b : List ℕ) → work_behind w (a ++ b) ≡ work_behind (work_behind w a) b
unfolding work_behind
behind_append w [] b = refl
behind_append w (byte ∷ a) b = behind_append (work_at w byte) a b

pub written_append : (w : Work) (a b : List ℕ) → written w (a ++ b) ≡ written w a ++ written (work_behind w a) b
unfolding written work_behind
written_append w [] b = refl
written_append w (byte ∷ a) b = rw (written_append (work_at w byte) a b) (sym (append_assoc (text_at w byte) _ _))

-- One byte more.
pub behind_more : (w : Work) (a : List ℕ) (byte : ℕ) → work_behind w (a ++ byte ∷ []) ≡ work_at (work_behind w a) byte
unfolding work_behind
behind_more w a byte = behind_append w a (byte ∷ [])

pub written_more : (w : Work) (a : List ℕ) (byte : ℕ) → written w (a ++ byte ∷ []) ≡ written w a ++ text_at (work_behind w a) byte
unfolding written
written_more w a byte =
    written_append w a (byte ∷ []) ∙ ap (λ l. written w a ++ l) (append-nil (text_at (work_behind w a) byte))

pub written_none : (w : Work) → written w [] ≡ []
unfolding written
written_none w = refl

pub behind_none : (w : Work) → work_behind w [] ≡ w
unfolding work_behind
behind_none w = refl

-- The pieces of an input, joined.
abbrev pub joined : List (List ℕ) → List ℕ
joined [] = []
joined (piece ∷ pieces) = piece ++ joined pieces

-- What is written for pieces is what is written for the input that they are.
pub in_pieces : (w : Work) (pieces : List (List ℕ))
    → written_for w pieces ≡ written w (joined pieces) ++ last_text (work_behind w (joined pieces))
in_pieces w [] = rw (written_none w, behind_none w)
in_pieces w (piece ∷ pieces) =
    ap (λ l. written w piece ++ l) (in_pieces (work_behind w piece) pieces)
    ∙ rw (written_append w piece (joined pieces), behind_append w piece (joined pieces))
    (sym (append_assoc (written w piece) _ _))
