-- The closing brace, the counts before it, and what opens them.
use mathlib.Core.Path.{sym, ap}
use mathlib.Core.List.{List, [], ◌∷◌, append_assoc}
use Prim.Native.Nat.{ℕ}
use Rattle.intake_report.specs.Texts.{decimal}
use Rattle.reading_atoms.specs.Chars.{open_brace, close_brace}
use Rattle.showing_spelling.specs.Spelling.{most_text}
use Rattle.showing_spelling.specs.Wrote.{wrote_before, wrote_as}
use Rattle.showing_spelling.proofs.room.Room.put_braces.Goals as goal

pub returns : goal.returns
returns c =
    let least = decimal c.args.least in
    let most = most_text c.args.least c.args.most in
    let behind = wrote_before c.put.ensures c.put_most.ensures in
    wrote_as (wrote_before (wrote_before behind c.put_decimal.ensures) c.put-2.ensures)
    (ap (λ (t : List ℕ). open_brace ∷ t) (sym (append_assoc least most (close_brace ∷ []))))
