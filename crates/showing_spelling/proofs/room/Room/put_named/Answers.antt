-- The runs, and then the names before them.
use Rattle.std.proofs.Common.{sym, ap, ◌∙◌, List, ◌++◌, append_assoc, ℕ}
use Rattle.showing_spelling.specs.Escapes.{or_six}
use Rattle.showing_spelling.specs.Spelling.{escape_text, runs_of, lacking}
use Rattle.showing_spelling.specs.Wrote.{wrote_before, wrote_as}
use Rattle.showing_spelling.proofs.room.Room.put_named.Goals as goal

pub returns : goal.returns
returns c =
    let words = escape_text (or_six c.args.words) in
    let spaces = escape_text (or_six c.args.spaces) in
    wrote_as (wrote_before (wrote_before c.put_runs.ensures c.put_escape.ensures) c.put_escape-2.ensures)
    (ap (λ (l : List ℕ). words ++ (spaces ++ runs_of l))
    (c.lacking-2.ensures ∙ ap (λ (l : List ℕ). lacking l (or_six c.args.spaces)) c.lacking.ensures)
    ∙ sym (append_assoc words spaces _))
