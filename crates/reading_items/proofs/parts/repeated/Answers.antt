-- No quantifier, one, or its refusal.
use Rattle.std.proofs.Common.{rules}
use Rattle.reading_items.proofs.Putting.{behind_room, once_quantifies, refused_quantifies, many_putting, many_quantifies}
use Rattle.reading_items.proofs.parts.repeated.Goals as goal

pub put-requires : goal.put-requires
put-requires c =
    many_putting c.args.s.now c.args.from.at (rw c.in-Some.is at c.in_ok-repeat.ensures) (behind_room c.requires.0) c.requires.1

pub returns-in_err-repeat : goal.returns-in_err-repeat
returns-in_err-repeat c =
    let h = refused_quantifies c.args.s.now c.args.from.at {g = c.args.from.groups} {top = c.args.from.top} {table = c.args.table.now} c.in_err-repeat.ensures in
    search (rules, h)

pub returns-in_default : goal.returns-in_default
returns-in_default c = once_quantifies c.args.s.now c.args.from.at (rw c.in_default.is at c.in_ok-repeat.ensures)

pub returns : goal.returns
returns c =
    many_quantifies c.args.s.now c.args.from.at (rw c.in-Some.is at c.in_ok-repeat.ensures) (behind_room c.requires.0) c.put.ensures
