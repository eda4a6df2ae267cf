-- What is kept of a last line is a line, unless it is empty.
use Rattle.std.specs.Prelude.{◌≡◌, length}
use Rattle.std.proofs.Common.{arith, rules}
use Rattle.intake_feeding.specs.Work.{kept_limit}
use Rattle.intake_feeding.specs.Laws.{last_none, last_some}
use Rattle.intake_feeding.proofs.finish.Goals as goal

pub returns-then-kept-eq0 : goal.returns-then-kept-eq0
returns-then-kept-eq0 c =
    let none = last_none c.args.phase c.args.kept c.args.line.now c.args.code.now (omega arith) in
    record { feeds = rw none c.feed.ensures.feeds; untouched = c.feed.ensures.untouched }

pub returns : goal.returns
returns c =
    let long : length c.args.line.now ≡ kept_limit = search rules in
    let some = last_some c.args.phase c.args.kept c.args.line.now c.args.code.now (λ e. c.if-kept-eq0.false (omega arith)) in
    record { feeds = rw some c.feed-2.ensures.feeds; untouched = c.feed-2.ensures.untouched }
