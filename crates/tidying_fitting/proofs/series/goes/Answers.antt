-- A part with a group stays, and one without goes if it equals an earlier one.
use borrow.Author.Tests.{ne_eqb}
use Rattle.tidying_fitting.proofs.Walked.{last_asked}
use Rattle.tidying_fitting.proofs.Wanted.{grouped_told, ungrouped_told}
use Rattle.tidying_fitting.proofs.series.goes.Goals as goal

pub own-requires : goal.own-requires
own-requires c = last_asked c.requires

pub returns-then-own-eq0 : goal.returns-then-own-eq0
returns-then-own-eq0 c = ungrouped_told c.own.ensures c.if-own-eq0.true c.repeats.ensures

pub returns-else-own-eq0 : goal.returns-else-own-eq0
returns-else-own-eq0 c = rw (ne_eqb _ _ c.if-own-eq0.false) (grouped_told c.args.items c.own.ensures c.if-own-eq0.false)
