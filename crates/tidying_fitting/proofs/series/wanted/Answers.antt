-- Each want has its own test of the last part of a series.
use Rattle.tidying_laws.specs.Laws.{is_empty, is_void}
use Rattle.tidying_fitting.specs.declared.Want.TheVariants.{Empty, Equal, Void, Alike}
use Rattle.tidying_fitting.proofs.Walked.{last_asked, last_told}
use Rattle.tidying_fitting.proofs.Wanted.{empty_told, as_want}
use Rattle.tidying_fitting.proofs.series.wanted.Goals as goal

pub own-requires : goal.own-requires
own-requires c = last_asked c.requires

pub is_void-requires : goal.is_void-requires
is_void-requires c = last_asked c.requires

pub returns-in-Empty : goal.returns-in-Empty
returns-in-Empty c = as_want Empty c.in-Empty.is
    (last_told c.args.items is_empty (empty_told c.own.ensures))

pub returns-in-Equal : goal.returns-in-Equal
returns-in-Equal c = as_want Equal c.in-Equal.is c.goes.ensures

pub returns-in-Void : goal.returns-in-Void
returns-in-Void c = as_want Void c.in-Void.is
    (last_told c.args.items is_void c.is_void.ensures)

pub returns-in-Alike : goal.returns-in-Alike
returns-in-Alike c = as_want Alike c.in-Alike.is c.follows.ensures
