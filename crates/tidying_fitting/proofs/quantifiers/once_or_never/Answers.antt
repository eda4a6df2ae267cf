use borrow.Author.Tests.{eq-eqb, le-leb}
use Rattle.tidying_laws.specs.Laws.{t2}
use Rattle.tidying_fitting.specs.Fitting.{fits}
use Rattle.tidying_fitting.proofs.Told.{by_record}
use Rattle.tidying_fitting.specs.Words.{once_or_never, t2_words}
use Rattle.tidying_fitting.proofs.quantifiers.once_or_never.Goals as goal

pub returns-then-part-le1 : goal.returns-then-part-le1
returns-then-part-le1 c = by_record once_or_never (fits t2) t2_words c.own-part.ensures
    (let (kind, same, few) = c.if-part-le1.true in rw (eq-eqb _ _ kind, eq-eqb _ _ same, le-leb _ _ few))
