-- T7 fits where an alternative is void, or an item of a sequence without groups.
use Rattle.tidying_fitting.proofs.Wanted.{void_alternative, no_void, void_item}
use Rattle.tidying_fitting.proofs.series.void_part.Goals as goal

pub returns-then-has_wanted : goal.returns-then-has_wanted
returns-then-has_wanted c = void_alternative c.has_wanted.ensures c.if-has_wanted.true

pub returns-then-has_wanted-2 : goal.returns-then-has_wanted-2
returns-then-has_wanted-2 c =
    void_item c.has_wanted.ensures c.if-has_wanted.false c.has_wanted-else-has_wanted.ensures c.if-has_wanted-2.true
    c.own.ensures

pub returns-else-has_wanted-2 : goal.returns-else-has_wanted-2
returns-else-has_wanted-2 c =
    no_void c.has_wanted.ensures c.if-has_wanted.false c.has_wanted-else-has_wanted.ensures c.if-has_wanted-2.false
