use Rattle.tidying_fitting.proofs.Passed.{void_told}
use Rattle.tidying_fitting.proofs.series.is_void.Goals as goal

pub returns-then-own-eq-BYTE_SET : goal.returns-then-own-eq-BYTE_SET
returns-then-own-eq-BYTE_SET c =
    void_told c.own.ensures c.if-own-eq-BYTE_SET.true c.last_words.ensures c.none.ensures c.same.ensures
