-- The last arm has the numbers of no law.
use Rattle.std.proofs.Common.{rules, refl}
use Rattle.tidying_laws.specs.List.{laws}
use Rattle.tidying_laws.specs.ByNumber.{law_count}
use Rattle.tidying_laws.proofs.ByNumber.{none_of}
use Rattle.tidying_laws.proofs.LawTryFromU32.try_from.Goals as goal

pub returns-in_default : goal.returns-in_default
unfolding law_count laws
returns-in_default c = (refl, none_of 10 c.args.number (search rules))
