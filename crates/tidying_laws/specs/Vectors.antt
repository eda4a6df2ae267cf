-- The tidier on closed patterns. What each becomes is read off the outline.
-- The definitions stand here; proofs/Vectors.antt has the theorems.
use Rattle.std.proofs.Math.Decide.{ℕ_discrete}
use Rattle.sets.specs.Sets.{bit, has}
use Rattle.tidying_laws.specs.Groups.{groups, group_free}
use Rattle.tidying_laws.specs.Void.{no_bytes}
use Rattle.tidying_laws.specs.Equal.{same, dec_list, dec_option}
use Rattle.meaning.specs.Flat.{parts}
use Rattle.tidying_laws.specs.Measures.{weight}
use Rattle.tidying_laws.specs.List.{laws}
use Rattle.tidying_laws.specs.Laws.{filled, distinct, possible, run, glues}
use Rattle.tidying_laws.specs.Laws.{share}
use Rattle.tidying_laws.specs.Tidier.{places, lowest, found, tidy_step, tidies, tidy}

-- All that the tidier computes by: to unfold this is to unfold them.
unfoldable pub computed : Unit {0}
unfolding tidy tidies tidy_step found lowest laws places weight parts same dec_list dec_option ℕ_discrete
    group_free groups filled distinct possible run glues share no_bytes has bit
computed = tt
