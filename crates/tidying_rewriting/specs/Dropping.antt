-- T6 and T7: the leftmost alternative that a law looks for goes from an alternation. T7 makes a sequence the empty set.
-- The definitions stand here; proofs/Dropping.antt has the theorems.
use Rattle.std.specs.Prelude.{List, []}
use Rattle.std.proofs.Math.Option.{Option, map}
use Rattle.meaning.specs.Node.{Node}
use Rattle.meaning.specs.Flat.{Kind.alternation, join}
use Rattle.tidying_laws.specs.Laws.{on_parts}
use Rattle.tidying_fitting.specs.Places.{leftmost}
use Rattle.tidying_fitting.specs.Wants.{wants, without}
use Rattle.tidying_fitting.specs.declared.Want.{Want}
use Rattle.tidying_rewriting.specs.Rewriting.{Rule}

-- The law that drops the leftmost alternative that passes a test.
abbrev pub without_wanted : Want → List Node → Option Node
without_wanted want l = map (λ s. join alternation (without s)) (leftmost (wants want) [] l)

abbrev pub dropping : Want → Rule
dropping want = on_parts alternation (without_wanted want)
