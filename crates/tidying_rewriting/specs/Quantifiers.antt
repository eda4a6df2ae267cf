-- T2 to T5, T9 and T10, laws for a quantifier: its own record goes, or the one of the quantifier inside it, or it becomes empty.
-- The definitions stand here; proofs/Quantifiers.antt has the theorems.
use Rattle.std.specs.Prelude.{cond, eqb}
use Rattle.std.proofs.Math.Option.{some}
use Rattle.meaning.specs.Node.{Node.empty, Node.many}
use Rattle.tidying_laws.specs.Laws.{on_many}
use Rattle.tidying_rewriting.specs.Rewriting.{Rule}

-- What is left without the quantifier; and without the inner one of two.
abbrev pub unquantified : Rule
unquantified = on_many (λ n e lazy r. some (cond (eqb n 0) empty r))

abbrev pub unnested : Rule
unnested = on_many (λ n e lazy. on_many (λ m f inner r. some (many n e lazy r)))
