-- Patterns are rebuilt from their tokens by a machine with a stack: a token takes the parts that it closes off the top, and puts
-- what they make there. So equal tokens are those of equal patterns.
-- The definitions stand here; proofs/Parse.antt has the theorems.
use Rattle.std.specs.Prelude.{cond, List, [], ◌∷◌, ◌++◌, ℕ, ◌-◌, eqb, length, get_or, take, drop}
use Rattle.std.proofs.Math.Option.{Option, none, some}
use Rattle.meaning.specs.Node.{Node, Node.empty, Node.bset, Node.assert, Node.group, Node.many}
use Rattle.meaning.specs.Flat.{Kind.sequence, Kind.alternation, join}
use Rattle.meaning.specs.Limits.{no_maximum}
use Rattle.table.specs.Table.{set_kind, assertion_kind, group_kind, sequence_kind, alternation_kind, quantifier_kind}
use Rattle.tidying_shapes.specs.Skeleton.{Token}

-- The first of the parts that a token closes, and the turns that a maximum leaves above the minimum.
abbrev pub first_part : List Node → Node
first_part [] = empty
first_part (r ∷ l) = r

abbrev pub extra_turns : ℕ → ℕ → Option ℕ
extra_turns least most = cond (eqb most no_maximum) none (some (most - least))

-- The pattern of a token and the parts that it closes.
unfoldable pub build : Token → List Node → Node
build tok l =
    cond (eqb tok.kind set_kind) (bset tok.last)
    (cond (eqb tok.kind assertion_kind) (assert tok.operand)
    (cond (eqb tok.kind group_kind) (group tok.operand (first_part l))
    (cond (eqb tok.kind sequence_kind) (join sequence l)
    (cond (eqb tok.kind alternation_kind) (join alternation l)
    (cond (eqb tok.kind quantifier_kind) (many (get_or tok.last 0 0) (extra_turns (get_or tok.last 0 0) (get_or tok.last 1 0))
    (eqb (get_or tok.last 2 0) 1) (first_part l))
    empty)))))

-- The stack after some tokens, its top last.
unfoldable pub parse : List Node → List Token → List Node
parse stack [] = stack
parse stack (tok ∷ ts) =
    let under : ℕ = length stack - tok.items in
    parse (take under stack ++ (build tok (drop under stack) ∷ [])) ts
