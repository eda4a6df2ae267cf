-- Carrying out a law at a part of a pattern that stands as records in a table: what is asked, and what is done.
use Rattle.std.specs.Prelude.{◌≡◌, List, ◌∷◌, ◌++◌, ℕ, ◌+◌, ◌*◌, ◌≤◌, ◌<◌, length, replicate, get_or}
use Rattle.std.proofs.Common.{sym, subst, arith, length-append}
use Rattle.std.proofs.Math.Option.{Option, none, some}
use Rattle.meaning.specs.Node.{Node}
use Rattle.meaning.specs.Flat.{Flat}
use Rattle.table.specs.Table.{record_words, record_of, word_of}
use Rattle.table.specs.Laws.{inner, kind_of, operand_of, last_of}
use Rattle.table.specs.Roots.{root_word}
use Rattle.tidying_laws.specs.Kept.{Ok}
use Rattle.table.specs.Stands.{Ends}
use Rattle.tidying_fitting.specs.Parts.{room}
use Rattle.tidying_shapes.specs.Skeleton.{Token, skeleton}
use Rattle.tidying_shapes.specs.Tokens.{Says}
use Rattle.tidying_shapes.specs.Laws.{says_length}

-- A rule: what it makes of a part that it fits. A law is one, and so is what is carried out for it.
abbrev pub Rule : Type 0
Rule = Node → Option Node

-- A flat part whose records end at record number `top`, its own the last, and its tokens stand among others.
pub record Placed (table : List ℕ) (n top : ℕ) (before : List ℕ) (x : Node) (l m : List Token) : Type 0 where
  pub ends : Ends table top before x
  pub says : Says table n (l ++ (skeleton x ++ m))
  pub here : length l + length (skeleton x) ≡ top
  pub flat : Flat x

-- A law fits it, and there is room for the result.
pub record Fitting (law : Rule) (table : List ℕ) (n top : ℕ) (before : List ℕ) (x y : Node) (l m : List Token) : Type 0 where
  pub placed : Placed table n top before x l m
  pub fits : law x ≡ some y
  pub room : record_words * (length l + length (skeleton y) + length m) ≤ length table

-- What is asked: that there is such a part.
pub record SomePlaced (table : List ℕ) (n top : ℕ) : Type 0 where
  pub before : List ℕ
  pub node : Node
  pub left : List Token
  pub right : List Token
  pub placed : Placed table n top before node left right

pub record SomeFitting (law : Rule) (table : List ℕ) (n top : ℕ) : Type 0 where
  pub before : List ℕ
  pub node : Node
  pub result : Node
  pub left : List Token
  pub right : List Token
  pub fitting : Fitting law table n top before node result left right

-- What is done, whatever the part is: the tokens of the law's result are said in place of its own, and n' records are left.
pub record Rewrites (law : Rule) (table table' : List ℕ) (n top n' : ℕ) : Type 0 where
  pub by : (before : List ℕ) (x y : Node) (l m : List Token) → Fitting law table n top before x y l m
      → Says table' n' (l ++ (skeleton y ++ m))

-- The part has become one record of a kind, with no operand, no items and no other word.
abbrev pub leaf_token : ℕ → Token
leaf_token kind = record { kind = kind; operand = 0; items = 0; last = replicate 8 0 }

pub record Shrinks (table table' : List ℕ) (n top kind n' : ℕ) : Type 0 where
  pub by : (before : List ℕ) (x : Node) (l m : List Token) → Placed table n top before x l m
      → Says table' n' (l ++ (leaf_token kind ∷ m))

-- A law that does no more than another: what it makes, the other makes too.
pub record Narrower (law wide : Rule) : Type 0 where
  pub by : (x : Node) → Ok (λ y. wide x ≡ some y) (law x)

pub ok_same : (o p : Option Node) → o ≡ p → Ok (λ y. p ≡ some y) o
ok_same none p e = tt
ok_same (some y) p e = sym e

pub narrower_same : {law wide : Rule} → ((x : Node) → law x ≡ wide x) → Narrower law wide
narrower_same {law} {wide} e = record { by = λ x. ok_same (law x) (wide x) (e x) }

-- What holds of a result, if there is one, holds of the one there is.
pub ok_some : (P : Node → Type 0) {o : Option Node} {y : Node} → o ≡ some y → Ok P o → P y
ok_some P e h = subst (λ (o : Option Node). Ok P o) e h

module _ {law wide : Rule} {table : List ℕ} {n top : ℕ} where
  pub fitting_wide : {before : List ℕ} {x y : Node} {l m : List Token} → Ok (λ y. wide x ≡ some y) (law x)
      → Fitting law table n top before x y l m → Fitting wide table n top before x y l m
  fitting_wide {x = x} h f = record { placed = f.placed; fits = ok_some (λ y. wide x ≡ some y) f.fits h; room = f.room }

  -- So where it fits the other fits, and what the other does it does.
  pub some_wide : (s : SomeFitting law table n top) → Ok (λ y. wide s.node ≡ some y) (law s.node)
      → SomeFitting wide table n top
  some_wide s h = record {
    before = s.before;
    node = s.node;
    result = s.result;
    left = s.left;
    right = s.right;
    fitting = fitting_wide h s.fitting;
  }

  pub rewrites_narrow : {table' : List ℕ} {n' : ℕ} → Narrower law wide → Rewrites wide table table' n top n'
      → Rewrites law table table' n top n'
  rewrites_narrow h r = record { by = λ before x y l m f. r.by before x y l m (fitting_wide (h.by x) f) }

-- A part has a record, no more than stand there, and those below `n`.
module _ {table : List ℕ} {n top : ℕ} {before : List ℕ} {x : Node} {l m : List Token}
    (p : Placed table n top before x l m) where
  pub count : n ≡ length l + length (skeleton x) + length m
  count = omega (arith, says_length p.says, length-append l (skeleton x ++ m), length-append (skeleton x) m)

  pub within : (0 < top) × (top ≤ n) × (record_words * n ≤ length table)
  within = omega (arith, count, p.here, p.says.room, (room p.ends).some, (room p.ends).few)

  -- What the words of its own record are.
  pub own_word : (j : ℕ) → j < record_words → word_of table top j
      ≡ get_or (record_of (kind_of x) (operand_of x) (length (inner x)) x (last_of x)) j 0
  own_word = root_word p.ends
