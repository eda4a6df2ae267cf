-- The skeleton of a pattern: what its records say by themselves, without the words that are derived of their parts.
use Rattle.std.specs.Prelude.{◌≡◌, refl, List, [], ◌∷◌, ◌++◌, ℕ, suc, ◌+◌, length, replicate}
use Rattle.std.proofs.Common.{sym, ap, ap₂, ◌∙◌, append_assoc, append-nil, arith}
use Rattle.std.proofs.Math.Option.{Option, none, some}
use Rattle.meaning.specs.Node.{Node, Node.empty, Node.bset, Node.assert, Node.group, Node.seq, Node.alt, Node.many}
use Rattle.meaning.specs.Flat.{Kind, Kind.sequence, Kind.alternation, pair, Not, parts, onto, glue, by_parts}
use Rattle.meaning.specs.Results.{concat_map}
use Rattle.table.specs.Table.{unless}
use Rattle.table.specs.Laws.{inner, kind_of, operand_of, last_of}

-- A token: the kind, the operand, the number of items and the last eight words of a record.
pub record Token : Type 0 where
  pub kind : ℕ
  pub operand : ℕ
  pub items : ℕ
  pub last : List ℕ

abbrev pub token_of : ℕ → ℕ → ℕ → List ℕ → Token
token_of kind operand items last = record { kind = kind; operand = operand; items = items; last = last }

-- The token of a pattern's own record; and that of a row of so many parts.
abbrev pub token : Node → Token
token r = token_of (kind_of r) (operand_of r) (length (inner r)) (last_of r)

abbrev pub row_kind : Kind → ℕ
row_kind sequence = 5
row_kind alternation = 6

abbrev pub row_token : Kind → ℕ → Token
row_token k items = token_of (row_kind k) 0 items (replicate 8 0)

-- The tokens of a pattern, the parts inside it first; where it goes on in a row of parts of a kind, without that row's own.
unfoldable pub skeleton_in : Option Kind → Node → List Token
skeleton_in t empty = token empty ∷ []
skeleton_in t (bset s) = token (bset s) ∷ []
skeleton_in t (assert a) = token (assert a) ∷ []
skeleton_in t (group k r) = skeleton_in none r ++ (token (group k r) ∷ [])
skeleton_in t (seq r q) = skeleton_in none r ++ skeleton_in (some sequence) q ++ unless t sequence [] (token (seq r q) ∷ [])
skeleton_in t (alt r q) = skeleton_in none r ++ skeleton_in (some alternation) q ++ unless t alternation [] (token (alt r q) ∷ [])
skeleton_in t (many n e lazy r) = skeleton_in none r ++ (token (many n e lazy r) ∷ [])

abbrev pub skeleton : Node → List Token
skeleton r = skeleton_in none r

-- How many parts a pattern gives to a row in which it stands.
abbrev pub width : Option Kind → Node → ℕ
width none r = 1
width (some k) r = length (parts k r)

-- The token of a row is that of its number of parts.
pub row_token_lem : (k : Kind) (r q : Node) → token (pair k r q) ≡ row_token k (suc (length (parts k q)))
unfolding inner
row_token_lem sequence r q = refl
row_token_lem alternation r q = refl

-- A pattern that is not of a kind stands in a row of that kind as it stands alone.
pub alone : (k : Kind) (r : Node) → Not k r → (skeleton_in (some k) r ≡ skeleton r) × (length (parts k r) ≡ 1)
unfolding skeleton_in parts
alone k empty h = (refl, refl)
alone k (bset s) h = (refl, refl)
alone k (assert a) h = (refl, refl)
alone k (group n r) h = (refl, refl)
alone sequence (seq r q) h = absurd h
alone alternation (seq r q) h = (refl, refl)
alone sequence (alt r q) h = (refl, refl)
alone alternation (alt r q) h = absurd h
alone k (many n e lazy r) h = (refl, refl)

-- A pattern of neither kind gives one part to any row.
pub lone : (t : Option Kind) (r : Node) → ((k : Kind) → Not k r) → width t r ≡ 1
lone none r h = refl
lone (some k) r h = (alone k r (h k)).1

-- A pair in a row of its kind, and by itself.
pub pair_row : (k : Kind) (r q : Node) → skeleton_in (some k) (pair k r q) ≡ skeleton r ++ skeleton_in (some k) q
unfolding skeleton_in
pair_row sequence r q = append-nil _
pair_row alternation r q = append-nil _

pub pair_own : (k : Kind) (r q : Node)
    → skeleton (pair k r q) ≡ skeleton r ++ skeleton_in (some k) q ++ (row_token k (suc (length (parts k q))) ∷ [])
unfolding skeleton_in
pair_own sequence r q = ap (λ x. skeleton r ++ skeleton_in (some sequence) q ++ (x ∷ [])) (row_token_lem sequence r q)
pair_own alternation r q = ap (λ x. skeleton r ++ skeleton_in (some alternation) q ++ (x ∷ [])) (row_token_lem alternation r q)

pub pair_parts : (k : Kind) (r q : Node) → parts k (pair k r q) ≡ r ∷ parts k q
unfolding parts
pair_parts sequence r q = refl
pair_parts alternation r q = refl

-- In a row a pattern has the tokens of its parts.
pub row_parts : (k : Kind) (r : Node) → skeleton_in (some k) r ≡ concat_map skeleton (parts k r)
row_parts k = by_parts k (λ r l. skeleton_in (some k) r ≡ concat_map skeleton l)
    (λ r h. (alone k r h).0 ∙ sym (append-nil (skeleton r)))
    (λ r q l e. pair_row k r q ∙ ap (λ x. skeleton r ++ x) e)

-- A pattern's tokens are those of the parts inside it, and then its own.
pub inner_skeleton : (r : Node) → skeleton r ≡ concat_map skeleton (inner r) ++ (token r ∷ [])
unfolding skeleton_in inner
inner_skeleton empty = refl
inner_skeleton (bset s) = refl
inner_skeleton (assert a) = refl
inner_skeleton (group k r) = rw (append-nil (skeleton r))
inner_skeleton (seq r q) = rw (row_parts sequence q)
inner_skeleton (alt r q) = rw (row_parts alternation q)
inner_skeleton (many n e lazy r) = rw (append-nil (skeleton r))

-- Parts glued in front of a pattern: their tokens in front of its, and its parts and theirs.
pub glue_row : (k : Kind) (y q : Node) → (skeleton_in (some k) (glue k y q) ≡ skeleton_in (some k) y ++ skeleton_in (some k) q)
    × (length (parts k (glue k y q)) ≡ length (parts k y) + length (parts k q))
glue_row k y q = by_parts k
    (λ y l. (skeleton_in (some k) (onto k l q) ≡ skeleton_in (some k) y ++ skeleton_in (some k) q)
    × (length (parts k (onto k l q)) ≡ length l + length (parts k q)))
    (λ r h. (
      pair_row k r q ∙ ap (λ x. x ++ skeleton_in (some k) q) (sym (alone k r h).0),
      omega
          (arith, ap length (pair_parts k r q)),
    ))
    (λ r p l e. (
      pair_row k r (onto k l q) ∙ ap (λ x. skeleton r ++ x) e.0
          ∙ sym (append_assoc (skeleton r) (skeleton_in (some k) p) (skeleton_in (some k) q))
          ∙ ap (λ x. x ++ skeleton_in (some k) q) (sym (pair_row k r p)),
      omega (arith, ap length (pair_parts k r (onto k l q)), e.1),
    )) y

-- The token that closes a row of so many parts, unless the row goes on.
abbrev pub closing : Option Kind → Kind → ℕ → List Token
closing t k n = unless t k [] (row_token k n ∷ [])

-- A pair, wherever it stands.
pub pair_in : (t : Option Kind) (k : Kind) (r q : Node)
    → skeleton_in t (pair k r q) ≡ skeleton r ++ (skeleton_in (some k) q ++ closing t k (suc (length (parts k q))))
pair_in t k r q = go t k ∙ append_assoc (skeleton r) (skeleton_in (some k) q) (closing t k (suc (length (parts k q))))
  where
    go : (t : Option Kind) (k : Kind)
        → skeleton_in t (pair k r q) ≡ (skeleton r ++ skeleton_in (some k) q) ++ closing t k (suc (length (parts k q)))
    go none k = pair_own k r q
    go (some sequence) sequence = pair_row sequence r q ∙ sym (append-nil _)
    go (some alternation) alternation = pair_row alternation r q ∙ sym (append-nil _)
    go (some sequence) alternation = (alone sequence (alt r q) tt).0 ∙ pair_own alternation r q
    go (some alternation) sequence = (alone alternation (seq r q) tt).0 ∙ pair_own sequence r q

-- A row, wherever it stands: its parts, and the token that closes it.
own_in : (t : Option Kind) (k : Kind) (r q : Node)
    → skeleton_in t (pair k r q) ≡ skeleton_in (some k) (pair k r q) ++ closing t k (length (parts k (pair k r q)))
own_in t k r q =
    pair_in t k r q ∙ sym (append_assoc (skeleton r) (skeleton_in (some k) q) (closing t k (suc (length (parts k q)))))
    ∙ ap₂ (λ x n. x ++ closing t k n) (sym (pair_row k r q)) (sym (ap length (pair_parts k r q)))

-- So is what is glued.
pub glue_in : (t : Option Kind) (k : Kind) (y q : Node)
    → skeleton_in t (glue k y q) ≡ skeleton_in (some k) y ++
    (skeleton_in (some k) q ++ closing t k (length (parts k y) + length (parts k q)))
glue_in t k y q =
    by_parts k (λ y l. skeleton_in t (onto k l q) ≡ skeleton_in (some k) (onto k l q) ++ closing t k
    (length (parts k (onto k l q))))
    (λ r h. own_in t k r q) (λ r p l e. own_in t k r (onto k l q)) y
    ∙ ap₂ (λ x n. x ++ closing t k n) (glue_row k y q).0 (glue_row k y q).1
    ∙ append_assoc (skeleton_in (some k) y) (skeleton_in (some k) q) (closing t k (length (parts k y) + length (parts k q)))

-- A part that is not of a kind is glued as it is.
pub glue_alone : (k : Kind) (r q : Node) → Not k r → glue k r q ≡ pair k r q
unfolding parts
glue_alone k empty q h = refl
glue_alone k (bset s) q h = refl
glue_alone k (assert a) q h = refl
glue_alone k (group n r) q h = refl
glue_alone sequence (seq r s) q h = absurd h
glue_alone alternation (seq r s) q h = refl
glue_alone sequence (alt r s) q h = refl
glue_alone alternation (alt r s) q h = absurd h
glue_alone k (many n e lazy r) q h = refl

-- How many parts a row gives: it does not depend on its first part, nor does what is glued stop being a row of its kind.
pub pair_width : (t : Option Kind) (k : Kind) (r s q : Node) → width t (pair k r q) ≡ width t (pair k s q)
unfolding parts
pair_width none k r s q = refl
pair_width (some sequence) sequence r s q = refl
pair_width (some sequence) alternation r s q = refl
pair_width (some alternation) sequence r s q = refl
pair_width (some alternation) alternation r s q = refl

-- A row gives its parts to one of its kind, and itself to any other.
abbrev pub gives_in : Option Kind → Kind → ℕ → ℕ
gives_in t k n = unless t k n 1

pub pair_gives : (t : Option Kind) (k : Kind) (r q : Node) → width t (pair k r q) ≡ gives_in t k (suc (length (parts k q)))
unfolding parts
pair_gives none k r q = refl
pair_gives (some sequence) sequence r q = refl
pair_gives (some sequence) alternation r q = refl
pair_gives (some alternation) sequence r q = refl
pair_gives (some alternation) alternation r q = refl

pub glue_width : (t : Option Kind) (k : Kind) (y q : Node)
    → width t (glue k y q) ≡ gives_in t k (length (parts k y) + length (parts k q))
glue_width t k y q =
    by_parts k (λ y l. width t (onto k l q) ≡ gives_in t k (length (parts k (onto k l q)))) (λ r h. one r q)
    (λ r p l e. one r (onto k l q)) y
    ∙ ap (gives_in t k) (glue_row k y q).1
  where
    one : (r q : Node) → width t (pair k r q) ≡ gives_in t k (length (parts k (pair k r q)))
    one r q = pair_gives t k r q ∙ ap (gives_in t k) (sym (ap length (pair_parts k r q)))

pub glue_not : (j k : Kind) (r q y : Node) → Not j (pair k r q) → Not j (glue k y q)
glue_not j k r q y h =
    by_parts k (λ y l. Not j (onto k l q)) (λ s n. one j k s q h) (λ s p l e. one j k s (onto k l q) h) y
  where
    one : (j k : Kind) (s p : Node) → Not j (pair k r q) → Not j (pair k s p)
    one sequence sequence s p h = h
    one sequence alternation s p h = tt
    one alternation sequence s p h = tt
    one alternation alternation s p h = h

pub pair_not : (j k : Kind) (r q y : Node) → Not j (pair k r q) → Not j (pair k r y)
pair_not sequence sequence r q y h = h
pair_not sequence alternation r q y h = tt
pair_not alternation sequence r q y h = tt
pair_not alternation alternation r q y h = h

-- A row with another rest gives as many parts as the rests do.
pub rest_width : (t : Option Kind) (k : Kind) (r q s : Node) → length (parts k q) ≡ length (parts k s)
    → width t (pair k r q) ≡ width t (pair k r s)
unfolding parts
rest_width none k r q s e = refl
rest_width (some sequence) sequence r q s e = ap suc e
rest_width (some sequence) alternation r q s e = refl
rest_width (some alternation) sequence r q s e = refl
rest_width (some alternation) alternation r q s e = ap suc e
