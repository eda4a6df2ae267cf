-- The tidier: the first place at which a law fits, and from the beginning again until none does. Definitions only.
use Rattle.std.proofs.Math.Option
use Rattle.std.proofs.Math.Option.{Option, none, some}
use Rattle.std.specs.Prelude.{List, [], ◌∷◌, ◌++◌, map, ℕ, zero, suc}
use Rattle.meaning.specs.Node.{Node, Node.empty, Node.bset, Node.assert, Node.group, Node.seq, Node.alt, Node.many}
use Rattle.meaning.specs.Results.{or_else}
use Rattle.meaning.specs.Flat.{Kind, Kind.sequence, Kind.alternation, glue}
use Rattle.tidying_laws.specs.Measures.{weight}
use Rattle.tidying_laws.specs.List.{laws}

-- A part of a pattern, and what the pattern is with another in its place.
pub record Place : Type 0 where
  pub part : Node
  pub put : Node → Node

abbrev pub itself : Node → Place
itself r = record { part = r; put = λ q. q }

abbrev pub inside : (Node → Node) → Place → Place
inside f p = record { part = p.part; put = λ q. f (p.put q) }

-- A sequence, or an alternation, is a part; the end of one, inside it, is none.
abbrev pub whole : Option Kind → Kind → Node → List Place
whole none k r = itself r ∷ []
whole (some sequence) sequence r = []
whole (some sequence) alternation r = itself r ∷ []
whole (some alternation) sequence r = itself r ∷ []
whole (some alternation) alternation r = []

-- The parts of a pattern, each after the parts inside it, left to right. With another in the place of one all is flat again.
unfoldable pub places : Option Kind → Node → List Place
places t empty = itself empty ∷ []
places t (bset s) = itself (bset s) ∷ []
places t (assert a) = itself (assert a) ∷ []
places t (group k r) = map (inside (group k)) (places none r) ++ (itself (group k r) ∷ [])
places t (seq r q) = map (inside (λ p. glue sequence p q)) (places none r)
    ++ (map (inside (seq r)) (places (some sequence) q) ++ whole t sequence (seq r q))
places t (alt r q) = map (inside (λ p. glue alternation p q)) (places none r)
    ++ (map (inside (alt r)) (places (some alternation) q) ++ whole t alternation (alt r q))
places t (many n e lazy r) = map (inside (many n e lazy)) (places none r) ++ (itself (many n e lazy r) ∷ [])

-- The first success over a list, with its number, counted from n.
abbrev pub first_at : {A B : Type 0} → (A → Option B) → ℕ → List A → Option (ℕ × B)
first_at c n [] = none
first_at c n (x ∷ l) = let later = first_at c (suc n) l in or_else (Option.map (λ b. (n, b)) (c x)) later

-- The lowest law that fits a part: its number, from 1, and what it makes of the part.
unfoldable pub lowest : Node → Option (ℕ × Node)
lowest r = first_at (λ f. f r) 1 laws

-- The first place at which a law fits: its number, from 1, the lowest law there, and what the pattern becomes.
unfoldable pub found : Node → Option (ℕ × (ℕ × Node))
found r = first_at (λ p. Option.map (λ t. (t.0, p.put t.1)) (lowest p.part)) 1 (places none r)

-- What one step makes of a pattern.
unfoldable pub tidy_step : Node → Option Node
tidy_step r = Option.map (λ t. t.1.1) (found r)

-- At most n steps, each from the beginning again.
abbrev pub onward : Node → (Node → Node) → Option Node → Node
onward r f none = r
onward r f (some q) = f q

unfoldable pub tidies : ℕ → Node → Node
tidies zero r = r
tidies (suc n) r = onward r (λ q. tidies n q) (tidy_step r)

-- Until no law fits (`Tidy.tidy_none`: the weight is steps enough).
unfoldable pub tidy : Node → Node
tidy r = tidies (weight r) r
