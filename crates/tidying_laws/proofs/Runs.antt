-- The run that T8 takes is the longest, and what is left of it is one alternation.
use Rattle.std.specs.Prelude.{◌≡◌, refl, Bool, true, false, List, [], ◌∷◌, ◌++◌, ℕ, ◌≤◌, length}
use Rattle.std.proofs.Common.{sym, ap, ◌∙◌, append-nil, arith, length-append}
use Rattle.std.proofs.lemmas.Bool.{false≢true}
use Rattle.meaning.specs.Node.{Node, Node.bset}
use Rattle.meaning.specs.Results.{concat_map}
use Rattle.meaning.specs.Flat.{Kind, Kind.sequence, Kind.alternation, pair, parts, link, join, onto, by_parts, join_parts}
use Rattle.meaning.specs.Flat.{items, alternatives, of_alternatives}
use Rattle.tidying_laws.specs.Equal.{same, same_eq, same_refl}
use Rattle.tidying_laws.specs.Laws.{when, rest_of, extend, run, glues}
use Rattle.tidying_laws.specs.Words.{Leads}
use Rattle.tidying_laws.specs.Runs.{Longest}

pub run_longest : (s : List ℕ) (l : List Node) → Longest s l (run s l)
unfolding run
run_longest s [] = record { front = []; split = refl; begin = tt; left = refl; stops = tt }
run_longest s (r ∷ l) = by (run_longest s l) (items r) refl
  where
    stop : (Leads s r → ⊥) → Longest s (r ∷ l) ([], r ∷ l)
    stop h = record { front = []; split = refl; begin = tt; left = refl; stops = h }

    by : Longest s l (run s l) → (m : List Node) → items r ≡ m → Longest s (r ∷ l) (extend (rest_of s m) r l (run s l))
    by h [] e = stop (λ t. let f = t.1 in absurd (let z : ◌≡◌ {A = ℕ} 0 1 = cc in omega arith))
    by h (t ∷ k) e = test (same t (bset s)) refl
      where
        test : (b : Bool) → same t (bset s) ≡ b → Longest s (r ∷ l) (extend (when b (join sequence k)) r l (run s l))
        test true f = record {
          front = r ∷ h.front;
          split = ap (λ m. r ∷ m) h.split;
          begin = ((k, e ∙ ap (λ t. t ∷ k) (same_eq t (bset s) f)), h.begin);
          left = rw (e, h.left);
          stops = h.stops;
        }
        test false f = stop (λ g. let i = g.1 in let j : t ≡ bset s = cc in false≢true (sym f ∙ rw j (same_refl (bset s))))

-- A list of parts in front of others that make up a pattern.
onto_join : (k : Kind) (l m : List Node) → 1 ≤ length m → onto k l (join k m) ≡ join k (l ++ m)
onto_join k [] m h = refl
onto_join k (r ∷ l) m h = ap (pair k r) (onto_join k l m h) ∙ linked (l ++ m) (rw length-append (omega arith))
  where
    linked : (l : List Node) → 1 ≤ length l → pair k r (join k l) ≡ link k r l
    linked [] h = absurd (omega arith)
    linked (q ∷ l) h = refl

some_parts : (k : Kind) (r : Node) → 1 ≤ length (parts k r)
some_parts k = by_parts k (λ r l. 1 ≤ length l) (λ r h. omega arith) (λ r q l h. omega arith)

pub glues_join : (p : Node) (l : List Node) → glues p l ≡ of_alternatives (concat_map alternatives (p ∷ l))
unfolding glues
glues_join p [] = sym (ap of_alternatives (append-nil (alternatives p)) ∙ join_parts alternation p)
glues_join p (q ∷ l) = ap (onto alternation (alternatives p)) (glues_join q l)
    ∙ onto_join alternation (alternatives p) (concat_map alternatives (q ∷ l))
    (rw length-append (omega (arith, some_parts alternation q)))
