-- The places of a flat pattern are where its tokens are: there is one for each, and each is a spot.
use Rattle.std.specs.Prelude.{◌≡◌, refl, List, [], ◌∷◌, ◌++◌, map, ℕ, suc, ◌+◌, length}
use Rattle.std.proofs.Common.{sym, ap, ap₂, subst, ◌∙◌, inl, inr, append_assoc, arith, length-append}
use Rattle.std.proofs.Math.Option.{Option, none, some}
use Rattle.std.proofs.lemmas.List.{length-map}
use Rattle.meaning.specs.Node.{Node, Node.empty, Node.bset, Node.assert, Node.group, Node.seq, Node.alt, Node.many}
use Rattle.meaning.specs.Flat.{Kind, Kind.sequence, Kind.alternation, pair, Not, Flat, parts, glue}
use Rattle.meaning.specs.Results.{concat_map}
use Rattle.table.specs.Laws.{inner}
use Rattle.tidying_laws.specs.Tidier.{Place, itself, inside, whole, places}
use Rattle.tidying_shapes.specs.Skeleton.{Token, token, row_token, closing, skeleton_in, skeleton, width, pair_in}
use Rattle.tidying_shapes.specs.Skeleton.{row_parts, glue_in, glue_alone, gives_in, glue_width, pair_width}
use Rattle.tidying_shapes.specs.Skeleton.{pair_gives, glue_not, pair_not, rest_width, alone as in_row_lem}
use Rattle.tidying_shapes.specs.Spots.{Parent, Parent.top, Parent.alone, Parent.among, Parent.going, row_of, behind, gives}
use Rattle.tidying_shapes.specs.Spots.{Depth}
use Rattle.tidying_shapes.specs.Spots.{Lone, Sound, AsAlone, as_alone, Spot, at_here, lengthen, wrapped}
use Rattle.tidying_shapes.specs.Spots.{in_row, in_row_depth, in_row_sound, row_put, row_single, row_count}

module _ (t : Option Kind) (k : Kind) (a q : Node) where
  -- A part inside the first part of a row, or that part itself.
  in_first : (p : Place) (i : ℕ) → Not k a → Spot none a p i → Spot t (pair k a q) (inside (λ s. glue k s q) p) i
  in_first p i h s = go s.parent s.put s.sound s.single s.depth
    where
      more : List Token
      more = skeleton_in (some k) q ++ closing t k (suc (length (parts k q)))

      back : glue k (p.put p.part) q ≡ pair k a q
      back = ap (λ z. glue k z q) s.back ∙ glue_alone k a q h

      deep : (y : Node) → Not k (p.put y) → skeleton_in t (glue k (p.put y) q) ≡ skeleton (p.put y) ++ more
      deep y n = ap (skeleton_in t) (glue_alone k (p.put y) q n) ∙ pair_in t k (p.put y) q

      wide : (y : Node) → Not k (p.put y) → width t (glue k (p.put y) q) ≡ width t (pair k a q)
      wide y n = ap (width t) (glue_alone k (p.put y) q n) ∙ pair_width t k (p.put y) a q

      go : (P : Parent none)
          → ((y : Node) → skeleton (p.put y) ≡ concat_map skeleton s.earlier ++
          (skeleton_in (row_of P) y ++ behind P (width (row_of P) y)))
          → Sound P → AsAlone (row_of P) p.part → Depth P s.earlier a p → Spot t (pair k a q) (inside (λ x. glue k x q) p) i
      go top put ok own d = record {
        sound = in_row_sound t k (length (parts k q)) (parts k q) (omega arith);
        single = row_single t k (length (parts k q)) (parts k q) p.part
            (in_row_lem k p.part (subst (Not k) (sym s.back ∙ d.1 p.part) h));
        earlier = [];
        parent = in_row t k (length (parts k q)) (parts k q);
        put = λ y. row_put t k (length (parts k q)) (parts k q) [] y (skeleton_in t (glue k (p.put y) q))
            (ap (λ z. skeleton_in t (glue k z q)) (d.1 y) ∙ glue_in t k y q
            ∙ ap₂ (λ x n. skeleton_in (some k) y ++ (x ++ closing t k n)) (row_parts k q) (omega arith));
        count = λ y. row_count t k (length (parts k q)) (parts k q) a q y (width t (glue k (p.put y) q))
            (ap (λ z. width t (glue k z q)) (d.1 y) ∙ glue_width t k y q ∙ ap (gives_in t k) (omega arith));
        depth = in_row_depth t k (length (parts k q)) (parts k q) [] (pair k a q) _ (λ j n y. glue_not j k a q (p.put y) n);
        back = back;
        number = omega (arith, s.number, ap (λ (l : List Node). length (concat_map skeleton l)) d.0);
      }
      go (alone b rest) put ok own d = record {
        sound = ok;
        single = own;
        earlier = s.earlier;
        parent = alone b (rest ++ more);
        put = λ y. deep y (d k h y) ∙ ap (λ l. l ++ more) (put y)
            ∙ lengthen (concat_map skeleton s.earlier) (skeleton y) (b ∷ rest) more;
        count = λ y. wide y (d k h y);
        depth = λ j n y. glue_not j k a q (p.put y) n;
        back = back;
        number = s.number;
      }
      go (among j others later rest) put ok own d = record {
        sound = ok;
        single = own;
        earlier = s.earlier;
        parent = among j others later (rest ++ more);
        put = λ y. deep y (d k h y) ∙ ap (λ l. l ++ more) (put y)
            ∙ lengthen (concat_map skeleton s.earlier) (skeleton_in (some j) y)
            (behind (among {t = t} j others later rest) (width (some j) y)) more
            ∙ ap (λ l. concat_map skeleton s.earlier ++ (skeleton_in (some j) y ++ l))
            (append_assoc (concat_map skeleton later) (row_token j (others + width (some j) y) ∷ rest) more);
        count = λ y. wide y (d k h y);
        depth = λ j n y. glue_not j k a q (p.put y) n;
        back = back;
        number = s.number;
      }

  -- A part inside the rest of a row, or one of its parts.
  in_rest : (p : Place) (i : ℕ) → Spot (some k) q p i → Spot t (pair k a q) (inside (pair k a) p) (length (skeleton a) + i)
  in_rest p i s = go s.parent s.put s.sound s.single s.count
    where
      close : Node → List Token
      close y = closing t k (suc (length (parts k (p.put y))))

      number : length (skeleton a ++ concat_map skeleton s.earlier) + length (skeleton p.part) ≡ suc
          (length (skeleton a) + i)
      number = rw length-append (omega (arith, s.number))

      step : (y : Node) (x b : List Token) → skeleton_in (some k) (p.put y) ≡ concat_map skeleton s.earlier ++ (x ++ b)
          → skeleton_in t (pair k a (p.put y)) ≡ (skeleton a ++ concat_map skeleton s.earlier) ++ (x ++ (b ++ close y))
      step y x b e = pair_in t k a (p.put y) ∙ ap (λ l. skeleton a ++ (l ++ close y)) e
          ∙ ap (λ l. skeleton a ++ l) (lengthen (concat_map skeleton s.earlier) x b (close y))
          ∙ sym (append_assoc (skeleton a) (concat_map skeleton s.earlier) (x ++ (b ++ close y)))

      not : (j : Kind) → Not j (pair k a q) → (y : Node) → Not j (pair k a (p.put y))
      not j n y = pair_not j k a q (p.put y) n

      go : (P : Parent (some k))
          → ((y : Node) → skeleton_in (some k) (p.put y) ≡ concat_map skeleton s.earlier ++
          (skeleton_in (row_of P) y ++ behind P (width (row_of P) y)))
          → Sound P → AsAlone (row_of P) p.part
          → ((y : Node) → length (parts k (p.put y)) ≡ gives P (width (row_of P) y) (length (parts k q)))
          → Spot t (pair k a q) (inside (pair k a) p) (length (skeleton a) + i)
      go (alone b rest) put ok own count = record {
        sound = ok;
        single = own;
        earlier = a ∷ s.earlier;
        parent = alone b (rest ++ closing t k (suc (length (parts k q))));
        put = λ y. step y (skeleton y) (b ∷ rest) (put y)
            ∙ ap (λ n. (skeleton a ++ concat_map skeleton s.earlier) ++ (skeleton y ++ (b ∷ (rest ++ closing t k (suc n)))))
            (count y);
        count = λ y. rest_width t k a (p.put y) q (count y);
        depth = λ j n y. not j n y;
        back = ap (pair k a) s.back;
        number = number;
      }
      go (among j others later rest) put ok own count = record {
        sound = ok;
        single = own;
        earlier = a ∷ s.earlier;
        parent = among j others later (rest ++ closing t k (suc (length (parts k q))));
        put = λ y.
            let last : Token = row_token j (others + width (some j) y) in
            let first : List Token = skeleton a ++ concat_map skeleton s.earlier in
            step y (skeleton_in (some j) y) (concat_map skeleton later ++ (last ∷ rest)) (put y)
            ∙ ap (λ l. first ++ (skeleton_in (some j) y ++ l)) (append_assoc (concat_map skeleton later) (last ∷ rest) (close y))
            ∙ ap (λ n. first ++ (skeleton_in (some j) y ++ (concat_map skeleton later ++ (last ∷ (rest ++ closing t k (suc n))))))
            (count y);
        count = λ y. rest_width t k a (p.put y) q (count y);
        depth = λ j n y. not j n y;
        back = ap (pair k a) s.back;
        number = number;
      }
      go (going others later) put ok own count = record {
        sound = in_row_sound t k (suc others) later (omega arith);
        single = row_single t k (suc others) later p.part own;
        earlier = a ∷ s.earlier;
        parent = in_row t k (suc others) later;
        put = λ y. row_put t k (suc others) later (skeleton a ++ concat_map skeleton s.earlier) y
            (skeleton_in t (pair k a (p.put y)))
            (step y (skeleton_in (some k) y) (concat_map skeleton later) (put y)
            ∙ ap (λ n. (skeleton a ++ concat_map skeleton s.earlier) ++
            (skeleton_in (some k) y ++ (concat_map skeleton later ++ closing t k n))) (more y));
        count = λ y. row_count t k (suc others) later a q y (width t (pair k a (p.put y)))
            (pair_gives t k a (p.put y) ∙ ap (gives_in t k) (more y));
        depth = in_row_depth t k (suc others) later (a ∷ s.earlier) (pair k a q) _ (λ j n y. not j n y);
        back = ap (pair k a) s.back;
        number = number;
      }
        where
          more : (y : Node) → suc (length (parts k (p.put y))) ≡ suc others + length (parts k y)
          more y = omega (arith, count y)

-- Places one after the other, the first of which is number n.
abbrev pub Spots : Option Kind → Node → ℕ → List Place → Type 0
Spots t r n [] = Unit {0}
Spots t r n (p ∷ l) = Spot t r p n × Spots t r (suc n) l

spots_append : (t : Option Kind) (r : Node) (n m : ℕ) (l k : List Place) → Spots t r n l → n + length l ≡ m → Spots t r m k
    → Spots t r n (l ++ k)
spots_append t r n m [] k h e g = subst (λ (x : ℕ). Spots t r x k) (omega arith) g
spots_append t r n m (p ∷ l) k h e g = (h.0, spots_append t r (suc n) m l k h.1 (omega arith) g)

spots_map : (t t' : Option Kind) (r r' : Node) (f : Place → Place) (d : ℕ)
    → ((p : Place) (i : ℕ) → Spot t r p i → Spot t' r' (f p) (d + i))
    → (n m : ℕ) → d + n ≡ m → (l : List Place) → Spots t r n l → Spots t' r' m (map f l)
spots_map t t' r r' f d g n m e [] h = tt
spots_map t t' r r' f d g n m e (p ∷ l) h =
    (subst (λ (x : ℕ). Spot t' r' (f p) x) e (g p n h.0), spots_map t t' r r' f d g (suc n) (suc m) (omega arith) l h.1)

-- A pattern has a place for each of its tokens, and each place is where it should be.
whole_length : (t : Option Kind) (k : Kind) (r : Node) (n : ℕ) → length (whole t k r) ≡ length (closing t k n)
whole_length none k r n = refl
whole_length (some sequence) sequence r n = refl
whole_length (some sequence) alternation r n = refl
whole_length (some alternation) sequence r n = refl
whole_length (some alternation) alternation r n = refl

whole_spots : (t : Option Kind) (k : Kind) (a q : Node) (n : ℕ) → length (skeleton (pair k a q)) ≡ suc n
    → Spots t (pair k a q) n (whole t k (pair k a q))
whole_spots none k a q n e = (at_here none (pair k a q) n (refl, refl) e, tt)
whole_spots (some sequence) sequence a q n e = tt
whole_spots (some sequence) alternation a q n e =
    (at_here (some sequence) (alt a q) n (in_row_lem sequence (alt a q) tt) e, tt)
whole_spots (some alternation) sequence a q n e =
    (at_here (some alternation) (seq a q) n (in_row_lem alternation (seq a q) tt) e, tt)
whole_spots (some alternation) alternation a q n e = tt

-- What is shown of the places of a pattern: that they are as many as its tokens, and where each stands.
abbrev Placed : Option Kind → Node → List Place → Type 0
Placed t r l = (length l ≡ length (skeleton_in t r)) × Spots t r 0 l

row_placed : (t : Option Kind) (k : Kind) (a q : Node) (l m : List Place) → Not k a → Placed none a l → Placed (some k) q m
    → Placed t (pair k a q) (map (inside (λ p. glue k p q)) l ++ (map (inside (pair k a)) m ++ whole t k (pair k a q)))
row_placed t k a q l m h (f, u) (g, v) =
    let n : ℕ = suc (length (parts k q)) in
    let here-at : ℕ = length (skeleton a) + length (skeleton_in (some k) q) in
    let sized : length (skeleton_in t (pair k a q)) ≡ here-at + length (closing t k n)
    = ap length (pair_in t k a q) ∙ simp length-append (omega arith) in
    let own : length (skeleton (pair k a q)) ≡ suc here-at = ap length (pair_in none k a q) ∙ simp length-append (omega arith) in
    let first : Spots t (pair k a q) 0 (map (inside (λ p. glue k p q)) l)
    = spots_map none t a (pair k a q) (inside (λ p. glue k p q)) 0
    (λ p i s. subst (λ (x : ℕ). Spot t (pair k a q) (inside (λ p. glue k p q) p) x) (omega arith)
    (in_first t k a q p i h s)) 0 0 (omega arith) l u in
    let rest : Spots t (pair k a q) (length (skeleton a)) (map (inside (pair k a)) m)
    = spots_map (some k) t q (pair k a q) (inside (pair k a)) (length (skeleton a)) (in_rest t k a q) 0 (length (skeleton a))
    (omega arith) m v in
    let last : Spots t (pair k a q) here-at (whole t k (pair k a q)) = whole_spots t k a q here-at own in (
      simp (length-append, length-map) (omega (arith, sized, whole_length t k (pair k a q) n)),
      spots_append t (pair k a q) 0 (length (skeleton a)) (map (inside (λ p. glue k p q)) l) _ first
          (simp length-map (omega arith))
          (spots_append t (pair k a q) (length (skeleton a)) here-at (map (inside (pair k a)) m) _ rest
          (simp length-map (omega arith)) last),
    )

-- A part inside a group or a quantifier, and it itself.
wrap_placed : (t : Option Kind) (wrap : Node → Node) (tok : Token) (r : Node) (l : List Place)
    → ((s : Option Kind) (q : Node) → skeleton_in s (wrap q) ≡ skeleton q ++ (tok ∷ []))
    → ((k : Kind) (q : Node) → Not k (wrap q))
    → Lone tok → Placed none r l
    → Placed t (wrap r) (map (inside wrap) l ++ (itself (wrap r) ∷ []))
wrap_placed t wrap tok r l own kindless single (f, u) =
    let sized : (s : Option Kind) → length (skeleton_in s (wrap r)) ≡ suc (length (skeleton r))
    = λ s. ap length (own s r) ∙ simp length-append (omega arith) in
    let first : Spots t (wrap r) 0 (map (inside wrap) l)
    = spots_map none t r (wrap r) (inside wrap) 0
    (λ p i s. subst (λ (x : ℕ). Spot t (wrap r) (inside wrap p) x) (omega arith)
    (wrapped t wrap tok (own t) kindless single r p i s)) 0 0 (omega arith) l u in (
      simp (length-append, length-map) (omega (arith, sized t)),
      spots_append t (wrap r) 0 (length (skeleton r)) (map (inside wrap) l) _ first (simp length-map (omega arith))
          (at_here t (wrap r) (length (skeleton r)) (as_alone t (wrap r) (λ k. kindless k r)) (sized none), tt),
    )

pub placed : (t : Option Kind) (r : Node) → Flat r → Placed t r (places t r)
unfolding places skeleton_in inner parts
placed t empty h = (refl, (at_here t empty 0 (as_alone t empty (λ k. tt)) refl, tt))
placed t (bset s) h = (refl, (at_here t (bset s) 0 (as_alone t (bset s) (λ k. tt)) refl, tt))
placed t (assert a) h = (refl, (at_here t (assert a) 0 (as_alone t (assert a) (λ k. tt)) refl, tt))
placed t (group k r) h = wrap_placed t (group k) (token (group k r)) r (places none r) (λ s q. refl) (λ j q. tt)
    (record { one = refl; kind = inl refl }) (placed none r h)
placed t (seq a q) h = row_placed t sequence a q (places none a) (places (some sequence) q) h.0 (placed none a h.1)
    (placed (some sequence) q h.2)
placed t (alt a q) h = row_placed t alternation a q (places none a) (places (some alternation) q) h.0 (placed none a h.1)
    (placed (some alternation) q h.2)
placed t (many n e lazy r) h =
    wrap_placed t (many n e lazy) (token (many n e lazy r)) r (places none r) (λ s q. refl) (λ j q. tt)
    (record { one = refl; kind = inr refl }) (placed none r h)
