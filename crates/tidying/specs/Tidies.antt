-- The tidier over a table: from the beginning again until no law fits, with zeros behind the records.
use Rattle.std.specs.Prelude.{◌≡◌, refl, List, [], ◌∷◌, ◌++◌, ℕ, ◌-◌, ◌*◌, ◌≤◌, ◌<◌, length, take, replicate}
use Rattle.std.proofs.Common.{sym, ap, ap₂, subst, ◌∙◌, append-nil, arith, length-append, length-take, take_at}
use Rattle.std.proofs.Math.Option.{Option, none, some, map}
use Rattle.std.proofs.lemmas.List.{length-replicate}
use Rattle.meaning.specs.Node.{Node}
use Rattle.table.specs.Table.{record_words, record_count}
use Rattle.tidying_laws.specs.Measures.{weight}
use Rattle.tidying_laws.specs.Tidier.{found, tidy_step, tidy}
use Rattle.tidying_laws.specs.Tidy.{Step}
use Rattle.tidying_laws.proofs.Tidy.{step, tidy_still}
use Rattle.tidying_shapes.specs.Skeleton.{skeleton}
use Rattle.tidying_shapes.specs.Tokens.{tokens_of}
use Rattle.tidying_shapes.specs.Parse.{first_part, parse}
use Rattle.tidying_shapes.proofs.Parse.{parse_skeletons}
use Rattle.tidying_shapes.proofs.Told.{stands_count, stands_say}
use Rattle.tidying.specs.Search.{Found, At, Nothing, Sought, SomeSought, Finds, answer_of}
use Rattle.tidying.specs.Held.{Held, SomeHeld, SomeFound, Steps, held_whole, table_of, Tidies}
use Rattle.tidying.specs.Steps.{steps}

-- On the way: the records of a pattern that is tidied to the same.
pub record Reached (table : List ℕ) (n : ℕ) (r : Node) (g p : ℕ) : Type 0 where
  pub node : Node
  pub held : Held table n node g p
  pub same_end : tidy node ≡ tidy r

pub record Along (table table' : List ℕ) (n n' : ℕ) : Type 0 where
  pub by : (r : Node) (g p : ℕ) → Held table n r g p → Reached table' n' r g p

pub along_start : {table : List ℕ} {n : ℕ} → Along table table n n
along_start = record { by = λ r g p h. record { node = r; held = h; same_end = refl } }

-- So there is always a pattern to search and to tidy.
pub along_some : {table table' : List ℕ} {n n' : ℕ} → Along table table' n n' → SomeHeld table n → SomeHeld table' n'
along_some a s = let q = a.by s.node s.groups s.bytes s.held in
    record { node = q.node; groups = s.groups; bytes = s.bytes; held = q.held }

pub held_room : {table : List ℕ} {n : ℕ} → SomeHeld table n → record_words * n ≤ length table
held_room s = s.held.stands.room

pub held_sought : {table : List ℕ} {n g p : ℕ} {r : Node} → Held table n r g p → Sought table n r
held_sought h = record { stands = h.stands; all = held_whole h }

pub some_sought : {table : List ℕ} {n : ℕ} → SomeHeld table n → SomeSought table n
some_sought s = record { node = s.node; sought = held_sought s.held }

pub finds_same : {table : List ℕ} {n : ℕ} {a b : Found} → Finds a table n → a ≡ b → Finds b table n
finds_same {table} {n} f e = subst (λ (x : Found). Finds x table n) e f

-- What the search found, or that it found nothing.
found_some : (o : Option (ℕ × (ℕ × Node))) (top law : ℕ) → At top law ≡ answer_of o → (q : Node) × (o ≡ some (top, (law, q)))
found_some none top law e = absurd (let z : ◌≡◌ {A = ℕ} 0 1 = cc in omega arith)
found_some (some (i, (k, q))) top law e =
    let a : top ≡ i = cc in
    let b : law ≡ k = cc in
    (q, ap₂ (λ x y. some (x, (y, q))) (sym a) (sym b))

found_none : (o : Option (ℕ × (ℕ × Node))) → Nothing ≡ answer_of o → o ≡ none
found_none none e = refl
found_none (some (i, (k, q))) e = absurd (let z : ◌≡◌ {A = ℕ} 0 1 = cc in omega arith)

-- The pattern that stands in a table, told from its tokens: its weight is less after each step.
unfoldable pub pattern_in : List ℕ → ℕ → Node
pattern_in table n = first_part (parse [] (tokens_of table n))

pattern_in_lem : {table : List ℕ} {n g p : ℕ} {r : Node} → Held table n r g p → pattern_in table n ≡ r
unfolding pattern_in parse
pattern_in_lem {r = r} h =
    ap (λ ts. first_part (parse [] ts)) ((stands_say r h.proper h.stands).tokens ∙ sym (append-nil (skeleton r))
    ∙ sym (append-nil (skeleton r ++ [])))
    ∙ ap first_part (parse_skeletons (r ∷ []) (h.proper, tt) [] [])

module _ {table : List ℕ} {n top law : ℕ} (finds : Finds (At top law) table n) where
  pub some_found : SomeHeld table n → SomeFound table n top law
  some_found s =
      let f = found_some (found s.node) top law (finds.by s.node (held_sought s.held)) in
      record { pattern = s; next = f.0; finds = f.1 }

  module _ {table' : List ℕ} {n' : ℕ} (done : Steps table table' n top law n') where
    pub step_lighter : SomeHeld table n → weight (pattern_in table' n') < weight (pattern_in table n)
    step_lighter s =
        let r : Node = s.node in
        let f = found_some (found r) top law (finds.by r (held_sought s.held)) in
        let k : Step r s.groups f.0 = step r s.groups s.held.numbers f.0 (steps s.held f.1) in
        omega (
          arith,
          k.less,
          ap weight (pattern_in_lem s.held),
          ap weight (pattern_in_lem (done.by r f.0 s.groups s.bytes s.held f.1)),
        )

    pub along_more : {table₀ : List ℕ} {n₀ : ℕ} → Along table₀ table n₀ n → Along table₀ table' n₀ n'
    along_more a = record {
      by = λ r₀ g p h₀.
          let q = a.by r₀ g p h₀ in
          let r : Node = q.node in
          let f = found_some (found r) top law (finds.by r (held_sought q.held)) in
          let k : Step r g f.0 = step r g q.held.numbers f.0 (steps q.held f.1) in
          record {
            node = f.0;
            held = done.by r f.0 g p q.held f.1;
            same_end = k.same_end ∙ q.same_end;
          };
    }

-- Zeros behind the records change nothing of the pattern.
held_zeros : {table table' : List ℕ} {n g p : ℕ} {r : Node} → Held table n r g p
    → table' ≡ take (record_words * n) table ++ replicate (length table - record_words * n) 0 → Held table' n r g p
held_zeros {table} {table'} {n} h e =
    let words : ℕ = record_words * n in
    let zeros : List ℕ = replicate (length table - words) 0 in
    let first : length (take words table) ≡ words = omega (arith, length-take words table, h.stands.room) in
    let long : length table' ≡ length table
    = ap length e ∙ length-append (take words table) zeros
    ∙ omega (arith, length-replicate {A = ℕ} (length table - words) 0, h.stands.room) in
    record {
      stands = record {
        below = ap (take words) e ∙ take_at (take words table) zeros words first ∙ h.stands.below;
        room = omega (arith, h.stands.room);
      };
      flat = h.flat;
      proper = h.proper;
      numbers = h.numbers;
      light = h.light;
      short = h.short;
      room = omega (arith, h.room);
    }

-- Where no law fits, the pattern is the tidied one.
pub along_end : {table₀ table table' : List ℕ} {n₀ n : ℕ} → Along table₀ table n₀ n → Finds Nothing table n
    → length table ≡ length table₀
    → table' ≡ take (record_words * n) table ++ replicate (length table - record_words * n) 0 → Tidies table₀ table' n₀ n
unfolding tidy_step
along_end {table₀} {table} {table'} {n₀} {n} a finds l e = record {
  by = λ r₀ g p h₀.
      let q = a.by r₀ g p h₀ in
      let r : Node = q.node in
      let none_found : found r ≡ none = found_none (found r) (finds.by r (held_sought q.held)) in
      let end : r ≡ tidy r₀ = sym (tidy_still r (ap (map (λ t. t.1.1)) none_found)) ∙ q.same_end in
      let size : n ≡ record_count r = stands_count r q.held.proper q.held.stands in
      record {
        count_is = size ∙ ap record_count end;
        table_is = e ∙ ap₂ (λ x y. x ++ replicate y 0) q.held.stands.below (ap₂ (λ x y. x - record_words * y) l size)
            ∙ ap (λ x. table_of x (length table₀)) end;
        held = subst (λ (x : Node). Held table' n x g p) end (held_zeros q.held e);
      };
}
