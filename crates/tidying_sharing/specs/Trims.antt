-- T8 on the tokens of one alternative: it loses the set that it begins with, and what is left becomes parts of an alternation.
use Rattle.std.specs.Prelude.{◌≡◌, ℕ, suc, ◌+◌, ◌-◌, ◌*◌, ◌≤◌, ◌<◌, get_or}
use Rattle.std.proofs.Math.Path.{refl}
use Rattle.std.proofs.Common.{sym, ap, subst, ◌∙◌, arith, length-append}
use Rattle.std.proofs.Math.Option.{some}
use mathlib.Core.List.{List, [], ◌∷◌, ◌++◌, append_assoc}
use Rattle.std.proofs.Math.ListN.{length}
use Rattle.meaning.specs.Node.{Node, Node.empty, Node.bset, Node.assert, Node.group, Node.seq, Node.alt, Node.many}
use Rattle.meaning.specs.Flat.{Kind, Kind.sequence, Kind.alternation, Not, parts, pair}
use Rattle.meaning.specs.Results.{concat_map}
use Rattle.table.specs.Table.{record_words, empty_kind, alternation_kind, kind_word, items_word}
use Rattle.table.specs.Laws.{inner, kind_of}
use Rattle.tidying_fitting.specs.Parts.{length_parts}
use Rattle.tidying_shapes.specs.Skeleton.{Token, token, row_token, skeleton_in, skeleton, inner_skeleton, row_parts, alone}
use Rattle.tidying_shapes.specs.Skeleton.{pair_own, pair_row}
use Rattle.tidying_shapes.specs.Tokens.{token_at, Says}
use Rattle.tidying_shapes.specs.Laws.{says_length, says_at, says_same}
use Rattle.tidying_shapes.specs.Edits.{Removed, Stamped, Counted}
use Rattle.tidying_rewriting.specs.Rewriting.{leaf_token}
use Rattle.tidying_sharing.specs.Leads.{Lead, Lead.single, Lead.leading}

-- The tokens of what is left, in an alternation.
abbrev pub trimmed : Node → List Token
trimmed r = skeleton_in (some alternation) r

-- An alternative that begins with a set is the first `records` records, behind which stand some tokens.
pub record Trimming (table : List ℕ) (n records : ℕ) (s : List ℕ) (a r : Node) (m : List Token) : Type 0 where
  pub lead : Lead s a r
  pub says : Says table n (skeleton a ++ m)
  pub counted : length (skeleton a) ≡ records

-- What is asked: that there is such an alternative. Its records are there, and they are one, or three and more.
pub record SomeTrimming (table : List ℕ) (n records : ℕ) : Type 0 where
  pub set : List ℕ
  pub node : Node
  pub rest : Node
  pub right : List Token
  pub trimming : Trimming table n records set node rest right
  pub some : 1 ≤ records
  pub few : records ≤ n
  pub room : record_words * n ≤ length table
  pub never : records ≡ 2 → ⊥

-- What is done, whatever it is: what is left of it is said in its place, as so many alternatives.
pub record Trims (table table' : List ℕ) (n records n' width : ℕ) : Type 0 where
  pub by : (s : List ℕ) (a r : Node) (m : List Token) → Trimming table n records s a r m
      → Says table' n' (trimmed r ++ m) × (width ≡ length (parts alternation r))

-- A sequence of a set and more: the set's token, those of the items behind it, and the sequence's own.
pub lead_tokens : (s : List ℕ) (r : Node) → skeleton (seq (bset s) r)
    ≡ token (bset s) ∷ (skeleton_in (some sequence) r ++ (row_token sequence (suc (length (parts sequence r))) ∷ []))
unfolding skeleton_in
lead_tokens s r = pair_own sequence (bset s) r

-- What is left of it is a sequence if it has more than two items, and else the second one.
data Left : Node → Type 0 where
  several : {r : Node} → 2 ≤ length (parts sequence r) → length (parts alternation r) ≡ 1
      → trimmed r ≡ skeleton_in (some sequence) r ++ (row_token sequence (length (parts sequence r)) ∷ []) → Left r
  choice : {r : Node} → length (parts sequence r) ≡ 1
      → skeleton_in (some sequence) r ≡ trimmed r ++ (row_token alternation (length (parts alternation r)) ∷ []) → Left r
  other : {r : Node} → length (parts sequence r) ≡ 1 → length (parts alternation r) ≡ 1
      → skeleton_in (some sequence) r ≡ trimmed r → (front : List Token) (last : Token) → trimmed r ≡ front ++ (last ∷ [])
      → (last.kind ≡ alternation_kind → ⊥) → Left r

-- A series in a series of the other kind: its parts and its own token.
series_own : (k : Kind) (r q : Node) → skeleton (pair k r q)
    ≡ skeleton_in (some k) (pair k r q) ++ (row_token k (suc (length (parts k q))) ∷ [])
series_own k r q =
    pair_own k r q ∙ ap (λ ts. ts ++ (row_token k (suc (length (parts k q))) ∷ [])) (sym (pair_row k r q))

module _ (r : Node) (q : Not sequence r) (a : Not alternation r) (k : kind_of r ≡ alternation_kind → ⊥) where
  plain : Left r
  plain = other (alone sequence r q).1 (alone alternation r a).1 ((alone sequence r q).0 ∙ sym (alone alternation r a).0)
      (concat_map skeleton (inner r)) (token r) ((alone alternation r a).0 ∙ inner_skeleton r) k

left_of : (r : Node) → Left r
unfolding parts
left_of empty = plain empty tt tt (λ e. omega arith)
left_of (bset s) = plain (bset s) tt tt (λ e. omega arith)
left_of (assert b) = plain (assert b) tt tt (λ e. omega arith)
left_of (group n r) = plain (group n r) tt tt (λ e. omega arith)
left_of (seq r q) = several {r = seq r q} (omega (arith, length_parts sequence q)) refl
    ((alone alternation (seq r q) tt).0 ∙ series_own sequence r q)
left_of (alt r q) = choice refl ((alone sequence (alt r q) tt).0 ∙ series_own alternation r q)
left_of (many n e lazy r) = plain (many n e lazy r) tt tt (λ e. omega arith)

-- The words of the own record and of the one below it are read from the tokens.
module _ {table : List ℕ} {n records : ℕ} {s : List ℕ} {r : Node} {m : List Token}
    (t : Trimming table n records s (seq (bset s) r) r m) where
  abbrev set : Token
  set = token (bset s)

  abbrev items : List Token
  items = skeleton_in (some sequence) r

  abbrev own : Token
  own = row_token sequence (suc (length (parts sequence r)))

  abbrev inner_own : Token
  inner_own = row_token alternation (length (parts alternation r))

  said : Says table n (set ∷ (items ++ (own ∷ m)))
  said = rw append_assoc at (rw (lead_tokens s r) at t.says)

  long : suc (suc (length items)) ≡ records
  long = omega (arith, t.counted, ap length (lead_tokens s r), length-append items (own ∷ []))

  own_items : get_or table (record_words * (records - 1) + items_word) 0 ≡ suc (length (parts sequence r))
  own_items =
      let at : length (set ∷ items) ≡ records - 1 = omega (arith, long) in
      subst (λ (i : ℕ). get_or table (record_words * i + items_word) 0 ≡ suc (length (parts sequence r))) at
      (ap (λ k. k.items) (says_at (set ∷ items) own m said))

  below : (front : List Token) (last : Token) → items ≡ front ++ (last ∷ []) → token_at table (records - 1 - 1) ≡ last
  below front last e =
      let at : length (set ∷ front) ≡ records - 1 - 1 = omega (arith, long, ap length e, length-append front (last ∷ [])) in
      let told : Says table n ((set ∷ front) ++ (last ∷ own ∷ m)) = rw append_assoc at (rw e at said) in
      subst (λ (i : ℕ). token_at table i ≡ last) at (says_at (set ∷ front) last (own ∷ m) told)

  kind_below : (front : List Token) (last : Token) → items ≡ front ++ (last ∷ [])
      → get_or table (record_words * (records - 1 - 1) + kind_word) 0 ≡ last.kind
  kind_below front last e = ap (λ i. get_or table i 0) (omega arith) ∙ ap (λ k. k.kind) (below front last e)

  module _ {w : ℕ} (e : w ≡ get_or table (record_words * (records - 1) + items_word) 0) where
    all : w ≡ suc (length (parts sequence r))
    all = e ∙ own_items

    -- More than two items: the sequence stays, with one less.
    several_left : {table₁ table₂ : List ℕ} → 2 < w → Counted table table₁ (records - 1) (w - 1)
        → Removed table₁ table₂ n 0 1 → Left r → Says table₂ (n - 1) (trimmed r ++ m) × (1 ≡ length (parts alternation r))
    several_left {table₁} {table₂} h c g (several _ one whole) =
        let less : w - 1 ≡ length (parts sequence r) = omega (arith, all) in
        let low : length (set ∷ items) ≡ records - 1 = omega (arith, long) in
        let fewer : Says table₁ n ((set ∷ items) ++ (row_token sequence (w - 1) ∷ m)) = c.says n (set ∷ items) own m low said in
        let left = g.says [] (set ∷ []) (items ++ (row_token sequence (w - 1) ∷ m)) refl refl fewer in
        (rw (whole, append_assoc, ← less) left, sym one)
    several_left h c g (choice one _) = absurd (omega (arith, all))
    several_left h c g (other one _ _ _ _ _ _) = absurd (omega (arith, all))

    -- Two items: the sequence goes too, and so does an alternation that is the second, whose alternatives join.
    choice_left : {table₁ table₂ : List ℕ} {k p : ℕ} → w ≤ 2 → k ≡ get_or table (record_words * (records - 1 - 1) + kind_word) 0
        → k ≡ alternation_kind → p ≡ get_or table (record_words * (records - 1 - 1) + items_word) 0
        → Removed table table₁ n (records - 2) 2
        → Removed table₁ table₂ (n - 2) 0 1 → Left r
        → Says table₂ (n - 2 - 1) (trimmed r ++ m) × (p ≡ length (parts alternation r))
    choice_left h f z i c g (several two _ _) = absurd (omega (arith, all))
    choice_left {p = p} h f z i c g (choice _ whole) =
        let low : length (set ∷ trimmed r) ≡ records - 2
        = omega (arith, long, ap length whole, length-append (trimmed r) (inner_own ∷ [])) in
        let told : Says table n ((set ∷ trimmed r) ++ ((inner_own ∷ own ∷ []) ++ m)) = rw append_assoc at (rw whole at said) in (
          g.says [] (set ∷ []) (trimmed r ++ m) refl refl
              (c.says (set ∷ trimmed r) (inner_own ∷ own ∷ []) m low refl told),
          i ∙ ap (λ k. k.items) (below (trimmed r) inner_own whole),
        )
    choice_left h f z i c g (other _ _ same front last split differs) =
        absurd (differs (sym (kind_below front last (same ∙ split)) ∙ sym f ∙ z))

    other_left : {table₁ table₂ : List ℕ} {k : ℕ} → w ≤ 2 → k ≡ get_or table (record_words * (records - 1 - 1) + kind_word) 0
        → (k ≡ alternation_kind → ⊥) → Removed table table₁ n (records - 1) 1 → Removed table₁ table₂ (n - 1) 0 1 → Left r
        → Says table₂ (n - 1 - 1) (trimmed r ++ m) × (1 ≡ length (parts alternation r))
    other_left h f z c g (several two _ _) = absurd (omega (arith, all))
    other_left h f z c g (choice _ whole) = absurd (z (f ∙ kind_below (trimmed r) inner_own whole))
    other_left h f z c g (other _ one same _ _ _ _) =
        let low : length (set ∷ items) ≡ records - 1 = omega (arith, long) in
        let left = g.says [] (set ∷ []) (items ++ m) refl refl (c.says (set ∷ items) (own ∷ []) m low refl said) in
        (rw (← same) left, sym one)

-- So each way to trim.
module _ {table table₁ : List ℕ} {n records : ℕ} where
  pub trims_single : records ≡ 1 → Stamped table table₁ 0 (leaf_token empty_kind) → Trims table table₁ n records n 1
  unfolding skeleton_in inner parts
  trims_single e k = record { by = λ s a r m t. go t.lead t }
    where
      go : {s : List ℕ} {a r : Node} {m : List Token} → Lead s a r → Trimming table n records s a r m
          → Says table₁ n (trimmed r ++ m) × (1 ≡ length (parts alternation r))
      go {s} {m = m} single t = (k.says n [] (token (bset s)) m refl t.says, refl)
      go (leading r) t = absurd (omega (arith, long t))

  -- Any other is a sequence.
  longer : {n' width : ℕ} → (records ≡ 1 → ⊥)
      → ((s : List ℕ) (r : Node) (m : List Token) → Trimming table n records s (seq (bset s) r) r m
      → Says table₁ n' (trimmed r ++ m) × (width ≡ length (parts alternation r))) → Trims table table₁ n records n' width
  unfolding skeleton_in
  longer {n'} {width} z f = record { by = λ s a r m t. go t.lead t }
    where
      go : {s : List ℕ} {a r : Node} {m : List Token} → Lead s a r → Trimming table n records s a r m
          → Says table₁ n' (trimmed r ++ m) × (width ≡ length (parts alternation r))
      go single t = absurd (z (sym t.counted))
      go {s} {m = m} (leading r) t = f s r m t

module _ {table table₁ table₂ : List ℕ} {n records w : ℕ} (z : records ≡ 1 → ⊥)
    (e : w ≡ get_or table (record_words * (records - 1) + items_word) 0) where
  pub trims_several : 2 < w → Counted table table₁ (records - 1) (w - 1) → Removed table₁ table₂ n 0 1
      → Trims table table₂ n records (n - 1) 1
  trims_several h c g = longer z (λ s r m t. several_left t e h c g (left_of r))

  pub trims_choice : {k p : ℕ} → w ≤ 2 → k ≡ get_or table (record_words * (records - 1 - 1) + kind_word) 0 → k ≡ alternation_kind
      → p ≡ get_or table (record_words * (records - 1 - 1) + items_word) 0 → Removed table table₁ n (records - 2) 2
      → Removed table₁ table₂ (n - 2) 0 1 → Trims table table₂ n records (n - 3) p
  trims_choice h f k i c g = longer z (λ s r m t.
      let left = choice_left t e h f k i c g (left_of r) in (says_same refl (omega arith) left.0, left.1))

  pub trims_other : {k : ℕ} → w ≤ 2 → k ≡ get_or table (record_words * (records - 1 - 1) + kind_word) 0 → (k ≡ alternation_kind → ⊥)
      → Removed table table₁ n (records - 1) 1 → Removed table₁ table₂ (n - 1) 0 1 → Trims table table₂ n records (n - 2) 1
  trims_other h f k c g = longer z (λ s r m t.
      let left = other_left t e h f k c g (left_of r) in (says_same refl (omega arith) left.0, left.1))

-- A pattern has a token, and a series of them as many as there are or more.
some_tokens : (r : Node) → 1 ≤ length (skeleton r)
some_tokens r = omega (arith, ap length (inner_skeleton r), length-append (concat_map skeleton (inner r)) (token r ∷ []))

pub fewer_parts : (l : List Node) → length l ≤ length (concat_map skeleton l)
fewer_parts [] = omega arith
fewer_parts (p ∷ l) = omega (arith, fewer_parts l, some_tokens p, length-append (skeleton p) (concat_map skeleton l))

series_some : (k : Kind) (r : Node) → length (parts k r) ≤ length (skeleton_in (some k) r)
series_some k r = rw (row_parts k r) (fewer_parts (parts k r))

-- So the records are there,
pub some_trimming : {table : List ℕ} {n records : ℕ} {s : List ℕ} {a r : Node} {m : List Token}
    → Trimming table n records s a r m → SomeTrimming table n records
unfolding skeleton_in
some_trimming {table} {n} {records} {s} {a} {r} {m} t = record {
  set = s;
  node = a;
  rest = r;
  right = m;
  trimming = t;
  some = omega (arith, t.counted, some_tokens a);
  few = omega (arith, t.counted, says_length t.says, length-append (skeleton a) m);
  room = t.says.room;
  never = λ two. go two t.lead t;
}
  where
    go : {s : List ℕ} {a r : Node} {m : List Token} → records ≡ 2 → Lead s a r → Trimming table n records s a r m → ⊥
    go two single t = omega (arith, t.counted)
    go two (leading r) t = omega (arith, long t, length_parts sequence r, series_some sequence r)

-- and what is left has an alternative for each of them at most.
pub trim_width : {s : List ℕ} {a r : Node} → Lead s a r → length (parts alternation r) ≤ length (skeleton a)
unfolding skeleton_in parts
trim_width single = omega arith
trim_width {s} (leading r) = go (left_of r)
  where
    tokens : length (skeleton (seq (bset s) r)) ≡ suc (suc (length (skeleton_in (some sequence) r)))
    tokens = ap length (lead_tokens s r) ∙ ap suc (length-append (skeleton_in (some sequence) r) _ ∙ omega arith)

    go : Left r → length (parts alternation r) ≤ length (skeleton (seq (bset s) r))
    go (several _ one _) = omega (arith, tokens)
    go (choice _ whole) =
        let own : List Token = row_token alternation (length (parts alternation r)) ∷ [] in
        omega (arith, tokens, series_some alternation r, ap length whole, length-append (trimmed r) own)
    go (other _ one _ _ _ _ _) = omega (arith, tokens)
