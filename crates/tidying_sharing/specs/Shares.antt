-- T8 on an alternation: where its leftmost run is, and the tokens of the result.
use Rattle.std.specs.Prelude.{◌≡◌, refl, ℕ, zero, suc, ◌+◌, ◌≤◌, length}
use Rattle.std.proofs.Common.{sym, ap₂, ◌∙◌, arith, length-append}
use Rattle.std.proofs.Math.Path.{ap, subst}
use Rattle.std.proofs.Math.Bool.{true, cond}
use Rattle.std.proofs.Math.Option
use Rattle.std.proofs.Math.Option.{Option, some, map-eq-some_iff, none-ne-some}
use mathlib.Core.List.{List, [], ◌∷◌, ◌++◌, map, append_assoc, append-nil}
use Rattle.std.proofs.lemmas.List.{length-map}
use Rattle.meaning.specs.Node.{Node, Node.bset, Node.seq}
use Rattle.meaning.specs.Flat.{Kind.sequence, Kind.alternation, Not, parts, join, glue}
use Rattle.meaning.specs.Results.{concat_map}
use Rattle.meaning.specs.All.{All, all_append, all_left, all_right}
use Rattle.table.specs.Laws.{inner}
use Rattle.tidying_laws.specs.Laws.{first_set, rest_of, run, glues, share, t8}
use Rattle.tidying_fitting.specs.Fitting.{is_some}
use Rattle.tidying_fitting.specs.Places.{Split, behind, leftmost}
use Rattle.tidying_fitting.specs.Wants.{begins_with, alike, follows, wants, begins_own, share_leftmost}
use Rattle.tidying_fitting.specs.declared.Want.TheVariants.{Alike}
use Rattle.tidying_shapes.specs.Skeleton.{Token, token, row_token, skeleton_in, skeleton, glue_row, glue_in, glue_width}
use Rattle.tidying_rewriting.specs.Rewriting.{ok_some}
use Rattle.tidying_rewriting.specs.Series.{SeriesOf, series_of, rejoined, rejoined_join, skeletons_append}
use Rattle.tidying_sharing.specs.Leads.{left, opening, RunOf, run_of, glued, sharing, SharedAt, share_at, is_some_lem}
use Rattle.tidying_sharing.specs.Trims.{trimmed, lead_tokens}
use Rattle.tidying_sharing.specs.Wraps.{set_token}
use Rattle.tidying_sharing.specs.Shortening.{widths}

-- The alternatives in front of the run, its first two, and all behind; the set; and the result.
pub record Shares (x y : Node) : Type 0 where
  pub front : List Node
  pub first : Node
  pub second : Node
  pub more : List Node
  pub set : List ℕ
  pub split : inner x ≡ front ++ (first ∷ second ∷ more)
  pub found : leftmost (wants Alike) [] (inner x) ≡ some (record { front = front ++ (first ∷ []); part = second; more = more })
  pub begins : first_set (parts sequence first) ≡ some set
  pub result : join alternation (front ++ sharing set (first ∷ second ∷ more)) ≡ y
  pub several : 2 ≤ length (run set (first ∷ second ∷ more)).0
  pub says : token x ≡ row_token alternation (length (inner x))
  pub all : inner x ≡ parts alternation x

abbrev shared_series : List Node → Option Node
shared_series l = Option.map (join alternation) (share l)

pub shares_of : (x y : Node) → t8 x ≡ some y → Shares x y
unfolding share leftmost
shares_of x y e = go (inner x) refl
  where
    series : SeriesOf alternation shared_series x y
    series = ok_some (SeriesOf alternation shared_series x) e (series_of alternation shared_series x)

    at_split : (p : Node) (l : List Node) (at : Split) (m : List Node) → inner x ≡ p ∷ l → join alternation m ≡ y
        → leftmost follows (p ∷ []) l ≡ some at → SharedAt (p ∷ l) m (behind p at) → Shares x y
    at_split p l at m is made found k = record {
      front = k.front;
      first = k.first;
      second = at.part;
      more = at.more;
      set = k.set;
      split = is ∙ k.split;
      found = ap (leftmost (wants Alike) []) is ∙ ap (Option.map (behind p)) found
          ∙ ap (λ f. some (record { front = f; part = at.part; more = at.more })) k.here;
      begins = k.begins;
      result = ap (join alternation) (sym k.result) ∙ made;
      several = k.many;
      says = series.says;
      all = series.all;
    }

    go : (ps : List Node) → inner x ≡ ps → Shares x y
    go [] is = absurd (none-ne-some y (sym (ap shared_series is) ∙ series.fits))
    go (p ∷ l) is =
        let (m, shares, made)
        = (map-eq-some_iff (join alternation) (share (p ∷ l))).0 (sym (ap shared_series is) ∙ series.fits) in
        let (at, found) = is_some_lem (leftmost follows (p ∷ []) l) (sym (share_leftmost [] p l) ∙ ap is_some shares) in
        at_split p l at m is made found (share_at [] p l m at found shares)

-- The alternatives of the run, and those after it.
module _ {x y : Node} (k : Shares x y) where
  abbrev pub leads : List Node
  leads = k.first ∷ opening (alike k.first) (k.second ∷ k.more)

  abbrev pub rests : List Node
  rests = map (left k.set) (k.first ∷ opening (alike k.first) (k.second ∷ k.more))

  abbrev pub after : List Node
  after = (run k.set (k.first ∷ k.second ∷ k.more)).1

  abbrev all : List Node
  all = k.first ∷ k.second ∷ k.more

  pub the_run : RunOf k.set (k.first ∷ k.second ∷ k.more) leads
      (run k.set (k.first ∷ k.second ∷ k.more)).0 after
  unfolding opening
  the_run = subst (λ (m : List Node). RunOf k.set all m (run k.set all).0 (run k.set all).1) same
      (run_of k.set all)
    where
      same : opening (begins_with (some k.set)) all ≡ leads
      same =
          let first : is_some (rest_of k.set (parts sequence k.first)) ≡ true
          = begins_own (parts sequence k.first) k.set k.begins in
          ap (λ b. cond b (k.first ∷ opening (begins_with (some k.set)) (k.second ∷ k.more)) []) first
          ∙ ap (λ o. k.first ∷ opening (begins_with o) (k.second ∷ k.more)) (sym k.begins)

  -- There are two or more.
  pub two_rests : 2 ≤ length rests
  two_rests = omega (arith, k.several, ap length the_run.trimmed)

  pub two_leads : 2 ≤ length leads
  two_leads = omega (arith, two_rests, length-map leads (left k.set))

  pub split_run : inner x ≡ k.front ++ (leads ++ after)
  split_run = k.split ∙ ap (λ m. k.front ++ m) the_run.split

-- What is left of several alternatives is one alternation, which follows the set in a sequence.
glues_series : (p : Node) (l : List Node) → (trimmed (glues p l) ≡ concat_map trimmed (p ∷ l))
    × (length (parts alternation (glues p l)) ≡ widths (p ∷ l))
unfolding glues
glues_series p [] = (sym (append-nil (trimmed p)), omega arith)
glues_series p (q ∷ l) =
    let g = glue_row alternation p (glues q l) in
    let h = glues_series q l in
    (g.0 ∙ ap (λ ts. trimmed p ++ ts) h.0, g.1 ∙ ap (λ n. length (parts alternation p) + n) h.1)

wrapped : (s : List ℕ) (l : List Node) → 2 ≤ length l → skeleton (seq (bset s) (glued l))
    ≡ set_token s ∷ (concat_map trimmed l ++ (row_token alternation (widths l) ∷ row_token sequence 2 ∷ []))
unfolding glues inner
wrapped s [] h = absurd (omega arith)
wrapped s (p ∷ []) h = absurd (omega arith)
wrapped s (p ∷ q ∷ l) h =
    let r : Node = glues q l in
    let (series, width) = glues_series q l in
    let one : length (parts sequence (glue alternation p r)) ≡ 1 = glue_width (some sequence) alternation p r in
    let own : List Token = row_token alternation (widths (p ∷ q ∷ l)) ∷ [] in
    let inside : skeleton_in (some sequence) (glue alternation p r) ≡ concat_map trimmed (p ∷ q ∷ l) ++ own
    = glue_in (some sequence) alternation p r
    ∙ ap₂ (λ ts n. trimmed p ++ (ts ++ (row_token alternation (length (parts alternation p) + n) ∷ []))) series width
    ∙ sym (append_assoc (trimmed p) (concat_map trimmed (q ∷ l)) own) in
    lead_tokens s (glue alternation p r)
    ∙ ap₂ (λ ts n. set_token s ∷ (ts ++ (row_token sequence (suc n) ∷ []))) inside one
    ∙ ap (λ ts. set_token s ∷ ts) (append_assoc (concat_map trimmed (p ∷ q ∷ l)) own (row_token sequence 2 ∷ []))

-- A series' own token stands behind its parts, unless there is one part only.
abbrev pub ending : ℕ → List Token → List Token
ending zero m = m
ending (suc zero) m = m
ending (suc (suc i)) m = row_token alternation (suc (suc i)) ∷ m

pub rejoined_ending : (kept : ℕ) (ts m : List Token) → 1 ≤ kept → rejoined alternation kept ts ++ m ≡ ts ++ ending kept m
rejoined_ending zero ts m h = absurd (omega arith)
rejoined_ending (suc zero) ts m h = refl
rejoined_ending (suc (suc i)) ts m h = append_assoc ts (row_token alternation (suc (suc i)) ∷ []) m

-- The result: the tokens in front, the set, what is left of the run, its alternation and its sequence, and the tokens after.
module _ {x y : Node} (k : Shares x y) (apart : All (Not alternation) (inner x)) where
  abbrev wrap : Node
  wrap = seq (bset k.set) (glued (rests k))

  abbrev series : List Node
  series = k.front ++ (wrap ∷ after k)

  series_apart : All (Not alternation) series
  series_apart =
      let whole = rw (split_run k) at apart in
      let behind = all_right (Not alternation) k.front (leads k ++ after k) whole in
      all_append (Not alternation) k.front (wrap ∷ after k)
      (all_left (Not alternation) k.front (leads k ++ after k) whole)
      (tt, all_right (Not alternation) (leads k) (after k) behind)

  joined_series : join alternation series ≡ y
  joined_series =
      ap (λ m. join alternation (k.front ++ (seq (bset k.set) (glued m) ∷ after k))) (sym (the_run k).trimmed) ∙ k.result

  series_length : length series ≡ length k.front + suc (length (after k))
  series_length = length-append k.front (wrap ∷ after k)

  pub result_tokens : (kept : ℕ) (m : List Token) → kept ≡ length k.front + suc (length (after k))
      → skeleton y ++ m ≡ concat_map skeleton k.front ++ (set_token k.set ∷ (concat_map trimmed (rests k)
      ++ (row_token alternation (widths (rests k)) ∷ row_token sequence 2 ∷ (concat_map skeleton (after k) ++ ending kept m))))
  result_tokens kept m e =
      let front : List Token = concat_map skeleton k.front in
      let some : List Token = concat_map trimmed (rests k) in
      let behind : List Token = concat_map skeleton (after k) in
      let owns : List Token = row_token alternation (widths (rests k)) ∷ row_token sequence 2 ∷ [] in
      let tokens : concat_map skeleton series ≡ front ++ ((set_token k.set ∷ (some ++ owns)) ++ behind)
      = skeletons_append k.front (wrap ∷ after k)
      ∙ ap (λ ts. front ++ (ts ++ behind)) (wrapped k.set (rests k) (two_rests k)) in
      ap (λ z. skeleton z ++ m) (sym joined_series)
      ∙ ap (λ ts. ts ++ m) (sym (rejoined_join alternation series series_apart))
      ∙ rejoined_ending (length series) (concat_map skeleton series) m (omega (arith, length-append k.front (wrap ∷ after k)))
      ∙ ap₂ (λ ts n. ts ++ ending n m) tokens (series_length ∙ sym e)
      ∙ regroup front some owns behind (ending kept m)
    where
      regroup : (a b c d e : List Token)
          → (a ++ ((set_token k.set ∷ (b ++ c)) ++ d)) ++ e ≡ a ++ (set_token k.set ∷ (b ++ (c ++ (d ++ e))))
      regroup a b c d e = simp append_assoc
