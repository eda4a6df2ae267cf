-- T8 in a table: the run found, its alternatives trimmed, the alternation's own record set, and the shared set put before.
use Rattle.std.specs.Prelude.{◌≡◌, refl, List, [], ◌∷◌, ◌++◌, ℕ, suc, ◌+◌, ◌-◌, ◌*◌, ◌≤◌, ◌<◌, length, get_or, take, drop}
use Rattle.std.proofs.Common.{sym, ap, subst, ◌∙◌, append_assoc, arith, length-append}
use Rattle.meaning.specs.Limits.{set_words, word_limit}
use Rattle.table.specs.Table.{set_word}
use Rattle.meaning.specs.Node.{Node, Proper}
use Rattle.meaning.specs.Flat.{Kind.sequence, Kind.alternation, Not}
use Rattle.meaning.specs.Results.{concat_map}
use Rattle.table.specs.Table.{record_words, records_word, items_word}
use Rattle.meaning.specs.All.{All, all_left, all_right}
use Rattle.table.specs.Laws.{inner_proper}
use Rattle.table.specs.Laws.{inner, parts_flat, count_all, count_append, inner_count}
use Rattle.tidying_laws.specs.Laws.{t8}
use Rattle.tidying_fitting.specs.Wants.{alike}
use Rattle.table.specs.Stands.{Series}
use Rattle.table.specs.Roots.{front_series}
use Rattle.table.specs.Roots.{inside}
use Rattle.tidying_shapes.specs.Skeleton.{Token, token, row_token, skeleton_in, skeleton}
use Rattle.tidying_shapes.specs.Tokens.{Says}
use Rattle.tidying_shapes.specs.Laws.{says_length, says_at}
use Rattle.tidying_shapes.proofs.Told.{skeleton_count}
use Rattle.tidying_rewriting.specs.Rewriting.{Fitting, SomeFitting, Rewrites, own_word, count}
use Rattle.tidying_rewriting.proofs.Own.{own_said, inside_here}
use Rattle.tidying_rewriting.specs.Series.{skeletons_count, skeletons_append, Rejoins}
use Rattle.tidying_sharing.specs.Leads.{Lead, Lead.single, Lead.leading, opening}
use Rattle.tidying_sharing.specs.Trims.{trimmed, lead_tokens}
use Rattle.tidying_sharing.specs.Wraps.{set_token, Wraps}
use Rattle.tidying_sharing.specs.Shortening.{widths, Running, SomeRunning, Shortens}
use Rattle.tidying_sharing.specs.Shares.{Shares, shares_of, leads, rests, after, the_run, two_leads, split_run}
use Rattle.tidying_sharing.specs.Shares.{ending, rejoined_ending, result_tokens}
use Rattle.tidying_sharing.specs.Located.{Sharing, SomeSharing, Located}

-- The first token of an alternative that begins with a set is the set's.
set_first : {s : List ℕ} {a r : Node} → Lead s a r → (ts : List Token) × (skeleton a ≡ set_token s ∷ ts)
unfolding skeleton_in inner
set_first single = ([], refl)
set_first {s} (leading r) = (_, lead_tokens s r)

-- What is there once alternatives are trimmed: the own record of the alternation, and the alternatives that it had.
abbrev pub Room : List ℕ → List ℕ → ℕ → ℕ → ℕ → ℕ → ℕ → ℕ → Type 0
Room table table₁ n top stop n₁ gone items = (n < top + n₁) × (top + n₁ - n ≤ n₁) × (record_words * n₁ ≤ length table₁)
    × (2 ≤ gone) × (gone ≤ items) × (n ≤ stop + n₁) × (stop ≤ n) × (record_words * n ≤ length table)

regroup : (a b c d : List Token) → (a ++ (b ++ c)) ++ d ≡ a ++ (b ++ (c ++ d))
regroup a b c d = simp append_assoc

module _ {table : List ℕ} {n top : ℕ} {before : List ℕ} {x y : Node} {l m : List Token}
    (fit : Fitting t8 table n top before x y l m) where
  abbrev fit_sharing : Sharing table top before x y
  fit_sharing = record { ends = fit.placed.ends; fits = fit.fits }

  abbrev k : Shares x y
  k = shares_of x y fit.fits

  -- The tokens in front of the run, of the run, of what is left of it, and after it.
  abbrev front : List Token
  front = concat_map skeleton k.front

  abbrev whole : List Token
  whole = concat_map skeleton (leads k)

  abbrev rest : List Token
  rest = concat_map trimmed (rests k)

  abbrev behind : List Token
  behind = concat_map skeleton (after k)

  propers : All Proper (k.front ++ (leads k ++ after k))
  propers = rw (split_run k) at (inner_proper x fit.placed.ends.proper)

  front_count : length front ≡ count_all k.front
  front_count = skeletons_count k.front (all_left Proper k.front (leads k ++ after k) propers)

  behind_propers : All Proper (leads k ++ after k)
  behind_propers = all_right Proper k.front (leads k ++ after k) propers

  whole_count : length whole ≡ count_all (leads k)
  whole_count = skeletons_count (leads k) (all_left Proper (leads k) (after k) behind_propers)

  behind_count : length behind ≡ count_all (after k)
  behind_count = skeletons_count (after k) (all_right Proper (leads k) (after k) behind_propers)

  tokens : concat_map skeleton (inner x) ≡ front ++ (whole ++ behind)
  tokens = ap (concat_map skeleton) (split_run k) ∙ skeletons_append k.front (leads k ++ after k)
      ∙ ap (λ ts. front ++ ts) (skeletons_append (leads k) (after k))

  -- The alternatives' tokens end where the alternation's own stands.
  all : length l + (length front + (length whole + length behind)) + 1 ≡ top
  all = omega (
    arith,
    inside_here fit.placed,
    ap length tokens,
    length-append front (whole ++ behind),
    length-append whole behind,
  )

  said : Says table n (l ++ (front ++ (whole ++ (behind ++ (token x ∷ m)))))
  said = subst (λ (ts : List Token). Says table n (l ++ ts)) (regroup front whole behind (token x ∷ m))
      (rw tokens at (own_said fit.placed))

  count_all_lem : n ≡ top + length m
  count_all_lem = omega (arith, count fit.placed, fit.placed.here)

  module _ {from stop : ℕ} (at : Located from stop table top) where
    starts : length l + length front ≡ from
    starts =
        let told = at.start before x y fit_sharing in
        omega (arith, front_count, fit.placed.here, skeleton_count x fit.placed.ends.proper)

    stops : from + length whole ≡ stop
    stops = let told = at.end before x y fit_sharing in omega (arith, whole_count)

    series : Series table stop (length (k.front ++ leads k)) before (k.front ++ leads k)
    series =
        let under : top - 1 - count_all (after k) ≡ stop = omega (arith, starts, stops, all, behind_count) in
        let first : List Node = k.front ++ leads k in
        let parts : inner x ≡ first ++ after k = split_run k ∙ sym (append_assoc k.front (leads k) (after k)) in
        let items : ℕ = length (inner x) in
        subst (λ (i : ℕ). Series table i (length first) before first) under (front_series {items = items} first (after k)
        (subst (λ (ps : List Node). Series table (top - 1) items before ps) parts (inside fit.placed.ends)))

    the_running : Running table n from stop before k.set k.front (leads k) l (behind ++ (token x ∷ m))
    the_running = record {
      walk = record {
        series = series;
        low = omega (arith, starts, stops, ap length (skeletons_append k.front (leads k)), length-append front whole);
        says = rw (skeletons_append k.front (leads k), append_assoc) said;
      };
      here = starts;
      all = (the_run k).all;
    }

    pub running_there : get_or table (record_words * (top - 1) + records_word) 0 < word_limit → SomeRunning table n from stop
    running_there h = record {
      before = before;
      set = k.set;
      front = k.front;
      leads = leads k;
      left = l;
      right = behind ++ (token x ∷ m);
      running = the_running;
      short = omega (
        arith,
        own_word fit.placed records_word (omega arith),
        stops,
        whole_count,
        inner_count x,
        ap count_all (split_run k),
        count_append k.front (leads k ++ after k),
        count_append (leads k) (after k),
      );
    }

    -- The run begins with the set.
    pub set_there : (record_words * (from + 1) ≤ length table) × (take 8 (drop (record_words * from + 8) table) ≡ k.set)
    set_there =
        let (ts, e) = set_first (the_run k).all.0 in
        let tail : List Token = behind ++ (token x ∷ m) in
        let others : List Token = concat_map skeleton (opening (alike k.first) (k.second ∷ k.more)) in
        let more : List Token = ts ++ (others ++ tail) in
        let cut : whole ++ tail ≡ set_token k.set ∷ more
        = ap (λ a. (a ++ others) ++ tail) e ∙ ap (λ a. set_token k.set ∷ a) (append_assoc ts others tail) in
        let at_set : Says table n ((l ++ front) ++ (set_token k.set ∷ more))
        = rw append_assoc (subst (λ (a : List Token). Says table n (l ++ (front ++ a))) cut said) in
        let low : length (l ++ front) ≡ from = length-append l front ∙ starts in (
          omega (arith, low, says_length at_set, at_set.room, length-append (l ++ front) (set_token k.set ∷ more)),
          subst (λ (i : ℕ). take 8 (drop (record_words * i + 8) table) ≡ k.set) low
              (ap (λ t. t.last) (says_at (l ++ front) (set_token k.set) more at_set)),
        )

    module _ {table₁ : List ℕ} {n₁ gone width : ℕ} (sh : Shortens table table₁ n from stop n₁ gone width) where
      shortened : Says table₁ n₁ (l ++ (front ++ (rest ++ (behind ++ (token x ∷ m))))) × (gone ≡ length (leads k))
          × (width ≡ widths (rests k))
      shortened = sh.by before k.set k.front (leads k) l (behind ++ (token x ∷ m)) the_running

      short_count : n₁ ≡ length l + (length front + (length rest + (length behind + suc (length m))))
      short_count = omega (
        arith,
        says_length shortened.0,
        length-append l (front ++ (rest ++ (behind ++ (token x ∷ m)))),
        length-append front (rest ++ (behind ++ (token x ∷ m))),
        length-append rest (behind ++ (token x ∷ m)),
        length-append behind (token x ∷ m),
      )

      module _ {items : ℕ} (i : items ≡ get_or table (record_words * (top - 1) + items_word) 0) where
        all_items : items ≡ length k.front + (length (leads k) + length (after k))
        all_items = omega (
          arith,
          i ∙ own_word fit.placed items_word (omega arith),
          ap length (split_run k),
          length-append k.front (leads k ++ after k),
          length-append (leads k) (after k),
        )

        pub rejoin_room : Room table table₁ n top stop n₁ gone items
        rejoin_room = omega (
          arith,
          short_count,
          count_all_lem,
          all,
          starts,
          stops,
          all_items,
          two_leads k,
          fit.placed.says.room,
          shortened.1,
          shortened.0.room,
        )

        counted : items - gone + 1 ≡ length k.front + suc (length (after k))
        counted = omega (arith, all_items, shortened.1)

        apart : All (Not alternation) (inner x)
        apart = rw k.all (parts_flat alternation x fit.placed.flat)

        result : skeleton y ++ m ≡ front ++ (set_token k.set ∷ (rest
            ++ (row_token alternation (widths (rests k)) ∷ row_token sequence 2 ∷ (behind ++ ending (items - gone + 1) m))))
        result = result_tokens k apart (items - gone + 1) m counted

        module _ {table₂ : List ℕ} {n₂ : ℕ} (cl : Rejoins table₁ table₂ n₁ (top + n₁ - n) (items - gone + 1) n₂) where
          rejoined_said : Says table₂ n₂ ((l ++ front) ++ (rest ++ (behind ++ ending (items - gone + 1) m)))
          rejoined_said =
              let parts : List Token = front ++ (rest ++ behind) in
              let kept : ℕ = items - gone + 1 in
              let own : Token = row_token alternation (length (inner x)) in
              let ready : Says table₁ n₁ (l ++ (parts ++ (own ∷ m)))
              = subst (λ (ts : List Token). Says table₁ n₁ (l ++ ts)) (sym (regroup front rest behind (own ∷ m)))
              (subst (λ (t : Token). Says table₁ n₁ (l ++ (front ++ (rest ++ (behind ++ (t ∷ m)))))) k.says shortened.0) in
              let low : length l + length parts ≡ top + n₁ - n - 1
              = omega (arith, short_count, count_all_lem, length-append front (rest ++ behind), length-append rest behind) in
              let done = cl.by alternation (length (inner x)) l parts m low (λ z. absurd (omega arith)) ready in
              rw (append_assoc l front) (subst (λ (ts : List Token). Says table₂ n₂ (l ++ ts))
              (rejoined_ending kept parts m (omega arith) ∙ regroup front rest behind (ending kept m)) done)

          -- Room for three records more is that of the result.
          pub wrap_room : (from ≤ stop + n₁ - n) × (stop + n₁ - n ≤ n₂) × (record_words * (n₂ + 3) ≤ length table)
          wrap_room =
              let last : List Token = ending (items - gone + 1) m in
              let owns : List Token = row_token alternation (widths (rests k)) ∷ row_token sequence 2 ∷ (behind ++ last) in
              omega (
                arith,
                fit.room,
                short_count,
                count_all_lem,
                all,
                starts,
                stops,
                says_length rejoined_said,
                length-append (l ++ front) (rest ++ (behind ++ last)),
                length-append l front,
                length-append rest (behind ++ last),
                length-append behind last,
                ap length result,
                length-append (skeleton y) m,
                length-append front (set_token k.set ∷ (rest ++ owns)),
                length-append rest owns,
              )

          wrapped_said : {table₃ set : List ℕ} {n₃ : ℕ} → set ≡ k.set
              → Wraps table₂ table₃ n₂ from (stop + n₁ - n) width set n₃ → Says table₃ n₃ (l ++ (skeleton y ++ m))
          wrapped_said {table₃} {set} {n₃} e w =
              let last : List Token = ending (items - gone + 1) m in
              let low : length (l ++ front) ≡ from = length-append l front ∙ starts in
              let high : length (l ++ front) + length rest ≡ stop + n₁ - n
              = omega (arith, low, short_count, count_all_lem, all, starts, stops) in
              let told : List ℕ → ℕ → List Token
              = λ bytes parts. (l ++ front) ++ (set_token bytes ∷ (rest
              ++ (row_token alternation parts ∷ row_token sequence 2 ∷ (behind ++ last)))) in
              let done : Says table₃ n₃ (told k.set (widths (rests k)))
              = subst (λ (parts : ℕ). Says table₃ n₃ (told k.set parts)) shortened.2
              (subst (λ (bytes : List ℕ). Says table₃ n₃ (told bytes width)) e
              (w.by (l ++ front) rest (behind ++ last) low high rejoined_said)) in
              rw (result, ← append_assoc) done

-- So it is carried out.
pub some_sharing : {table : List ℕ} {n top : ℕ} → SomeFitting t8 table n top → SomeSharing table top
some_sharing s = record {
  before = s.before;
  node = s.node;
  result = s.result;
  sharing = fit_sharing s.fitting;
}

pub shares : {table table₁ table₂ table₃ set : List ℕ} {n top from stop n₁ gone width items n₂ n₃ : ℕ}
    → Located from stop table top → set ≡ take set_words (drop (record_words * (from + 1 - 1) + set_word) table)
    → Shortens table table₁ n from stop n₁ gone width → items ≡ get_or table (record_words * (top - 1) + items_word) 0
    → Rejoins table₁ table₂ n₁ (top + n₁ - n) (items - gone + 1) n₂
    → Wraps table₂ table₃ n₂ from (stop + n₁ - n) width set n₃ → Rewrites t8 table table₃ n top n₃
shares {from = from} at e sh i cl w =
    let same : from + 1 - 1 ≡ from = omega arith in
    record { by = λ before x y l m fit. wrapped_said fit at sh i cl (rw same at e ∙ (set_there fit at).1) w }
