-- The tidier's theorems: what is tidied is alike, with the same groups and no more rows, and no law fits it anywhere.
use Rattle.std.specs.Prelude.{◌≡◌, refl, ℕ, zero, suc, ◌+◌, ◌*◌, ◌≤◌}
use Rattle.std.proofs.Math.Path.{sym, subst}
use Rattle.std.proofs.Common.{◌∙◌, arith}
use Rattle.std.proofs.Math.Option.{Option, none, some}
use Rattle.meaning.specs.Text.{Input, size}
use Rattle.meaning.specs.Node.{Node, Proper}
use Rattle.meaning.specs.Numbering.{Numbers}
use Rattle.meaning.specs.Standard.{match_at, search_from}
use Rattle.machine.specs.Layout.{size_of}
use Rattle.tidying_laws.specs.Groups.{groups, Positive, positive, renumber}
use Rattle.tidying_laws.specs.Void.{Fair}
use Rattle.tidying_laws.specs.Alike.{SameOrder, order_refl, order_trans, Alike, alike}
use Rattle.tidying_laws.specs.Around.{Around, fill, same_match, same_search}
use Rattle.meaning.specs.Flat.{Flat}
use Rattle.tidying_laws.specs.Measures.{weight, weighs}
use Rattle.tidying_laws.specs.Charge.{charge, records, records_bound}
use Rattle.tidying_laws.specs.List.{laws, words}
use Rattle.tidying_laws.specs.Tidier.{tidy_step, onward, tidies, tidy}
use Rattle.tidying_laws.specs.Found.{Done}
use Rattle.tidying_laws.proofs.Found.{done, no_words}
use Rattle.tidying_laws.specs.Within.{Stands, everywhere}
use Rattle.meaning.specs.All.{All}
use Rattle.tidying_laws.specs.Kept.{Ok, Kept}
use Rattle.tidying_laws.proofs.Steps.{step_kept}
use Rattle.tidying_laws.specs.Tidy.{Step}

-- What any number of steps keeps.
record Tidied (r q : Node) : Type 1 where
  like : SameOrder r q
  numbers : groups r ≡ groups q
  flat : Flat r → Flat q
  proper : Proper r → Proper q
  fewer : size_of q ≤ size_of r
  light : charge q ≤ charge r

none_tidied : (r : Node) → Tidied r r
none_tidied r = record {
  like = order_refl r;
  numbers = refl;
  flat = λ g. g;
  proper = λ g. g;
  fewer = omega arith;
  light = omega arith;
}

more_tidied : {r p q : Node} → Kept r p → Tidied p q → Tidied r q
more_tidied h t = record {
  like = order_trans h.like t.like;
  numbers = h.numbers ∙ t.numbers;
  flat = λ g. t.flat (h.flat g);
  proper = λ g. t.proper (h.proper g);
  fewer = omega (arith, h.fewer, t.fewer);
  light = omega (arith, h.light.alone, t.light);
}

-- What holds where no law fits, and is kept by one step more in front, holds of as many steps as the weight.
by_steps {κ} : (P : Node → Node → Type κ) → ((r : Node) → tidy_step r ≡ none → P r r)
    → ((r p q : Node) → tidy_step r ≡ some p → Kept r p → P p q → P r q)
    → (n : ℕ) (r : Node) → Positive (groups r) → weight r ≤ n → P r (tidies n r)
unfolding tidies
by_steps P stop more zero r p h = absurd (omega (arith, weighs r))
by_steps P stop more (suc n) r p h = by (λ q p h. by_steps P stop more n q p h) (tidy_step r) refl (step_kept r p)
  where
    by : ((q : Node) → Positive (groups q) → weight q ≤ n → P q (tidies n q)) → (o : Option Node) → tidy_step r ≡ o
        → Ok (Kept r) o → P r (onward r (λ q. tidies n q) o)
    by ih none e k = stop r e
    by ih (some q) e k = more r q (tidies n q) e k (ih q (subst Positive k.numbers p) (omega (arith, k.less)))

-- The steps lead to one pattern, however many more there may be.
still : (n : ℕ) (r : Node) → tidy_step r ≡ none → tidies n r ≡ r
unfolding tidies
still zero r e = refl
still (suc n) r e = rw e

enough : (n : ℕ) (r : Node) → Positive (groups r) → weight r ≤ n → (m : ℕ) → weight r ≤ m → tidies m r ≡ tidies n r
unfolding tidies
enough = by_steps (λ r q. (m : ℕ) → weight r ≤ m → tidies m r ≡ q) (λ r e m h. still m r e) go
  where
    go : (r p q : Node) → tidy_step r ≡ some p → Kept r p → ((m : ℕ) → weight p ≤ m → tidies m p ≡ q)
        → (m : ℕ) → weight r ≤ m → tidies m r ≡ q
    go r p q e k f zero h = absurd (omega (arith, weighs r))
    go r p q e k f (suc m) h = rw e (f m (omega (arith, k.less)))

-- More steps than the weight change nothing.
pub tidy_ends : (r : Node) (n : ℕ) → Numbers 1 r n → (m : ℕ) → weight r ≤ m → tidies m r ≡ tidy r
unfolding tidy
tidy_ends r n h m g = enough (weight r) r (positive r 1 n (omega arith) h) (omega arith) m g

-- Where no law fits nothing changes.
pub tidy_still : (r : Node) → tidy_step r ≡ none → tidy r ≡ r
unfolding tidy
tidy_still r e = still (weight r) r e

module _ (r : Node) (n : ℕ) (h : Numbers 1 r n) where
  pos : Positive (groups r)
  pos = positive r 1 n (omega arith) h

  -- A step leads to an alike pattern, with the same groups, no more rows and less weight, that is tidied to the same.
  pub step : (q : Node) → tidy_step r ≡ some q → Step r n q
  unfolding tidy tidies
  step q e =
      let k : Kept r q = subst (Ok (Kept r)) e (step_kept r pos) in
      record {
        alike = alike pos k.numbers k.like;
        numbers = renumber r q 1 n k.numbers h;
        flat = k.flat;
        proper = k.proper;
        rows = k.fewer;
        light = k.light.alone;
        less = k.less;
        same_end = sym (enough (weight q) q (subst Positive k.numbers pos) (omega arith) (weight r) (omega (arith, k.less)))
            ∙ rw e at (tidy_ends r n h (suc (weight r)) (omega arith));
      }

  keeps : Tidied r (tidy r)
  unfolding tidy
  keeps = by_steps Tidied (λ r e. none_tidied r) (λ r p q e k t. more_tidied k t) (weight r) r pos (omega arith)

  -- The tidied pattern is alike: its groups are the same, and numbered as they were.
  pub tidy_alike : Alike r (tidy r)
  tidy_alike = alike pos keeps.numbers keeps.like

  pub tidy_numbers : Numbers 1 (tidy r) n
  tidy_numbers = renumber r (tidy r) 1 n keeps.numbers h

  -- It is flat, its sets and assertions are well-formed, and it takes no more rows.
  pub tidy_flat : Flat r → Flat (tidy r)
  tidy_flat = keeps.flat

  pub tidy_proper : Proper r → Proper (tidy r)
  tidy_proper = keeps.proper

  pub tidy_rows : size_of (tidy r) ≤ size_of r
  tidy_rows = keeps.fewer

  -- It takes at most two records for each byte that r was read from, and one.
  pub tidy_charge : charge (tidy r) ≤ charge r
  tidy_charge = keeps.light

  pub tidy_records : Flat r → (p : ℕ) → charge r ≤ p → records (tidy r) ≤ 2 * p + 1
  tidy_records g p c = omega (arith, (records_bound (tidy r) (tidy_flat g)).0, tidy_charge)

  -- No law of the list fits any part of it.
  pub tidy_none : tidy_step (tidy r) ≡ none
  unfolding tidy
  tidy_none = by_steps (λ r q. tidy_step q ≡ none) (λ r e. e) (λ r p q e k t. t) (weight r) r pos (omega arith)

  pub tidy_done : Done (tidy r)
  tidy_done = done (tidy r) tidy_none

  -- In the outline's words: none of its laws applies to any part of it, wherever that stands.
  pub tidy_clean : (a : Around) (q : Node) → fill a q ≡ tidy r → Stands none a q → All (λ W. W q → ⊥) words
  tidy_clean a q e s =
      no_words q (everywhere (λ q. All (λ f. f q ≡ none) laws) none a q s (subst (λ (r : Node). Done r) (sym e) tidy_done))

  -- To tidy again changes nothing.
  pub tidy_again : tidy (tidy r) ≡ tidy r
  tidy_again = tidy_still (tidy r) tidy_none

  -- The standard's algorithm answers the same on it, at a start and in a search, with every group.
  pub tidy_match : (w : Input) → Fair w → (g i : ℕ) → i ≤ size w → match_at w g r i ≡ match_at w g (tidy r) i
  tidy_match w fair = same_match tidy_alike n h w fair

  pub tidy_search : (w : Input) → Fair w → (g i : ℕ) → i ≤ size w → search_from w g r i ≡ search_from w g (tidy r) i
  tidy_search w fair = same_search tidy_alike n h w fair
