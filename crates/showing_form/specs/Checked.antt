-- The check in one pass: what it is at each step, and that its answer is exact.
use Rattle.std.specs.Prelude.{◌≡◌, refl, Bool, true, false, ◌||◌, ◌&&◌, List, [], ◌∷◌, ◌++◌, ℕ, suc, ◌+◌, ◌-◌, ◌*◌, ◌≤◌, ◌<◌, min, eqb, leb, length, get_or, take, drop, replicate}
use Rattle.std.proofs.Common.{sym, ap, ap₂, subst, ◌∙◌, true≢false, inl, inr, append-nil, arith, take-append-drop, length-drop, ext_get_or, get_or-drop, eqb-true, eq-eqb, leb-true, le-leb}
use Rattle.std.proofs.Math.Bool.{or-true}
use Rattle.std.proofs.Math.Option.{Option, none, some}
use Rattle.std.proofs.Math.Decide.{dec_lt}
use Rattle.std.proofs.lemmas.List.{length-replicate, get_or-replicate}
use Rattle.std.proofs.lemmas.Bool.{eqb-false}
use Rattle.meaning.specs.Limits.{group_limit, row_limit, least_rows}
use Rattle.meaning.specs.Node.{Node, lo, hi}
use Rattle.meaning.specs.Numbering.{Numbers, Range, range}
use Rattle.meaning.specs.Tests.{and_true}
use Rattle.machine.specs.Layout.{size_of}
use Rattle.table.specs.Table.{record_words, kind_word, size_word, lowest_word, highest_word, word_of, size_cap, record_count, records}
use Rattle.table.specs.Laws.{long}
use Rattle.table.specs.Derived.{record_limit}
use Rattle.table.specs.Stands.{Stands, Ends}
use Rattle.table.specs.Roots.{stands_long, some_records, few_records_lem, root_size, root_groups}
use Rattle.showing_form.specs.Form.{OfForm, form_of}
use Rattle.showing_form.specs.Exact.{form_stands, form_some, no_form_lem, behind_zero}
use Rattle.showing_form.specs.Parts.{Good}
use Rattle.showing_form.specs.Order.{no_groups, with_groups}
use Rattle.showing_form.specs.Stack.{StackIs, SomeStack, Closes, same_parts, all_proper, form_on}

-- How many records a table of the form has; 0 for any other table.
abbrev pub records_of : Option Node → ℕ
records_of none = 0
records_of (some r) = record_count r

-- Whether there is a record there: within the limit, whole, and of a kind. Where there is none no tree of the form has one.
pub record Used (r : Bool) (table : List ℕ) (top : ℕ) : Type 0 where
  pub yes_is : r ≡ true → (top + 1 < record_limit) × (record_words * (top + 1) ≤ length table)
      × (get_or table (record_words * top + kind_word) 0 ≡ 0 → ⊥)
  pub no_is : r ≡ false → (n : Node) → OfForm table n → top < record_count n → ⊥

-- What the limits ask of the whole, by its record's words: groups from 1 on and within the limit, and rows.
abbrev pub whole_fits : List ℕ → ℕ → Bool
whole_fits table top =
    (eqb (word_of table top highest_word) 0 || eqb (word_of table top lowest_word) 1)
    && leb (word_of table top highest_word) group_limit && leb (least_rows + word_of table top size_word) row_limit

-- Whether all words from an index on are zero.
pub record Zeros (r : Bool) (table : List ℕ) (from : ℕ) : Type 0 where
  pub all : r ≡ true → (i : ℕ) → from ≤ i → get_or table i 0 ≡ 0
  pub some : r ≡ false → ((i : ℕ) → from ≤ i → get_or table i 0 ≡ 0) → ⊥

-- No part is complete before the first record.
pub no_parts : (table : List ℕ) → SomeStack table 0 0
no_parts table = record {
  list = [];
  is = record { stands = record { below = refl; room = omega arith }; counted = refl; good = tt };
}

-- A record that closes nothing.
pub turned : {table : List ℕ} {top count : ℕ} → SomeStack table top count
    → (get_or table (record_words * top + kind_word) 0 ≡ 0 → ⊥) → Closes 0 table top count → 0 ≡ records_of (form_of table)
turned {table} {top} s kind c =
    ap records_of (sym (no_form_lem table (λ r f. c.failed refl s.list s.is (form_on f (inside f) s.is))))
  where
    inside : {r : Node} → OfForm table r → top < record_count r
    inside {r} f = elim (dec_lt top (record_count r)) [
      | yes l ↦ l
      | no l ↦ absurd (kind (behind_zero f (record_words * top + kind_word) (omega arith)))
    ]

-- One part that is left has a record, whose size is held at the cap.
pub whole_there : {table : List ℕ} {top count : ℕ} → SomeStack table top count → count ≡ 1
    → (0 < top) × (record_words * top ≤ length table) × (word_of table top size_word ≤ size_cap)
whole_there {table} {top} {count} s one = go s.list s.is
  where
    go : (l : List Node) → StackIs table top count l
        → (0 < top) × (record_words * top ≤ length table) × (word_of table top size_word ≤ size_cap)
    go [] i = absurd (omega (arith, i.counted))
    go (q ∷ []) i =
        let e : Ends table top [] q
        = record { stands = subst (Stands table top) (append-nil (records q)) i.stands; proper = i.good.0.proper } in
        (omega (arith, some_records e, few_records_lem e), i.stands.room, omega (arith, root_size e))
    go (q ∷ r ∷ l) i = absurd (omega (arith, i.counted))

-- Behind the last record.
module _ {table : List ℕ} {top count : ℕ} (s : SomeStack table top count) (low : top < record_limit)
    (kinds : (i : ℕ) → i < top → get_or table (record_words * i + kind_word) 0 ≡ 0 → ⊥) (over : Used false table top) where
  -- A tree of the form has just these records, and is the only part.
  count_is : {r : Node} → OfForm table r → record_count r ≡ top
  count_is {r} f = elim (dec_lt top (record_count r)) [
    | yes l ↦ absurd (over.no_is refl r f l)
    | no l ↦ elim (dec_lt (record_count r) top) [
      | yes m ↦ absurd (kinds (record_count r) m (behind_zero f (record_words * record_count r + kind_word) (omega arith)))
      | no m ↦ omega arith
    ]
  ]

  only : {r : Node} → OfForm table r → s.list ≡ r ∷ []
  only {r} f =
      same_parts s.list (r ∷ []) (all_proper s.list s.is.good) (f.proper, tt)
      (sym s.is.stands.below ∙ ap (λ (n : ℕ). take (record_words * n) table) (sym (count_is f))
      ∙ (form_stands f).below ∙ sym (append-nil (records r)))

  ends : {r : Node} → OfForm table r → Ends table top [] r
  ends {r} f = record { stands = subst (λ (n : ℕ). Stands table n (records r)) (count_is f) (form_stands f); proper = f.proper }

  none_is : ((r : Node) → OfForm table r → ⊥) → 0 ≡ records_of (form_of table)
  none_is h = ap records_of (sym (no_form_lem table h))

  -- Other than one part.
  pub several : (count ≡ 1 → ⊥) → 0 ≡ records_of (form_of table)
  several h = none_is (λ r f. h (sym s.is.counted ∙ ap length (only f)))

  -- A whole outside the limits.
  pub unfit : whole_fits table top ≡ false → 0 ≡ records_of (form_of table)
  unfit e = none_is (λ r f.
      let (low, high) = root_groups (ends f) in
      let size = root_size (ends f) in
      true≢false (sym (rw (high, low, size, le-leb (hi r) group_limit f.groups, le-leb (least_rows + min (size_of r) size_cap) row_limit (omega (arith, f.rows)))
      (rw (from_one r f))) ∙ e))
    where
      from_one : (r : Node) → OfForm table r → (eqb (hi r) 0 || eqb (lo r) 1) ≡ true
      from_one r f = go (range r 1 (suc (hi r)) (omega arith) f.numbers)
        where
          go : Range 1 (lo r) (hi r) (suc (hi r)) → (eqb (hi r) 0 || eqb (lo r) 1) ≡ true
          go (inl h) = rw (eq-eqb (lo r) 1 (omega arith), or-true (eqb (hi r) 0))
          go (inr h) = rw (eq-eqb (hi r) 0 (omega arith))

  -- A word behind the records.
  pub stray : Zeros false table (record_words * top) → 0 ≡ records_of (form_of table)
  stray z = none_is (λ r f. z.some refl (λ i h. behind_zero f i (omega (arith, count_is f))))

  -- Where all is well the table is of the form.
  pub fine : count ≡ 1 → whole_fits table top ≡ true → Zeros true table (record_words * top) → top ≡ records_of (form_of table)
  fine one fits zeros = go s.list s.is
    where
      rest : drop (record_words * top) table ≡ replicate (length table - record_words * top) 0
      rest =
          let n : ℕ = length table - record_words * top in
          let e : length (drop (record_words * top) table) ≡ n = length-drop (record_words * top) table in
          ext_get_or 0 (drop (record_words * top) table) (replicate n 0) (e ∙ sym (length-replicate {A = ℕ} n 0))
          (λ i h. get_or-drop (record_words * top) table i 0 ∙ zeros.all refl (record_words * top + i) (omega arith)
          ∙ sym (get_or-replicate n i 0 0 (omega arith)))

      of_one : (q : Node) → StackIs table top count (q ∷ []) → top ≡ records_of (form_of table)
      of_one q i =
          let stands : Stands table top (records q) = subst (Stands table top) (append-nil (records q)) i.stands in
          let g : Good q = i.good.0 in
          let e : Ends table top [] q = record { stands = stands; proper = g.proper } in
          let n : record_count q ≡ top = omega (arith, stands_long stands, long q g.proper) in
          let (lowest, highest) = root_groups e in
          let (x, rows) = and_true ((eqb (word_of table top highest_word) 0 || eqb (word_of table top lowest_word) 1)
          && leb (word_of table top highest_word) group_limit) (leb (least_rows + word_of table top size_word) row_limit) fits in
          let (y, few) = and_true (eqb (word_of table top highest_word) 0 || eqb (word_of table top lowest_word) 1)
          (leb (word_of table top highest_word) group_limit) x in
          let f : OfForm table q = record {
            flat = g.flat;
            proper = g.proper;
            numbers = numbered q g (eqb (hi q) 0) refl (rw (highest, lowest) at y);
            groups = omega (arith, leb-true (word_of table top highest_word) group_limit few);
            few = omega arith;
            rows = omega (arith, leb-true (least_rows + word_of table top size_word) row_limit rows, root_size e);
            words = sym (take-append-drop (record_words * top) table)
                ∙ ap₂ ◌++◌ stands.below (rest ∙ ap (λ (k : ℕ). replicate (length table - record_words * k) 0) (sym n));
          } in
          sym n ∙ ap records_of (sym (form_some f))
        where
          numbered : (q : Node) → Good q → (b : Bool) → eqb (hi q) 0 ≡ b → (b || eqb (lo q) 1) ≡ true → Numbers 1 q (suc (hi q))
          numbered q g true e h =
              let z = eqb-true (hi q) 0 e in
              subst (λ (k : ℕ). Numbers 1 q (suc k)) (sym z) (no_groups q g.from g.to g.some g.numbers z 1)
          numbered q g false e h =
              let (l, m) = with_groups q g.from g.to g.some g.numbers (eqb-false (hi q) 0 e) in
              let a : g.from ≡ 1 = sym l ∙ eqb-true (lo q) 1 h in
              subst (λ (k : ℕ). Numbers k q (suc (hi q))) a (subst (Numbers g.from q) (sym m) g.numbers)

      go : (l : List Node) → StackIs table top count l → top ≡ records_of (form_of table)
      go [] i = absurd (omega (arith, i.counted))
      go (q ∷ []) i = of_one q i
      go (q ∷ r ∷ l) i = absurd (omega (arith, i.counted))
