-- Where each part of a pattern stands: its records end at the record number that is the number of its place.
use Rattle.std.specs.Prelude.{◌≡◌, refl, Bool, List, [], ◌∷◌, ◌++◌, map, ℕ, zero, suc, ◌+◌, ◌*◌, ◌≤◌, ◌<◌, length, get_or, take}
use Rattle.std.proofs.Common.{sym, ap, subst, ◌∙◌, append_assoc, append-nil, arith, length-append, take_at, take-take}
use Rattle.std.proofs.Math.Option.{Option, none, some}
use Rattle.std.proofs.lemmas.List.{length-map}
use Rattle.meaning.specs.Node.{Node, Node.empty, Node.bset, Node.assert, Node.group, Node.seq, Node.alt, Node.many, Proper}
use Rattle.meaning.specs.Flat.{Kind, Kind.sequence, Kind.alternation, pair, Flat, glue, flat_spreads, proper_spreads}
use Rattle.table.specs.Table.{record_words, unless, records_in, record_count, own_record, words_in, records}
use Rattle.table.specs.Laws.{long}
use Rattle.table.specs.Stands.{Stands, Ends}
use Rattle.table.specs.Roots.{stands_long}
use Rattle.tidying_laws.specs.Tidier.{Place, itself, inside, whole, places}
use Rattle.tidying_laws.specs.Found.{nth}

-- Elements one after the other, each with its number, counted from n.
abbrev pub Numbered : {A : Type 0} → (A → ℕ → Type 0) → ℕ → List A → Type 0
Numbered P n [] = Unit {0}
Numbered P n (x ∷ l) = P x n × Numbered P (suc n) l

-- Lists one after the other, and the element of a number.
numbered_append : {A : Type 0} (P : A → ℕ → Type 0) (n m : ℕ) (l k : List A) → Numbered P n l → n + length l ≡ m
    → Numbered P m k → Numbered P n (l ++ k)
numbered_append P n m [] k h e g = subst (λ (x : ℕ). Numbered P x k) (omega arith) g
numbered_append P n m (x ∷ l) k h e g = (h.0, numbered_append P (suc n) m l k h.1 (omega arith) g)

numbered_at : {A : Type 0} (P : A → ℕ → Type 0) (d : A) (n : ℕ) (l : List A) → Numbered P n l → (i m : ℕ) → i < length l
    → n + i ≡ m → P (get_or l i d) m
numbered_at P d n [] h i m g e = absurd (omega arith)
numbered_at P d n (x ∷ l) h zero m g e = subst (P x) (omega arith) h.0
numbered_at P d n (x ∷ l) h (suc i) m g e = numbered_at P d (suc n) l h.1 i m (omega arith) (omega arith)

-- A proper pattern whose sequences and alternations are flat.
pub record Whole (r : Node) : Type 0 where
  pub proper : Proper r
  pub flat : Flat r

-- Its parts are such patterns.
whole_pair : (k : Kind) (r q : Node) → Whole (pair k r q) → Whole r × Whole q
whole_pair k r q h =
    let p = (proper_spreads k).split r q h.proper in
    let f = (flat_spreads k).split r q h.flat in (
      record { proper = p.0; flat = f.0.1 },
      record { proper = p.1; flat = f.1 },
    )

whole_group : (k : ℕ) (r : Node) → Whole (group k r) → Whole r
whole_group k r h = record { proper = h.proper.1; flat = h.flat }

whole_many : (n : ℕ) (e : Option ℕ) (lazy : Bool) (r : Node) → Whole (many n e lazy r) → Whole r
whole_many n e lazy r h = record { proper = h.proper.1; flat = h.flat }

-- A part among the words of a pattern, and how many of them there are up to its end.
pub record Ended (t : Option Kind) (r : Node) (p : Place) (top : ℕ) : Type 0 where
  pub before : List ℕ
  pub after : List ℕ
  pub split : words_in t r ≡ before ++ (records p.part ++ after)
  pub number : length before + length (records p.part) ≡ record_words * top
  pub part_whole : Whole p.part

-- A pattern ends where its own records do.
ends_here : (t : Option Kind) (r : Node) (top : ℕ) → Whole r → words_in t r ≡ records r → record_count r ≡ top
    → Ended t r (itself r) top
ends_here t r top h e n = record {
  before = [];
  after = [];
  split = e ∙ sym (append-nil (records r));
  number = omega (arith, long r h.proper);
  part_whole = h;
}

-- A part of a part, which stands among the words of a larger pattern.
module _ (t t' : Option Kind) (r q : Node) (put : Node → Node) (first last : List ℕ) (d : ℕ)
    (all : words_in t' q ≡ first ++ (words_in t r ++ last)) (long-first : length first ≡ record_words * d) where
  ends_inside : (p : Place) (top : ℕ) → Ended t r p top → Ended t' q (inside put p) (d + top)
  ends_inside p top h = record {
    before = first ++ h.before;
    after = h.after ++ last;
    split = all ∙ ap (λ l. first ++ (l ++ last)) h.split ∙ simp append_assoc;
    number = omega (arith, length-append first h.before, h.number);
    part_whole = h.part_whole;
  }

  all_inside : (n m : ℕ) → d + n ≡ m → (l : List Place) → Numbered (Ended t r) n l → Numbered (Ended t' q) m (map (inside put) l)
  all_inside n m e [] h = tt
  all_inside n m e (p ∷ l) h = (
    subst (λ (x : ℕ). Ended t' q (inside put p) x) e (ends_inside p n h.0),
    all_inside (suc n) (suc m) (omega arith) l h.1,
  )

-- What is shown of the places of a pattern: that they are as many as its records, and where each ends.
abbrev Placed : Option Kind → Node → List Place → Type 0
Placed t r l = (length l ≡ records_in t r) × Numbered (Ended t r) 1 l

leaf_placed : (t : Option Kind) (r : Node) → Whole r → words_in t r ≡ records r → record_count r ≡ 1 → records_in t r ≡ 1
    → Placed t r (itself r ∷ [])
leaf_placed t r h e n m = (sym m, (ends_here t r 1 h e n, tt))

-- A part inside a group or a quantifier, and it itself.
wrap_placed : (t : Option Kind) (r : Node) (wrap : Node → Node) (l : List Place) → Whole (wrap r)
    → ((s : Option Kind) → words_in s (wrap r) ≡ records r ++ own_record (wrap r))
    → ((s : Option Kind) → records_in s (wrap r) ≡ record_count r + 1)
    → Placed none r l → Placed t (wrap r) (map (inside wrap) l ++ (itself (wrap r) ∷ []))
wrap_placed t r wrap l h words count (n, g) = (
  simp (length-append, length-map) (omega (arith, count t)),
  numbered_append (Ended t (wrap r)) 1 (record_count r + 1) (map (inside wrap) l) (itself (wrap r) ∷ [])
      (all_inside none t r (wrap r) wrap [] (own_record (wrap r)) 0 (words t) refl 1 1 refl l g)
      (simp length-map (omega arith))
      (ends_here t (wrap r) (record_count r + 1) h (words t ∙ sym (words none)) (count none), tt),
)

-- The parts inside the first part of a series, those of the rest, and the series itself unless it goes on.
abbrev closing : Option Kind → Kind → Node → List ℕ
closing t k r = unless t k [] (own_record r)

pair_words : (t : Option Kind) (k : Kind) (a q : Node)
    → words_in t (pair k a q) ≡ (records a ++ words_in (some k) q) ++ closing t k (pair k a q)
unfolding words_in
pair_words t sequence a q = refl
pair_words t alternation a q = refl

pair_count : (t : Option Kind) (k : Kind) (a q : Node)
    → records_in t (pair k a q) ≡ record_count a + records_in (some k) q + unless t k 0 1
unfolding records_in
pair_count t sequence a q = refl
pair_count t alternation a q = refl

whole_placed : (t : Option Kind) (k : Kind) (r : Node) (n : ℕ) → Whole r → record_count r ≡ n
    → ((u v : Option Kind) → unless u k [] (own_record r) ≡ unless v k [] (own_record r) → words_in u r ≡ words_in v r)
    → (length (whole t k r) ≡ unless t k 0 1) × Numbered (Ended t r) n (whole t k r)
whole_placed none k r n h e f = (refl, (ends_here none r n h refl e, tt))
whole_placed (some sequence) sequence r n h e f = (refl, tt)
whole_placed (some sequence) alternation r n h e f =
    (refl, (ends_here (some sequence) r n h (f (some sequence) none refl) e, tt))
whole_placed (some alternation) sequence r n h e f =
    (refl, (ends_here (some alternation) r n h (f (some alternation) none refl) e, tt))
whole_placed (some alternation) alternation r n h e f = (refl, tt)

series_placed : (t : Option Kind) (k : Kind) (a q : Node) (l m : List Place) → Whole (pair k a q) → Placed none a l
    → Placed (some k) q m
    → Placed t (pair k a q) (map (inside (λ p. glue k p q)) l ++ (map (inside (pair k a)) m ++ whole t k (pair k a q)))
series_placed t k a q l m h (n, f) (o, g) =
    let r : Node = pair k a q in
    let here : ℕ = record_count a + records_in (some k) q + 1 in
    let last = whole_placed t k r here h (omega (arith, pair_count none k a q))
    (λ u v e. pair_words u k a q ∙ ap (λ x. (records a ++ words_in (some k) q) ++ x) e ∙ sym (pair_words v k a q)) in
    let first : Numbered (Ended t r) 1 (map (inside (λ p. glue k p q)) l)
    = all_inside none t a r (λ p. glue k p q) [] (words_in (some k) q ++ closing t k r) 0
    (pair_words t k a q ∙ append_assoc (records a) (words_in (some k) q) (closing t k r)) refl 1 1 refl l f in
    let rest : Numbered (Ended t r) (record_count a + 1) (map (inside (pair k a)) m)
    = all_inside (some k) t q r (pair k a) (records a) (closing t k r) (record_count a)
    (pair_words t k a q ∙ append_assoc (records a) (words_in (some k) q) (closing t k r))
    (long a (whole_pair k a q h).0.proper) 1 (record_count a + 1) refl m g in (
      simp (length-append, length-map) (omega (arith, pair_count t k a q, last.0)),
      numbered_append (Ended t r) 1 (record_count a + 1) (map (inside (λ p. glue k p q)) l) _ first
          (simp length-map (omega arith))
          (numbered_append (Ended t r) (record_count a + 1) here (map (inside (pair k a)) m) _ rest
          (simp length-map (omega arith)) last.1),
    )

placed : (t : Option Kind) (r : Node) → Whole r → Placed t r (places t r)
unfolding places words_in records_in
placed t empty h = leaf_placed t empty h refl refl refl
placed t (bset s) h = leaf_placed t (bset s) h refl refl refl
placed t (assert a) h = leaf_placed t (assert a) h refl refl refl
placed t (group k r) h =
    wrap_placed t r (group k) (places none r) h (λ s. refl) (λ s. refl) (placed none r (whole_group k r h))
placed t (seq a q) h = series_placed t sequence a q (places none a) (places (some sequence) q) h
    (placed none a (whole_pair sequence a q h).0) (placed (some sequence) q (whole_pair sequence a q h).1)
placed t (alt a q) h = series_placed t alternation a q (places none a) (places (some alternation) q) h
    (placed none a (whole_pair alternation a q h).0) (placed (some alternation) q (whole_pair alternation a q h).1)
placed t (many n e lazy r) h =
    wrap_placed t r (many n e lazy) (places none r) h (λ s. refl) (λ s. refl) (placed none r (whole_many n e lazy r h))

-- The place of a number, counted from 1, and whether a pattern of n records has one.
abbrev pub place_at : Node → ℕ → Place
place_at r top = nth (itself empty) (places none r) top

abbrev pub IsPlace : ℕ → ℕ → Type 0
IsPlace top n = (1 ≤ top) × (top ≤ n)

-- There is a place for each record of a pattern that stands in a table, and the part there ends with that record.
module _ {table : List ℕ} {n : ℕ} (r : Node) (h : Whole r) (stands : Stands table n (records r)) where
  pub place_count : length (places none r) ≡ n
  place_count = omega (arith, (placed none r h).0, stands_long stands, long r h.proper)

  pub place_ended : (top : ℕ) → IsPlace top n → Ended none r (place_at r top) top
  place_ended zero within = absurd (omega arith)
  place_ended (suc i) within = numbered_at (Ended none r) (itself empty) 1 (places none r) (placed none r h).1 i (suc i)
      (omega (arith, place_count)) (omega arith)

  module _ (top : ℕ) (within : IsPlace top n) where
    pub place_ends : Ends table top (place_ended top within).before (place_at r top).part
    place_ends =
        let e : Ended none r (place_at r top) top = place_ended top within in
        let first : List ℕ = e.before ++ records (place_at r top).part in
        record {
          stands = record {
            below = sym (take-take (record_words * top) (record_words * n) table (omega arith))
                ∙ ap (take (record_words * top))
                (stands.below ∙ e.split ∙ sym (append_assoc e.before (records (place_at r top).part) e.after))
                ∙ take_at first e.after (record_words * top)
                (length-append e.before (records (place_at r top).part) ∙ e.number);
            room = omega (arith, stands.room);
          };
          proper = e.part_whole.proper;
        }

    pub place_flat : Flat (place_at r top).part
    place_flat = (place_ended top within).part_whole.flat
