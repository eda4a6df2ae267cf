-- The part whose own record has a number: it is closed on a stack of parts that are complete before it.
use Rattle.std.specs.Prelude.{◌≡◌, refl, Bool, List, [], ◌∷◌, ◌++◌, ℕ, suc, ◌+◌, ◌-◌, ◌≤◌, ◌<◌}
use Rattle.std.proofs.Common.{sym, ap, ◌∙◌, append_assoc, append-nil, arith}
use Rattle.std.proofs.Math.Option.{Option, none, some}
use Rattle.std.proofs.Math.Decide.{dec_lt}
use Rattle.meaning.specs.Node.{Node, Node.empty, Node.bset, Node.assert, Node.group, Node.seq, Node.alt, Node.many, Proper}
use Rattle.meaning.specs.Flat.{Kind, Kind.sequence, Kind.alternation, pair, Flat, flat_spreads, proper_spreads}
use Rattle.meaning.specs.Numbering.{Numbers, forwards}
use Rattle.meaning.specs.All.{All}
use Rattle.meaning.specs.Results.{concat_map}
use Rattle.table.specs.Table.{unless, records_in, record_count, own_record, words_in, records}
use Rattle.table.specs.Laws.{inner, row_count, count_all, inner_words}
use Rattle.table.specs.Laws.{inner_proper}

-- What every part of a tree of the form is.
pub record Good (r : Node) : Type 0 where
  pub flat : Flat r
  pub proper : Proper r
  pub from : ℕ
  pub to : ℕ
  pub some : 1 ≤ from
  pub numbers : Numbers from r to

good_pair : (k : Kind) (r q : Node) → Good (pair k r q) → Good r × Good q
good_pair k r q h =
    let f = (flat_spreads k).split r q h.flat in
    let p = (proper_spreads k).split r q h.proper in
    let n = middle k h.numbers in (
      record { flat = f.0.1; proper = p.0; from = h.from; to = n.0; some = h.some; numbers = n.1 },
      record {
        flat = f.1;
        proper = p.1;
        from = n.0;
        to = h.to;
        some = omega (arith, forwards r h.from n.0 h.some n.1, h.some);
        numbers = n.2;
      },
    )
  where
    middle : (k : Kind) → Numbers h.from (pair k r q) h.to → (m : ℕ) × Numbers h.from r m × Numbers m q h.to
    middle sequence n = n
    middle alternation n = n

good_group : (k : ℕ) (r : Node) → Good (group k r) → Good r
good_group k r h = record {
  flat = h.flat;
  proper = h.proper.1;
  from = suc h.from;
  to = h.to;
  some = omega arith;
  numbers = h.numbers.1;
}

good_many : (n : ℕ) (e : Option ℕ) (lazy : Bool) (r : Node) → Good (many n e lazy r) → Good r
good_many n e lazy r h = record {
  flat = h.flat;
  proper = h.proper.1;
  from = h.from;
  to = h.to;
  some = h.some;
  numbers = h.numbers;
}

-- The parts complete before record number i of a pattern's words, and the part that it closes.
pub record Closed (t : Option Kind) (r : Node) (i : ℕ) : Type 0 where
  pub stack : List Node
  pub part : Node
  pub after : List ℕ
  pub split : words_in t r ≡ concat_map records (stack ++ inner part) ++ (own_record part ++ after)
  pub number : count_all (stack ++ inner part) ≡ i
  pub proper : All Proper (stack ++ inner part)
  pub good : Good part

-- A pattern's own record, on the parts inside it.
itself : (t : Option Kind) (r : Node) (i : ℕ) → Good r → words_in t r ≡ records r → count_all (inner r) ≡ i → Closed t r i
itself t r i g e n = record {
  stack = [];
  part = r;
  after = [];
  split = e ∙ inner_words r ∙ ap (λ (l : List ℕ). concat_map records (inner r) ++ l) (sym (append-nil (own_record r)));
  number = n;
  proper = inner_proper r g.proper;
  good = g;
}

-- A record of a part that stands first, and of one that stands behind another.
first_in : (t u : Option Kind) (w r : Node) (rest : List ℕ) (i : ℕ) → words_in t w ≡ words_in u r ++ rest → Closed u r i → Closed t w i
first_in t u w r rest i e c = record {
  stack = c.stack;
  part = c.part;
  after = c.after ++ rest;
  split = e ∙ ap (λ (l : List ℕ). l ++ rest) c.split ∙ simp append_assoc;
  number = c.number;
  proper = c.proper;
  good = c.good;
}

behind_in : (t u : Option Kind) (w a r : Node) (rest : List ℕ) (i j : ℕ) → words_in t w ≡ records a ++ (words_in u r ++ rest)
    → Proper a → record_count a + j ≡ i → Closed u r j → Closed t w i
behind_in t u w a r rest i j e p n c = record {
  stack = a ∷ c.stack;
  part = c.part;
  after = c.after ++ rest;
  split = e ∙ ap (λ (l : List ℕ). records a ++ (l ++ rest)) c.split ∙ simp append_assoc;
  number = omega (arith, c.number);
  proper = (p, c.proper);
  good = c.good;
}

-- A part with one inside it: that one's records, and then its own.
wrapped : (t : Option Kind) (w r : Node) (i : ℕ) → Good w → words_in t w ≡ records w → words_in t w ≡ records r ++ own_record w
    → count_all (inner w) ≡ record_count r → i < record_count r + 1 → (i < record_count r → Closed none r i) → Closed t w i
wrapped t w r i g same e n h inside = elim (dec_lt i (record_count r)) [
  | yes l ↦ first_in t none w r (own_record w) i e (inside l)
  | no l ↦ itself t w i g same (omega arith)
]

-- A pair: the first part's records, those of the rest, and its own unless it goes on.
pair_words : (t : Option Kind) (k : Kind) (a q : Node)
    → words_in t (pair k a q) ≡ records a ++ (words_in (some k) q ++ unless t k [] (own_record (pair k a q)))
unfolding words_in
pair_words t sequence a q = append_assoc (records a) (words_in (some sequence) q) _
pair_words t alternation a q = append_assoc (records a) (words_in (some alternation) q) _

pair_count : (t : Option Kind) (k : Kind) (a q : Node)
    → records_in t (pair k a q) ≡ record_count a + records_in (some k) q + unless t k 0 1
unfolding records_in
pair_count t sequence a q = refl
pair_count t alternation a q = refl

inner_pair : (k : Kind) (a q : Node) → count_all (inner (pair k a q)) ≡ record_count a + records_in (some k) q
unfolding inner
inner_pair sequence a q = omega (arith, row_count sequence q)
inner_pair alternation a q = omega (arith, row_count alternation q)

-- Its own record stands there unless it goes on, and then it has no more records.
own_pair : (t : Option Kind) (k : Kind) (a q : Node) (i : ℕ) → Good (pair k a q) → record_count a + records_in (some k) q ≡ i
    → i < record_count a + records_in (some k) q + unless t k 0 1 → Closed t (pair k a q) i
unfolding words_in
own_pair none k a q i g e h = itself none (pair k a q) i g refl (inner_pair k a q ∙ e)
own_pair (some sequence) sequence a q i g e h = absurd (omega arith)
own_pair (some sequence) alternation a q i g e h = itself (some sequence) (alt a q) i g refl (inner_pair alternation a q ∙ e)
own_pair (some alternation) sequence a q i g e h = itself (some alternation) (seq a q) i g refl (inner_pair sequence a q ∙ e)
own_pair (some alternation) alternation a q i g e h = absurd (omega arith)

paired : (t : Option Kind) (k : Kind) (a q : Node) (i : ℕ) → Good (pair k a q) → i < records_in t (pair k a q)
    → (i < record_count a → Closed none a i) → ((j : ℕ) → j < records_in (some k) q → Closed (some k) q j)
    → Closed t (pair k a q) i
paired t k a q i g h first rest = elim (dec_lt i (record_count a)) [
  | yes l ↦ first_in t none (pair k a q) a (words_in (some k) q ++ unless t k [] (own_record (pair k a q))) i (pair_words t k a q) (first l)
  | no l ↦ elim (dec_lt i (record_count a + records_in (some k) q)) [
    | yes m ↦ behind_in t (some k) (pair k a q) a q (unless t k [] (own_record (pair k a q))) i (i - record_count a) (pair_words t k a q)
        (good_pair k a q g).0.proper (omega arith) (rest (i - record_count a) (omega arith))
    | no m ↦ own_pair t k a q i g (omega (arith, pair_count t k a q, bit t k)) (omega (arith, pair_count t k a q))
  ]
]
  where
    bit : (t : Option Kind) (k : Kind) → unless t k 0 1 ≤ 1
    bit none k = omega arith
    bit (some sequence) sequence = omega arith
    bit (some sequence) alternation = omega arith
    bit (some alternation) sequence = omega arith
    bit (some alternation) alternation = omega arith

-- Every record of a good pattern is the own one of a part.
pub closed_at : (t : Option Kind) (r : Node) → Good r → (i : ℕ) → i < records_in t r → Closed t r i
unfolding words_in records_in inner
closed_at t empty g i h = itself t empty i g refl (omega arith)
closed_at t (bset s) g i h = itself t (bset s) i g refl (omega arith)
closed_at t (assert a) g i h = itself t (assert a) i g refl (omega arith)
closed_at t (group k r) g i h =
    wrapped t (group k r) r i g refl refl (omega arith) h (λ l. closed_at none r (good_group k r g) i l)
closed_at t (seq a q) g i h = paired t sequence a q i g h (λ l. closed_at none a (good_pair sequence a q g).0 i l)
    (λ j l. closed_at (some sequence) q (good_pair sequence a q g).1 j l)
closed_at t (alt a q) g i h = paired t alternation a q i g h (λ l. closed_at none a (good_pair alternation a q g).0 i l)
    (λ j l. closed_at (some alternation) q (good_pair alternation a q g).1 j l)
closed_at t (many n e lazy r) g i h =
    wrapped t (many n e lazy r) r i g refl refl (omega arith) h (λ l. closed_at none r (good_many n e lazy r g) i l)
