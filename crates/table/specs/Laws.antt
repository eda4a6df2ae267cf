-- Laws of the records of a pattern: they are the records of its parts, left to right, and then its own.
use Rattle.std.specs.Prelude.{◌≡◌, refl, Bool, List, [], ◌∷◌, ◌++◌, ℕ, ◌+◌, ◌*◌, length, replicate}
use Rattle.std.proofs.Common.{sym, ap, subst, ◌∙◌, append_assoc, append-nil, arith, length-append}
use Rattle.std.proofs.Math.Option.{Option, none, some}
use Rattle.meaning.specs.Node.{Node, Node.empty, Node.bset, Node.assert, Node.group, Node.seq, Node.alt, Node.many, Proper}
use Rattle.meaning.specs.Flat.{Kind, Kind.sequence, Kind.alternation, pair, Not, parts, link, Flat, Part, by_parts}
use Rattle.meaning.specs.Flat.{parts_link, spreads_parts, spreads_link, flat_spreads, proper_spreads}
use Rattle.meaning.specs.All.{All, all_imp}
use Rattle.meaning.specs.Results.{concat_map}
use Rattle.table.specs.Table.{record_words, maximum, bit_of, unless, records_in, record_count, record_of, own_record, words_in}
use Rattle.table.specs.Table.{records, empty_kind, set_kind, assertion_kind, group_kind, sequence_kind, alternation_kind}
use Rattle.table.specs.Table.{quantifier_kind}

-- The parts that a pattern's own record closes.
unfoldable pub inner : Node → List Node
inner empty = []
inner (bset s) = []
inner (assert a) = []
inner (group k r) = r ∷ []
inner (seq r q) = r ∷ parts sequence q
inner (alt r q) = r ∷ parts alternation q
inner (many n e lazy r) = r ∷ []

-- The words of a pattern's own record that say what it is: its kind, its operand and its last eight words.
abbrev pub kind_of : Node → ℕ
kind_of empty = empty_kind
kind_of (bset s) = set_kind
kind_of (assert a) = assertion_kind
kind_of (group k r) = group_kind
kind_of (seq r q) = sequence_kind
kind_of (alt r q) = alternation_kind
kind_of (many n e lazy r) = quantifier_kind

-- What a pattern is, by the kind of its own record.
pub data Kinded (r : Node) : ℕ → Type 0 where
  nothing : r ≡ empty → Kinded r empty_kind
  set : (s : List ℕ) → r ≡ bset s → Kinded r set_kind
  assertion : (a : ℕ) → r ≡ assert a → Kinded r assertion_kind
  grouped : (k : ℕ) (q : Node) → r ≡ group k q → Kinded r group_kind
  items : (p q : Node) → r ≡ seq p q → Kinded r sequence_kind
  choices : (p q : Node) → r ≡ alt p q → Kinded r alternation_kind
  quantified : (n : ℕ) (e : Option ℕ) (lazy : Bool) (q : Node) → r ≡ many n e lazy q → Kinded r quantifier_kind

kinded : (r : Node) → Kinded r (kind_of r)
kinded empty = nothing refl
kinded (bset s) = set s refl
kinded (assert a) = assertion a refl
kinded (group k r) = grouped k r refl
kinded (seq r q) = items r q refl
kinded (alt r q) = choices r q refl
kinded (many n e lazy r) = quantified n e lazy r refl

pub of_kind : {k : ℕ} (r : Node) → kind_of r ≡ k → Kinded r k
of_kind r e = subst (Kinded r) e (kinded r)

abbrev pub operand_of : Node → ℕ
operand_of empty = 0
operand_of (bset s) = 0
operand_of (assert a) = a
operand_of (group k r) = k
operand_of (seq r q) = 0
operand_of (alt r q) = 0
operand_of (many n e lazy r) = 0

abbrev pub last_of : Node → List ℕ
last_of empty = replicate 8 0
last_of (bset s) = s
last_of (assert a) = replicate 8 0
last_of (group k r) = replicate 8 0
last_of (seq r q) = replicate 8 0
last_of (alt r q) = replicate 8 0
last_of (many n e lazy r) = n ∷ maximum n e ∷ bit_of lazy ∷ replicate 5 0

pub own : (r : Node) → own_record r ≡ record_of (kind_of r) (operand_of r) (length (inner r)) r (last_of r)
unfolding own_record inner parts
own empty = refl
own (bset s) = refl
own (assert a) = refl
own (group k r) = refl
own (seq r q) = refl
own (alt r q) = refl
own (many n e lazy r) = refl

-- The number of records of a list of parts.
abbrev pub count_all : List Node → ℕ
count_all [] = 0
count_all (r ∷ l) = record_count r + count_all l

pub count_append : (l m : List Node) → count_all (l ++ m) ≡ count_all l + count_all m
count_append [] m = omega arith
count_append (r ∷ l) m = omega (arith, count_append l m)

pub records_append : (l m : List Node) → concat_map records (l ++ m) ≡ concat_map records l ++ concat_map records m
records_append [] m = refl
records_append (r ∷ l) m = rw (records_append l m) (sym (append_assoc (records r) (concat_map records l) (concat_map records m)))

-- In a row of parts of a kind a pattern has the records of its parts of that kind.
alone_words : (k : Kind) (r : Node) → Not k r → words_in (some k) r ≡ records r
unfolding words_in
alone_words k empty h = refl
alone_words k (bset s) h = refl
alone_words k (assert a) h = refl
alone_words k (group n r) h = refl
alone_words sequence (seq r q) h = absurd h
alone_words alternation (seq r q) h = refl
alone_words sequence (alt r q) h = refl
alone_words alternation (alt r q) h = absurd h
alone_words k (many n e lazy r) h = refl

alone_count : (k : Kind) (r : Node) → Not k r → records_in (some k) r ≡ record_count r
unfolding records_in
alone_count k empty h = refl
alone_count k (bset s) h = refl
alone_count k (assert a) h = refl
alone_count k (group n r) h = refl
alone_count sequence (seq r q) h = absurd h
alone_count alternation (seq r q) h = refl
alone_count sequence (alt r q) h = refl
alone_count alternation (alt r q) h = absurd h
alone_count k (many n e lazy r) h = refl

more_words : (k : Kind) (r q : Node) (l : List Node) → words_in (some k) q ≡ concat_map records l
    → words_in (some k) (pair k r q) ≡ concat_map records (r ∷ l)
unfolding words_in
more_words sequence r q l e = append-nil _ ∙ ap (λ x. records r ++ x) e
more_words alternation r q l e = append-nil _ ∙ ap (λ x. records r ++ x) e

more_count : (k : Kind) (r q : Node) (l : List Node) → records_in (some k) q ≡ count_all l
    → records_in (some k) (pair k r q) ≡ count_all (r ∷ l)
unfolding records_in
more_count sequence r q l e = omega arith
more_count alternation r q l e = omega arith

pub row_words_lem : (k : Kind) (r : Node) → words_in (some k) r ≡ concat_map records (parts k r)
row_words_lem k = by_parts k (λ r l. words_in (some k) r ≡ concat_map records l)
    (λ r h. alone_words k r h ∙ sym (append-nil (records r))) (more_words k)

pub row_count : (k : Kind) (r : Node) → records_in (some k) r ≡ count_all (parts k r)
row_count k = by_parts k (λ r l. records_in (some k) r ≡ count_all l) (λ r h. omega (arith, alone_count k r h)) (more_count k)

-- A pattern's records are those of its parts, and then its own.
pub inner_words : (r : Node) → records r ≡ concat_map records (inner r) ++ own_record r
unfolding words_in inner
inner_words empty = refl
inner_words (bset s) = refl
inner_words (assert a) = refl
inner_words (group k r) = rw (append-nil (records r))
inner_words (seq r q) = rw (row_words_lem sequence q)
inner_words (alt r q) = rw (row_words_lem alternation q)
inner_words (many n e lazy r) = rw (append-nil (records r))

pub inner_count : (r : Node) → record_count r ≡ count_all (inner r) + 1
unfolding records_in inner
inner_count empty = refl
inner_count (bset s) = refl
inner_count (assert a) = refl
inner_count (group k r) = omega arith
inner_count (seq r q) = rw (row_count sequence q)
inner_count (alt r q) = rw (row_count alternation q)
inner_count (many n e lazy r) = omega arith

-- The parts of a proper pattern are proper.
pub parts_proper : (k : Kind) (r : Node) → Proper r → All Proper (parts k r)
parts_proper k = spreads_parts (proper_spreads k)

pub inner_proper : (r : Node) → Proper r → All Proper (inner r)
unfolding inner
inner_proper empty p = tt
inner_proper (bset s) p = tt
inner_proper (assert a) p = tt
inner_proper (group k r) p = (p.1, tt)
inner_proper (seq r q) p = (p.0, parts_proper sequence q p.1)
inner_proper (alt r q) p = (p.0, parts_proper alternation q p.1)
inner_proper (many n e lazy r) p = (p.1, tt)

-- A proper pattern has 16 words for each record.
pub last_eight : (r : Node) → Proper r → length (last_of r) ≡ 8
last_eight empty p = refl
last_eight (bset s) p = p.eight
last_eight (assert a) p = refl
last_eight (group k r) p = refl
last_eight (seq r q) p = refl
last_eight (alt r q) p = refl
last_eight (many n e lazy r) p = refl

pub own_long : (r : Node) → Proper r → length (own_record r) ≡ record_words
own_long r p = rw (own r) (omega (arith, last_eight r p))

unless_long : (t : Option Kind) (k : Kind) (r : Node) → Proper r
    → length (unless t k [] (own_record r)) ≡ record_words * unless t k 0 1
unless_long none k r p = own_long r p
unless_long (some sequence) sequence r p = refl
unless_long (some sequence) alternation r p = own_long r p
unless_long (some alternation) sequence r p = own_long r p
unless_long (some alternation) alternation r p = refl

long_in : (t : Option Kind) (r : Node) → Proper r → length (words_in t r) ≡ record_words * records_in t r
unfolding words_in records_in
long_in t empty p = own_long empty p
long_in t (bset s) p = own_long (bset s) p
long_in t (assert a) p = own_long (assert a) p
long_in t (group k r) p =
    omega (arith, length-append (records r) (own_record (group k r)), long_in none r p.1, own_long (group k r) p)
long_in t (seq r q) p = omega (
  arith,
  length-append (records r ++ words_in (some sequence) q) (unless t sequence [] (own_record (seq r q))),
  length-append (records r) (words_in (some sequence) q),
  long_in none r p.0,
  long_in (some sequence) q p.1,
  unless_long t sequence (seq r q) p,
)
long_in t (alt r q) p = omega (
  arith,
  length-append (records r ++ words_in (some alternation) q) (unless t alternation [] (own_record (alt r q))),
  length-append (records r) (words_in (some alternation) q),
  long_in none r p.0,
  long_in (some alternation) q p.1,
  unless_long t alternation (alt r q) p,
)
long_in t (many n e lazy r) p =
    omega (arith, length-append (records r) (own_record (many n e lazy r)), long_in none r p.1, own_long (many n e lazy r) p)

pub long : (r : Node) → Proper r → length (records r) ≡ record_words * record_count r
long r p = long_in none r p

pub long_all : (l : List Node) → All Proper l → length (concat_map records l) ≡ record_words * count_all l
long_all [] p = refl
long_all (r ∷ l) p = omega (arith, length-append (records r) (concat_map records l), long r p.0, long_all l p.1)

-- The parts of a flat pattern are not of the kind.
pub parts_flat : (k : Kind) (r : Node) → Flat r → All (Not k) (parts k r)
parts_flat k r f = all_imp (Part k) (Not k) (λ q h. h.0) (parts k r) (spreads_parts (flat_spreads k) r f)

-- Two or more parts that are not of a kind are what the pattern that they make closes.
pub inner_link : (k : Kind) (r q : Node) (l : List Node) → All (Not k) (r ∷ q ∷ l) → inner (link k r (q ∷ l)) ≡ r ∷ q ∷ l
unfolding inner
inner_link sequence r q l h = ap (λ x. r ∷ x) (parts_link sequence q l h.1.0 h.1.1)
inner_link alternation r q l h = ap (λ x. r ∷ x) (parts_link alternation q l h.1.0 h.1.1)

pub proper_link : (k : Kind) (r : Node) (l : List Node) → All Proper (r ∷ l) → Proper (link k r l)
proper_link k r l p = spreads_link (proper_spreads k) r l p.0 p.1
