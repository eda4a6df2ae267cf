-- T2 to T5, T9 and T10 by the words of a quantifier's own record, and of its part's.
use Rattle.std.specs.Prelude.{◌≡◌, refl, Bool, true, false, cond, not, ◌&&◌, ◌||◌, [], ℕ, zero, suc, ◌+◌, ◌-◌, length, get_or, eqb, leb}
use Rattle.std.proofs.Common.{sym, ◌∙◌, arith, eq-eqb, ne_eqb, eqb-true}
use Rattle.std.specs.Bool.{beq}
use Rattle.std.proofs.lemmas.Bool.{false≢true, lt-leb}
use Rattle.std.proofs.Math.Option.{Option, none, some}
use Rattle.meaning.specs.Node.{Node, Node.empty, Node.bset, Node.assert, Node.group, Node.seq, Node.alt, Node.many, hi, Proper}
use Rattle.meaning.specs.Node.{Within}
use Rattle.meaning.specs.Results.{or_else}
use Rattle.meaning.specs.Limits.{no_maximum}
use Rattle.table.specs.Table.{record_count, maximum, bit_of, empty_kind, assertion_kind, quantifier_kind}
use Rattle.table.specs.Laws.{inner, kind_of, last_of}
use Rattle.tidying_laws.specs.Groups.{groups, Positive, proper_positive, positive_both, group_free, free_groups, same_high}
use Rattle.tidying_laws.specs.Equal.{same_eq, same_refl}
use Rattle.tidying_laws.specs.Quantified.{absorbed}
use Rattle.tidying_laws.specs.Laws.{when, counts, is_empty, on_assert, on_many, t2, t3, t4, t5, t9, t10}
use Rattle.tidying_fitting.specs.Fitting.{is_some, fits}
use Rattle.tidying_fitting.specs.declared.Record.{Record}

-- What a word says of laziness: 0 is greedy, as a quantifier's word is.
abbrev pub flag_of : ℕ → Bool
flag_of n = not (eqb n 0)

-- What a part's own record says.
abbrev pub own_of : Node → Record
own_of r = record {
  kind = kind_of r;
  records = record_count r;
  items = length (inner r);
  highest = hi r;
  least = get_or (last_of r) 0 0;
  most = get_or (last_of r) 1 0;
  lazy = get_or (last_of r) 2 0;
}

-- The record number at which a part starts that ends at `top`.
abbrev pub start_of : ℕ → Node → ℕ
start_of top r = top - record_count r

-- Tests that pass for the same parts are the same.
pub same_test : (a b : Bool) → (a ≡ true → b ≡ true) → (b ≡ true → a ≡ true) → a ≡ b
same_test true b f g = sym (f refl)
same_test false true f g = g refl
same_test false false f g = refl

and_false : (b : Bool) → (b && false) ≡ false
and_false true = refl
and_false false = refl

-- A part has no group exactly if its highest group is 0, as groups are numbered from 1.
no_groups : (r : Node) → Positive (groups r) → hi r ≡ 0 → groups r ≡ []
unfolding groups hi
no_groups empty p h = refl
no_groups (bset s) p h = refl
no_groups (assert a) p h = refl
no_groups (group k r) p h = absurd (omega (arith, p.0))
no_groups (seq r q) p h =
    rw (
      no_groups r (positive_both (groups r) (groups q) p).0 (omega arith),
      no_groups q
          (positive_both (groups r) (groups q) p).1 (omega arith),
    )
no_groups (alt r q) p h =
    rw (
      no_groups r (positive_both (groups r) (groups q) p).0 (omega arith),
      no_groups q
          (positive_both (groups r) (groups q) p).1 (omega arith),
    )
no_groups (many n e lazy r) p h = no_groups r p h

pub free_highest : (r : Node) → Positive (groups r) → group_free r ≡ eqb (hi r) 0
unfolding group_free groups hi
free_highest r p = same_test (group_free r) (eqb (hi r) 0)
    (λ t. eq-eqb (hi r) 0 (same_high r empty (free_groups r t)))
    (λ t. rw (no_groups r p (eqb-true (hi r) 0 t)))

-- A law fits where its test passes.
pub when_some : {A : Type 0} (b : Bool) (a : A) → is_some (when b a) ≡ b
when_some true a = refl
when_some false a = refl

-- A test of a quantifier and its part; any other part fails it.
abbrev pub on_part : (Node → Node → Bool) → Node → Bool
on_part f empty = false
on_part f (bset s) = false
on_part f (assert a) = false
on_part f (group k r) = false
on_part f (seq r q) = false
on_part f (alt r q) = false
on_part f (many n e lazy r) = f (many n e lazy r) r

-- Whether a part is a quantifier over a part of a kind.
abbrev pub is_over : ℕ → Node → Bool
is_over k = on_part (λ r q. eqb (kind_of q) k)

-- Whether a record is that of a quantifier of `least` to `most`.
abbrev pub ranged : Record → ℕ → ℕ → Bool
ranged part least most = eqb part.kind quantifier_kind && (eqb part.least least && eqb part.most most)

-- Whether a part is a quantifier of `least` to `most` over one of 0 to `most`, with no group.
abbrev pub nested_in : ℕ → ℕ → Record → Record → Bool
nested_in least most outer inner = ranged outer least most && (ranged inner 0 most && eqb outer.highest 0)

abbrev pub is_nested : ℕ → ℕ → Node → Bool
is_nested least most = on_part (λ r q. nested_in least most (own_of r) (own_of q))

-- T2: the counts are the same, and at most 1.
abbrev pub once_or_never : Record → Bool
once_or_never part = eqb part.kind quantifier_kind
    && (eqb part.least part.most && (leb part.least 1 && eqb part.highest 0))

once : (n : ℕ) (e : Option ℕ) (b : Bool) (q : Node) → Within n e
    → is_some (or_else (when (counts n e 1 (some 0) && b) q) (when (counts n e 0 (some 0) && b) empty))
    ≡ (eqb n (maximum n e) && (leb n 1 && b))
once n none b q h =
    let one : counts n none 1 (some 0) ≡ false = and_false (eqb n 1) in
    let zero : counts n none 0 (some 0) ≡ false = and_false (eqb n 0) in
    rw (ne_eqb n no_maximum (λ e. omega arith), one, zero)
once n (some (suc f)) b q h =
    let more : eqb (suc f) 0 ≡ false = ne_eqb (suc f) 0 (λ e. omega arith) in
    let one : counts n (some (suc f)) 1 (some 0) ≡ false = rw more (and_false (eqb n 1)) in
    let zero : counts n (some (suc f)) 0 (some 0) ≡ false = rw more (and_false (eqb n 0)) in
    rw (ne_eqb n (n + suc f) (λ e. omega arith), one, zero)
once zero (some zero) b q h = when_some b empty
once (suc zero) (some zero) true q h = refl
once (suc zero) (some zero) false q h = refl
once (suc (suc n)) (some zero) b q h =
    let one : counts (suc (suc n)) (some 0) 1 (some 0) ≡ false = rw (ne_eqb (suc (suc n)) 1 (λ e. omega arith)) in
    let zero : counts (suc (suc n)) (some 0) 0 (some 0) ≡ false = rw (ne_eqb (suc (suc n)) 0 (λ e. omega arith)) in
    rw (one, zero, lt-leb (suc (suc n)) 1 (omega arith)) (sym (and_false (eqb (suc (suc n)) (suc (suc n) + 0))))

pub t2_words : (r : Node) → Proper r → once_or_never (own_of r) ≡ fits t2 r
unfolding hi groups
t2_words empty h = refl
t2_words (bset s) h = refl
t2_words (assert a) h = refl
t2_words (group k r) h = refl
t2_words (seq r q) h = refl
t2_words (alt r q) h = refl
t2_words (many n e lazy r) h = rw (← free_highest r (proper_positive r h.1)) (sym (once n e (group_free r) r h.0))

-- T3: only an empty part has the kind of one.
pub empty_kind_lem : (r : Node) → is_empty r ≡ eqb (kind_of r) empty_kind
empty_kind_lem r = same_test (is_empty r) (eqb (kind_of r) empty_kind) (λ t. rw (same_eq r empty t)) (back r)
  where
    back : (r : Node) → eqb (kind_of r) empty_kind ≡ true → is_empty r ≡ true
    back empty t = same_refl empty
    back (bset s) t = absurd (false≢true t)
    back (assert a) t = absurd (false≢true t)
    back (group k r) t = absurd (false≢true t)
    back (seq r q) t = absurd (false≢true t)
    back (alt r q) t = absurd (false≢true t)
    back (many n e lazy r) t = absurd (false≢true t)

pub t3_over : (r : Node) → fits t3 r ≡ is_over empty_kind r
t3_over empty = refl
t3_over (bset s) = refl
t3_over (assert a) = refl
t3_over (group k r) = refl
t3_over (seq r q) = refl
t3_over (alt r q) = refl
t3_over (many n e lazy r) = when_some (is_empty r) empty ∙ empty_kind_lem r

-- T4: only an assertion has the kind of one.
pub t4_over : (r : Node) → fits t4 r ≡ is_over assertion_kind r
t4_over empty = refl
t4_over (bset s) = refl
t4_over (assert a) = refl
t4_over (group k r) = refl
t4_over (seq r q) = refl
t4_over (alt r q) = refl
t4_over (many n e lazy r) = by r
  where
    by : (r : Node) → is_some (on_assert (λ a. some (cond (eqb n 0) empty (assert a))) r) ≡ eqb (kind_of r) assertion_kind
    by empty = refl
    by (bset s) = refl
    by (assert a) = refl
    by (group k r) = refl
    by (seq r q) = refl
    by (alt r q) = refl
    by (many n e lazy r) = refl

-- The counts of a quantifier, as words.
abbrev Counted : ℕ → Option ℕ → ℕ → Type 0
Counted least more most = (n : ℕ) (e : Option ℕ) (lazy : Bool) (q : Node) → Within n e
    → counts n e least more ≡ ranged (own_of (many n e lazy q)) least most

none_more : (least : ℕ) → Counted least none no_maximum
none_more least n none lazy q h = refl
none_more least n (some e) lazy q h = rw (ne_eqb (n + e) no_maximum (λ e. omega arith))

one_more : Counted 0 (some 1) 1
one_more n none lazy q h = refl
one_more zero (some e) lazy q h = let same : 0 + e ≡ e = omega arith in rw same
one_more (suc n) (some e) lazy q h = rw (ne_eqb (suc n) 0 (λ e. omega arith))

-- The laziness of a quantifier, as a word.
absorbed_word : (inner outer : Bool) → absorbed inner outer ≡ leb (bit_of outer) (bit_of inner)
absorbed_word false false = refl
absorbed_word false true = refl
absorbed_word true false = refl
absorbed_word true true = refl

same_word : (outer inner : Bool) → beq outer inner ≡ eqb (bit_of outer) (bit_of inner)
same_word false false = refl
same_word false true = refl
same_word true false = refl
same_word true true = refl

abbrev pub both_zero : ℕ → ℕ → Bool
both_zero outer inner = eqb outer 0 && eqb inner 0

greedy_word : (outer inner : Bool) → not (outer || inner) ≡ both_zero (bit_of outer) (bit_of inner)
greedy_word false false = refl
greedy_word false true = refl
greedy_word true false = refl
greedy_word true true = refl

-- The laziness of a quantifier, by what its word says.
abbrev pub absorbs : Bool → Bool → Bool
absorbs outer inner = not outer || inner

absorbed_flag : (inner outer : Bool) → absorbed inner outer ≡ absorbs (flag_of (bit_of outer)) (flag_of (bit_of inner))
absorbed_flag false false = refl
absorbed_flag false true = refl
absorbed_flag true false = refl
absorbed_flag true true = refl

same_flag : (outer inner : Bool) → beq outer inner ≡ beq (flag_of (bit_of outer)) (flag_of (bit_of inner))
same_flag false false = refl
same_flag false true = refl
same_flag true false = refl
same_flag true true = refl

abbrev pub both_greedy : Bool → Bool → Bool
both_greedy outer inner = not outer && not inner

greedy_flag : (outer inner : Bool) → not (outer || inner) ≡ both_greedy (flag_of (bit_of outer)) (flag_of (bit_of inner))
greedy_flag false false = refl
greedy_flag false true = refl
greedy_flag true false = refl
greedy_flag true true = refl

-- T5, T9 and T10: such a quantifier over another, by what the laws ask of the laziness.
abbrev pub lazy_words : (ℕ → ℕ → Bool) → Node → Bool
lazy_words f = on_part (λ r q. f (own_of r).lazy (own_of q).lazy)

-- The same, where a test asks only whether each word says lazy.
abbrev pub lazy_flags : (Bool → Bool → Bool) → Node → Bool
lazy_flags f = lazy_words (λ o i. f (flag_of o) (flag_of i))

shuffle : (a b c d : Bool) → ((a && b) && c && d) ≡ ((a && (b && d)) && c)
shuffle true true true true = refl
shuffle true true true false = refl
shuffle true true false true = refl
shuffle true true false false = refl
shuffle true false c d = refl
shuffle false b c d = refl

-- Where a quantifier's part is no quantifier, it is not nested.
unnested : (least most : ℕ) (o : Record) (q : Node) (b : Bool) → (kind_of q ≡ quantifier_kind → ⊥)
    → false ≡ (nested_in least most o (own_of q) && b)
unnested least most o q b h = rw (ne_eqb (kind_of q) quantifier_kind h, and_false (ranged o least most))

module _ (least : ℕ) (more : Option ℕ) (most : ℕ) (lazyTest : Bool → Bool → Bool) (wordTest : ℕ → ℕ → Bool)
    (made : Bool → Node → Node) (outside : Counted least more most) (inside : Counted 0 more most)
    (asWords : (inner outer : Bool) → lazyTest inner outer ≡ wordTest (bit_of outer) (bit_of inner)) where
  nested_words : (n : ℕ) (e : Option ℕ) (lazy : Bool) (q : Node) → Proper (many n e lazy q)
      → is_some (on_many (λ m f inner r. when (counts n e least more && counts m f 0 more && lazyTest inner lazy && group_free r)
      (made lazy r)) q)
      ≡ (is_nested least most (many n e lazy q) && lazy_words wordTest (many n e lazy q))
  unfolding hi groups
  nested_words n e lazy (many m f inner q) h =
      when_some (counts n e least more && counts m f 0 more && lazyTest inner lazy && group_free q) (made lazy q)
      ∙ rw (
        outside n e lazy (many m f inner q) h.0,
        inside m f inner q h.1.0,
        asWords inner lazy,
        free_highest q (proper_positive q h.1.1),
      ) (shuffle (ranged (own_of (many n e lazy (many m f inner q))) least most) (ranged (own_of (many m f inner q)) 0 most)
      (wordTest (bit_of lazy) (bit_of inner)) (eqb (hi q) 0))
  nested_words n e lazy empty h = unnested least most (own_of (many n e lazy empty)) empty _ (λ e. omega arith)
  nested_words n e lazy (bset s) h = unnested least most (own_of (many n e lazy (bset s))) (bset s) _ (λ e. omega arith)
  nested_words n e lazy (assert a) h = unnested least most (own_of (many n e lazy (assert a))) (assert a) _ (λ e. omega arith)
  nested_words n e lazy (group k r) h = unnested least most (own_of (many n e lazy (group k r))) (group k r) _ (λ e. omega arith)
  nested_words n e lazy (seq r q) h = unnested least most (own_of (many n e lazy (seq r q))) (seq r q) _ (λ e. omega arith)
  nested_words n e lazy (alt r q) h = unnested least most (own_of (many n e lazy (alt r q))) (alt r q) _ (λ e. omega arith)

  nested_fits : (r : Node) → Proper r → is_some (on_many (λ n e lazy. on_many (λ m f inner r.
      when (counts n e least more && counts m f 0 more && lazyTest inner lazy && group_free r) (made lazy r))) r)
      ≡ (is_nested least most r && lazy_words wordTest r)
  nested_fits empty h = refl
  nested_fits (bset s) h = refl
  nested_fits (assert a) h = refl
  nested_fits (group k r) h = refl
  nested_fits (seq r q) h = refl
  nested_fits (alt r q) h = refl
  nested_fits (many n e lazy q) h = nested_words n e lazy q h

pub t5_words : (r : Node) → Proper r → fits t5 r ≡ (is_nested 0 no_maximum r && lazy_words leb r)
t5_words = nested_fits 0 none no_maximum absorbed leb (λ lazy r. many 0 none lazy r) (none_more 0) (none_more 0) absorbed_word

pub t9_words : (r : Node) → Proper r → fits t9 r ≡ (is_nested 0 1 r && lazy_words eqb r)
t9_words = nested_fits 0 (some 1) 1 (λ inner outer. beq outer inner) eqb (λ lazy r. many 0 (some 1) lazy r)
    one_more one_more (λ inner outer. same_word outer inner)

pub t10_words : (r : Node) → Proper r → fits t10 r ≡ (is_nested 1 no_maximum r && lazy_words both_zero r)
t10_words = nested_fits 1 none no_maximum (λ inner outer. not (outer || inner)) both_zero (λ lazy r. many 0 none false r)
    (none_more 1) (none_more 0) (λ inner outer. greedy_word outer inner)

-- The same laws by whether each word says lazy, as the code asks: a word is 0 or 1, so no more is in it.
pub t5_flags : (r : Node) → Proper r → fits t5 r ≡ (is_nested 0 no_maximum r && lazy_flags absorbs r)
t5_flags = nested_fits 0 none no_maximum absorbed (λ o i. absorbs (flag_of o) (flag_of i)) (λ lazy r. many 0 none lazy r)
    (none_more 0) (none_more 0) absorbed_flag

pub t9_flags : (r : Node) → Proper r → fits t9 r ≡ (is_nested 0 1 r && lazy_flags beq r)
t9_flags = nested_fits 0 (some 1) 1 (λ inner outer. beq outer inner) (λ o i. beq (flag_of o) (flag_of i))
    (λ lazy r. many 0 (some 1) lazy r) one_more one_more (λ inner outer. same_flag outer inner)

pub t10_flags : (r : Node) → Proper r → fits t10 r ≡ (is_nested 1 no_maximum r && lazy_flags both_greedy r)
t10_flags = nested_fits 1 none no_maximum (λ inner outer. not (outer || inner)) (λ o i. both_greedy (flag_of o) (flag_of i))
    (λ lazy r. many 0 none false r) (none_more 1) (none_more 0) (λ inner outer. greedy_flag outer inner)
