-- The words of a pattern say its tokens, and so what stands in a table is one pattern: equal records are of equal patterns.
use Rattle.std.specs.Prelude.{◌≡◌, refl, List, [], ◌∷◌, ◌++◌, ℕ, ◌+◌, ◌*◌, length}
use Rattle.std.proofs.Common.{sym, ap, ◌∙◌, arith, length-append, take_all}
use Rattle.std.proofs.Math.Option.{Option, none, some}
use Rattle.meaning.specs.Node.{Node, Node.empty, Node.bset, Node.assert, Node.group, Node.seq, Node.alt, Node.many, Proper}
use Rattle.meaning.specs.Flat.{Kind, Kind.sequence, Kind.alternation}
use Rattle.table.specs.Table.{record_words, unless, records_in, record_count, own_record, words_in, records}
use Rattle.table.specs.Laws.{last_of, own, own_long, last_eight}
use Rattle.table.specs.Stands.{Stands}
use Rattle.table.specs.Roots.{stands_long}
use Rattle.tidying_shapes.specs.Skeleton.{Token, token, skeleton_in, skeleton}
use Rattle.tidying_shapes.specs.Tokens.{token_at, Says}
use Rattle.tidying_shapes.specs.Laws.{token_same, says_length, says_join, says_only, says_same}
use Rattle.tidying_shapes.proofs.Parse.{skeleton_injective}

-- Words that are whole records, and say these tokens.
record Told (words : List ℕ) (n : ℕ) (ts : List Token) : Type 0 where
  says : Says words n ts
  long : length words ≡ record_words * n

told_none : Told [] 0 []
told_none = record { says = record { tokens = refl; room = omega arith }; long = refl }

told_append : {a b : List ℕ} {n m : ℕ} {l k : List Token} → Told a n l → Told b m k → Told (a ++ b) (n + m) (l ++ k)
told_append {a} {b} s t = record {
  says = says_join s.long s.says t.says;
  long = omega (arith, length-append a b, s.long, t.long);
}

-- The own record of a pattern says its own token.
told_own : (r : Node) → Proper r → Told (own_record r) 1 (token r ∷ [])
told_own r p = record {
  says = record { tokens = ap (λ x. x ∷ []) here; room = omega (arith, own_long r p) };
  long = own_long r p;
}
  where
    here : token_at (own_record r) 0 ≡ token r
    here = ap (λ l. token_at l 0) (own r)
        ∙ token_same refl refl refl (take_all 8 (last_of r) (omega (arith, last_eight r p)))

told_unless : (t : Option Kind) (k : Kind) (r : Node) → Proper r
    → Told (unless t k [] (own_record r)) (unless t k 0 1) (unless t k [] (token r ∷ []))
told_unless none k r p = told_own r p
told_unless (some sequence) sequence r p = told_none
told_unless (some sequence) alternation r p = told_own r p
told_unless (some alternation) sequence r p = told_own r p
told_unless (some alternation) alternation r p = told_none

told : (t : Option Kind) (r : Node) → Proper r → Told (words_in t r) (records_in t r) (skeleton_in t r)
unfolding words_in records_in skeleton_in
told t empty p = told_own empty p
told t (bset s) p = told_own (bset s) p
told t (assert a) p = told_own (assert a) p
told t (group k r) p = told_append (told none r p.1) (told_own (group k r) p)
told t (seq r q) p =
    told_append (told_append (told none r p.0) (told (some sequence) q p.1)) (told_unless t sequence (seq r q) p)
told t (alt r q) p =
    told_append (told_append (told none r p.0) (told (some alternation) q p.1)) (told_unless t alternation (alt r q) p)
told t (many n e lazy r) p = told_append (told none r p.1) (told_own (many n e lazy r) p)

-- The records of a pattern say its tokens, one each.
pub records_say : (r : Node) → Proper r → Says (records r) (record_count r) (skeleton r)
records_say r p = (told none r p).says

pub skeleton_count : (r : Node) → Proper r → length (skeleton r) ≡ record_count r
skeleton_count r p = says_length (records_say r p)

pub stands_count : {table : List ℕ} {n : ℕ} (r : Node) → Proper r → Stands table n (records r) → n ≡ record_count r
stands_count {table} {n} r p h = omega (arith, stands_long h, (told none r p).long)

-- Where the records of a pattern stand its tokens are said.
pub stands_say : {table : List ℕ} {n : ℕ} (r : Node) → Proper r → Stands table n (records r) → Says table n (skeleton r)
stands_say {table} {n} r p h =
    says_only (says_same refl (sym (stands_count r p h)) (records_say r p)) h.room
    (h.below ∙ sym (take_all (record_words * n) (records r) (omega (arith, stands_long h))))

-- Equal records are those of one pattern.
pub records_injective : (r q : Node) → Proper r → Proper q → records r ≡ records q → r ≡ q
records_injective r q p p' e =
    let count : record_count r ≡ record_count q = omega (arith, (told none r p).long, (told none q p').long, ap length e) in
    skeleton_injective r q p p' (sym (says_same e count (records_say r p)).tokens ∙ (records_say q p').tokens)
