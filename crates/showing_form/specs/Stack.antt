-- The parts complete below a record, the part that a record closes, and the contracts of the check in one pass.
use Rattle.std.specs.Prelude.{◌≡◌, refl, Bool, true, not, ◌&&◌, List, [], ◌∷◌, ◌++◌, ℕ, suc, ◌+◌, ◌*◌, ◌≤◌, ◌<◌, eqb, length, take}
use Rattle.std.proofs.Common.{sym, ap, ◌∙◌, append_assoc, arith, length-append, take_at, take-take}
use Rattle.std.proofs.Math.Option.{none}
use Rattle.meaning.specs.Node.{Node, hi, Proper}
use Rattle.meaning.specs.All.{All, all_imp}
use Rattle.meaning.specs.Results.{concat_map}
use Rattle.table.specs.Table.{record_words, records_word, size_word, lowest_word, highest_word}
use Rattle.table.specs.Table.{word_of, record_count, own_record, records}
use Rattle.table.specs.Laws.{inner, kind_of, own_long, long_all, count_all}
use Rattle.table.specs.Stands.{Stands, Series}
use Rattle.table.specs.Roots.{stands_long, fewer}
use Rattle.table.specs.declared.Derived.{Derived}
use Rattle.tidying_shapes.specs.Skeleton.{skeleton}
use Rattle.tidying_shapes.specs.Tokens.{Says}
use Rattle.tidying_shapes.specs.Laws.{says_join, says_same}
use Rattle.tidying_shapes.proofs.Parse.{skeletons_injective}
use Rattle.tidying_shapes.proofs.Told.{records_say}
use Rattle.showing_form.specs.Form.{OfForm}
use Rattle.showing_form.specs.Exact.{form_stands}
use Rattle.showing_form.specs.Parts.{Good, Closed, closed_at}
use Rattle.showing_form.specs.Order.{next_of, follows}
use Rattle.showing_form.specs.Shapes.{barred, opens}

-- The parts complete below a record number: good ones, as many as are counted.
pub record StackIs (table : List ℕ) (top count : ℕ) (l : List Node) : Type 0 where
  pub stands : Stands table top (concat_map records l)
  pub counted : length l ≡ count
  pub good : All Good l

pub record SomeStack (table : List ℕ) (top count : ℕ) : Type 0 where
  pub list : List Node
  pub is : StackIs table top count list

-- The record there closes the last of them: it is the own one of a good part that has them inside it.
pub record On (table : List ℕ) (top : ℕ) (l : List Node) : Type 0 where
  pub under : List Node
  pub part : Node
  pub split : l ≡ under ++ inner part
  pub good : Good part
  pub stands : Stands table (top + 1) (concat_map records l ++ own_record part)

-- What is answered about a record: how many parts are complete with it, 0 where it closes none.
pub record Closes (r : ℕ) (table : List ℕ) (top count : ℕ) : Type 0 where
  pub passed : 0 < r → SomeStack table (top + 1) r
  pub failed : r ≡ 0 → (l : List Node) → StackIs table top count l → On table top l → ⊥

-- What is asked where the items that end at a record number are walked, and what is answered: whether none has a kind that is
-- barred, and groups follow on; and the lowest group.
abbrev pub walk_ok : ℕ → List Node → Bool
walk_ok kind [] = true
walk_ok kind (r ∷ l) = walk_ok kind l && not (eqb (kind_of r) kind) && follows (hi r) (next_of l)

pub record SomeItems (table : List ℕ) (top items : ℕ) : Type 0 where
  pub before : List ℕ
  pub list : List Node
  pub series : Series table top items before list

abbrev pub orderly : ℕ → ℕ → List Node → Bool
orderly kind operand m = walk_ok (barred kind) m && opens kind operand (next_of m)

pub record Walks (r : Bool) (table : List ℕ) (top kind operand items : ℕ) : Type 0 where
  pub by : (before : List ℕ) (m : List Node) → Series table top items before m → r ≡ orderly kind operand m

-- The words of a record that are derived are so, and word 7 is zero.
abbrev pub derived_told : List ℕ → ℕ → Derived → Bool
derived_told table top d =
    eqb (word_of table top records_word) d.records && eqb (word_of table top size_word) d.size
    && eqb (word_of table top lowest_word) d.lowest && eqb (word_of table top highest_word) d.highest
    && eqb (word_of table top 7) 0

-- Words that are whole records of parts are of one list of parts.
all_say : (l : List Node) → All Proper l → Says (concat_map records l) (count_all l) (concat_map skeleton l)
all_say [] p = record { tokens = refl; room = omega arith }
all_say (r ∷ l) p = says_join (long_of r p.0) (records_say r p.0) (all_say l p.1)
  where
    long_of : (r : Node) → Proper r → length (records r) ≡ record_words * record_count r
    long_of r p = omega (arith, long_all (r ∷ []) (p, tt), length-append (records r) [])

pub same_parts : (l m : List Node) → All Proper l → All Proper m → concat_map records l ≡ concat_map records m → l ≡ m
same_parts l m p q e =
    let count : count_all l ≡ count_all m = omega (arith, long_all l p, long_all m q, ap length e) in
    skeletons_injective l m p q (sym (says_same e count (all_say l p)).tokens ∙ (all_say m q).tokens)

pub all_proper : (l : List Node) → All Good l → All Proper l
all_proper = all_imp Good Proper (λ r g. g.proper)

-- In a table of the form the record after the parts complete so far closes some of them.
pub form_on : {table : List ℕ} {r : Node} (f : OfForm table r) {top count : ℕ} {l : List Node} → top < record_count r
    → StackIs table top count l → On table top l
form_on {table} {r} f {top} {count} {l} h s =
    let good : Good r = record { flat = f.flat; proper = f.proper; from = 1; to = suc (hi r); some = omega arith; numbers = f.numbers } in
    let c : Closed none r top = closed_at none r good top h in
    let all : List Node = c.stack ++ inner c.part in
    let stands = form_stands f in
    let words : records r ≡ concat_map records all ++ (own_record c.part ++ c.after) = c.split in
    let long : length (concat_map records all) ≡ record_words * top
    = long_all all c.proper ∙ ap (λ (n : ℕ). record_words * n) c.number in
    let own-long-is : length (own_record c.part) ≡ record_words = own_words c.part c.good.proper in
    let first : take (record_words * top) table ≡ concat_map records all
    = sym (take-take (record_words * top) (record_words * record_count r) table (omega arith)) ∙ ap (take (record_words * top)) (stands.below ∙ words)
    ∙ take_at (concat_map records all) (own_record c.part ++ c.after) (record_words * top) long in
    let same : l ≡ all = same_parts l all (all_proper l s.good) c.proper (sym s.stands.below ∙ first) in
    record {
      under = c.stack;
      part = c.part;
      split = same;
      good = c.good;
      stands = record {
        below = sym (take-take (record_words * (top + 1)) (record_words * record_count r) table (omega arith))
            ∙ ap (take (record_words * (top + 1)))
            (stands.below ∙ words ∙ sym (append_assoc (concat_map records all) (own_record c.part) c.after))
            ∙ take_at (concat_map records all ++ own_record c.part) c.after (record_words * (top + 1))
            (omega (arith, length-append (concat_map records all) (own_record c.part)))
            ∙ ap (λ (m : List Node). concat_map records m ++ own_record c.part) (sym same);
        room = omega (arith, stands.room);
      };
    }
  where
    own_words : (q : Node) → Proper q → length (own_record q) ≡ record_words
    own_words q p = own_long q p

-- There are no more parts than records.
pub stack_few : {table : List ℕ} {top count : ℕ} → SomeStack table top count → count ≤ top
stack_few s =
    omega (arith, fewer s.list, stands_long s.is.stands, long_all s.list (all_proper s.list s.is.good), s.is.counted)
