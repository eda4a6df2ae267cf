-- The parts of a series are walked from the last one back, and what stands behind them is edited: those still to be walked stay.
use Rattle.std.specs.Prelude.{◌≡◌, List, [], ◌∷◌, ◌++◌, ℕ, ◌+◌, ◌-◌, ◌*◌, ◌≤◌, ◌<◌, length, get_or, take}
use Rattle.std.proofs.Common.{sym, ap, subst, ◌∙◌, append_assoc, append-nil, arith, length-append}
use Rattle.meaning.specs.Node.{Node}
use Rattle.meaning.specs.Results.{concat_map}
use Rattle.table.specs.Table.{items_word}
use Rattle.table.specs.Table.{record_words, record_count, record_of, records, word_of}
use Rattle.table.specs.Laws.{inner, kind_of, operand_of, last_of}
use Rattle.table.specs.Roots.{root_word, last_ends, shorter, inside}
use Rattle.table.specs.Stands.{Ends, Series}
use Rattle.tidying_fitting.specs.Parts.{room}
use Rattle.tidying_shapes.specs.Skeleton.{Token, token, skeleton}
use Rattle.tidying_shapes.specs.Tokens.{Says}
use Rattle.tidying_shapes.specs.Laws.{says_length}
use Rattle.tidying_shapes.proofs.Told.{skeleton_count}
use Rattle.tidying_rewriting.specs.Rewriting.{Placed, own_word}
use Rattle.tidying_rewriting.proofs.Own.{own_said, inside_here}
use Rattle.tidying_rewriting.specs.Series.{skeletons_append}

-- The walk has come to record number `end`, with `left` parts to go, behind which stand some tokens.
pub record Walked (table : List ℕ) (n end left : ℕ) (before : List ℕ) (rest : List Node) (l ts : List Token) : Type 0 where
  pub series : Series table end left before rest
  pub low : length l + length (concat_map skeleton rest) ≡ end
  pub says : Says table n (l ++ (concat_map skeleton rest ++ ts))

-- It begins below the series's own record.
pub walk_start : {table : List ℕ} {n top w : ℕ} {before : List ℕ} {x : Node} {l m : List Token}
    → Placed table n top before x l m → w ≡ get_or table (record_words * (top - 1) + items_word) 0
    → Walked table n (top - 1) w before (inner x) l (token x ∷ m)
walk_start {table} {n} {top} {w} {before} {x} p e =
    let all : length (inner x) ≡ w = sym (e ∙ own_word p items_word (omega arith)) in
    record {
      series = subst (λ (i : ℕ). Series table (top - 1) i before (inner x)) all (inside p.ends);
      low = omega (arith, inside_here p);
      says = own_said p;
    }

-- A turn: the last part still to be walked ends at `end`. What stands behind the parts before it may then be edited.
pub record Turned (table : List ℕ) (n end left : ℕ) (before : List ℕ) (front : List Node) (part : Node)
    (l ts : List Token) : Type 0 where
  pub ends : Ends table end (before ++ concat_map records front) part
  pub start : length l + length (concat_map skeleton front) ≡ end - record_count part
  pub says : Says table n (l ++ (concat_map skeleton front ++ (skeleton part ++ ts)))
  pub some : 0 < record_count part
  pub few : record_count part ≤ end
  pub under : end ≤ n
  pub next : {table' : List ℕ} {n' : ℕ} (ts' : List Token)
      → take (record_words * (end - record_count part)) table' ≡ take (record_words * (end - record_count part)) table
      → Says table' n' (l ++ (concat_map skeleton front ++ ts'))
      → Walked table' n' (end - record_count part) (left - 1) before front l ts'

series_kept : {table table' : List ℕ} {end left : ℕ} {before : List ℕ} {rest : List Node} → Series table end left before rest
    → take (record_words * end) table' ≡ take (record_words * end) table → record_words * end ≤ length table'
    → Series table' end left before rest
series_kept r e h =
    record { stands = record { below = e ∙ r.stands.below; room = h }; counted = r.counted; proper = r.proper }

module _ {table : List ℕ} {n end left : ℕ} {before : List ℕ} (front : List Node) (q : Node) {l ts : List Token}
    (w : Walked table n end left before (front ++ (q ∷ [])) l ts) where
  ends : Ends table end (before ++ concat_map records front) q
  ends = last_ends front q w.series

  split : concat_map skeleton (front ++ (q ∷ [])) ≡ concat_map skeleton front ++ skeleton q
  split = skeletons_append front (q ∷ []) ∙ ap (λ x. concat_map skeleton front ++ x) (append-nil (skeleton q))

  start : length l + length (concat_map skeleton front) ≡ end - record_count q
  start = omega (
    arith,
    w.low,
    ap length split,
    length-append (concat_map skeleton front) (skeleton q),
    skeleton_count q ends.proper,
  )

  tokens : concat_map skeleton (front ++ (q ∷ [])) ++ ts ≡ concat_map skeleton front ++ (skeleton q ++ ts)
  tokens = ap (λ x. x ++ ts) split ∙ append_assoc (concat_map skeleton front) (skeleton q) ts

  pub turned : Turned table n end left before front q l ts
  turned = record {
    ends = ends;
    start = start;
    says = rw tokens at w.says;
    some = (room ends).some;
    few = (room ends).few;
    under = omega (
      arith,
      says_length w.says,
      length-append l (concat_map skeleton (front ++ (q ∷ [])) ++ ts),
      length-append (concat_map skeleton (front ++ (q ∷ []))) ts,
      w.low,
    );
    next = λ ts' e s. record {
      series = series_kept (shorter front q w.series) e (omega (
        arith,
        s.room,
        says_length s,
        length-append l (concat_map skeleton front ++ ts'),
        length-append (concat_map skeleton front) ts',
        start,
      ));
      low = start;
      says = s;
    };
  }

-- The words of that part's own record.
pub last_word : {table : List ℕ} {n end left : ℕ} {before : List ℕ} {front : List Node} {q : Node} {l ts : List Token}
    → Turned table n end left before front q l ts → (j : ℕ) → j < record_words
    → word_of table end j ≡ get_or (record_of (kind_of q) (operand_of q) (length (inner q)) q (last_of q)) j 0
last_word t = root_word t.ends
