-- The rows of parts, one before the other: of two written pieces, of a loop that writes one part again and again, and of a
-- loop over parts in a row.
use Rattle.std.specs.Prelude.{◌≡◌, refl, List, [], ◌∷◌, ◌++◌, ℕ, suc, ◌+◌, ◌-◌, ◌*◌, ◌≤◌, ◌<◌, length}
use Rattle.std.proofs.Common.{sym, ap, subst, ◌∙◌, append_assoc, append-nil, add-one, suc-mul, zero-mul, mul-le-mul_right, arith}
use Rattle.meaning.specs.Node.{Node}
use Rattle.meaning.specs.Results.{concat_map}
use Rattle.machine.specs.Rows.{Row}
use Rattle.machine.specs.Layout.{copies}
use Rattle.machine.specs.Words.{words_of}
use Rattle.table.specs.Table.{record_words}
use Rattle.code_rows.specs.Emits.{Part, Asks, Lays}
use Rattle.table.specs.Table.{word_of, records_word}
use Rattle.code_words.specs.Wrote.{Room, Wrote}
use Rattle.code_words.specs.Wrote.{room_before, wrote_as, wrote_none, then}
use Rattle.code_rows.specs.Cases.{Rest, Last, the_last, part_some, records_low}

-- Rows as words.
abbrev pub in_words : List Row → List ℕ
in_words rows = concat_map words_of rows

words_append : (a b : List Row) → in_words (a ++ b) ≡ in_words a ++ in_words b
words_append [] b = refl
words_append (row ∷ a) b = rw (words_append a b) (sym (append_assoc (words_of row) (in_words a) (in_words b)))

-- Rows, and then the rows before them.
pub rows_then : {code c₁ c₂ : List ℕ} {start middle end size₁ size₂ : ℕ} (front back : List Row) → Room code end
    → Wrote code c₁ middle end size₂ (in_words back) → Wrote c₁ c₂ start middle size₁ (in_words front)
    → Wrote code c₂ start end (size₁ + size₂) (in_words (front ++ back))
rows_then front back room w₂ w₁ = wrote_as (then room.long w₂ w₁) refl (sym (words_append front back))

-- One more of n things of a size.
pub one_more : (n size : ℕ) → suc n * size ≡ size + n * size
one_more n size = rw suc-mul (omega arith)

-- A loop that writes a part again and again, from the last time back: so often, of n times, it is written.
pub record Looped (need : Node → ℕ) (one : Node → ℕ → List Row) (next : Node → ℕ → ℕ)
    (table : List ℕ) (top : ℕ) (code₀ code : List ℕ) (n done at end : ℕ) : Type 0 where
  pub low : done ≤ n
  pub by : (r : Node) → Part table top r → n * need r ≤ end
      → Wrote code₀ code at end (done * need r) (in_words (copies (one r) (next r) done at))

module _ (need : Node → ℕ) (one : Node → ℕ → List Row) (next : Node → ℕ → ℕ) (steps : (r : Node) (q : ℕ) → next r q ≡ q + need r)
    {table : List ℕ} {top : ℕ} {code₀ : List ℕ} {n end : ℕ} where
  pub looped_none : Looped need one next table top code₀ code₀ n 0 end end
  looped_none = record { low = omega arith; by = λ r p h. rw zero-mul (wrote_none code₀ end) }

  module _ {code : List ℕ} {done at : ℕ} (l : Looped need one next table top code₀ code n done at end) where
    module _ (some : done < n) where
      room_for_lem : (r : Node) → Part table top r → n * need r ≤ end → need r ≤ at
      room_for_lem r p h = omega (arith, (l.by r p h).counts, one_more done (need r), mul-le-mul_right (need r) some)

      pub looped_asks : Asks (λ r. n * need r) table top code₀ end → Asks need table top code at
      looped_asks a = record {
        node = a.node;
        part = a.part;
        fits = room_for_lem a.node a.part a.fits;
        room = room_before (l.by a.node a.part a.fits) a.room;
      }

      pub looped_more : {code' : List ℕ} {at' : ℕ} → Room code₀ end → Lays need one table top code code' at' at
          → Looped need one next table top code₀ code' n (done + 1) at' end
      looped_more {code'} {at'} room lays =
          let turn : (r : Node) → Part table top r → n * need r ≤ end
          → Wrote code₀ code' at' end (suc done * need r) (in_words (copies (one r) (next r) (suc done) at'))
          = λ r p h.
          let w : Wrote code code' at' at (need r) (in_words (one r at')) = lays.by r p (room_for_lem r p h) in
          let goes : at ≡ next r at' = sym (steps r at' ∙ w.counts) in
          let after : List Row = copies (one r) (next r) done at in
          wrote_as (rows_then (one r at') after room (l.by r p h) w) (sym (one_more done (need r)))
          (ap (λ q. in_words (one r at' ++ copies (one r) (next r) done q)) goes) in
          record { low = omega arith; by = rw add-one turn }

    pub looped_done : n ≤ done → Lays (λ r. n * need r) (λ r q. copies (one r) (next r) n q) table top code₀ code at end
    looped_done h =
        let all : done ≡ n = omega (arith, l.low) in
        record {
          by = λ r p f.
              subst (λ k. Wrote code₀ code at end (k * need r) (in_words (copies (one r) (next r) k at))) all (l.by r p f);
        }

-- The sizes of parts together.
abbrev pub total : (Node → ℕ) → List Node → ℕ
total need [] = 0
total need (r ∷ l) = need r + total need l

pub total_last : (need : Node → ℕ) (l : List Node) (r : Node) → total need (l ++ (r ∷ [])) ≡ total need l + need r
total_last need [] r = omega arith
total_last need (q ∷ l) r = omega (arith, total_last need l r)

-- The rows of parts in a row.
abbrev pub line_rows : (Node → ℕ) → (Node → ℕ → List Row) → List Node → ℕ → List Row
line_rows need one [] q = []
line_rows need one (r ∷ l) q = one r q ++ line_rows need one l (q + need r)

-- A loop over parts in a row, from the last one back: those in front are left, and with those counted they are all the items.
pub record Lined (need : Node → ℕ) (one : Node → ℕ → List Row)
    (table : List ℕ) (code₀ code : List ℕ) (item items counted at end : ℕ) (l : List Node) : Type 0 where
  pub front : List Node
  pub done : List Node
  pub are : l ≡ front ++ done
  pub left : ℕ
  pub together : counted + left ≡ items
  pub rest : Rest table item left front
  pub fits : total need front ≤ at
  pub wrote : Wrote code₀ code at end (total need done) (in_words (line_rows need one done at))

pub lined_none : {need : Node → ℕ} {one : Node → ℕ → List Row} {table : List ℕ} {item items counted left : ℕ} {l : List Node}
    (code₀ : List ℕ) (end : ℕ)
    → Rest table item left l → counted + left ≡ items → total need l ≤ end → Lined need one table code₀ code₀ item items counted end end l
lined_none {left = left} {l = l} code₀ end rest all h = record {
  front = l;
  done = [];
  are = sym (append-nil l);
  left = left;
  together = all;
  rest = rest;
  fits = h;
  wrote = wrote_none code₀ end;
}

module _ {need : Node → ℕ} {one : Node → ℕ → List Row} {table code₀ code : List ℕ} {item items counted at end : ℕ} {l : List Node}
    (s : Lined need one table code₀ code item items counted at end l) where
  module _ (some : counted < items) where
    abbrev next : Last table item s.left s.front
    next = the_last s.rest (omega (arith, s.together))

    fits_next : total need next.front + need next.node ≤ at
    fits_next = omega (arith, total_last need next.front next.node, ap (total need) next.are, s.fits)

    pub lined_asks : Room code₀ end → Asks need table item code at
    lined_asks room = record {
      node = next.node;
      part = next.part;
      fits = omega (arith, fits_next);
      room = room_before s.wrote room;
    }

    -- The next part's own record may be read, and the part passed.
    pub lined_low : (0 < item) × (record_words * item ≤ length table) × (word_of table item records_word ≤ item)
    lined_low = ((part_some next.part).0, (part_some next.part).1, records_low next.part)

    pub lined_more : {code' : List ℕ} {at' : ℕ} → Room code₀ end → Lays need one table item code code' at' at
        → Lined need one table code₀ code' (item - word_of table item records_word) items (counted + 1) at' end l
    lined_more {code'} {at'} room lays =
        let r : Node = next.node in
        let w : Wrote code code' at' at (need r) (in_words (one r at')) = lays.by r next.part (omega (arith, fits_next)) in
        record {
          front = next.front;
          done = r ∷ s.done;
          are = s.are ∙ ap (λ f. f ++ s.done) next.are ∙ append_assoc next.front (r ∷ []) s.done;
          left = s.left - 1;
          together = omega (arith, s.together);
          rest = next.rest;
          fits = omega (arith, fits_next, w.counts);
          wrote = wrote_as (rows_then (one r at') (line_rows need one s.done at) room s.wrote w) refl
              (ap (λ q. in_words (one r at' ++ line_rows need one s.done q)) (sym w.counts));
        }

  pub lined_done : items ≤ counted → Wrote code₀ code at end (total need l) (in_words (line_rows need one l at))
  lined_done h = go s.front s.are s.rest
    where
      go : (f : List Node) → l ≡ f ++ s.done → Rest table item s.left f
          → Wrote code₀ code at end (total need l) (in_words (line_rows need one l at))
      go [] e t = wrote_as s.wrote (ap (total need) (sym e)) (ap (λ m. in_words (line_rows need one m at)) (sym e))
      go (r ∷ f) e t = absurd (omega (arith, s.together, t.series.counted))
