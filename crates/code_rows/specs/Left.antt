-- The loops of Lines.antt, told by how often they are still to go in place of how often they went.
use Rattle.std.specs.Prelude.{◌≡◌, refl, List, [], ◌∷◌, ◌++◌, ℕ, suc, ◌+◌, ◌-◌, ◌*◌, ◌≤◌, ◌<◌, length}
use Rattle.std.proofs.Common.{sym, ap, subst, ◌∙◌, append_assoc, append-nil, zero-mul, arith}
use Rattle.meaning.specs.Node.{Node}
use Rattle.machine.specs.Rows.{Row}
use Rattle.machine.specs.Layout.{copies}
use Rattle.table.specs.Table.{record_words, word_of, records_word}
use Rattle.code_words.specs.Wrote.{Room, Wrote, room_before, wrote_as, wrote_none}
use Rattle.code_rows.specs.Emits.{Part, Asks, Lays}
use Rattle.code_rows.specs.Cases.{Rest, Last, the_last, part_some, records_low}
use Rattle.code_rows.specs.Lines.{in_words, rows_then, one_more, total, total_last, line_rows}

-- A turn takes one from what is left.
split : (n left : ℕ) → 0 < left → left ≤ n → (left ≡ suc (left - 1)) × (n - (left - 1) ≡ suc (n - left))
split n left h l = (omega arith, omega arith)

-- A loop that writes a part again and again, from the last time back: so often, of n times, are left.
pub record Looped (need : Node → ℕ) (one : Node → ℕ → List Row) (next : Node → ℕ → ℕ)
    (table : List ℕ) (top : ℕ) (code₀ code : List ℕ) (n left at end : ℕ) : Type 0 where
  pub low : left ≤ n
  pub by : (r : Node) → Part table top r → n * need r ≤ end
      → (left * need r ≤ at) × Wrote code₀ code at end ((n - left) * need r) (in_words (copies (one r) (next r) (n - left) at))

module _ (need : Node → ℕ) (one : Node → ℕ → List Row) (next : Node → ℕ → ℕ) (steps : (r : Node) (q : ℕ) → next r q ≡ q + need r)
    {table : List ℕ} {top : ℕ} {code₀ : List ℕ} {n end : ℕ} where
  pub looped_none : Looped need one next table top code₀ code₀ n n end end
  looped_none =
      let none : n - n ≡ 0 = omega arith in
      record { low = omega arith; by = λ r p h. (h, rw (none, zero-mul) (wrote_none code₀ end)) }

  module _ {code : List ℕ} {left at : ℕ} (l : Looped need one next table top code₀ code n left at end) where
    module _ (some : 0 < left) where
      room_for_lem : (r : Node) → Part table top r → n * need r ≤ end → need r ≤ at
      room_for_lem r p h =
          let e : left * need r ≡ need r + (left - 1) * need r
          = ap (λ k. k * need r) (split n left some l.low).0 ∙ one_more (left - 1) (need r) in
          omega (arith, (l.by r p h).0)

      pub looped_asks : Asks (λ r. n * need r) table top code₀ end → Asks need table top code at
      looped_asks a = record {
        node = a.node;
        part = a.part;
        fits = room_for_lem a.node a.part a.fits;
        room = room_before (l.by a.node a.part a.fits).1 a.room;
      }

      pub looped_more : {code' : List ℕ} {at' : ℕ} → Room code₀ end → Lays need one table top code code' at' at
          → Looped need one next table top code₀ code' n (left - 1) at' end
      looped_more {code'} {at'} room lays =
          let (e₁, e₂) = split n left some l.low in
          let turn : (r : Node) → Part table top r → n * need r ≤ end → ((left - 1) * need r ≤ at')
          × Wrote code₀ code' at' end (suc (n - left) * need r) (in_words (copies (one r) (next r) (suc (n - left)) at'))
          = λ r p h.
          let w : Wrote code code' at' at (need r) (in_words (one r at')) = lays.by r p (room_for_lem r p h) in
          let all : left * need r ≡ need r + (left - 1) * need r = ap (λ k. k * need r) e₁ ∙ one_more (left - 1) (need r) in
          let goes : at ≡ next r at' = sym (steps r at' ∙ w.counts) in
          let after : List Row = copies (one r) (next r) (n - left) at in (
            omega (arith, (l.by r p h).0, w.counts),
            wrote_as (rows_then (one r at') after room (l.by r p h).1 w) (sym (one_more (n - left) (need r)))
                (ap (λ q. in_words (one r at' ++ copies (one r) (next r) (n - left) q)) goes),
          ) in
          record { low = omega (arith, l.low); by = rw e₂ turn }

    pub looped_done : left ≤ 0 → Lays (λ r. n * need r) (λ r q. copies (one r) (next r) n q) table top code₀ code at end
    looped_done h =
        let all : n - left ≡ n = omega (arith, l.low) in
        record {
          by = λ r p f.
              subst (λ k. Wrote code₀ code at end (k * need r) (in_words (copies (one r) (next r) k at))) all (l.by r p f).1;
        }

-- A loop over parts in a row, from the last one back: those in front are left.
pub record Lined (need : Node → ℕ) (one : Node → ℕ → List Row)
    (table : List ℕ) (code₀ code : List ℕ) (item left at end : ℕ) (l : List Node) : Type 0 where
  pub front : List Node
  pub done : List Node
  pub are : l ≡ front ++ done
  pub rest : Rest table item left front
  pub fits : total need front ≤ at
  pub wrote : Wrote code₀ code at end (total need done) (in_words (line_rows need one done at))

pub lined_none : {need : Node → ℕ} {one : Node → ℕ → List Row} {table : List ℕ} {item left : ℕ} {l : List Node}
    (code₀ : List ℕ) (end : ℕ)
    → Rest table item left l → total need l ≤ end → Lined need one table code₀ code₀ item left end end l
lined_none {l = l} code₀ end rest h = record {
  front = l;
  done = [];
  are = sym (append-nil l);
  rest = rest;
  fits = h;
  wrote = wrote_none code₀ end;
}

module _ {need : Node → ℕ} {one : Node → ℕ → List Row} {table code₀ code : List ℕ} {item left at end : ℕ} {l : List Node}
    (s : Lined need one table code₀ code item left at end l) where
  module _ (some : 0 < left) where
    abbrev next : Last table item left s.front
    next = the_last s.rest some

    fits_next : total need next.front + need next.node ≤ at
    fits_next = omega (arith, total_last need next.front next.node, ap (total need) next.are, s.fits)

    pub lined_asks : Room code₀ end → Asks need table item code at
    lined_asks room = record {
      node = next.node;
      part = next.part;
      fits = omega (arith, fits_next);
      room = room_before s.wrote room;
    }

    -- The next part's own record may be read, and the part passed.
    pub lined_low : (0 < item) × (record_words * item ≤ length table) × (word_of table item records_word ≤ item)
    lined_low = ((part_some next.part).0, (part_some next.part).1, records_low next.part)

    pub lined_more : {code' : List ℕ} {at' : ℕ} → Room code₀ end → Lays need one table item code code' at' at
        → Lined need one table code₀ code' (item - word_of table item records_word) (left - 1) at' end l
    lined_more {code'} {at'} room lays =
        let r : Node = next.node in
        let w : Wrote code code' at' at (need r) (in_words (one r at')) = lays.by r next.part (omega (arith, fits_next)) in
        record {
          front = next.front;
          done = r ∷ s.done;
          are = s.are ∙ ap (λ f. f ++ s.done) next.are ∙ append_assoc next.front (r ∷ []) s.done;
          rest = next.rest;
          fits = omega (arith, fits_next, w.counts);
          wrote = wrote_as (rows_then (one r at') (line_rows need one s.done at) room s.wrote w) refl
              (ap (λ q. in_words (one r at' ++ line_rows need one s.done q)) (sym w.counts));
        }

  pub lined_done : left ≤ 0 → Wrote code₀ code at end (total need l) (in_words (line_rows need one l at))
  lined_done h = go s.front s.are s.rest
    where
      go : (f : List Node) → l ≡ f ++ s.done → Rest table item left f
          → Wrote code₀ code at end (total need l) (in_words (line_rows need one l at))
      go [] e t = wrote_as s.wrote (ap (total need) (sym e)) (ap (λ m. in_words (line_rows need one m at)) (sym e))
      go (r ∷ f) e t = absurd (omega (arith, t.series.counted))
