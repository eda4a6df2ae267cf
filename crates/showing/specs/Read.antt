-- What is shown, read with room enough, gives the same table but for zeros at its end; and that is shown as the same bytes.
use Rattle.std.specs.Prelude.{◌≡◌, Bool, true, cond, ◌||◌, List, ◌++◌, ℕ, ◌+◌, ◌-◌, ◌*◌, ◌≤◌, ◌<◌, ltb, length, get_or, replicate}
use Rattle.std.proofs.Math.Path.{refl, sym, ap, ap₂}
use Rattle.std.proofs.Common.{subst, ◌∙◌, arith, length-append}
use Rattle.std.proofs.Math.Bool.{false}
use Rattle.std.proofs.Math.Option.{Option, none, some}
use Rattle.std.proofs.Math.ListN.{take, drop, get_or-eq_default}
use Rattle.std.proofs.lemmas.List.{length-replicate}
use Rattle.std.proofs.Math.Seq.{take_at}
use borrow.Author.Tests.{ltb-false, le-ltb}
use Rattle.std.proofs.Math.Decide.{dec_lt}
use Rattle.meaning.specs.Bytes.{Bytes}
use Rattle.meaning.specs.Limits.{pattern_limit, depth_limit, row_limit, table_words, code_words}
use Rattle.meaning.specs.Refusals as No
use Rattle.meaning.specs.Node.{Node, hi, Proper}
use Rattle.meaning.specs.Flat.{Kind, parts, join_parts}
use Rattle.code_rows.specs.Emission.{rows_needed}
use Rattle.table.specs.Table.{record_words, record_count, records}
use Rattle.table.specs.Laws.{long}
use Rattle.reading_atoms.specs.Chars.{no_byte, is_quantifier}
use Rattle.reading_atoms.specs.Places.{neither, byte_there}
use Rattle.reading_items.specs.Reading.{Reading.pattern, reading}
use Rattle.reading_items.specs.Read.{what_is_read}
use Rattle.reading_grammar.specs.Grammar.{Sort, Rule, Derives}
use Rattle.reading_grammar.proofs.Complete.{complete}
use Rattle.tidying.specs.Held.{table_of}
use Rattle.compiler.specs.Compiling.{plain, compilation, table_at}
use Rattle.compiler.specs.Compiling.{Compilation.Rows}
use Rattle.showing_spelling.specs.Texts.{At}
use Rattle.showing_form.specs.Form.{OfForm, form_of}
use Rattle.showing_form.specs.Exact.{form_some, some_form}
use Rattle.showing.specs.Text.{text, depth}
use Rattle.showing.specs.Low.{text_low, low_at}
use Rattle.showing.specs.Firsts.{Free}
use Rattle.showing.specs.Written.{Fits, written_derives}
use Rattle.showing.specs.Shown.{Shown, Shown.Text, Shown.Refused, large, answer_for, room_for, showing, room_after, Shows}

-- A text stands in itself.
whole_at : (t : List ℕ) → At t 0 t
whole_at t i l = ap (λ (k : ℕ). get_or t k no_byte) (omega arith) ∙ byte_there t i l

-- The bytes of a text are bytes.
text_bytes : (r : Node) → Proper r → Bytes (text r)
text_bytes r p = record { byte = λ i. go i (dec_lt i (length (text r))) }
  where
    go : (i : ℕ) → Dec (i < length (text r)) → get_or (text r) i 0 < 256
    go i (yes l) = omega (arith, low_at (text r) (text_low r p) i l)
    go i (no l) = rw (get_or-eq_default (text r) 0 {n = i} (omega arith)) (omega arith)

-- The text of a tree of the form that is not large derives the tree, with as many groups.
module _ {table : List ℕ} {r : Node} (f : OfForm table r) where
  pub shown_derives : length (text r) ≤ pattern_limit → depth r ≤ depth_limit → Derives (text r) r (hi r)
  shown_derives short deep =
      let fits : Fits r 0 (hi r) = record { flat = f.flat; proper = f.proper; numbers = f.numbers; groups = f.groups } in
      let e : 0 + length (text r) ≡ length (text r) = omega arith in
      let free : Free (text r) (0 + length (text r)) = ap is_quantifier (get_or-eq_default (text r) no_byte (omega arith)) in
      record {
        short = short;
        low = low_at (text r) (text_low r f.proper);
        list = parts Kind.alternation r;
        derivation = subst (λ (k : ℕ). Rule (text r) Sort.alternatives depth_limit 0 k 0 (hi r) (parts Kind.alternation r)) e
            (written_derives (text r) r depth_limit 0 0 (hi r) fits deep (whole_at (text r)) free);
        tree = join_parts Kind.alternation r;
      }

  -- So it is read as the tree, with room enough, and leaves its records with zeros behind them.
  pub shown_reads : length (text r) ≤ pattern_limit → depth r ≤ depth_limit → (words : ℕ) → table_words (length (text r)) ≤ words
      → reading (text r) words ≡ pattern r (hi r)
  shown_reads short deep words room = complete (text r) r (hi r) words (shown_derives short deep) room

  -- In any table with room for them they are of the form, so that it is shown as the same bytes.
  pub moved_form : (words : ℕ) → record_words * record_count r ≤ words → OfForm (table_of r words) r
  moved_form words h =
      let same : length (table_of r words) ≡ words
      = omega (
        arith,
        length-append (records r) (replicate (words - record_words * record_count r) 0),
        long r f.proper,
        length-replicate {A = ℕ} (words - record_words * record_count r) 0,
      ) in
      record {
        flat = f.flat;
        proper = f.proper;
        numbers = f.numbers;
        groups = f.groups;
        few = f.few;
        rows = f.rows;
        words = ap (table_of r) (sym same);
      }

-- What is not large.
not_large : (r : Node) (room : ℕ) → large r room ≡ false
    → (length (text r) ≤ pattern_limit) × (depth r ≤ depth_limit) × (length (text r) ≤ room)
not_large r room e =
    let (u, w) = neither (ltb pattern_limit (length (text r)) || ltb depth_limit (depth r)) (ltb room (length (text r))) e in
    let (x, y) = neither (ltb pattern_limit (length (text r))) (ltb depth_limit (depth r)) u in
    (ltb-false pattern_limit (length (text r)) x, ltb-false depth_limit (depth r) y, ltb-false room (length (text r)) w)

-- A text that was answered: the table's tree, whose text stands first in the room.
pub record Told (table room room' : List ℕ) (n : ℕ) : Type 0 where
  pub tree : Node
  pub form : OfForm table tree
  pub count : n ≡ length (text tree)
  pub first : take n room' ≡ text tree
  pub short : length (text tree) ≤ pattern_limit
  pub deep : depth tree ≤ depth_limit

pub told : {table room room' : List ℕ} {n : ℕ} → Shows table room room' (Text n) → Told table room room' n
unfolding showing room_after
told {table} {room} {room'} {n} h = go (form_of table) refl h.answers h.room_is
  where
    by : (r : Node) → form_of table ≡ some r → (b : Bool) → large r (length room) ≡ b
        → Text n ≡ cond b (Refused No.unshown 0) (Text (length (text r)))
        → room' ≡ cond b room (text r ++ drop (length (text r)) room) → Told table room room' n
    by r e true l a m = absurd (let z : ◌≡◌ {A = ℕ} 0 1 = cc in omega arith)
    by r e false l a m =
        let (short, deep, room_for_lem) = not_large r (length room) l in
        let count : n ≡ length (text r) = cc in
        record {
          tree = r;
          form = some_form table r e;
          count = count;
          first = ap₂ take count m ∙ take_at (text r) (drop (length (text r)) room) (length (text r)) refl;
          short = short;
          deep = deep;
        }

    go : (o : Option Node) → form_of table ≡ o → Text n ≡ answer_for o (length room) → room' ≡ room_for o room → Told table room room' n
    go none e a m = absurd (let z : ◌≡◌ {A = ℕ} 0 1 = cc in omega arith)
    go (some r) e a m = by r e (large r (length room)) refl a m

-- The bytes that were shown, read into a table with room enough, give the same records, and zeros behind them;
module _ {table room room' : List ℕ} {n : ℕ} (h : Shows table room room' (Text n)) where
  pub shown_read : (words : ℕ) → table_words n ≤ words → reading (take n room') words ≡ pattern (told h).tree (hi (told h).tree)
  shown_read words enough =
      let t = told h in
      ap (λ (s : List ℕ). reading s words) t.first
      ∙ shown_reads t.form t.short t.deep words (subst (λ (k : ℕ). table_words k ≤ words) t.count enough)

  -- the compiler answers its rows, with code enough, and leaves that table:
  pub shown_compiled : (other code : List ℕ) → table_words n ≤ length other
      → code_words (rows_needed (told h).tree) ≤ length code
      → (compilation plain (take n room') other code ≡ Rows (rows_needed (told h).tree) (hi (told h).tree))
      × (table_at plain (take n room') other code ≡ table_of (told h).tree (length other))
  shown_compiled other code enough long =
      let e = shown_read (length other) enough in
      let r : Node = (told h).tree in
      let few : rows_needed r ≤ row_limit = omega (arith, (told h).form.rows) in (
        rw (e, le-ltb row_limit (rows_needed r) few, le-ltb (length code) (code_words (rows_needed r)) long),
        rw (e, le-ltb row_limit (rows_needed r) few, le-ltb (length code) (code_words (rows_needed r)) long),
      )

  -- the same table as the one that was shown, but for zeros at its end;
  pub same_table : table ≡ table_of (told h).tree (length table)
  same_table = (told h).form.words

  -- and shown again it gives the same bytes.
  pub shown_again : (words : ℕ) → table_words n ≤ words → {space space' : List ℕ} {answer : Shown}
      → Shows (table_of (told h).tree words) space space' answer → n ≤ length space
      → (answer ≡ Text n) × (take n space' ≡ take n room')
  unfolding showing room_after
  shown_again words enough {space} {space'} {answer} again fits =
      let t = told h in
      let r : Node = t.tree in
      let e : form_of (table_of r words) ≡ some r = form_some (moved_form t.form words few) in
      let small : large r (length space) ≡ false
      = rw (
        le-ltb pattern_limit (length (text r)) t.short,
        le-ltb depth_limit (depth r) t.deep,
        le-ltb (length space) (length (text r)) (omega (arith, t.count)),
      ) in
      let answered : answer ≡ Text (length (text r)) = again.answers ∙ ap (λ o. answer_for o (length space)) e ∙ rw small in
      let left : space' ≡ text r ++ drop (length (text r)) space = again.room_is ∙ ap (λ o. room_for o space) e ∙ rw small in (
        answered ∙ ap Text (sym t.count),
        ap₂ take t.count left ∙ take_at (text r) (drop (length (text r)) space) (length (text r)) refl ∙ sym t.first,
      )
    where
      few : record_words * record_count (told h).tree ≤ words
      few =
          let t = told h in
          let room : table_words (length (text t.tree)) ≤ words = omega (arith, t.count) in
          let known = what_is_read (text_bytes t.tree t.form.proper) words t.tree (hi t.tree)
          (shown_reads t.form t.short t.deep words room) in
          omega (arith, known.few_records)

-- Any two replies that meet the promise agree: one answer, and one content of the room.
pub one_shown : {table room left left' : List ℕ} {a b : Shown} → Shows table room left a → Shows table room left' b
    → (a ≡ b) × (left ≡ left')
one_shown h k = (h.answers ∙ sym k.answers, h.room_is ∙ sym k.room_is)
