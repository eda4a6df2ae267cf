-- Laws of written rows: rows before others that are written already are written with them.
use Rattle.std.specs.Prelude.{◌≡◌, refl, List, [], ◌++◌, ℕ, ◌+◌, ◌-◌, ◌*◌, ◌≤◌, ◌<◌, length, take, drop}
use Rattle.std.proofs.Common.{sym, ap, ap₂, ◌∙◌, append_assoc, arith, length-append, length-drop, take-append-drop, length-take-le, take-take, drop_at}
use Rattle.std.proofs.lemmas.List.{take-append-le}
use Rattle.meaning.specs.Limits.{row_limit, row_words, code_words}
use Rattle.machine.specs.Words.{row_start}

-- Code has the words of the rows before row `end`, which are no more than there may be.
pub record Room (code : List ℕ) (end : ℕ) : Type 0 where
  pub few : end ≤ row_limit
  pub long : code_words end ≤ length code

-- Words of so many rows are written, from row `start` up to row `end`, and the others are as they were.
pub record Wrote (code code' : List ℕ) (start end size : ℕ) (words : List ℕ) : Type 0 where
  pub counts : start + size ≡ end
  pub long : length words ≡ row_words * size
  pub result : code' ≡ take (row_start start) code ++ (words ++ drop (row_start end) code)

-- A row of 12 words that is written before row `end`.
pub wrote_one : {code code' row : List ℕ} {end : ℕ} → 0 < end → length row ≡ row_words
    → code' ≡ take (row_words * end) code ++ (row ++ drop (row_words * end + row_words) code) → Wrote code code' (end - 1) end 1 row
wrote_one {code} {code'} {row} {end} h l e =
    let start : row_words * end ≡ row_start (end - 1) = omega arith in
    let after : row_words * end + row_words ≡ row_start end = omega arith in
    record {
      counts = omega arith;
      long = l;
      result = e ∙ ap₂ (λ i j. take i code ++ (row ++ drop j code)) start after;
    }

module _ {code code' : List ℕ} {start end size : ℕ} {words : List ℕ} where
  -- Code keeps its length.
  pub same_long : Wrote code code' start end size words → code_words end ≤ length code → length code' ≡ length code
  same_long w room =
      ap length w.result ∙ omega (
        arith,
        length-append (take (row_start start) code) (words ++ drop (row_start end) code),
        length-append words (drop (row_start end) code),
        length-take-le (row_start start) code (omega (arith, w.counts)),
        length-drop (row_start end) code,
        w.long,
        w.counts,
      )

  -- So there is room for the rows before it.
  pub room_before : Wrote code code' start end size words → Room code end → Room code' start
  room_before w r = record {
    few = omega (arith, w.counts, r.few);
    long = omega (arith, same_long w r.long, w.counts, r.long);
  }

  pub wrote_as : {size' : ℕ} {words' : List ℕ} → Wrote code code' start end size words → size ≡ size' → words ≡ words'
      → Wrote code code' start end size' words'
  wrote_as w e e' = record {
    counts = ap (λ z. start + z) (sym e) ∙ w.counts;
    long = ap length (sym e') ∙ w.long ∙ ap (λ z. row_words * z) e;
    result = w.result ∙ ap (λ l. take (row_start start) code ++ (l ++ drop (row_start end) code)) e';
  }

-- No rows.
pub wrote_none : (code : List ℕ) (end : ℕ) → Wrote code code end end 0 []
wrote_none code end = record { counts = omega arith; long = refl; result = sym (take-append-drop (row_start end) code) }

-- Rows, and then the rows before them.
pub then : {code c₁ c₂ : List ℕ} {start middle end size₁ size₂ : ℕ} {words₁ words₂ : List ℕ} → code_words end ≤ length code
    → Wrote code c₁ middle end size₂ words₂ → Wrote c₁ c₂ start middle size₁ words₁
    → Wrote code c₂ start end (size₁ + size₂) (words₁ ++ words₂)
then {code} {c₁} {c₂} {start} {middle} {end} {size₁} {size₂} {words₁} {words₂} room w₂ w₁ =
    let rest : List ℕ = words₂ ++ drop (row_start end) code in
    let front : length (take (row_start middle) code) ≡ row_start middle
    = length-take-le (row_start middle) code (omega (arith, w₂.counts)) in
    let head : take (row_start start) c₁ ≡ take (row_start start) code
    = ap (take (row_start start)) w₂.result
    ∙ take-append-le (row_start start) (take (row_start middle) code) rest (omega (arith, w₁.counts, front))
    ∙ take-take (row_start start) (row_start middle) code (omega (arith, w₁.counts)) in
    let tail : drop (row_start middle) c₁ ≡ rest
    = ap (drop (row_start middle)) w₂.result ∙ drop_at (take (row_start middle) code) rest (row_start middle) front in
    record {
      counts = omega (arith, w₁.counts, w₂.counts);
      long = length-append words₁ words₂ ∙ omega (arith, w₁.long, w₂.long);
      result = w₁.result ∙ ap₂ (λ a b. a ++ (words₁ ++ b)) head tail
          ∙ ap (λ l. take (row_start start) code ++ l) (sym (append_assoc words₁ words₂ (drop (row_start end) code)));
    }
