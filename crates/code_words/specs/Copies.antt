-- A copy of words that goes on one by one.
use Rattle.std.specs.Prelude.{◌≡◌, List, ◌++◌, ℕ, ◌+◌, ◌≤◌, ◌<◌, length, get_or, take, drop, set}
use Rattle.std.proofs.Common.{sym, ap, ap₂, ◌∙◌, append_assoc, add-one, arith}
use Rattle.std.proofs.Math.Seq.{paste, paste-zero, paste-suc, take-length}
use Rattle.std.proofs.lemmas.List.Edits.{length-paste}

-- A copy of the first n words of a list into another, as a loop makes it: none, one more, all.
pub record Copied (to : List ℕ) (at : ℕ) (from now : List ℕ) (n : ℕ) : Type 0 where
  pub pasted : now ≡ paste to at from n
  pub some : n ≤ length from
  pub room : at + length from ≤ length to

pub copied_none : (to : List ℕ) (at : ℕ) (from : List ℕ) → at + length from ≤ length to → Copied to at from to 0
copied_none to at from h = record { pasted = paste-zero to at from; some = omega arith; room = h }

module _ {to from now : List ℕ} {at n : ℕ} where
  pub copied_long : Copied to at from now n → length now ≡ length to
  copied_long c = ap length c.pasted ∙ length-paste to at from n (omega (arith, c.some, c.room)) c.some

  pub copied_more : Copied to at from now n → n < length from → Copied to at from (set now (at + n) (get_or from n 0)) (n + 1)
  copied_more c h = record {
    pasted = ap (λ l. set l (at + n) (get_or from n 0)) c.pasted ∙ paste-suc to at from n 0 (omega (arith, c.room)) h
        ∙ ap (paste to at from) (sym (add-one n));
    some = omega arith;
    room = c.room;
  }

  pub copied_all : (k : ℕ) → Copied to at from now n → length from ≡ k → k ≤ n → now ≡ take at to ++ (from ++ drop (at + k) to)
  copied_all k c e h =
      let all : n ≡ length from = omega (arith, c.some) in
      c.pasted ∙ ap (paste to at from) all ∙ ap₂ (λ l k. take at to ++ l ++ drop (at + k) to) (take-length from) e
      ∙ append_assoc (take at to) from (drop (at + k) to)
