-- The pass over a table: below the record that it has come to stand, whole, the parts that the tokens so far rebuild; from there
-- on the tokens are as they were. Assumes nothing.
use mathlib.Core.Path.{◌≡◌, refl, sym, ap, ◌∙◌}
use mathlib.Core.List.{List, [], ◌∷◌, ◌++◌, append-nil}
use Prim.Native.Nat.{ℕ, ◌+◌, ◌-◌, ◌*◌, ◌≤◌, ◌<◌}
use native.Mathlib.Omega.{arith}
use lib.ListN.{length, get_or, take, drop, length-drop}
use lib.Seq.{length-take-le}
use Rattle.meaning.specs.Node.{Node, Proper}
use Rattle.meaning.specs.Results.{concat_map}
use Rattle.table.specs.Table.{record_words, records}
use Rattle.meaning.specs.All.{All, all_append, all_left, all_right}
use Rattle.table.specs.Laws.{inner, last_of, records_append}
use Rattle.table.specs.Derived.{record_limit}
use Rattle.table.specs.Stands.{Stands, Made, Putting, Puts}
use Rattle.tidying_shapes.specs.Skeleton.{Token}
use Rattle.tidying_shapes.specs.Tokens.{token_at, tokens_from, tokens_of}
use Rattle.tidying_shapes.specs.Laws.{tokens_from_lem, tokens_more, above_more}
use Rattle.tidying_shapes.proofs.Parse.{Closes, Rebuilds, rebuilds}
use Rattle.tidying_shapes.specs.Fresh.{Said, SomeSaid, Refreshed}

-- How far the pass has come with a pattern: the parts that stand, which the tokens from there on make the pattern of.
pub record Passed (table : List ℕ) (n at : ℕ) (r : Node) : Type 0 where
  pub stack : List Node
  pub rebuilt : Rebuilds stack (tokens_from table at (n - at)) (r ∷ [])
  pub stands : Stands table at (concat_map records stack)
  pub proper : All Proper stack

pub record Passing (table₀ : List ℕ) (n : ℕ) (table : List ℕ) (at : ℕ) : Type 0 where
  pub by : (r : Node) → Said table₀ n r → Passed table n at r
  pub kept : length table ≡ length table₀
  pub room : record_words * n ≤ length table₀
  pub few : n ≤ record_limit
  pub within : at ≤ n
  pub above : drop (record_words * n) table ≡ drop (record_words * n) table₀

-- At first nothing is passed.
pub starts : {table : List ℕ} {n : ℕ} → SomeSaid table n → Passing table n table 0
starts {table} {n} some = record {
  by = λ r said.
      let all : n - 0 ≡ n = omega arith in
      record {
        stack = [];
        rebuilt = rw (all, said.says.tokens) (rebuilds r said.proper);
        stands = record { below = refl; room = omega arith };
        proper = tt;
      };
  kept = refl;
  room = some.said.says.room;
  few = some.said.few;
  within = omega arith;
  above = refl;
}

module _ {table₀ : List ℕ} {n : ℕ} {table : List ℕ} {at : ℕ} {last : List ℕ} (p : Passing table₀ n table at) (h : at < n)
    (same : last ≡ take 8 (drop (record_words * at + 8) table)) where
  abbrev own : Token
  own = token_at table at

  -- The record that it has come to closes the parts on top.
  module _ (r : Node) (said : Said table₀ n r) where
    rebuilt_here : Rebuilds (p.by r said).stack (token_at table at ∷ tokens_from table (at + 1) (n - (at + 1))) (r ∷ [])
    rebuilt_here = rw (tokens_more table n at h) at (p.by r said).rebuilt

    abbrev closes : Closes (p.by r said).stack (token_at table at)
    closes = rebuilt_here.0

    last_of_lem : last ≡ last_of closes.part
    last_of_lem = same ∙ ap (λ t. t.last) closes.says

    made : Made table at own.kind own.operand own.items (get_or last 0 0) (get_or last 1 0)
        (concat_map records closes.below) closes.part
    made = record {
      series = record {
        stands = rw records_append at (rw closes.inside at (p.by r said).stands);
        counted = ap (λ t. t.items) closes.says;
        proper = all_right Proper closes.below (inner closes.part) (rw closes.inside at (p.by r said).proper);
      };
      same_kind = ap (λ t. t.kind) closes.says;
      same_operand = ap (λ t. t.operand) closes.says;
      same_least = ap (λ l. get_or l 0 0) last_of_lem;
      same_most = ap (λ l. get_or l 1 0) last_of_lem;
      proper = closes.proper;
    }

  pub putting : SomeSaid table₀ n
      → Putting table at own.kind own.operand own.items last
  putting some = record {
    some = record { before = _; node = _; made = made some.node some.said; low = omega (arith, p.few) };
    eight = rw same (length-take-le 8 (drop (record_words * at + 8) table)
        (omega (arith, length-drop (record_words * at + 8) table, p.kept, p.room)));
    room = omega (arith, p.kept, p.room);
  }

  -- It is put, and passed.
  pub passes : {table' : List ℕ} → length table' ≡ length table
      → Puts table table' at own.kind own.operand own.items last
      → Passing table₀ n table' (at + 1)
  passes {table'} long puts = record {
    by = λ r said.
        let c = closes r said in
        let next : ℕ = record_words * (at + 1) in
        let room : next ≤ length table = omega (arith, p.kept, p.room) in
        let rest : tokens_from table (at + 1) (n - (at + 1)) ≡ tokens_from table' (at + 1) (n - (at + 1))
        = tokens_from_lem table (at + 1) (n - (at + 1)) room ∙ ap (λ l. tokens_of l (n - (at + 1))) (sym puts.above)
        ∙ sym (tokens_from_lem table' (at + 1) (n - (at + 1)) (omega arith)) in
        let words : concat_map records (c.below ++ (c.part ∷ [])) ≡ concat_map records c.below ++ records c.part
        = records_append c.below (c.part ∷ [])
        ∙ ap (λ l. concat_map records c.below ++ l) (append-nil (records c.part)) in
        record {
          stack = c.below ++ (c.part ∷ []);
          rebuilt = rw rest at (rebuilt_here r said).1;
          stands = rw words (puts.by (concat_map records c.below) c.part (made r said) (last_of_lem r said));
          proper = all_append Proper c.below (c.part ∷ [])
              (all_left Proper c.below (inner c.part) (rw c.inside at (p.by r said).proper)) (c.proper, tt);
        };
    kept = long ∙ p.kept;
    room = p.room;
    few = p.few;
    within = omega arith;
    above = above_more table' table (record_words * (at + 1)) (record_words * n) (omega arith) puts.above ∙ p.above;
  }

-- In the end the pattern stands.
pub refreshed : {table₀ : List ℕ} {n : ℕ} {table : List ℕ} {at : ℕ} → Passing table₀ n table at → n ≤ at
    → Refreshed table₀ table n
refreshed {table₀} {n} {table} {at} p h = record {
  by = λ r said.
      let q = p.by r said in
      let end : at ≡ n = omega (arith, p.within) in
      let none_left : n - at ≡ 0 = omega arith in
      let whole : q.stack ≡ r ∷ [] = rw none_left at q.rebuilt in
      rw (append-nil (records r)) at (rw whole at (rw end at q.stands));
  above = p.above;
}
