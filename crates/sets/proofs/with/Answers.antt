-- Only word b / 32 changes, and of it only bit b % 32.
use mathlib.Core.Path.{◌≡◌, refl, sym, ap, ◌∙◌}
use mathlib.Core.Bool.{Bool, true, false, ◌||◌, or-false}
use mathlib.Core.List.{List}
use Prim.Native.Nat.{ℕ, ◌*◌, ◌/◌, ◌%◌, ◌^◌, ◌<◌}
use native.Mathlib.Omega.{arith}
use lib.ListN.{length, get_or, set, length-set}
use lib.Seq.{get_or-set_same, get_or-set_other}
use lib.Bits.{bit_or, or_lt}
use lib.Dec.{eqb}
use borrow.Author.Rules.{rules}
use borrow.Author.Tests.{eqb-true, eqb-false, eq-eqb, ne_eqb}
use Rattle.sets.specs.Sets.{bit, has, Formed, Holds}
use Rattle.sets.specs.Bits.{bit_or_lem, bit_one}
use Rattle.sets.specs.Laws.{formed_of}
use Rattle.sets.proofs.with.Goals as goal

-- After a store at i, what is true of the stored word if j is i, and of the old word if not, is true of word j.
stored : (P : ℕ → Type 0) (words : List ℕ) (i v j : ℕ) → i < length words → (j ≡ i → P v)
    → ((j ≡ i → ⊥) → P (get_or words j 0)) → P (get_or (set words i v) j 0)
stored P words i v j h new old = go (eqb j i) refl
  where
    go : (q : Bool) → eqb j i ≡ q → P (get_or (set words i v) j 0)
    go true e = let p = eqb-true j i e in rw (p, get_or-set_same words i v 0 h) (new p)
    go false e = let p = eqb-false j i e in rw (get_or-set_other words i j v 0 p) (old p)

-- Bytes of one word are equal if their bits are.
same_bit : (x b : ℕ) → x / 32 ≡ b / 32 → eqb (x % 32) (b % 32) ≡ eqb x b
same_bit x b h = go (eqb x b) refl
  where
    go : (q : Bool) → eqb x b ≡ q → eqb (x % 32) (b % 32) ≡ q
    go true e = eq-eqb (x % 32) (b % 32) (ap (λ n. n % 32) (eqb-true x b e))
    go false e = ne_eqb (x % 32) (b % 32) (λ p. eqb-false x b e (omega arith))

-- Bit b % 32 set in word b / 32 puts byte b into a well-formed set.
put : (words : List ℕ) (b : ℕ) → Formed words → b < 256
    → Holds (set words (b / 32) (bit_or (get_or words (b / 32) 0) ((1 * 2 ^ (b % 32)) % 2 ^ 32))) (λ x. has words x || eqb x b)
unfolding has
put words b f h =
    let one = (1 * 2 ^ (b % 32)) % 2 ^ 32 in
    let v = bit_or (get_or words (b / 32) 0) one in
    let within : b / 32 < length words = omega (arith, f.eight) in
    record {
      formed = record {
        eight = length-set words (b / 32) v ∙ f.eight;
        words = λ j. stored (λ w. w < 2 ^ 32) words (b / 32) v j within
            (λ e. or_lt 32 (get_or words (b / 32) 0) one (f.words (b / 32)) (omega arith)) (λ e. f.words j);
      };
      bytes = λ x l. stored (λ w. bit w (x % 32) ≡ (has words x || eqb x b)) words (b / 32) v (x / 32) within
          (λ e. rw (e, bit_or_lem, bit_one (b % 32) (x % 32) (omega arith) (omega arith), same_bit x b e))
          (λ e. rw (ne_eqb x b (λ p. e (ap (λ n. n / 32) p))) (sym (or-false (has words x))));
    }

pub returns : goal.returns
returns c = put c.args.set c.args.b (search (rules, formed_of)) (search rules)
