-- Sets computed byte by byte.
use Rattle.std.specs.Prelude.{◌≡◌, refl, Bool, cond, List, [], ◌∷◌, ℕ, zero, suc}
use Rattle.sets.specs.Sets.{bit, has, word_of, set_of, is_space}

-- The numbers that pass a test, among n from b on.
passing : (ℕ → Bool) → ℕ → ℕ → List ℕ
passing test zero b = []
passing test (suc n) b = cond (test b) (b ∷ passing test n (suc b)) (passing test n (suc b))

-- Of the 256 bytes exactly these are spaces; 85 is none.
spaces : passing (has (set_of is_space)) 256 0 ≡ 0x09 ∷ 0x0A ∷ 0x0B ∷ 0x0C ∷ 0x0D ∷ 0x20 ∷ 0xA0 ∷ []
unfolding has bit set_of word_of is_space passing
spaces = refl
