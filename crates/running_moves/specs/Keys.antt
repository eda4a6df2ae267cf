-- Keys and registers as numbers, and what a key's number stands for.
use Rattle.std.specs.Prelude.{◌≡◌, ℕ, suc, ◌+◌, ◌*◌, ◌/◌, ◌%◌, ◌<◌, eqb}
use Rattle.std.proofs.Common.{arith}
use Rattle.machine.specs.Rows.{Key, at}

-- The number of a key: its row, and its flag as 0 or 1; and how many keys some rows have.
abbrev pub key_number : ℕ → ℕ → ℕ
key_number row flag = row * 2 + flag

abbrev pub keys_of : ℕ → ℕ
keys_of rows = rows * 2

-- The row and the flag of a key, and the key that a number stands for.
abbrev pub row_of : ℕ → ℕ
row_of key = key / 2

abbrev pub flag_of : ℕ → ℕ
flag_of key = key % 2

abbrev pub key_of : ℕ → Key
key_of key = at (row_of key) (eqb (flag_of key) 1)

-- The key of the next row, with the same flag.
abbrev pub next_key : ℕ → ℕ
next_key key = key + 2

-- The registers of a group: where it starts, and where it ends.
abbrev pub start_of : ℕ → ℕ
start_of group = group * 2

abbrev pub end_of : ℕ → ℕ
end_of group = group * 2 + 1

-- ---- what the numbers stand for

pub key_of_lem : (row flag : ℕ) → flag < 2 → key_of (key_number row flag) ≡ at row (eqb flag 1)
key_of_lem row flag h =
    let a : row_of (key_number row flag) ≡ row = omega arith in
    let b : flag_of (key_number row flag) ≡ flag = omega arith in
    rw (a, b)

pub key_after : (row flag : ℕ) → flag < 2 → key_of (key_number (row + 1) flag) ≡ at (suc row) (eqb flag 1)
key_after row flag h = let e : row + 1 ≡ suc row = omega arith in rw e (key_of_lem (suc row) flag h)

pub key_next : (key : ℕ) → key_of (next_key key) ≡ at (suc (row_of key)) (eqb (flag_of key) 1)
key_next key =
    let a : row_of (next_key key) ≡ suc (row_of key) = omega arith in
    let b : flag_of (next_key key) ≡ flag_of key = omega arith in
    rw (a, b)
