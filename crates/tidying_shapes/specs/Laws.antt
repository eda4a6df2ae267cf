-- Laws of the tokens of a table: they are said record by record, so that words cut and joined are tokens cut and joined.
use Rattle.std.specs.Prelude.{◌≡◌, refl, List, [], ◌∷◌, ◌++◌, ℕ, zero, suc, ◌+◌, ◌-◌, ◌*◌, ◌≤◌, ◌<◌, length, get_or, take, drop}
use Rattle.std.proofs.Common.{sym, ap, ap₂, subst, ◌∙◌, append-nil, arith, add-one, length-append, length-take, length-drop, take-append-drop, get_or-append-add, take_at, drop_at, take-take, drop-drop}
use Rattle.std.proofs.Math.ListN.{get_or-append}
use Rattle.std.proofs.lemmas.List.{take-append-le, drop-append-le}
use Rattle.std.proofs.Math.Seq.{drop-append-add}
use Rattle.table.specs.Table.{record_words}
use Rattle.tidying_shapes.specs.Skeleton.{Token, token_of}
use Rattle.tidying_shapes.specs.Tokens.{token_at, tokens_from, tokens_of, Says}

pub token_same : {k k' o o' i i' : ℕ} {l l' : List ℕ} → k ≡ k' → o ≡ o' → i ≡ i' → l ≡ l'
    → token_of k o i l ≡ token_of k' o' i' l'
token_same a b c d = cc

-- A record of the first words of two, and one of the words behind whole records.
token_left : (a b : List ℕ) (i : ℕ) → record_words * suc i ≤ length a → token_at (a ++ b) i ≡ token_at a i
token_left a b i h =
    let base : ℕ = record_words * i in
    let word : (j : ℕ) → j < record_words → get_or (a ++ b) (base + j) 0 ≡ get_or a (base + j) 0
    = λ j k. get_or-append a b 0 (base + j) (omega arith) in
    let zeroth : base + 0 ≡ base = omega arith in
    token_same (rw zeroth at (word 0 (omega arith))) (word 1 (omega arith)) (word 3 (omega arith))
    (ap (take 8) (drop-append-le (base + 8) a b (omega arith))
    ∙ take-append-le 8 (drop (base + 8) a) b (omega (arith, length-drop (base + 8) a)))

pub token_right : (a b : List ℕ) (i j k : ℕ) → length a ≡ record_words * i → i + j ≡ k → token_at (a ++ b) k ≡ token_at b j
token_right a b i j k h e =
    let base : record_words * k ≡ length a + record_words * j = omega arith in
    let shift : (m : ℕ) → record_words * k + m ≡ length a + (record_words * j + m) = λ m. omega arith in
    let word : (m : ℕ) → get_or (a ++ b) (record_words * k + m) 0 ≡ get_or b (record_words * j + m) 0
    = λ m. ap (λ x. get_or (a ++ b) x 0) (shift m) ∙ get_or-append-add a b (record_words * j + m) 0 in
    token_same (ap (λ x. get_or (a ++ b) x 0) base ∙ get_or-append-add a b (record_words * j) 0) (word 1) (word 3)
    (ap (λ x. take 8 (drop x (a ++ b))) (shift 8) ∙ ap (take 8) (drop-append-add a b (record_words * j + 8)))

tokens_right : (a b : List ℕ) (i j k m : ℕ) → length a ≡ record_words * i → i + j ≡ k
    → tokens_from (a ++ b) k m ≡ tokens_from b j m
tokens_right a b i j k zero h e = refl
tokens_right a b i j k (suc m) h e =
    ap₂ (λ x l. x ∷ l) (token_right a b i j k h e) (tokens_right a b i (suc j) (suc k) m h (omega arith))

tokens_both : (a b : List ℕ) (i n m k : ℕ) → length a ≡ record_words * (i + n) → n + m ≡ k
    → tokens_from (a ++ b) i k ≡ tokens_from a i n ++ tokens_of b m
tokens_both a b i zero m k h e =
    let same : m ≡ k = omega arith in
    subst (λ (x : ℕ). tokens_from (a ++ b) i x ≡ tokens_of b m) same (tokens_right a b i 0 i m (omega arith) (omega arith))
tokens_both a b i (suc n) m zero h e = absurd (omega arith)
tokens_both a b i (suc n) m (suc k) h e =
    ap₂ (λ x l. x ∷ l) (token_left a b i (omega arith)) (tokens_both a b (suc i) n m k (omega arith) (omega arith))

-- The tokens of words joined.
pub tokens_append : (a b : List ℕ) (n m : ℕ) → length a ≡ record_words * n
    → tokens_of (a ++ b) (n + m) ≡ tokens_of a n ++ tokens_of b m
tokens_append a b n m h = tokens_both a b 0 n m (n + m) (omega arith) refl

pub length_tokens : (table : List ℕ) (i n : ℕ) → length (tokens_from table i n) ≡ n
length_tokens table i zero = refl
length_tokens table i (suc n) = ap suc (length_tokens table (suc i) n)

-- As many records as tokens are said.
pub says_length : {table : List ℕ} {n : ℕ} {ts : List Token} → Says table n ts → length ts ≡ n
says_length {table} {n} s = sym (ap length s.tokens) ∙ length_tokens table 0 n

-- Whole records that say some tokens, and words that say more.
pub says_join : {a b : List ℕ} {n m : ℕ} {l k : List Token} → length a ≡ record_words * n → Says a n l → Says b m k
    → Says (a ++ b) (n + m) (l ++ k)
says_join {a} {b} {n} {m} h s t = record {
  tokens = tokens_append a b n m h ∙ ap₂ ◌++◌ s.tokens t.tokens;
  room = omega (arith, length-append a b, t.room);
}

-- Words that say tokens say the first of them in the first words, and the others in the words behind those.
module _ {table : List ℕ} {n : ℕ} (l k : List Token) (s : Says table n (l ++ k)) where
  few : length l ≤ n
  few = omega (arith, says_length s, length-append l k)

  abbrev first : List ℕ
  first = take (record_words * length l) table

  abbrev rest : List ℕ
  rest = drop (record_words * length l) table

  cut_length : length first ≡ record_words * length l
  cut_length = omega (arith, length-take (record_words * length l) table, few, s.room)

  cut : tokens_of first (length l) ++ tokens_of rest (n - length l) ≡ l ++ k
  cut =
      let same : length l + (n - length l) ≡ n = omega (arith, few) in
      sym (tokens_append first rest (length l) (n - length l) cut_length)
      ∙ ap₂ tokens_of (take-append-drop (record_words * length l) table) same ∙ s.tokens

  pub says_first : Says first (length l) l
  says_first = record {
    tokens = sym (take_at (tokens_of first (length l)) _ (length l) (length_tokens first 0 (length l)))
        ∙ ap (take (length l)) cut ∙ take_at l k (length l) refl;
    room = omega (arith, cut_length);
  }

  pub says_rest : Says rest (n - length l) k
  says_rest = record {
    tokens = sym (drop_at (tokens_of first (length l)) _ (length l) (length_tokens first 0 (length l)))
        ∙ ap (drop (length l)) cut ∙ drop_at l k (length l) refl;
    room = omega (arith, length-drop (record_words * length l) table, few, s.room);
  }

-- Only the words of the records that are told matter.
pub says_only : {table table' : List ℕ} {n : ℕ} {ts : List Token} → Says table n ts → record_words * n ≤ length table'
    → take (record_words * n) table' ≡ take (record_words * n) table → Says table' n ts
says_only {table} {table'} {n} {ts} s h e = record {
  tokens = alone table' h ∙ ap (λ l. tokens_of l n) e ∙ sym (alone table s.room) ∙ s.tokens;
  room = h;
}
  where
    alone : (l : List ℕ) → record_words * n ≤ length l → tokens_of l n ≡ tokens_of (take (record_words * n) l) n
    alone l h =
        let same : n + 0 ≡ n = omega arith in
        let long : length (take (record_words * n) l) ≡ record_words * n = omega (arith, length-take (record_words * n) l) in
        ap₂ tokens_of (sym (take-append-drop (record_words * n) l)) (sym same)
        ∙ tokens_append (take (record_words * n) l) (drop (record_words * n) l) n 0 long
        ∙ append-nil (tokens_of (take (record_words * n) l) n)

-- The same words, and as many records.
pub says_same : {a b : List ℕ} {n m : ℕ} {ts : List Token} → a ≡ b → n ≡ m → Says a n ts → Says b m ts
says_same {a} {b} {n} {m} {ts} e f s = subst (λ (k : ℕ). Says b k ts) f (subst (λ (l : List ℕ). Says l n ts) e s)

-- What words say they say with more words behind them.
pub says_more : {a : List ℕ} {n : ℕ} {ts : List Token} (b : List ℕ) → Says a n ts → Says (a ++ b) n ts
says_more {a} {n} b s =
    says_only s (omega (arith, length-append a b, s.room)) (take-append-le (record_words * n) a b s.room)

-- The tokens from a record on are those of the words from there on.
pub tokens_from_lem : (table : List ℕ) (i m : ℕ) → record_words * i ≤ length table
    → tokens_from table i m ≡ tokens_of (drop (record_words * i) table) m
tokens_from_lem table i m h =
    let base : ℕ = record_words * i in
    let long : length (take base table) ≡ base = omega (arith, length-take base table) in
    ap (λ x. tokens_from x i m) (sym (take-append-drop base table))
    ∙ tokens_right (take base table) (drop base table) i 0 i m long (omega arith)

pub says_from : {table : List ℕ} {n : ℕ} (l k : List Token) → Says table n (l ++ k)
    → tokens_from table (length l) (n - length l) ≡ k
says_from {table} {n} l k s =
    tokens_from_lem table (length l) (n - length l) (omega (arith, says_length s, length-append l k, s.room))
    ∙ (says_rest l k s).tokens

-- A record more, as a token and the tokens behind it.
pub tokens_more : (table : List ℕ) (n at : ℕ) → at < n
    → tokens_from table at (n - at) ≡ token_at table at ∷ tokens_from table (at + 1) (n - (at + 1))
tokens_more table n at h =
    let one : n - at ≡ suc (n - (at + 1)) = omega arith in
    ap (tokens_from table at) one ∙ ap (λ x. token_at table at ∷ tokens_from table x (n - (at + 1))) (sym (add-one at))

-- What a record says; and a record more at the end of what is said.
pub says_at : {table : List ℕ} {n : ℕ} (l : List Token) (tok : Token) (m : List Token) → Says table n (l ++ (tok ∷ m))
    → token_at table (length l) ≡ tok
says_at {table} {n} l tok m s =
    let one : n - length l ≡ suc (length m) = omega (arith, says_length s, length-append l (tok ∷ m)) in
    let first : tokens_from table (length l) (suc (length m)) ≡ tok ∷ m
    = subst (λ (x : ℕ). tokens_from table (length l) x ≡ tok ∷ m) one (says_from l (tok ∷ m) s) in
    cc

pub says_next : (table : List ℕ) (at : ℕ) {l : List Token} {tok : Token} → record_words * (at + 1) ≤ length table
    → Says (take (record_words * at) table) at l → token_at table at ≡ tok
    → Says (take (record_words * (at + 1)) table) (at + 1) (l ++ (tok ∷ []))
says_next table at {l} {tok} room s e =
    let base : ℕ = record_words * at in
    let long : length (take base table) ≡ base = omega (arith, length-take base table) in
    let here : token_at (drop base table) 0 ≡ tok
    = sym (token_right (take base table) (drop base table) at 0 at long (omega arith))
    ∙ ap (λ x. token_at x at) (take-append-drop base table) ∙ e in
    let last : Says (drop base table) 1 (tok ∷ [])
    = record { tokens = ap (λ x. x ∷ []) here; room = omega (arith, length-drop base table) } in
    let next : ℕ = record_words * (at + 1) in
    says_only (says_same (take-append-drop base table) refl (says_join long s last)) (omega (arith, length-take next table))
    (take-take next next table (omega arith))

-- Words that are as they were from an index on are so from any later one on.
pub above_more : (a b : List ℕ) (i j : ℕ) → i ≤ j → drop i a ≡ drop i b → drop j a ≡ drop j b
above_more a b i j h e =
    let same : i + (j - i) ≡ j = omega arith in
    ap (λ x. drop x a) (sym same) ∙ sym (drop-drop (j - i) i a) ∙ ap (drop (j - i)) e ∙ drop-drop (j - i) i b
    ∙ ap (λ x. drop x b) same
