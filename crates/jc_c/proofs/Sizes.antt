-- The bytes of the rows that have the first numbers are those of all rows.
use Rattle.std.proofs.Common.{◌≡◌, ◌≤◌, ◌<◌, ℕ, zero, suc, ◌+◌, Bool, true, false, eqb, ltb, cond, count_by, List, [], ◌∷◌, length, Option, Some, None, refl, ap, ap₂, sym, ◌∙◌, arith}
use Rattle.std.specs.Prelude.{sum_by}
use Rattle.std.proofs.lemmas.Bool.Decides.{nat_tests}
use Rattle.std.proofs.lemmas.List.Sums.{sum_by-cons}
use Rattle.jc_model.specs.State.{Item}
use Rattle.jc_engine.specs.Caches.{Cache, NumbersRows, config_in, row_in}
use Rattle.jc_model.specs.declared.config.CacheConfig.{CacheConfig}
use Rattle.jc_ops.specs.Kept.{AreNumbered, row_numbered}
use Rattle.jc_c.specs.Bytes.{bytes_in, bytes_numbered, item_size, row_size}

-- the bytes of the first n numbers, by the numbers of the rows
abbrev sized : ℕ → List ℕ → List Item → ℕ
sized zero ms xs = 0
sized (suc n) ms xs = sized n ms xs + row_size (row_numbered n ms xs)

sized-none : (n : ℕ) (xs : List Item) → sized n [] xs ≡ 0
sized-none zero xs = refl
sized-none (suc n) xs = let before = sized-none n xs in omega (arith, before)

times-more : (n m : ℕ) (ms : List ℕ) → count_by (eqb n) (m ∷ ms) ≡ cond (eqb n m) 1 0 + count_by (eqb n) ms
times-more n m ms = sum_by-cons (λ (k : ℕ). cond (eqb n k) 1 0) m ms

-- a number that none has
absent : (n : ℕ) (ms : List ℕ) (xs : List Item) → count_by (eqb n) ms ≡ 0 → row_numbered n ms xs ≡ None
absent n [] xs none = refl
absent n (m ∷ ms) [] none = refl
absent n (m ∷ ms) (x ∷ xs) none =
    let more = times-more n m ms in
    let rest : count_by (eqb n) ms ≡ 0 = omega (arith, more, none) in
    grind (arith, nat_tests, more, none, absent n ms xs rest)

-- one row more
sized-more : (n m : ℕ) (ms : List ℕ) (x : Item) (xs : List Item) → count_by (eqb m) ms ≡ 0 → sized n (m ∷ ms) (x ∷ xs) ≡ cond (ltb m n) (item_size x) 0 + sized n ms xs
sized-more zero m ms x xs none = grind (arith, nat_tests)
sized-more (suc n) m ms x xs none = by (sized-more n m ms x xs none) (eqb m n) refl
  where
    by : sized n (m ∷ ms) (x ∷ xs) ≡ cond (ltb m n) (item_size x) 0 + sized n ms xs → (b : Bool) → eqb m n ≡ b → sized (suc n) (m ∷ ms) (x ∷ xs) ≡ cond (ltb m (suc n)) (item_size x) 0 + sized (suc n) ms xs
    by before true same =
        let is : m ≡ n = grind (arith, nat_tests, same) in
        let gone : row_size (row_numbered n ms xs) ≡ 0 = ap row_size (ap (λ (k : ℕ). row_numbered k ms xs) (sym is) ∙ absent m ms xs none) in
        let here : row_size (row_numbered n (m ∷ ms) (x ∷ xs)) ≡ item_size x = rw same refl in
        let not_yet : ltb m n ≡ false = grind (arith, nat_tests, is) in
        let now : ltb m (suc n) ≡ true = grind (arith, nat_tests, is) in
        let first : cond (ltb m n) (item_size x) 0 ≡ 0 = rw not_yet refl in
        let last : cond (ltb m (suc n)) (item_size x) 0 ≡ item_size x = rw now refl in
        omega (arith, before, gone, here, first, last)
    by before false differs =
        let here : row_size (row_numbered n (m ∷ ms) (x ∷ xs)) ≡ row_size (row_numbered n ms xs) = rw differs refl in
        let as_before : ltb m (suc n) ≡ ltb m n = grind (arith, nat_tests, differs) in
        let same : cond (ltb m (suc n)) (item_size x) 0 ≡ cond (ltb m n) (item_size x) 0 = ap (λ (b : Bool). cond b (item_size x) 0) as_before in
        omega (arith, before, here, same)

none_of : {A : Type 0} (x : A) → ◌≡◌ {A = Option A} (Some x) None → ⊥
none_of x is = cc

sized-all : (capacity : ℕ) (ms : List ℕ) (xs : List Item) → length ms ≡ length xs → ((n : ℕ) → count_by (eqb n) ms ≤ 1) → ((n : ℕ) → capacity ≤ n → row_numbered n ms xs ≡ None)
    → sized capacity ms xs ≡ sum_by item_size xs
sized-all capacity [] [] each apart below = sized-none capacity []
sized-all capacity [] (x ∷ xs) each apart below = absurd (omega (arith, each))
sized-all capacity (m ∷ ms) [] each apart below = absurd (omega (arith, each))
sized-all capacity (m ∷ ms) (x ∷ xs) each apart below =
    let itself : eqb m m ≡ true = grind (arith, nat_tests) in
    let within : m < capacity = inside (ltb m capacity) refl in
    let once = times-more m m ms in
    let most = apart m in
    let one : ◌≡◌ {A = ℕ} (cond (eqb m m) 1 0) 1 = rw itself refl in
    let none : count_by (eqb m) ms ≡ 0 = omega (arith, once, most, one) in
    let more = sized-more capacity m ms x xs none in
    let first : cond (ltb m capacity) (item_size x) 0 ≡ item_size x = let yes : ltb m capacity ≡ true = grind (arith, nat_tests, within) in rw yes refl in
    let rest = sized-all capacity ms xs (omega (arith, each)) fewer behind in
    let all = sum_by-cons item_size x xs in
    omega (arith, more, first, rest, all)
  where
    inside : (b : Bool) → ltb m capacity ≡ b → m < capacity
    inside true is = grind (arith, nat_tests, is)
    inside false is =
        let over : capacity ≤ m = grind (arith, nat_tests, is) in
        let itself : eqb m m ≡ true = grind (arith, nat_tests) in
        let there : row_numbered m (m ∷ ms) (x ∷ xs) ≡ Some (Rattle.jc_ops.specs.Kept.record_of x) = rw itself refl in
        absurd (none_of _ (sym there ∙ below m over))

    fewer : (n : ℕ) → count_by (eqb n) ms ≤ 1
    fewer n = let more = times-more n m ms in let all = apart n in omega (arith, more, all)

    behind : (n : ℕ) → capacity ≤ n → row_numbered n ms xs ≡ None
    behind n over =
        let within : m < capacity = inside (ltb m capacity) refl in
        let differs : eqb m n ≡ false = grind (arith, nat_tests, within, over) in
        rw differs at (below n over)

numbered-sized : (n : ℕ) (k : Cache) → bytes_numbered n (Some k) ≡ sized n k.numbers k.progress.state.ring
numbered-sized zero k = refl
numbered-sized (suc n) k = ap (λ (m : ℕ). m + row_size (row_numbered n k.numbers k.progress.state.ring)) (numbered-sized n k)

-- The rows of all numbers that a cache may have, and of one more where it may have none.
pub all_numbered : (n : ℕ) (cache : Option Cache) (config : CacheConfig) → config_in cache ≡ Some config → config.capacity ≤ n → NumbersRows cache → Some (bytes_numbered n cache) ≡ bytes_in cache
all_numbered n None config is most numbered = absurd (none_of config (sym is))
all_numbered n (Some k) config is most numbered =
    let capacity : k.config.capacity ≡ config.capacity = cc in
    ap Some (numbered-sized n k ∙ sized-all n k.numbers k.progress.state.ring numbered.each numbered.apart (λ m over. numbered.below m (omega (arith, capacity, most, over))))
