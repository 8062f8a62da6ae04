-- Of the numbers that a step goes over, each row is given once.
use Rattle.std.proofs.Common.{◌≡◌, ◌<◌, ◌≤◌, ℕ, zero, suc, ◌+◌, ◌-◌, Bool, true, false, ltb, eqb, cond, if◌then◌else◌, is_some, count_by, List, [], ◌∷◌, Option, Some, None, inl, inr, refl, ◌∙◌, arith}
use Rattle.std.proofs.lemmas.Bool.{cases_eq}
use Rattle.std.proofs.lemmas.Bool.Decides.{nat_tests}
use Rattle.std.proofs.lemmas.List.Sums.{sum_by-cons}
use Rattle.jc_ops.specs.declared.slots.Record.{Record}
use Rattle.jc_engine.specs.Caches.{Cache, row_in}
use Rattle.jc_c.specs.Walk.{Covers, Numbered, fitting, number_behind, row_length, rows_from, with_row}

abbrev times : ℕ → List Numbered → ℕ
times n rows = count_by (λ (p : Numbered). eqb p.0 n) rows

times-more : (n : ℕ) (p : Numbered) (ps : List Numbered) → times n (p ∷ ps) ≡ cond (eqb p.0 n) 1 0 + times n ps
times-more n p ps = sum_by-cons (λ (q : Numbered). cond (eqb q.0 n) 1 0) p ps

module _ (cache : Option Cache) where
  -- what a step gives from a number on
  abbrev gives_from : ℕ → ℕ → ℕ → List Numbered
  gives_from fuel room a = fitting room (rows_from cache a fuel)

  -- the same, by the row of that number, and by whether it is too long
  abbrev by_row : ℕ → ℕ → ℕ → Option Record → List Numbered
  by_row m room a found = fitting room (with_row a found (rows_from cache (a + 1) m))

  abbrev by_length : ℕ → ℕ → ℕ → Record → Bool → List Numbered
  by_length m room a row b = if b then [] else ((a, row) ∷ gives_from m (room - row_length row) (a + 1))

  low_by : (m room a : ℕ) → ((left : ℕ) → a + 1 ≤ number_behind (a + 1) (gives_from m left (a + 1))) → (found : Option Record) → a ≤ number_behind a (by_row m room a found)
  low_by m room a rest None = moved (gives_from m room (a + 1)) (rest room)
    where
      moved : (l : List Numbered) → a + 1 ≤ number_behind (a + 1) l → a ≤ number_behind a l
      moved [] low = omega arith
      moved (p ∷ ps) low = omega (arith, low)
  low_by m room a rest (Some row) = split (ltb room (row_length row))
    where
      split : (b : Bool) → a ≤ number_behind a (by_length m room a row b)
      split true = omega arith
      split false = let low = rest (room - row_length row) in omega (arith, low)

  pub low : (fuel room a : ℕ) → a ≤ number_behind a (gives_from fuel room a)
  low zero room a = omega arith
  low (suc m) room a = low_by m room a (λ left. low m left (a + 1)) (row_in a cache)

  before_by : (m room a n : ℕ) → eqb a n ≡ false → ((left : ℕ) → times n (gives_from m left (a + 1)) ≡ 0) → (found : Option Record) → times n (by_row m room a found) ≡ 0
  before_by m room a n differs rest None = rest room
  before_by m room a n differs rest (Some row) = split (ltb room (row_length row))
    where
      split : (b : Bool) → times n (by_length m room a row b) ≡ 0
      split true = refl
      split false =
          let all = times-more n (a, row) (gives_from m (room - row_length row) (a + 1)) in
          let none = rest (room - row_length row) in
          let no_first : ◌≡◌ {A = ℕ} (cond (eqb a n) 1 0) 0 = rw differs refl in
          omega (arith, all, no_first, none)

  before : (fuel room a n : ℕ) → n < a → times n (gives_from fuel room a) ≡ 0
  before zero room a n less = refl
  before (suc m) room a n less =
      before_by m room a n (grind (arith, nat_tests, less)) (λ left. before m left (a + 1) n (omega (arith, less))) (row_in a cache)

  behind_by : (m room a n : ℕ) → ((left : ℕ) → number_behind (a + 1) (gives_from m left (a + 1)) ≤ n → times n (gives_from m left (a + 1)) ≡ 0) → (found : Option Record)
      → number_behind a (by_row m room a found) ≤ n → times n (by_row m room a found) ≡ 0
  behind_by m room a n rest None = moved (gives_from m room (a + 1)) (rest room)
    where
      moved : (l : List Numbered) → (number_behind (a + 1) l ≤ n → times n l ≡ 0) → number_behind a l ≤ n → times n l ≡ 0
      moved [] none over = refl
      moved (p ∷ ps) none over = none over
  behind_by m room a n rest (Some row) = split (ltb room (row_length row))
    where
      split : (b : Bool) → number_behind a (by_length m room a row b) ≤ n → times n (by_length m room a row b) ≡ 0
      split true over = refl
      split false over =
          let least = low m (room - row_length row) (a + 1) in
          let none = rest (room - row_length row) over in
          let differs : eqb a n ≡ false = let more : a < n = omega (arith, least, over) in grind (arith, nat_tests, more) in
          let all = times-more n (a, row) (gives_from m (room - row_length row) (a + 1)) in
          let no_first : ◌≡◌ {A = ℕ} (cond (eqb a n) 1 0) 0 = rw differs refl in
          omega (arith, all, no_first, none)

  behind : (fuel room a n : ℕ) → number_behind a (gives_from fuel room a) ≤ n → times n (gives_from fuel room a) ≡ 0
  behind zero room a n over = refl
  behind (suc m) room a n over = behind_by m room a n (λ left. behind m left (a + 1) n) (row_in a cache) over

  -- a number is the first one, or one of those behind it
  apart : (a n : ℕ) (found : Option Record) → row_in a cache ≡ found → a ≤ n → (l : List Numbered) → times a l ≡ 0 → (a + 1 ≤ n → times n l ≡ cond (is_some (row_in n cache)) 1 0)
      → cond (eqb a n) (cond (is_some found) 1 0) 0 + times n l ≡ cond (is_some (row_in n cache)) 1 0
  apart a n found here least l none rest = elim (cases_eq a n) [
    | inl same ↦ rw (← same, here, none) (let is : eqb a a ≡ true = grind (arith, nat_tests) in rw is (omega arith))
    | inr differ ↦ (let is : eqb a n ≡ false = grind (arith, nat_tests, differ) in let more : a + 1 ≤ n = omega (arith, least, differ) in let all = rest more in rw is (omega (arith, all)))
  ]

  within_by : (m room a n : ℕ) → a ≤ n → ((left : ℕ) → times a (gives_from m left (a + 1)) ≡ 0)
      → ((left : ℕ) → a + 1 ≤ n → n < number_behind (a + 1) (gives_from m left (a + 1)) → times n (gives_from m left (a + 1)) ≡ cond (is_some (row_in n cache)) 1 0)
      → (found : Option Record) → row_in a cache ≡ found → n < number_behind a (by_row m room a found) → times n (by_row m room a found) ≡ cond (is_some (row_in n cache)) 1 0
  within_by m room a n least none rest None here = moved (gives_from m room (a + 1)) (none room) (rest room)
    where
      moved : (l : List Numbered) → times a l ≡ 0 → (a + 1 ≤ n → n < number_behind (a + 1) l → times n l ≡ cond (is_some (row_in n cache)) 1 0) → n < number_behind a l → times n l ≡ cond (is_some (row_in n cache)) 1 0
      moved [] gone all high = absurd (omega (arith, least, high))
      moved (p ∷ ps) gone all high =
          let sum = apart a n None here least (p ∷ ps) gone (λ more. all more high) in
          let nothing : ◌≡◌ {A = ℕ} (cond (eqb a n) 0 0) 0 = elim (eqb a n) as (λ b. ◌≡◌ {A = ℕ} (cond b 0 0) 0) [ true ↦ refl | false ↦ refl ] in
          omega (arith, sum, nothing)
  within_by m room a n least none rest (Some row) here = split (ltb room (row_length row))
    where
      split : (b : Bool) → n < number_behind a (by_length m room a row b) → times n (by_length m room a row b) ≡ cond (is_some (row_in n cache)) 1 0
      split true high = absurd (omega (arith, least, high))
      split false high = times-more n (a, row) (gives_from m (room - row_length row) (a + 1)) ∙ apart a n (Some row) here least (gives_from m (room - row_length row) (a + 1)) (none (room - row_length row)) (λ more. rest (room - row_length row) more high)

  within : (fuel room a n : ℕ) → a ≤ n → n < number_behind a (gives_from fuel room a) → times n (gives_from fuel room a) ≡ cond (is_some (row_in n cache)) 1 0
  within zero room a n least high = absurd (omega (arith, least, high))
  within (suc m) room a n least high =
      within_by m room a n least (λ left. before m left (a + 1) a (omega arith)) (λ left more. within m left (a + 1) n more) (row_in a cache) refl high

  pub covers : (fuel room from : ℕ) → Covers cache from (gives_from fuel room from)
  covers fuel room from = record {
    each = within fuel room from;
    none_before = before fuel room from;
    none_behind = behind fuel room from;
  }

  -- where nothing is left, no number has a row
  none_by : (m a n : ℕ) → a ≤ n → (rows_from cache (a + 1) m ≡ [] → a + 1 ≤ n → row_in n cache ≡ None) → (found : Option Record) → row_in a cache ≡ found → with_row a found (rows_from cache (a + 1) m) ≡ [] → row_in n cache ≡ None
  none_by m a n least rest None here none = elim (cases_eq a n) [ inl same ↦ rw (← same) here | inr differ ↦ rest none (omega (arith, least, differ)) ]
  none_by m a n least rest (Some row) here none = absurd cc

  pub none_left : (fuel a n : ℕ) → a ≤ n → n < a + fuel → rows_from cache a fuel ≡ [] → row_in n cache ≡ None
  none_left zero a n least high none = absurd (omega (arith, least, high))
  none_left (suc m) a n least high none = none_by m a n least (λ left more. none_left m (a + 1) n more (omega (arith, high)) left) (row_in a cache) refl none
