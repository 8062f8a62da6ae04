-- A function of the numbers, as the list of all numbers given.
use Rattle.std.proofs.Common.{◌≡◌, ◌≢◌, ℕ, zero, suc, ◌+◌, ◌<◌, ltb, nat_eq, if◌then◌else◌, List, [], ◌∷◌, ◌++◌, length, slice_set, Option, Some, None, inl, inr, refl, sym, ◌∙◌, ap, ap₂, arith}
pub use Rattle.jc_engine.specs.Sound.{Puts}
use Rattle.jc_engine.proofs.Names.{cases_lt, nat_tests, set_at, set-append_left, length_push, at_place, none_before, places_of, NoneFrom}

pub length-places : {A : Type 0} (f : ℕ → Option A) (n : ℕ) → length (places_of f n) ≡ n
length-places f zero = refl
length-places f (suc n) = let before = length-places f n in let longer = length_push (places_of f n) (f n) in omega arith

at_push : {A : Type 0} (xs : List (Option A)) (y : Option A) (i : ℕ) → at_place (xs ++ y ∷ []) i ≡ (if nat_eq i (length xs) then y else at_place xs i)
at_push [] y zero = refl
at_push [] y (suc i) = grind (arith, nat_tests)
at_push (x ∷ xs) y zero = grind (arith, nat_tests)
at_push (x ∷ xs) y (suc i) = grind (arith, nat_tests, at_push xs y i)

place_at : {A : Type 0} (f : ℕ → Option A) (n i : ℕ) → at_place (places_of f n) i ≡ (if ltb i n then f i else None)
place_at f zero i = grind (arith, nat_tests)
place_at f (suc n) i = grind (arith, nat_tests, at_push (places_of f n) (f n) i, length-places f n, place_at f n i)

-- what is at a number, where nothing is beyond the last
pub at-places : {A : Type 0} (f : ℕ → Option A) (n i : ℕ) → NoneFrom n f → at_place (places_of f n) i ≡ f i
at-places f n i none = grind (arith, nat_tests, place_at f n i, none i)

pub below-places : {A : Type 0} (f : ℕ → Option A) (n i : ℕ) (x : A) → NoneFrom n f → f i ≡ Some x → i < n
below-places f n i x none is = grind (arith, none i)

-- functions that agree below n
same-places : {A : Type 0} (f g : ℕ → Option A) (n : ℕ) → ((i : ℕ) → i < n → f i ≡ g i) → places_of f n ≡ places_of g n
same-places f g zero agree = refl
same-places f g (suc n) agree = ap₂ (λ xs x. xs ++ x ∷ []) (same-places f g n (λ i below. agree i (omega arith))) (agree n (omega arith))

-- none at all
pub none-places : {A : Type 0} (f : ℕ → Option A) (n : ℕ) → ((i : ℕ) → f i ≡ None) → places_of f n ≡ none_before n []
none-places f zero none = refl
none-places f (suc n) none = ap₂ (λ xs x. xs ++ x ∷ []) (none-places f n none) (none n) ∙ more n
  where
    more : {A : Type 0} (n : ℕ) → none_before {A = A} n [] ++ None ∷ [] ≡ None ∷ none_before n []
    more zero = refl
    more (suc n) = ap (λ xs. None ∷ xs) (more n)

-- What a map's updates make of it: g is f but for one number.

module _ {A : Type 0} (f g : ℕ → Option A) (i : ℕ) (w : Option A) (puts : Puts f i w g) where
  pub put_here : g i ≡ w
  put_here = grind (arith, nat_tests, puts i)

  pub put_other : (j : ℕ) → j ≢ i → g j ≡ f j
  put_other j differ = grind (arith, nat_tests, puts j)

  pub places_put : (n : ℕ) → i < n → places_of g n ≡ slice_set (places_of f n) i w
  places_put zero below = absurd (omega arith)
  places_put (suc n) below = elim (cases_lt i n) [
    | inl less ↦ ap₂ (λ xs x. xs ++ x ∷ []) (places_put n less) (put_other n (λ e. omega (arith, less, e))) ∙ sym (set-append_left (places_of f n) (f n ∷ []) i w (omega (arith, less, length-places f n)))
    | inr above ↦ (let same : n ≡ i = omega (arith, below, above) in
        ap₂ (λ xs x. xs ++ x ∷ []) (same-places g f n (λ j less. put_other j (λ e. omega (arith, less, e, same)))) (ap g same ∙ put_here) ∙ sym (set_at (places_of f n) (f n) [] w i (length-places f n ∙ same)))
  ]

  pub places_more : places_of g (i + 1) ≡ places_of f i ++ w ∷ []
  places_more =
      let more : i + 1 ≡ suc i = omega arith in
      ap (places_of g) more ∙ ap₂ (λ xs x. xs ++ x ∷ []) (same-places g f i (λ j below. put_other j (λ e. omega arith))) put_here

  pub none_put : (n : ℕ) → i < n → NoneFrom n f → NoneFrom n g
  none_put n below none j above = put_other j (λ e. omega arith) ∙ none j above

-- the number by another name
pub puts_for : {A : Type 0} (f g : ℕ → Option A) {number i : ℕ} (w : Option A) → number ≡ i → Puts f number w g → Puts f i w g
puts_for f g w is puts = rw is at puts

-- what is put, the number and the function by others that are the same
pub puts_same : {A : Type 0} (f f' g : ℕ → Option A) (number i : ℕ) (w w' : Option A) → ((q : ℕ) → f' q ≡ f q) → number ≡ i → w ≡ w' → Puts f' number w g → Puts f i w' g
puts_same f f' g number i w w' same is is' puts q = grind (arith, nat_tests, puts q, same q)
