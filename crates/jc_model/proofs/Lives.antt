-- The list of lives: what stands at an id after each change.
use Rattle.std.proofs.lemmas.Grind.{common_steps}
use Rattle.jc_model.proofs.Names.{◌≡◌, ◌≢◌, ℕ, ◌<◌, zero, suc, List, [], ◌∷◌, ◌++◌, length, Option, Some, refl, ap, arith, slice_get, slice_set, Status, Lives, at_place, there}

pub at_same : {A : Type 0} (xs : List A) (i : ℕ) (x y : A) → slice_get xs i ≡ Some x → slice_get (slice_set xs i y) i ≡ Some y
at_same [] i x y e = absurd (cc)
at_same (a ∷ xs) zero x y e = refl
at_same (a ∷ xs) (suc i) x y e = at_same xs i x y e

pub at_other : {A : Type 0} (xs : List A) (i j : ℕ) (y : A) → i ≢ j → slice_get (slice_set xs i y) j ≡ slice_get xs j
at_other [] i j y differ = refl
at_other (a ∷ xs) zero zero y differ = absurd (differ refl)
at_other (a ∷ xs) zero (suc j) y differ = refl
at_other (a ∷ xs) (suc i) zero y differ = refl
at_other (a ∷ xs) (suc i) (suc j) y differ = at_other xs i j y (λ e. differ (ap suc e))

pub same_length : {A : Type 0} (xs : List A) (i : ℕ) (y : A) → length (slice_set xs i y) ≡ length xs
same_length xs i y = grind (arith, common_steps)

pub length_one_more : {A : Type 0} (xs : List A) (y : A) → length (xs ++ y ∷ []) ≡ suc (length xs)
length_one_more xs y = grind (arith, common_steps)

pub live_within : (lives : Lives) (i : ℕ) (k : Status) → at_place lives i ≡ Some k → i < length lives
live_within [] i k at = absurd (cc)
live_within (l ∷ lives) zero k at = omega arith
live_within (l ∷ lives) (suc i) k at = let below : i < length lives = live_within lives i k at in omega arith

pub live_same : (lives : Lives) (i : ℕ) (k : Status) (l : Option Status) → at_place lives i ≡ Some k → at_place (slice_set lives i l) i ≡ l
live_same [] i k l at = absurd (cc)
live_same (x ∷ lives) zero k l at = refl
live_same (x ∷ lives) (suc i) k l at = live_same lives i k l at

pub live_other : (lives : Lives) (i j : ℕ) (l : Option Status) → i ≢ j → at_place (slice_set lives i l) j ≡ at_place lives j
live_other lives i j l differ = ap there (at_other lives i j l differ)

pub live_last : (lives : Lives) (l : Option Status) → at_place (lives ++ l ∷ []) (length lives) ≡ l
live_last [] l = refl
live_last (x ∷ lives) l = live_last lives l

pub live_before : (lives : Lives) (l : Option Status) (i : ℕ) → length lives ≢ i → at_place (lives ++ l ∷ []) i ≡ at_place lives i
live_before [] l zero differ = absurd (differ refl)
live_before [] l (suc i) differ = refl
live_before (x ∷ lives) l zero differ = refl
live_before (x ∷ lives) l (suc i) differ = live_before lives l i (λ e. differ (ap suc e))
