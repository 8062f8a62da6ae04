-- Tests of all values.
use Rattle.std.proofs.Common.{◌≡◌, ℕ, Bool, true, ◌&&◌, List, [], ◌∷◌, map, None, refl, ap}
use Rattle.std.specs.List.{list_all}
use Rattle.jc_c.specs.Desks.{is_taken}

-- where there is no desk, all are taken
pub all_taken : (pairs : List (List ℕ × List ℕ)) → list_all (λ p. is_taken None p.1) pairs ≡ true
all_taken [] = refl
all_taken (p ∷ pairs) = all_taken pairs

-- a test of what is made of each
pub all_mapped : {A B : Type 0} (test : B → Bool) (h : A → B) (xs : List A) → list_all test (map h xs) ≡ list_all (λ x. test (h x)) xs
all_mapped test h [] = refl
all_mapped test h (x ∷ xs) = ap (λ b. test (h x) && b) (all_mapped test h xs)
