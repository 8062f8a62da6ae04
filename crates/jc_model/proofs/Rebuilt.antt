-- The fields of a roster give its list back.
use Rattle.std.proofs.Common.{◌≡◌, ℕ, suc, ◌+◌, ◌≤◌, Bool, true, false, if◌then◌else◌, List, [], ◌∷◌, map, length, Option, Some, None, refl, ◌∙◌, ap, arith}
use Rattle.std.specs.Prelude.{◌==◌, slice_get}
use Rattle.std.proofs.lemmas.Bool.Decides.{nat_tests}
use Rattle.jc_model.specs.Places.{all_there}
use Rattle.jc_model.specs.Members.{members, numbers_from}
use Rattle.jc_model.specs.Fields.{spread}
use Rattle.jc_model.proofs.Listing.{at_least}
use Rattle.jc_model.specs.Refusals.{Member}

same_number : (i : ℕ) → (i == i) ≡ true
same_number i = grind (arith, nat_tests)

-- a number that comes later leaves its place empty
later : {A : Type 0} (n i : ℕ) (numbers : List ℕ) (xs : List A) → ((k : ℕ) → slice_get numbers 0 ≡ Some k → i + 1 ≤ k) → spread (suc n) i numbers xs ≡ None ∷ spread n (i + 1) numbers xs
later n i [] xs above = refl
later n i (k ∷ numbers) [] above = refl
later n i (k ∷ numbers) (x ∷ xs) above =
    let less : i + 1 ≤ k = above k refl in
    let other : (k == i) ≡ false = grind (arith, nat_tests) in
    ap (λ (b : Bool). if b then Some x ∷ spread n (i + 1) numbers xs else None ∷ spread n (i + 1) (k ∷ numbers) (x ∷ xs)) other

pub rebuilt : {A : Type 0} (i : ℕ) (xs : List (Option A)) → spread (length xs) i (numbers_from i xs) (all_there xs) ≡ xs
rebuilt i [] = refl
rebuilt i (None ∷ xs) =
    later (length xs) i (numbers_from (i + 1) xs) (all_there xs) (λ k first. at_least (i + 1) xs 0 k first)
    ∙ ap (λ l. None ∷ l) (rebuilt (i + 1) xs)
rebuilt i (Some x ∷ xs) =
    ap (λ (b : Bool). if b then Some x ∷ spread (length xs) (i + 1) (numbers_from (i + 1) xs) (all_there xs) else None ∷ spread (length xs) (i + 1) (i ∷ numbers_from (i + 1) xs) (x ∷ all_there xs)) (same_number i)
    ∙ ap (λ l. Some x ∷ l) (rebuilt (i + 1) xs)

pub members-apart : (ms : List Member) → members (map (λ m. m.name) ms) (map (λ m. m.capacity) ms) ≡ ms
members-apart [] = refl
members-apart (m ∷ ms) = ap (λ l. m ∷ l) (members-apart ms)
