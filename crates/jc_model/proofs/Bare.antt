-- What managing alone decides: creating and destroying follow from the configurations of the live caches, whatever calls come between.
use Rattle.std.proofs.lemmas.Grind.{common_steps}
use Rattle.std.proofs.Common.{arith}
use Rattle.jc_model.proofs.Names.{List, None, Some, [], ap, map, refl, suc, zero, ℕ, ◌∷◌, ◌≡◌, option_map, slice_set, CacheConfig, Outcome, Lives, Status}
use Rattle.jc_model.proofs.Names.{create_refusal, destroys, lives_by, member_of, members_of, opened, refusal_beside}

-- the configurations of the live caches alone: each as it is opened
abbrev pub bare_one : Status → Status
bare_one k = opened k.config

abbrev pub bare : Lives → Lives
bare lives = map (option_map bare_one) lives

same_members : (lives : Lives) → members_of (bare lives) ≡ members_of lives
same_members [] = refl
same_members (None ∷ lives) = ap (λ ms. None ∷ ms) (same_members lives)
same_members (Some k ∷ lives) = ap (λ ms. Some (member_of k.config) ∷ ms) (same_members lives)

-- creating is refused or not by the configurations alone
pub create_refusal-bare : (lives : Lives) (c : CacheConfig) → create_refusal (bare lives) c ≡ create_refusal lives c
create_refusal-bare lives c = ap (λ ms. refusal_beside ms c) (same_members lives)

map_set : {A B : Type 0} (f : A → B) (xs : List A) (i : ℕ) (y : A) → map f (slice_set xs i y) ≡ slice_set (map f xs) i (f y)
map_set f [] i y = refl
map_set f (x ∷ xs) zero y = refl
map_set f (x ∷ xs) (suc i) y = ap (λ zs. f x ∷ zs) (map_set f xs i y)

-- destroying changes them as it would without calls
pub destroyed-bare : (lives : Lives) (id : ℕ) (o : Outcome) → bare (lives_by lives (destroys id) o) ≡ lives_by (bare lives) (destroys id) o
destroyed-bare lives id o = grind (arith, common_steps, map_set)
