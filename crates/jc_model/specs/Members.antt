-- What is known of live caches, by number.
use Rattle.std.specs.Prelude.{◌≡◌, ℕ, ◌+◌, List, [], ◌∷◌, ◌++◌}
use Rattle.std.specs.Prelude.{Option, Some, None}
use Rattle.jc_model.specs.Places.{named_from}
use Rattle.jc_model.specs.Refusals.{Member}

abbrev pub members : List (List ℕ) → List ℕ → List Member
members [] capacities = []
members (name ∷ names) [] = []
members (name ∷ names) (capacity ∷ capacities) = record { name = name; capacity = capacity } ∷ members names capacities

-- a live cache more, under the next number
abbrev pub AddsMember : List ℕ → ℕ → List (Option Member) → List (Option Member) → Type 0
AddsMember name capacity old new = new ≡ old ++ Some (record { name = name; capacity = capacity }) ∷ []

abbrev pub id_named : List ℕ → List (Option Member) → Option ℕ
id_named name ms = named_from (λ m. m.name) name 0 ms

-- the numbers of what is there, the first place having number i
abbrev pub numbers_from : {A : Type 0} → ℕ → List (Option A) → List ℕ
numbers_from i [] = []
numbers_from i (None ∷ xs) = numbers_from (i + 1) xs
numbers_from i (Some x ∷ xs) = i ∷ numbers_from (i + 1) xs
