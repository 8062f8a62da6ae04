-- Lists by number: each number is a place, where something stands or nothing does.
use Rattle.std.specs.Prelude.{◌≡◌, ℕ, zero, suc, ◌+◌, false, if◌then◌else◌, List, [], ◌∷◌, slice_get, ⊤}
use Rattle.std.specs.Prelude.{Option, Some, None}
use Rattle.std.specs.Str.{bytes_eq}

abbrev pub there : {A : Type 0} → Option (Option A) → Option A
there None = None
there (Some place) = place

abbrev pub at_place : {A : Type 0} → List (Option A) → ℕ → Option A
at_place xs i = there (slice_get xs i)

-- what is there, in order of number
abbrev pub all_there : {A : Type 0} → List (Option A) → List A
all_there [] = []
all_there (None ∷ xs) = all_there xs
all_there (Some x ∷ xs) = x ∷ all_there xs

-- so many empty places before these
abbrev pub none_before : {A : Type 0} → ℕ → List (Option A) → List (Option A)
none_before zero xs = xs
none_before (suc n) xs = None ∷ none_before n xs

module _ {A : Type 0} (name_of : A → List ℕ) (name : List ℕ) where
  -- nothing there has this name
  abbrev pub LacksName : List (Option A) → Type 0
  LacksName [] = ⊤
  LacksName (None ∷ xs) = LacksName xs
  LacksName (Some x ∷ xs) = (bytes_eq (name_of x) name ≡ false) × LacksName xs

  -- the number of what has this name, the first place having number i
  abbrev pub named_from : ℕ → List (Option A) → Option ℕ
  named_from i [] = None
  named_from i (None ∷ xs) = named_from (i + 1) xs
  named_from i (Some x ∷ xs) = if bytes_eq (name_of x) name then Some i else named_from (i + 1) xs

-- no two have one name
abbrev pub HaveNames : {A : Type 0} → (A → List ℕ) → List (Option A) → Type 0
HaveNames name_of [] = ⊤
HaveNames name_of (None ∷ xs) = HaveNames name_of xs
HaveNames name_of (Some x ∷ xs) = LacksName name_of (name_of x) xs × HaveNames name_of xs
