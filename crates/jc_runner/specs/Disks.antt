-- What a disk states of its paths.
use Rattle.std.specs.Prelude.{◌≡◌, ◌⊎◌, ℕ, List, [], ◌∷◌, ◌++◌, Option, Some, None, ⊤}

-- a file that was opened, by what its path holds
abbrev pub IsFileFound : Option (Option (List ℕ)) → Option (List ℕ) → Type 0
IsFileFound None left = ⊤
IsFileFound (Some None) left = ⊥
IsFileFound (Some (Some bytes)) left = left ≡ Some bytes

-- a path that does not open
abbrev pub MayBeMissing : Option (Option (List ℕ)) → Type 0
MayBeMissing (Some (Some bytes)) = ⊥
MayBeMissing _ = ⊤

-- how a file fails to open: its path can't be read, or memory is wanting
abbrev pub FailsToOpen : {E : Type 0} → E → E → Option (Option (List ℕ)) → E → Type 0
FailsToOpen unreadable memory held fault = ((fault ≡ unreadable) × MayBeMissing held) ⊎ (fault ≡ memory)

-- this was asked for next
abbrev pub AsksForPath : Option (List (List ℕ)) → Option (List (List ℕ)) → List ℕ → Type 0
AsksForPath None None path = ⊤
AsksForPath (Some old) (Some new) path = new ≡ old ++ path ∷ []
AsksForPath _ _ path = ⊥
