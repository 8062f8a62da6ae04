-- What becomes of two halves, by what becomes of each.
use Rattle.std.specs.Prelude.{◌≡◌, ◌/◌, ℕ, Bool, true, false, Option, Some, None, Result, Ok, Err}
use Rattle.std.specs.declared.alloc.AllocError.{AllocError}
use Rattle.jc_shards.specs.declared.pair.Pair.{Pair}
use Rattle.jc_shards.specs.declared.side.Side.{Side}
use Rattle.jc_shards.specs.declared.side.Side.TheVariants.{Left, Right}
use Rattle.jc_shards.specs.Dealing.{goes_right}

-- it happens in the half that has the cache, and the other half is as it was
abbrev pub InHalf : {A B I J : Type 0} → (A → A → I → Type 0) → (B → B → J → Type 0) → Pair A B → Pair A B → Side I J → Type 0
InHalf at_left at_right old new (Left id) = at_left old.left new.left id × (new.right ≡ old.right)
InHalf at_left at_right old new (Right id) = at_right old.right new.right id × (new.left ≡ old.left)

-- of two results the first that is an error
abbrev pub first_error : Result (Unit {0}) AllocError → Result (Unit {0}) AllocError → Result (Unit {0}) AllocError
first_error (Ok done) other = other
first_error (Err why) other = Err why

-- it happens in both halves
pub record InBoth {A B : Type 0} (at_left : A → A → Result (Unit {0}) AllocError → Type 0) (at_right : B → B → Result (Unit {0}) AllocError → Type 0) (old new : Pair A B) (result : Result (Unit {0}) AllocError) : Type 0 where
  pub left : Result (Unit {0}) AllocError
  pub right : Result (Unit {0}) AllocError
  pub is_left : at_left old.left new.left left
  pub is_right : at_right old.right new.right right
  pub is_both : result ≡ first_error left right

abbrev pub of_half : Bool → Type 0 → Type 0 → Type 0
of_half false left right = left
of_half true left right = right

-- a cache is found in the half of its name, or is not there
abbrev pub IsFoundInHalf : {I J : Type 0} → (ℕ → Option I → Type 0) → (ℕ → Option J → Type 0) → ℕ → Option (Side I J) → Type 0
IsFoundInHalf left right spread None = of_half (goes_right spread) (left (spread / 2) None) (right (spread / 2) None)
IsFoundInHalf left right spread (Some (Left id)) = (goes_right spread ≡ false) × left (spread / 2) (Some id)
IsFoundInHalf left right spread (Some (Right id)) = (goes_right spread ≡ true) × right (spread / 2) (Some id)

-- and is created there, or refused
abbrev pub IsMadeInHalf : {I J E : Type 0} → (ℕ → Result I E → Type 0) → (ℕ → Result J E → Type 0) → ℕ → Result (Side I J) E → Type 0
IsMadeInHalf left right spread (Err why) = of_half (goes_right spread) (left (spread / 2) (Err why)) (right (spread / 2) (Err why))
IsMadeInHalf left right spread (Ok (Left id)) = (goes_right spread ≡ false) × left (spread / 2) (Ok id)
IsMadeInHalf left right spread (Ok (Right id)) = (goes_right spread ≡ true) × right (spread / 2) (Ok id)
