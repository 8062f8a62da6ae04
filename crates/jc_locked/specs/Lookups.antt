-- What a session's lookups say of a key.
use Rattle.std.specs.Prelude.{◌≡◌, ℕ, Bool, true, List, Some}
use Rattle.jc_place.specs.Seeded.{seeded_place}
pub use Rattle.jc_index.specs.Lookups.{found_by, MayBeUnsure}
use Rattle.jc_index.specs.Lookups as lookups
use Rattle.jc_locked.specs.Sessions.{Sight}

-- where the last meeting succeeded and the last image tells, this is what it tells
abbrev pub Agrees : Sight → ℕ → List ℕ → ℕ → Bool → Type 0
Agrees pass id key now holds = pass.met ≡ true → (b : Bool) → found_by pass id key now ≡ Some b → holds ≡ b

-- a lookup has read the versions of the stripes of the key's buckets, and has checked the same ones
abbrev pub SessionReadsStripes : Sight → Sight → ℕ → List ℕ → Type 0
SessionReadsStripes old new id key = lookups.ReadsStripes seeded_place old new id key
