-- Where the keys of a handle's manager have their rows.
use Rattle.std.specs.Prelude.{ℕ, List, take, drop}
use Rattle.std.specs.Hash.DefaultHasher.{finish, write}
use Rattle.std.specs.Int.{from_le_bytes, to_le_bytes, w32, w64}
use Rattle.jc_place.specs.declared.keyed.KeyedState.{KeyedState}
use Rattle.jc_place.specs.declared.place.Place.{Place}
use Rattle.jc_place.specs.Keyed.{index_word, keyed_by, stash_word}
use Rattle.jc_place.specs.Place.{place_of_hash}
use Rattle.jc_place.specs.Seeded.{seeded_place}
use Rattle.jc_c.specs.declared.placer.FfiPlacer.{FfiPlacer}
use Rattle.jc_c.specs.declared.placer.FfiPlacer.TheVariants.{Secret, Seeded}

-- by a seed, or by a hash that has read a secret, over the cache's id and the key
abbrev pub placing_by : FfiPlacer → ℕ → List ℕ → Place
placing_by (Seeded seed) id key = seeded_place seed id key
placing_by (Secret state) id key = place_of_hash (finish (write (write state.initial (to_le_bytes w32 id)) key))

-- the hash of the index of the stash
abbrev pub keying_by : FfiPlacer → KeyedState
keying_by (Seeded seed) = keyed_by seed 0
keying_by (Secret state) = keyed_by (finish (write state.initial index_word)) (finish (write (write state.initial index_word) stash_word))

-- the placer of a secret of 16 bytes
abbrev pub secret_placer : List ℕ → FfiPlacer
secret_placer secret = Secret (keyed_by (from_le_bytes w64 (take 8 secret)) (from_le_bytes w64 (drop 8 secret)))
