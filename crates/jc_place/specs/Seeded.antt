-- Places by FNV-1a of 64 bits.
use Rattle.std.specs.Prelude.{ℕ, ◌*◌, ◌%◌, ◌^◌, List, ◌++◌, fold, bit_xor}
use Rattle.std.specs.Int.{to_le_bytes, w32}
use Rattle.jc_place.specs.declared.place.Place.{Place}
use Rattle.jc_place.specs.Place.{place_of_hash}

-- one byte more
abbrev pub fnv_step : ℕ → ℕ → ℕ
fnv_step hash byte = (bit_xor hash byte * 0x100000001b3) % 2 ^ 64

-- the hash of a cache's id, in four bytes, the low byte first, and then of the key's bytes
unfoldable pub seeded_hash : ℕ → ℕ → List ℕ → ℕ
seeded_hash seed id key = fold fnv_step (bit_xor 0xcbf29ce484222325 seed) (to_le_bytes w32 id ++ key)

abbrev pub seeded_place : ℕ → ℕ → List ℕ → Place
seeded_place seed id key = place_of_hash (seeded_hash seed id key)
