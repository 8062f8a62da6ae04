-- The hash of an index of keys beside the buckets.
use Rattle.std.specs.Prelude.{ℕ, List, [], ◌∷◌}
use Rattle.std.specs.Int.{to_le_bytes, w64}
use Rattle.std.specs.Hash.DefaultHasher.{initial, write}
use Rattle.jc_place.specs.declared.keyed.KeyedState.{KeyedState}

-- hashers that have read two numbers, each in eight bytes, the low byte first
abbrev pub keyed_by : ℕ → ℕ → KeyedState
keyed_by first second = record { initial = write (write initial (to_le_bytes w64 first)) (to_le_bytes w64 second) }

-- what a secret's hasher reads for the first number ..
abbrev pub index_word : List ℕ
index_word = 105 ∷ 110 ∷ 100 ∷ 101 ∷ 120 ∷ []

-- .. and behind it for the second
abbrev pub stash_word : List ℕ
stash_word = 115 ∷ 116 ∷ 97 ∷ 115 ∷ 104 ∷ []
