-- Which manager has a name, among several that are asked as a tree of pairs.
use Rattle.std.specs.Prelude.{◌≡◌, refl, ◌/◌, ◌%◌, ◌^◌, ◌<◌, ℕ, Bool, List, [], Option, Some, None, filter, map, length, get_or, position, eqb, not, AllPairs, ◌≢◌}
use Rattle.std.specs.Coded.{Coded, code_by, coded×, coded_list, coded_ℕ}
use Rattle.std.specs.Int.{to_le_bytes, w64}
use Rattle.std.specs.Hash.DefaultHasher as sip
use Rattle.std.specs.Str.{bytes_eq}
use Rattle.indexmap.specs.IndexSet.{insert_all, insert_key}
use Rattle.jc_model.specs.declared.config.CacheConfig.{CacheConfig}

-- of the seed and then the name
unfoldable pub hash_of : ℕ → List ℕ → ℕ
hash_of seed name = sip.finish (sip.write (sip.write sip.initial (to_le_bytes w64 seed)) name)

-- a dealing: its seed, and the names that go in turn, in their order
pub record Dealt : Type 0 where
  pub seed : ℕ
  pub turns : List (List ℕ)

pub dealt_code : Coded Dealt
dealt_code = code_by (ℕ × List (List ℕ)) (coded× coded_ℕ (coded_list (coded_list coded_ℕ))) (λ d. (d.seed, d.turns)) (λ p. record { seed = p.0; turns = p.1 }) (λ _. refl)

-- one by which no name goes in turn
abbrev pub by_hash : ℕ → Dealt
by_hash seed = record { seed = seed; turns = [] }

-- this name has the next turn, if it has none
abbrev pub with_turn : Dealt → List ℕ → Dealt
with_turn dealing name = record { seed = dealing.seed; turns = insert_key bytes_eq dealing.turns name }

-- the number of the name's turn; else its hash
abbrev pub number_of : Dealt → List ℕ → ℕ
number_of dealing name = at (position (bytes_eq name) dealing.turns) where
  at : Option ℕ → ℕ
  at (Some turn) = turn
  at None = hash_of dealing.seed name

-- bits that tell, from the lowest up, the half at each level
abbrev pub spread_of : Dealt → List ℕ → ℕ
spread_of dealing name = number_of dealing name % 2 ^ 32

abbrev pub goes_right : ℕ → Bool
goes_right spread = eqb (spread % 2) 1

abbrev pub is_right : Dealt → ℕ → List ℕ → Bool
is_right dealing level name = goes_right (spread_of dealing name / 2 ^ level)

-- the way to a name where all ways have so many levels
abbrev pub way_of : Dealt → ℕ → List ℕ → ℕ
way_of dealing levels name = spread_of dealing name % 2 ^ levels

abbrev pub names_of : List CacheConfig → List (List ℕ)
names_of configs = map (λ c. c.name) configs

-- the names of these caches go in turn, and no others
abbrev pub in_turn : ℕ → List CacheConfig → Dealt
in_turn seed configs = record { seed = seed; turns = insert_all bytes_eq [] (names_of configs) }

-- no two of these are the same
abbrev pub AreApart : List (List ℕ) → Type 0
AreApart names = AllPairs (λ x y. x ≢ y) names

-- the bits of each name are those of its number among these
abbrev pub GoInTurn : Dealt → List (List ℕ) → Type 0
GoInTurn dealing names = (n : ℕ) → n < length names → spread_of dealing (get_or names n []) ≡ n % 2 ^ 32

abbrev pub of_left : Dealt → ℕ → List CacheConfig → List CacheConfig
of_left dealing level configs = filter (λ config. not (is_right dealing level config.name)) configs

abbrev pub of_right : Dealt → ℕ → List CacheConfig → List CacheConfig
of_right dealing level configs = filter (λ config. is_right dealing level config.name) configs
