-- What the table of rows holds.
use Rattle.std.specs.Prelude.{ℕ, ◌+◌, ◌<◌, ◌≤◌, List, Option, Some, None, option_map}
use Rattle.std.specs.declared.cmp.Ordering.{Ordering}
use Rattle.std.specs.Ordering.{nat_cmp, ordering_then}
use Rattle.std.specs.Cmp.Lexicographic.{slice_cmp}
use Rattle.std.specs.FinMap as map
use Rattle.jc_model.specs.declared.config.Expiry.{Expiry}

-- a place is a cache and the bytes of a key: in order of the cache, and then of the key
abbrev pub place_cmp : ℕ × List ℕ → ℕ × List ℕ → Ordering
place_cmp x y = ordering_then (nat_cmp x.0 y.0) (slice_cmp nat_cmp x.1 y.1)

-- from a place to a row number and an expiry
abbrev pub RowMap : Type 0
RowMap = map.FinMap place_cmp (ℕ × Expiry)

-- the number of the row at a place, if there is one
abbrev pub number_at : RowMap → ℕ × List ℕ → Option ℕ
number_at m place = option_map (λ row. row.0) (map.get m place)

-- so many rows in all fit, where there is room for this many more
abbrev pub HasRoomForRows : ℕ → RowMap → ℕ → Type 0
HasRoomForRows n m spare = n ≤ map.len m + spare

-- or do not
abbrev pub LacksRoomForRows : ℕ → RowMap → ℕ → Type 0
LacksRoomForRows n m spare = map.len m + spare < n

-- the map, where the row found at a place has another expiry
abbrev pub with_expiry_at : RowMap → ℕ × List ℕ → Expiry → Option (ℕ × Expiry) → RowMap
with_expiry_at m place expiry None = m
with_expiry_at m place expiry (Some row) = map.insert m place (row.0, expiry)

-- a row keeps its number and has another expiry
abbrev pub with_expiry : RowMap → ℕ × List ℕ → Expiry → RowMap
with_expiry m place expiry = with_expiry_at m place expiry (map.get m place)
