-- The index of the stash: where each row stands, and for how many more it has room.
use Rattle.std.specs.Prelude.{◌≡◌, ◌≢◌, ◌*◌, ◌≤◌, ℕ, ◌&&◌, Bool, List, Option, Some, None, length, nat_eq}
use Rattle.std.specs.Option.{option_map}
use Rattle.std.specs.Str.{bytes_eq}
use Rattle.std.specs.HashMap.{get, hasher_of, spare}
use Rattle.jc_place.specs.declared.keyed.KeyedState.{KeyedState}
use Rattle.jc_cuckoo.specs.declared.held.Held.{Held}
use Rattle.jc_cuckoo.specs.declared.index.StashIndex.{StashIndex}
use Rattle.jc_cuckoo.specs.Cells.{IsFoundBetween, cell, held_place}

abbrev pub same_place : ℕ × List ℕ → ℕ × List ℕ → Bool
same_place a b = nat_eq a.0 b.0 && bytes_eq a.1 b.1

-- where a place's row stands
abbrev pub cell_in_stash : StashIndex → ℕ × List ℕ → Option ℕ
cell_in_stash index place = option_map (λ arrival. arrival.at) (get same_place index.arrivals place)

-- it tells of no place
abbrev pub IsOfNone : StashIndex → Type 0
IsOfNone index = (place : ℕ × List ℕ) → cell_in_stash index place ≡ None

-- by what it hashes its keys
abbrev pub index_hasher : StashIndex → KeyedState
index_hasher index = hasher_of index.arrivals

-- it tells the same, by the same hash
pub record IsAsBefore (before after : StashIndex) : Type 0 where
  pub hasher : index_hasher after ≡ index_hasher before
  pub same : (place : ℕ × List ℕ) → cell_in_stash after place ≡ cell_in_stash before place

-- it tells the same of each other place, by the same hash
pub record IsElsewhereAsBefore (changed : ℕ × List ℕ) (before after : StashIndex) : Type 0 where
  pub hasher : index_hasher after ≡ index_hasher before
  pub same : (place : ℕ × List ℕ) → place ≢ changed → cell_in_stash after place ≡ cell_in_stash before place

-- how many more rows it can take without memory
abbrev pub index_room : StashIndex → ℕ
index_room index = spare index.arrivals

-- under this hash it tells of each row of the stash where it stands, and of nothing else
pub record IsIndexed (keyed : KeyedState) (buckets : ℕ) (cells : List (Option Held)) (index : StashIndex) : Type 0 where
  pub hasher : index_hasher index ≡ keyed
  pub stashed : (i : ℕ) (h : Held) → 4 * buckets ≤ i → cell cells i ≡ Some h → cell_in_stash index (held_place h) ≡ Some i
  pub listed : (place : ℕ × List ℕ) (i : ℕ) → cell_in_stash index place ≡ Some i → IsFoundBetween cells (4 * buckets) (length cells) place i
