-- The entries of a cache, by the keys of its rows.
use Rattle.std.specs.Prelude.{ℕ, if◌then◌else◌, List, [], ◌∷◌, ◌++◌, Option, Some, None}
use Rattle.jc_model.specs.Changes.{Progress}
use Rattle.jc_model.specs.State.{Item, row_of, is_live}
use Rattle.jc_model.specs.Whole.{touch_each}
use Rattle.jc_ops.specs.Visited.{Visited}
use Rattle.jc_bulk.specs.Tallied.{pushed}

-- the key's value, if it has a live row
abbrev pub live_value : ℕ → List ℕ → List Item → Option (List ℕ)
live_value now k ring = elim (row_of k ring) [ None ↦ None | Some x ↦ if is_live now x then Some x.value else None ]

-- of these keys those with a live row, with their values
abbrev pub listed : ℕ → List Item → List (List ℕ) → List (List ℕ × List ℕ)
listed now ring [] = []
listed now ring (k ∷ ks) = pushed [] k (live_value now k ring) ++ listed now ring ks

-- where the key has a live row, it has been used, with a hit
abbrev pub touched : Visited → List ℕ → Progress → Progress
touched v k p = elim (row_of k p.state.ring) [ None ↦ p | Some x ↦ touch_each v.cache.config v.moment (x ∷ []) p ]

-- so of each of these keys, in their order
abbrev pub all_touched : Visited → List (List ℕ) → Progress → Progress
all_touched v [] p = p
all_touched v (k ∷ ks) p = all_touched v ks (touched v k p)
