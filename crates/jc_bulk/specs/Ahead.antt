-- The steps that are ahead of a call, on a visit.
use Rattle.std.specs.Prelude.{◌≡◌, ◌+◌, ◌≤◌, ℕ, true, List, [], ◌∷◌, length, Option, Some, None}
use Rattle.jc_model.specs.declared.call.KeyCall.{KeyCall}
use Rattle.jc_model.specs.Run.{Run, Awaited}
use Rattle.jc_model.specs.Suspended.{KeyWait, one, many}
use Rattle.jc_model.specs.Whole.{each}
use Rattle.jc_ops.specs.Kept.{items_of}
use Rattle.jc_ops.specs.Visited.{Visited, HasPlacesIn, progress_in}
use Rattle.jc_ops.specs.Supply.{most_told_in, HasPlacesFor}
use Rattle.jc_bulk.specs.declared.bulk.Ahead.{Ahead}
use Rattle.jc_bulk.specs.declared.bulk.Provided.{Provided}
use Rattle.jc_bulk.specs.Provided.{calls_in, keys_in, any_creates, places_for, AreCovered, IsAhead, IsReady}
use Rattle.jc_bulk.specs.Tallied.{sum_of}
use Rattle.jc_bulk.specs.Waits.{Waits}

-- their calls
abbrev pub calls_ahead : Ahead → List KeyCall
calls_ahead a = calls_in a.rest.items

-- what needs no look at the cache, where they are behind a step on this key
abbrev pub IsAheadOf : List ℕ → Ahead → Type 0
IsAheadOf key a = IsAhead (key ∷ keys_in (calls_ahead a)) (calls_ahead a) a.sum a.needs

-- places for their notices
abbrev pub places_ahead : Ahead → ℕ
places_ahead a = places_for a.needs.tells (length a.rest.items)

-- each has its values
abbrev pub AreCoveredIn : Visited → List Provided → Type 0
AreCoveredIn v ps = AreCovered v.cache.config (items_of v.cache.cells) ps

-- and all that they may need is there
abbrev pub AreReady : Visited → Ahead → Type 0
AreReady v a = IsReady v.cache.config (items_of v.cache.cells) v.noted v.spare a.rest.items a.sum a.needs

-- their run
abbrev pub ahead_run : Visited → Ahead → Run
ahead_run v a = each v.cache.config v.moment (calls_ahead a) (sum_of a.sum) (progress_in v)

-- the table has room for the rows that steps may add
abbrev pub HasRoomForSteps : List KeyCall → ℕ → Type 0
HasRoomForSteps calls spare = any_creates calls ≡ true → length calls ≤ spare

-- Of a call whose step waits, from that step on. A call on this one key has no steps ahead.

-- the call, with what it awaits
abbrev pub waits_of : Awaited → KeyWait → Option Ahead → Waits
waits_of awaits w None = record { awaits = awaits; wait = one w; stock = [] }
waits_of awaits w (Some a) = record { awaits = awaits; wait = many (record { key = w; rest = calls_ahead a; sum = sum_of a.sum }); stock = a.rest.items }

-- places for all notices
abbrev pub HasPlacesFrom : KeyWait → Option Ahead → Visited → Type 0
HasPlacesFrom w None v = HasPlacesFor w.call v
HasPlacesFrom w (Some a) v = HasPlacesIn (places_ahead a + most_told_in v w.call) v

-- the table has room for the rows that the steps may add
abbrev pub HasRoomFrom : Option Ahead → ℕ → Type 0
HasRoomFrom None spare = Unit {0}
HasRoomFrom (Some a) spare = a.needs.adds ≡ true → length a.rest.items + 1 ≤ spare
