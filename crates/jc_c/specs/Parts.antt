-- What is read of what was shown last.
use Rattle.std.specs.Prelude.{ℕ, length, slice_get, Result, Ok, Err, List}
use Rattle.std.specs.Prelude.{Option, Some, None}
use Rattle.jc_model.specs.declared.event.Outcome.{Outcome}
use Rattle.jc_engine.specs.Caches.{Cache, id_of}
use Rattle.jc_c.specs.declared.items.Part.{Part}
use Rattle.jc_c.specs.declared.items.Part.TheVariants as part
use Rattle.jc_c.specs.declared.status.Fault.{Fault}
use Rattle.jc_c.specs.declared.status.Status.{Status}
use Rattle.jc_c.specs.declared.status.Status.TheVariants.{Done, NoItem, NoSuchCache}
use Rattle.jc_c.specs.Status.{fault_status}
use Rattle.jc_c.specs.Items.{Bytes, ShownItem, items_shown, numbers_of, copy_status}

abbrev pub item_part : Part → ShownItem → Bytes
item_part part.Key x = x.key
item_part part.Value x = x.value
item_part part.Before x = x.before
item_part part.Argument x = x.argument

abbrev pub part_in : Part → Option ShownItem → Bytes
part_in p None = None
part_in p (Some x) = item_part p x

-- of the item at a place
abbrev pub part_at : Part → ℕ → Outcome → Bytes
part_at p place outcome = part_in p (slice_get (items_shown outcome) place)

-- of a cache that may be none
abbrev pub part_shown : Part → ℕ → Option Outcome → Bytes
part_shown p place None = None
part_shown p place (Some outcome) = part_at p place outcome

abbrev pub part_status : Part → ℕ → ℕ → Option Outcome → Status
part_status p place room None = NoSuchCache
part_status p place room (Some outcome) = copy_status (part_at p place outcome) room

abbrev pub count_shown : ℕ → Option Outcome → ℕ
count_shown before None = before
count_shown before (Some outcome) = length (items_shown outcome)

abbrev pub count_status : Option Outcome → Status
count_status None = NoSuchCache
count_status (Some outcome) = Done

-- a number that is there, or the one that was
abbrev pub or_before : ℕ → Option ℕ → ℕ
or_before before None = before
or_before before (Some n) = n

abbrev pub status_there : Status → Option ℕ → Status
status_there missing None = missing
status_there missing (Some n) = Done

abbrev pub number_shown : ℕ → Option Outcome → Option ℕ
number_shown place None = None
number_shown place (Some outcome) = slice_get (numbers_of outcome) place

abbrev pub number_status : ℕ → Option Outcome → Status
number_status place None = NoSuchCache
number_status place (Some outcome) = status_there NoItem (slice_get (numbers_of outcome) place)

-- the live cache of a name that bytes say
abbrev pub cache_found : Result (List ℕ) Fault → List (Option Cache) → Option ℕ
cache_found (Ok name) caches = id_of name caches
cache_found (Err fault) caches = None

abbrev pub find_status : Result (List ℕ) Fault → List (Option Cache) → Status
find_status (Ok name) caches = status_there NoSuchCache (id_of name caches)
find_status (Err fault) caches = fault_status fault
