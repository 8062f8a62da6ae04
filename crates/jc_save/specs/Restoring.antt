-- What bytes are as a saved cache: a configuration with a name and a state, or the first fault with its place.
use Rattle.std.specs.Prelude.{◌≡◌, ℕ, ◌-◌, if◌then◌else◌, ltb, ◌==◌, List, [], length, map, Result, Ok, Err}
use Rattle.std.specs.Int.{w32}
use Rattle.std.specs.Str.{bytes_eq}
use Rattle.jc_model.specs.declared.config.CacheConfig.{CacheConfig}
use Rattle.jc_model.specs.State.{Item, State}
use Rattle.jc_save.specs.declared.cache.SavedCache.{SavedCache}
use Rattle.jc_save.specs.declared.cache.SavedRow.{SavedRow}
use Rattle.jc_save.specs.declared.fault.Flaw.TheVariants as flaw
use Rattle.jc_save.specs.declared.fault.Found.{Found}
use Rattle.jc_save.specs.declared.fault.Stop.{Stop}
use Rattle.jc_save.specs.declared.fault.Stop.TheVariants as stop
use Rattle.jc_save.specs.declared.fault.SaveFault.{SaveFault}
use Rattle.jc_save.specs.declared.fault.SaveFault.TheVariants.{OutOfMemory, Damaged}
use Rattle.jc_save.specs.Limits.{magic, version, saved_bytes}
use Rattle.jc_save.specs.Reading.{◌>>=◌, both, refused, text_at, byte_at, number_at, settings_at, counters_at, rows_at}

-- the bytes behind the first three, which are a saved cache's
unfoldable pub begun_at : List ℕ → Result (List ℕ) Found
begun_at bytes = do
  first ← text_at (length magic) bytes
  if bytes_eq first.0 magic then Ok first.1 else refused flaw.NotSaved bytes

unfoldable pub version_at : List ℕ → Result (List ℕ) Found
version_at bytes = do
  read ← byte_at bytes
  if read.0 == version then Ok read.1 else refused flaw.OtherVersion bytes

-- how many rows there are, at most as many as the capacity
unfoldable pub count_at : ℕ → List ℕ → Result (ℕ × List ℕ) Found
count_at capacity bytes = do
  n ← number_at w32 bytes
  if ltb capacity n.0 then refused flaw.Rows bytes else Ok n

-- all that stands behind the version
unfoldable pub body_at : List ℕ → List ℕ → Result ((CacheConfig × State) × List ℕ) Found
body_at name bytes = do
  front ← both (settings_at name) counters_at bytes
  count ← count_at front.0.0.capacity front.1
  rows ← rows_at [] count.0 count.1
  Ok ((front.0.0, record { ring = rows.0; counts = front.0.1 }), rows.1)

-- all of the bytes
unfoldable pub cache_at : List ℕ → List ℕ → Result (CacheConfig × State) Found
cache_at name bytes = do
  begun ← begun_at bytes
  current ← version_at begun
  cache ← body_at name current
  if length cache.1 == 0 then Ok cache.0 else refused flaw.Trailing cache.1

-- a flaw's place is how many bytes stand before its field
abbrev pub fault_at : ℕ → Found → SaveFault
fault_at whole found = Damaged found.flaw (whole - found.left)

abbrev pub placed : {A : Type 0} → ℕ → Result A Found → Result A SaveFault
placed whole (Ok x) = Ok x
placed whole (Err found) = Err (fault_at whole found)

unfoldable pub restored : List ℕ → List ℕ → Result (CacheConfig × State) SaveFault
restored name bytes =
    if ltb saved_bytes (length bytes) then Err (Damaged flaw.TooLong saved_bytes)
    else placed (length bytes) (cache_at name bytes)

-- What a function answers is what reading gives, unless memory is wanting before a flaw is met.

abbrev pub StopsAs : {Y : Type 0} → Stop → Result Y Found → Type 0
StopsAs stop.Memory read = Unit {0}
StopsAs (stop.Flawed found) read = read ≡ Err found

abbrev pub Gives : {X Y : Type 0} → (X → Y) → Result X Stop → Result Y Found → Type 0
Gives seen (Ok x) read = read ≡ Ok (seen x)
Gives seen (Err stop) read = StopsAs stop read

abbrev pub FailsAs : {Y : Type 0} → SaveFault → Result Y SaveFault → Type 0
FailsAs OutOfMemory read = Unit {0}
FailsAs fault read = read ≡ Err fault

abbrev pub Restores : {X Y : Type 0} → (X → Y) → Result X SaveFault → Result Y SaveFault → Type 0
Restores seen (Ok x) read = read ≡ Ok (seen x)
Restores seen (Err fault) read = FailsAs fault read

-- A saved cache, as the model sees it.

abbrev pub item : SavedRow → Item
item r = record { key = r.key; value = r.value; expiry = r.mark.expiry; used = r.mark.used }

abbrev pub items : List SavedRow → List Item
items rows = map item rows

abbrev pub state_of : SavedCache → State
state_of c = record { ring = items c.rows; counts = c.counts }

abbrev pub cache_of : SavedCache → CacheConfig × State
cache_of c = (c.config, state_of c)
