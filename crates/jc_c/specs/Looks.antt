-- What looks at a cache tell.
use Rattle.std.specs.Prelude.{ℕ, ◌-◌, ◌^◌, Bool, true, false, eqb, if◌then◌else◌, is_some, List, option_map, Result, Ok, Err}
use Rattle.std.specs.Prelude.{Option, Some, None}
use Rattle.jc_model.specs.declared.config.Expiry.{Expiry}
use Rattle.jc_model.specs.declared.config.Expiry.TheVariants.{Never, At}
use Rattle.jc_ops.specs.declared.slots.Record.{Record}
use Rattle.jc_engine.specs.Caches.{Cache, count_in, live_row_in}
use Rattle.jc_c.specs.declared.items.Part.TheVariants as part
use Rattle.jc_c.specs.declared.status.Fault.{Fault}
use Rattle.jc_c.specs.declared.status.Status.{Status}
use Rattle.jc_c.specs.declared.status.Status.TheVariants.{Found, NoSuchCache, Nothing}
use Rattle.jc_c.specs.Items.{Bytes}
use Rattle.jc_c.specs.Parts.{part_shown, status_there}
use Rattle.jc_c.specs.Seated.{Seated, shown_of}
use Rattle.jc_c.specs.Status.{fault_status, status_number}

-- the moment at which a row expires; the last one stands for never, too
abbrev pub moment_of : Expiry → ℕ
moment_of Never = 2 ^ 64 - 1
moment_of (At moment) = moment

-- what the live row holds of a key that bytes say
abbrev pub row_peeked : ℕ → Result (List ℕ) Fault → Option Cache → Option Record
row_peeked now (Ok key) cache = live_row_in now key cache
row_peeked now (Err fault) cache = None

-- a row was found, or its cache has none, or there is no such cache
abbrev pub found_status : Option Record → Bool → Status
found_status (Some row) live = Found
found_status None true = Nothing
found_status None false = NoSuchCache

abbrev pub peek_status : ℕ → Result (List ℕ) Fault → Option Cache → Status
peek_status now (Ok key) cache = found_status (live_row_in now key cache) (is_some cache)
peek_status now (Err fault) cache = fault_status fault

abbrev pub moment_peeked : Option Record → Option ℕ
moment_peeked row = option_map (λ row. moment_of row.expiry) row

abbrev pub value_peeked : Option Record → Bytes
value_peeked row = option_map (λ row. row.value) row

-- the value that a call found, if this is its status's number, by what it shows
abbrev pub value_found : ℕ → ℕ → Seated → Bytes
value_found id number s = if eqb number (status_number Found) then part_shown part.Value 0 (shown_of id s) else None

abbrev pub rows_status : Option Cache → Status
rows_status cache = status_there NoSuchCache (count_in cache)
