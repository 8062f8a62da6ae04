-- The entries of open calls, and of which history they are.
use Rattle.std.specs.Prelude.{◌≡◌, ℕ, length, Option, Some, None, nat_eq, slice_get}
use Rattle.std.specs.HashMap.{HashMap, get}
use Rattle.jc_model.specs.declared.event.End.TheVariants.{Waiting}
use Rattle.jc_model.specs.declared.event.Entry.{Entry}
use Rattle.jc_model.specs.Legal.{History}
use Rattle.jc_engine.specs.declared.journal.open_call.OpenCall.{OpenCall}
use Rattle.jc_engine.specs.declared.journal.open_calls.Beginning.{Beginning}
use Rattle.jc_engine.specs.Recording.{blank_of}

abbrev pub place_of : Option OpenCall → Option ℕ
place_of None = None
place_of (Some call) = Some call.place

-- by cache, the place of its open call
abbrev pub places_in : {S : Type 0} → HashMap ℕ OpenCall S → ℕ → Option ℕ
places_in calls = λ id. place_of (get nat_eq calls id)

-- the entry of a call that is about to begin
abbrev pub beginning_entry : Beginning → Entry
beginning_entry held = blank_of held.origin held.call

-- the entry stands in the history at its place, is of the cache, and waits
pub record StandsOpen (h : History) (id : ℕ) (call : OpenCall) : Type 0 where
  pub there : slice_get h.entries call.place ≡ Some call.entry
  pub own : call.entry.id ≡ id
  pub waits : call.entry.end ≡ Waiting

-- as many calls have begun as this, and the open ones stand where they are kept
pub record AreOpen (h : History) (begun : ℕ) (calls : ℕ → Option OpenCall) : Type 0 where
  pub counted : length h.entries ≡ begun
  pub each : (id : ℕ) (call : OpenCall) → calls id ≡ Some call → StandsOpen h id call
