-- What holds wherever a run waits and where it ends, whatever it is answered.
use Rattle.std.specs.Prelude.{◌≡◌, ℕ, ◌-◌, ◌<◌, ◌||◌, Bool, true, false, Some, is_some}
use Rattle.jc_model.specs.declared.call.Answer.{Answer}
use Rattle.jc_model.specs.declared.call.Op.{Op}
use Rattle.jc_model.specs.declared.call.KeyCall.{KeyCall}
use Rattle.jc_model.specs.declared.call.Reply.{Reply}
use Rattle.jc_model.specs.declared.call.Request.{Request}
use Rattle.jc_model.specs.declared.call.Request.TheVariants.{Load, Write, Delete, Process, Tell}
use Rattle.jc_model.specs.declared.table.Ask.{Ask}
use Rattle.jc_model.specs.declared.table.Ask.TheVariants as ask
use Rattle.jc_model.specs.Changes.{Progress}
use Rattle.jc_model.specs.Run.{Run, ended, waiting}
use Rattle.jc_model.specs.Table.{live_line, absent_line, invoked_by}

-- W holds of each request and of the progress in which the cache waits for its answer, E of each end
abbrev pub AtEach : (Request → Progress → Type 0) → (Progress → Reply → Type 0) → Run → Type 0
AtEach W E (ended p r) = E p r
AtEach W E (waiting q p resumed) = W q p × ((a : Answer) → AtEach W E (resumed a))

-- at most n requests come
abbrev pub Within : ℕ → Run → Type 0
Within n (ended p r) = Unit {0}
Within n (waiting q p resumed) = (0 < n) × ((a : Answer) → Within (n - 1) (resumed a))

-- both at once
abbrev pub Goes : (Request → Progress → Type 0) → (Progress → Reply → Type 0) → ℕ → Run → Type 0
Goes W E n (ended p r) = E p r
Goes W E n (waiting q p resumed) = (0 < n) × W q p × ((a : Answer) → Goes W E (n - 1) (resumed a))

abbrev pub asks_loader : Ask → Bool
asks_loader ask.Load = true
asks_loader _ = false

-- whether an operation may ask the loader: by one of its lines, or for its processor
abbrev pub may_load : Op → Bool
may_load o = asks_loader (live_line o).asks || (asks_loader (absent_line o).asks || is_some (invoked_by o))

-- a request of one key's step: of that key; the loader where it may be asked; the processor that the operation names
abbrev pub IsOf : KeyCall → Request → Type 0
IsOf call (Load key) = (key ≡ call.key) × (may_load call.op ≡ true)
IsOf call (Write key v) = key ≡ call.key
IsOf call (Delete key) = key ≡ call.key
IsOf call (Process key processor v argument) = (key ≡ call.key) × (invoked_by call.op ≡ Some (processor, argument))
IsOf call (Tell notices) = ⊥
