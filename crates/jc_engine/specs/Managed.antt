-- What the fields of one cache stand for, and how it moves.
use Rattle.std.specs.Prelude.{◌≡◌, ◌≢◌, ℕ, Bool, true, false, List, [], Result, Ok, Err, Option, Some, None, MatchOption, IfOk, OnErr}
use Rattle.jc_model.specs.declared.call.Notice.{Notice}
use Rattle.jc_model.specs.declared.call.Request.TheVariants.{Tell}
use Rattle.jc_model.specs.declared.config.CacheConfig.{CacheConfig}
use Rattle.jc_model.specs.declared.event.Cause.{Cause}
use Rattle.jc_model.specs.declared.event.Cause.TheVariants.{NoTurn}
use Rattle.jc_model.specs.declared.event.Step.{Step}
use Rattle.jc_model.specs.declared.event.Step.TheVariants.{Done, Need}
use Rattle.jc_model.specs.declared.event.Outcome.{Outcome}
use Rattle.jc_model.specs.declared.event.Outcome.TheVariants as outcome
use Rattle.jc_model.specs.Run.{Run, and_then, Awaited, awaited_by, for_tell, told_by}
use Rattle.jc_model.specs.Everywhere.{AtEach}
use Rattle.jc_model.specs.Whole.{told_first}
use Rattle.jc_model.specs.Runs.{CacheEvent, shown, standing_of, reply_of, refuse_last, for_memory, moved}
use Rattle.jc_model.specs.Suspended.{Wait, one, many, telling, standing_by}
use Rattle.jc_rows.specs.Rows.{RowMap}
use Rattle.jc_ops.specs.Noted.{Noted}
use Rattle.jc_ops.specs.Kept.{Kept, numbers_of, progress_of}
use Rattle.jc_ops.specs.Tied.{SameElsewhere}
use Rattle.jc_ops.specs.Visited.{Visited, IsKeptIn}
use Rattle.jc_bulk.specs.Calls.{IsSuspended}
use Rattle.jc_engine.specs.declared.turn.Turn.{Turn}
use Rattle.jc_engine.specs.declared.turn.Turn.TheVariants.{Idle, Waiting, Telling}
use Rattle.jc_engine.specs.declared.turn.EngineStep.{EngineStep}
use Rattle.jc_engine.specs.declared.turn.EngineStep.TheVariants.{Replied, Asked, Told}
use Rattle.jc_engine.specs.Caches.{Cache, status_of}

-- one live cache: its state, and whether a call is open
pub record Slot : Type 0 where
  pub state : Kept
  pub turn : Turn

abbrev pub turn_in : Turn → Option (Awaited × Wait)
turn_in Idle = None
turn_in (Waiting w) = Some (w.call.awaits, w.call.wait)
turn_in (Telling reply) = Some (for_tell, telling reply)

-- the notices that no one has been told
abbrev pub notices_in : Turn → List Notice
notices_in Idle = []
notices_in (Waiting w) = w.told
notices_in (Telling reply) = []

abbrev pub cache_in : Slot → Cache
cache_in cache = record { config = cache.state.config; progress = progress_of cache.state (notices_in cache.turn); turn = turn_in cache.turn; numbers = numbers_of cache.state.cells }

-- an open call waits where its run leads
abbrev pub WaitsThere : CacheConfig → Kept → Turn → Type 0
WaitsThere c k Idle = Unit {0}
WaitsThere c k (Waiting w) = IsSuspended c (progress_of k w.told) w.call
WaitsThere c k (Telling reply) = Unit {0}

-- a cache has this id, the table and it say the same of its rows, and an open call waits where its run leads
pub record IsManaged (m : RowMap) (id : ℕ) (cache : Slot) : Type 0 where
  pub id_is : cache.state.id ≡ id
  pub kept : IsKeptIn m cache.state
  pub waits : WaitsThere cache.state.config cache.state cache.turn

-- The cache is managed, and the visit has another one, without rows, and no notices.
pub record IsReady (cache : Slot) (v : Visited) : Type 0 where
  pub kept : IsKeptIn v.table cache.state
  pub waits : WaitsThere cache.state.config cache.state cache.turn
  pub empty : v.cache.cells ≡ []
  pub apart : v.cache.id ≢ cache.state.id
  pub untold : v.noted.told ≡ []

-- the visit has that one again, and no notices
pub record RestsAgain (v w : Visited) : Type 0 where
  pub cache : w.cache ≡ v.cache
  pub untold : w.noted.told ≡ []

-- After a call the cache is managed, and the table says the same of other caches.
pub record IsPutBack (cache : Slot) (v : Visited) (cache' : Slot) (w : Visited) : Type 0 where
  pub managed : IsManaged w.table cache.state.id cache'
  pub config : cache'.state.config ≡ cache.state.config
  pub elsewhere : SameElsewhere cache.state.id v.table w.table
  pub rests : RestsAgain v w

-- a visit has given its cache back, in exchange for the spare one, and told its notices
pub record GivesBack (spare : Kept) (v : Visited) (cache : Slot) (w : Visited) : Type 0 where
  pub state : cache.state ≡ v.cache
  pub kept : IsKeptIn w.table cache.state
  pub table : w.table ≡ v.table
  pub spare_is : w.cache ≡ spare
  pub untold : w.noted.told ≡ []

-- The call moves.

abbrev pub step_of : EngineStep → Step
step_of (Replied reply) = Done reply
step_of (Asked request) = Need request
step_of (Told notices) = Need (Tell notices.told)

-- whether a call has ended with its reply
abbrev pub is_replied : EngineStep → Bool
is_replied (Replied reply) = true
is_replied _ = false

abbrev pub is_telling : Wait → Bool
is_telling (one w) = false
is_telling (many w) = false
is_telling (telling reply) = true

-- whether a call waits for its notices to be told
abbrev pub tells : Option (Awaited × Wait) → Bool
tells None = false
tells (Some w) = is_telling w.1

-- the requests of a step tell nothing; when a call's notices are told, it waits for that
abbrev pub FitsTurn : EngineStep → Option (Awaited × Wait) → Type 0
FitsTurn (Replied reply) turn = turn ≡ None
FitsTurn (Asked request) turn = (told_by request ≡ []) × (tells turn ≡ false)
FitsTurn (Told notices) turn = tells turn ≡ true

-- no request of a run awaits that notices were told
abbrev pub NeverTells : Run → Type 0
NeverTells run = AtEach (λ q p. awaited_by q ≢ for_tell) (λ p r. Unit {0}) run

-- a call that has come to this run goes on as its cache says
pub record Settled (c : CacheConfig) (run : Run) (cache : Slot) (advance : EngineStep) : Type 0 where
  pub shows : outcome.Step (step_of advance) ≡ shown (and_then run told_first)
  pub stands : standing_by c (cache_in cache).progress (turn_in cache.turn) ≡ standing_of (and_then run told_first)
  pub waits : WaitsThere c cache.state cache.turn
  pub fits : NeverTells run → FitsTurn advance (turn_in cache.turn)

-- what a cache answers to an event that it hears, where memory suffices
abbrev pub reply_to : Cache → CacheEvent → Outcome
reply_to k said = reply_of k.config (status_of k).standing said

-- a cache has heard an event and moved as it is to
pub record Moves (k : Cache) (said : CacheEvent) (k' : Cache) (advance : EngineStep) : Type 0 where
  pub shows : outcome.Step (step_of advance) ≡ reply_to k said
  pub moves : status_of k' ≡ moved (status_of k) said
  pub fits : FitsTurn advance k'.turn

-- It has done so in a visit. Where it is refused, nothing has changed but the room and the places that are left.
pub record HasHeard {T : Type 0} (cache : Slot) (v : Visited) (said : CacheEvent) (r : Result EngineStep T) (cache' : Slot) (w : Visited) : Type 0 where
  pub back : IsPutBack cache v cache' w
  pub ok : IfOk r (Moves (cache_in cache) said (cache_in cache'))
  pub same : OnErr r (cache' ≡ cache)
  pub table : OnErr r (w.table ≡ v.table)

abbrev pub is_step : Outcome → Bool
is_step (outcome.Step s) = true
is_step _ = false

-- why it gets no step where memory suffices: this cause, or none where it gets one
abbrev pub IsRefusalTo : Cache → CacheEvent → Option Cause → Type 0
IsRefusalTo k said refusal = MatchOption refusal (is_step (reply_to k said) ≡ true) (λ cause. reply_to k said ≡ outcome.Refused cause)

-- it is refused for this cause, which may be memory
abbrev pub IsRefusedFor : Cache → CacheEvent → Cause → Type 0
IsRefusedFor k said cause = outcome.Refused cause ≡ refuse_last (for_memory (outcome.Refused cause)) (reply_to k said)

-- the notices that are left of an open call: none while they are being told
abbrev pub LeavesNotices : Cache → Option Noted → Type 0
LeavesNotices k None = (tells k.turn ≡ true) × (k.progress.notices ≡ [])
LeavesNotices k (Some left) = (tells k.turn ≡ false) × (left.told ≡ k.progress.notices)

-- a call was given up, where one was open
abbrev pub Abandons : Slot → Result (Option Noted) Cause → Slot → Type 0
Abandons cache (Ok left) after =
    (after ≡ record cache { turn = Idle }) × (◌≡◌ {A = Option (Awaited × Wait)} (turn_in cache.turn) None → ⊥) × LeavesNotices (cache_in cache) left
Abandons cache (Err cause) after = (cause ≡ NoTurn) × (turn_in cache.turn ≡ None) × (after ≡ cache)
