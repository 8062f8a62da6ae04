-- A run in its midst: what was recorded, and what the lines that are left will add to it.
use Rattle.std.specs.Prelude.{◌≡◌, ◌≢◌, ℕ, ◌≤◌, false, List, [], ◌∷◌, ◌++◌, length, map, slice_get, slice_set, Option, Some, Result}
use Rattle.std.specs.Option.{option_map}
use Rattle.jc_model.specs.declared.call.Answer.{Answer}
use Rattle.jc_model.specs.declared.call.Notice.{Notice}
use Rattle.jc_model.specs.declared.call.ProcessorFault.{ProcessorFault}
use Rattle.jc_model.specs.declared.call.Reply.{Reply}
use Rattle.jc_model.specs.declared.call.Request.{Request}
use Rattle.jc_model.specs.declared.call.Verdict.{Verdict}
use Rattle.jc_model.specs.declared.config.CacheConfig.{CacheConfig}
use Rattle.jc_model.specs.declared.event.CreateRefusal.{CreateRefusal}
use Rattle.jc_model.specs.declared.event.Entry.{Entry}
use Rattle.jc_model.specs.declared.event.Event.{Event}
use Rattle.jc_model.specs.declared.event.Event.TheVariants.{Begin, Answer as Answered, Create, Destroy}
use Rattle.jc_model.specs.declared.event.Outcome.{Outcome}
use Rattle.jc_model.specs.declared.event.Outcome.TheVariants.{Step as Stepped, Destroyed}
use Rattle.jc_model.specs.declared.event.Step.{Step}
use Rattle.jc_model.specs.declared.event.Step.TheVariants.{Done}
use Rattle.jc_model.specs.State.{State}
use Rattle.jc_model.specs.Run.{answered}
use Rattle.jc_model.specs.Runs.{Status, Standing, idle, fresh, opened, Lives, shown, standing_of, answer_to, create_refusal, lives_after}
use Rattle.jc_model.specs.Solo.{standing_from}
use Rattle.jc_model.specs.Legal.{Fits, played, entries_of, config_of, on_open, recorded, Tells}
use Rattle.jc_engine.specs.Caches.{lives_of}
use Rattle.jc_engine.specs.Recording.{Recording}
use Rattle.jc_hooks.specs.declared.cache_hooks.CacheHooks.{CacheHooks}
use Rattle.jc_hooks.specs.declared.loader.Loaded.{Loaded}
use Rattle.jc_script.specs.declared.line.Line.{Line}
use Rattle.jc_script.specs.declared.line.Line.TheVariants as line
use Rattle.jc_script.specs.declared.managed.Managed.{Managed}
use Rattle.jc_script.specs.Managing.{lives_begun_from, managed_by, managed_from, managed_of, lives_of_script as lives_of_all}
use Rattle.jc_runner.specs.Alone.{calls_on, line_of_entry, AllReplied, exchanges_of_call, exchanges, run_alone, entry_by}
use Rattle.jc_runner.specs.Answering.{HeardAt}
use Rattle.jc_script.specs.declared.line.LineCall.{LineCall}
use Rattle.jc_model.specs.Places.{at_place}

abbrev pub lives_now : Recording → Lives
lives_now r = lives_of r.caches

-- the caches as a script's reader follows them, each as it is opened
abbrev pub as_read : Lives → Lives
as_read lives = map (option_map (λ k. opened k.config)) lives

abbrev pub event_of : LineCall → Event
event_of l = Begin l.id l.at l.call

-- this event is answered by a step, where memory suffices
pub record CanMove (r : Recording) (event : Event) : Type 0 where
  pub step : Step
  pub outcome : answer_to (lives_now r) event false ≡ Stepped step

-- an event had this outcome, and was recorded
pub record MovesRecording (old new : Recording) (session : ℕ) (event : Event) (outcome : Outcome) : Type 0 where
  pub answers : outcome ≡ answer_to (lives_now old) event false
  pub lives : lives_now new ≡ lives_after (lives_now old) event outcome
  pub transcript : new.transcript ≡ recorded session event outcome old.transcript

-- why a cache of this configuration would be refused now, if it would
abbrev pub refusal_now : Recording → CacheConfig → Option CreateRefusal
refusal_now r config = create_refusal (lives_now r) config

-- a cache was created, or refused
abbrev pub CreatesCache : Recording → Recording → ℕ → CacheConfig → Type 0
CreatesCache old new session config = MovesRecording old new session (Create config) (answer_to (lives_now old) (Create config) false)

-- a cache was destroyed
abbrev pub DestroysCache : Recording → Recording → ℕ → ℕ → Type 0
DestroysCache old new session id = MovesRecording old new session (Destroy id) Destroyed

-- the call of a line has begun, and came to this step
abbrev pub BeginsLineCall : Recording → Recording → LineCall → Step → Type 0
BeginsLineCall old new l step = MovesRecording old new l.session (event_of l) (Stepped step)

-- the open call of a cache was handed this answer, and came to this step, whichever session made it
abbrev pub HandsAnswer : Recording → Recording → ℕ → Answer → Step → Type 0
HandsAnswer old new id answer step = (session : ℕ) → MovesRecording old new session (Answered id answer) (Stepped step)

-- behind what was noted, it was noted what became of a line, where it creates or destroys a cache
abbrev pub NotesLine : Recording → Line → List Managed → List Managed → Type 0
NotesLine r l before after = after ≡ before ++ managed_by (as_read (lives_now r)) l

-- no entry waits
abbrev pub NoneOpen : List Entry → Type 0
NoneOpen entries = (id : ℕ) (f : Entry → Entry) → on_open id f entries ≡ entries

pub record IsStandingIdle (standing : Standing) : Type 0 where
  pub state : State
  pub is : standing ≡ idle state

-- Between two lines no call is open. Every id has had a life.
pub record IsAtRest (r : Recording) : Type 0 where
  pub told : Tells r.transcript (lives_now r)
  pub counted : length r.transcript.lives ≡ length (lives_now r)
  pub closed : NoneOpen r.transcript.entries
  pub resting : (id : ℕ) (k : Status) → at_place (lives_now r) id ≡ Some k → IsStandingIdle k.standing

-- a line's call can begin
pub record IsLineReady (r : Recording) (l : LineCall) : Type 0 where
  pub config : CacheConfig
  pub state : State
  pub there : at_place (lives_now r) l.id ≡ Some (record { config = config; standing = idle state })
  pub moves : CanMove r (event_of l)
  pub rest : IsAtRest r

-- an id that is still to come has not been called
pub record IsStillToCome {L W P K : Type 0} (id : ℕ) (all rest : List Line) (handed hooks : Option (CacheHooks L W P K)) : Type 0 where
  pub calls : calls_on id rest ≡ calls_on id all
  pub same : hooks ≡ handed

module _ {L W P K : Type 0} (load_of : L → List ℕ → Loaded) (may : W → List (Request × Answer) → Type 0) (verdict_of : P → Option (List ℕ) → List ℕ → Result Verdict ProcessorFault) (state_after : K → List Notice → List ℕ) where
  -- a line's call has come to this step, its requests so far being answered by the callbacks of its cache
  pub record ReachedFrom (c : CacheConfig) (s : State) (old new : Recording) (h h' : Option (CacheHooks L W P K)) (l : LineCall) (step : Step) : Type 0 where
    pub answers : List Answer
    pub fit : Fits (run_alone c s l) answers
    pub shows : shown (answered (run_alone c s l) answers) ≡ Stepped step
    pub lives : lives_now new ≡ slice_set (lives_now old) l.id (Some (record { config = c; standing = standing_of (answered (run_alone c s l) answers) }))
    pub begun : new.transcript.lives ≡ old.transcript.lives
    pub entries : new.transcript.entries ≡ old.transcript.entries ++ entry_by l (run_alone c s l) answers ∷ []
    pub told : Tells new.transcript (lives_now new)
    pub heard : HeardAt load_of may verdict_of state_after h h' (exchanges_of_call (run_alone c s l) answers)

  pub record Reached (old new : Recording) (h h' : Option (CacheHooks L W P K)) (l : LineCall) (step : Step) : Type 0 where
    pub config : CacheConfig
    pub state : State
    pub there : at_place (lives_now old) l.id ≡ Some (record { config = config; standing = idle state })
    pub reached : ReachedFrom config state old new h h' l step

  -- it has replied
  pub record Replies (old new : Recording) (h h' : Option (CacheHooks L W P K)) (l : LineCall) : Type 0 where
    pub reply : Reply
    pub done : Reached old new h h' l (Done reply)

  -- and the callbacks of all other caches are as they were
  pub record RepliesAt (old new : Recording) (hooks hooks' : List (CacheHooks L W P K)) (l : LineCall) : Type 0 where
    pub replies : Replies old new (slice_get hooks l.id) (slice_get hooks' l.id) l
    pub others : (id : ℕ) → l.id ≢ id → slice_get hooks' id ≡ slice_get hooks id

  -- a line was run
  abbrev pub RunsLine : Recording → Recording → List (CacheHooks L W P K) → List (CacheHooks L W P K) → Line → Type 0
  RunsLine old new hooks hooks' (line.Call l) = RepliesAt old new hooks hooks' l
  RunsLine old new hooks hooks' (line.Create session c) = CreatesCache old new session c × (hooks' ≡ hooks)
  RunsLine old new hooks hooks' (line.Destroy session id) = DestroysCache old new session id × (hooks' ≡ hooks)

  -- what was recorded of a life, with the lines that are left, are all of its calls
  pub record LifeGoesOn (c : CacheConfig) (id : ℕ) (all rest : List Line) (handed hooks : Option (CacheHooks L W P K)) (entries : List Entry) : Type 0 where
    pub left : IsStandingIdle (standing_from c fresh (map played (entries_of id entries)))
    pub calls : map line_of_entry (entries_of id entries) ++ calls_on id rest ≡ calls_on id all
    pub replied : AllReplied (entries_of id entries)
    pub heard : HeardAt load_of may verdict_of state_after handed hooks (exchanges c fresh (entries_of id entries))

  pub record Halfway (caches : List CacheConfig) (handed : List (CacheHooks L W P K)) (all rest : List Line) (r : Recording) (hooks : List (CacheHooks L W P K)) (managed : List Managed) : Type 0 where
    pub lives : r.transcript.lives ++ lives_begun_from (as_read (lives_now r)) rest ≡ lives_of_all caches all
    pub answers : managed ++ managed_from (as_read (lives_now r)) rest ≡ managed_of caches all
    pub each : (id : ℕ) (c : CacheConfig) → config_of id r.transcript.lives ≡ Some c → LifeGoesOn c id all rest (slice_get handed id) (slice_get hooks id) r.transcript.entries
    pub others : (id : ℕ) → length (lives_now r) ≤ id → IsStillToCome id all rest (slice_get handed id) (slice_get hooks id)
