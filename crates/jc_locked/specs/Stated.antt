-- What the callbacks that all sessions share state, and answers that they stated.
use Rattle.std.specs.Prelude.{◌≡◌, ◌==◌, ◌||◌, not, false, ℕ, Bool, List, length, map, option_map, is_some, slice_get, Option, Some, None, Result, Err, ⊤}
use Rattle.std.specs.List.{All}
use Rattle.jc_model.specs.declared.call.Answer.{Answer}
use Rattle.jc_model.specs.declared.call.Answer.TheVariants.{Loaded as LoadedValue, LoadFailed, Processed}
use Rattle.jc_model.specs.declared.call.Call.{Call}
use Rattle.jc_model.specs.declared.call.ProcessorFault.{ProcessorFault}
use Rattle.jc_model.specs.declared.call.Verdict.{Verdict}
use Rattle.jc_model.specs.declared.config.CacheConfig.{CacheConfig}
use Rattle.jc_engine.specs.Caches.{asks_no_one}
use Rattle.jc_hooks.specs.Answers.{load_answer_of}
use Rattle.jc_hooks.specs.declared.cache_hooks.CacheHooks.{CacheHooks}
use Rattle.jc_hooks.specs.declared.loader.Loaded.{Loaded}
use Rattle.jc_hooks.specs.declared.loader.Loaded.TheVariants.{Failed}
use Rattle.jc_locked.specs.declared.hooks.LockedHooks.{LockedHooks}
use Rattle.jc_locked.specs.declared.hooks.SharedHooks.{SharedHooks}
use Rattle.jc_model.specs.Asking.{IsKeyOf, processor_invoked}

-- the loader's answer by the key, and each processor's by value and argument
pub record Stated : Type 0 where
  pub load : Option (List ℕ → Loaded)
  pub verdicts : List (Option (List ℕ) → List ℕ → Result Verdict ProcessorFault)

module _ {L P : Type 0} (load_of : L → List ℕ → Loaded) (verdict_of : P → Option (List ℕ) → List ℕ → Result Verdict ProcessorFault) where
  abbrev pub stated_by : SharedHooks L P → Stated
  stated_by h = record { load = option_map load_of h.loader; verdicts = map verdict_of h.processors.items }

  -- these are the loader and processors of a cache, where it is one of the opening
  abbrev pub AreOf : List Stated → ℕ → SharedHooks L P → Type 0
  AreOf stated id asked = (h : Stated) → slice_get stated id ≡ Some h → stated_by asked ≡ h

-- what is stated where callbacks are asked by hand: no loader answers, and no processor decides
abbrev pub stated_by_hand : {L P : Type 0} → List (SharedHooks L P) → List Stated
stated_by_hand shared = map (stated_by (λ l key. Failed) (λ p value argument. Err (record {}))) shared

-- a cache of the opening has as many processors as its configuration names
abbrev pub AreCounted : {L P : Type 0} → List CacheConfig → ℕ → SharedHooks L P → Type 0
AreCounted configs id asked = (c : CacheConfig) → slice_get configs id ≡ Some c → length c.processors ≡ length asked.processors.items

-- how many processors each cache has, and how many its configuration names
abbrev pub processor_counts : {L P : Type 0} → List (SharedHooks L P) → List ℕ
processor_counts shared = map (λ h. length h.processors.items) shared

abbrev pub wanted_counts : List CacheConfig → List ℕ
wanted_counts configs = map (λ c. length c.processors) configs

-- of all callbacks of a cache, as they are handed in: those that are asked side by side, and those under its lock
abbrev pub shared_of : {L W P K : Type 0} → CacheHooks L W P K → SharedHooks L P
shared_of h = record { loader = h.loader; processors = h.processors }

abbrev pub locked_of : {L W P K : Type 0} → CacheHooks L W P K → LockedHooks W K
locked_of h = record { writer = h.writer; listeners = h.listeners }

-- whether a cache has any callbacks
abbrev pub wants_lock : {L W P K : Type 0} → CacheHooks L W P K → Bool
wants_lock h = is_some h.loader || (is_some h.writer || (not (length h.processors.items == 0) || not (length h.listeners.items == 0)))

-- whether a cache of the opening has a hooks lock: whether its configuration names any callbacks
abbrev pub has_lock : CacheConfig → Bool
has_lock c = not (asks_no_one c)

abbrev pub has_lock_at : Option CacheConfig → Bool
has_lock_at None = false
has_lock_at (Some c) = has_lock c

-- the locks that there are
abbrev pub lock_flags : {X : Type 0} → List (Option X) → List Bool
lock_flags locks = map is_some locks

abbrev pub wanted_locks : List CacheConfig → List Bool
wanted_locks configs = map has_lock configs

-- where there is a loader, it answers so for a key of the call
abbrev pub LoadsBy : Option (List ℕ → Loaded) → Call → Answer → Type 0
LoadsBy None call a = ⊤
LoadsBy (Some load) call a = (key : List ℕ) × IsKeyOf key call × (a ≡ load_answer_of (load key))

-- where the processor is there that the call names, it decides so by the call's argument and some value or none
abbrev pub DecidesBy : Option (Option (List ℕ) → List ℕ → Result Verdict ProcessorFault) → List ℕ → Result Verdict ProcessorFault → Type 0
DecidesBy None argument v = ⊤
DecidesBy (Some verdict) argument v = (value : Option (List ℕ)) × (v ≡ verdict value argument)

abbrev pub ProcessesBy : List (Option (List ℕ) → List ℕ → Result Verdict ProcessorFault) → Option (ℕ × List ℕ) → Result Verdict ProcessorFault → Type 0
ProcessesBy verdicts None v = ⊤
ProcessesBy verdicts (Some named) v = DecidesBy (slice_get verdicts named.0) named.1 v

-- an answer of loader or processor is a stated one
abbrev pub IsStated : Stated → Call → Answer → Type 0
IsStated h call (LoadedValue v) = LoadsBy h.load call (LoadedValue v)
IsStated h call LoadFailed = LoadsBy h.load call LoadFailed
IsStated h call (Processed v) = ProcessesBy h.verdicts (processor_invoked call) v
IsStated h call _ = ⊤

abbrev pub IsStatedBy : Option Stated → Call → Answer → Type 0
IsStatedBy None call a = ⊤
IsStatedBy (Some h) call a = IsStated h call a

abbrev pub AreStated : Option Stated → Call → List Answer → Type 0
AreStated h call answers = All (IsStatedBy h call) answers
