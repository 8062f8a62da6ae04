-- How many lookups of a trace find a value.
use Rattle.std.specs.Prelude.{ℕ, ◌+◌, ◌≤◌, Bool, true, false, if◌then◌else◌, List, [], ◌∷◌, length, map, codes, Result, Ok, Err, Some}
use Rattle.jc_model.specs.declared.call.Call.TheVariants.{Get, Put}
use Rattle.jc_model.specs.declared.call.Reply.TheVariants.{Found}
use Rattle.jc_model.specs.declared.config.CacheConfig.{CacheConfig}
use Rattle.jc_model.specs.declared.config.Policy.TheVariants.{Eternal}
use Rattle.jc_model.specs.declared.event.Event.{Event}
use Rattle.jc_model.specs.declared.event.Event.TheVariants.{Begin}
use Rattle.jc_model.specs.declared.event.Outcome.{Outcome}
use Rattle.jc_model.specs.declared.event.Outcome.TheVariants.{Step}
use Rattle.jc_model.specs.declared.event.Step.TheVariants.{Done}
use Rattle.jc_model.specs.Limits.{most_rows}
use Rattle.jc_model.specs.Runs.{Lives, opened_from, answer_to, lives_after}
use Rattle.jc_replay.specs.declared.fault.ReplayFault.{ReplayFault}
use Rattle.jc_replay.specs.declared.ratio.HitRatio.{HitRatio}
use Rattle.jc_replay.specs.Trace.{trace_keys}

-- how many rows a cache may have
abbrev pub IsCapacity : ℕ → Type 0
IsCapacity n = (1 ≤ n) × (n ≤ most_rows)

-- no row expires, and there are no callbacks and no listeners
abbrev pub replay_config : ℕ → CacheConfig
replay_config capacity = record { name = codes "replay"; capacity = capacity; policy = Eternal; loader = false; writer = false; processors = []; listeners = 0 }

-- one cache of this capacity, without rows
abbrev pub first_lives : ℕ → Lives
first_lives capacity = opened_from 0 (replay_config capacity ∷ [])

-- a key is looked up
abbrev pub lookup : List ℕ → Event
lookup key = Begin 0 0 (Get key)

-- an empty value is put under it
abbrev pub filling : List ℕ → Event
filling key = Begin 0 0 (Put key [])

abbrev pub is_value : Outcome → Bool
is_value (Step (Done (Found (Some value)))) = true
is_value _ = false

-- whether the lookup finds a value
unfoldable pub hits : Lives → List ℕ → Bool
hits lives key = is_value (answer_to lives (lookup key) false)

-- the cache after an event
unfoldable pub lives_after_event : Lives → Event → Lives
lives_after_event lives event = lives_after lives event (answer_to lives event false)

-- after a key was looked up, and put where the lookup found none
abbrev pub lives_after_key : Lives → List ℕ → Lives
lives_after_key lives key =
    let looked : Lives = lives_after_event lives (lookup key) in if hits lives key then looked else lives_after_event looked (filling key)

-- how many lookups of the keys, one after the other, find a value
unfoldable pub hits_from : Lives → List (List ℕ) → ℕ
hits_from lives [] = 0
hits_from lives (key ∷ keys) = (if hits lives key then 1 else 0) + hits_from (lives_after_key lives key) keys

abbrev pub ratio_of : List (List ℕ) → ℕ → HitRatio
ratio_of keys capacity =
    record { capacity = capacity; lookups = length keys; hits = hits_from (first_lives capacity) keys }

-- for each capacity how many lookups of the trace's keys find a value
abbrev pub ratios_of : List ℕ → Result (List (List ℕ)) ReplayFault → Result (List HitRatio) ReplayFault
ratios_of capacities (Ok keys) = Ok (map (ratio_of keys) capacities)
ratios_of capacities (Err fault) = Err fault

abbrev pub replay_ratios : List ℕ → List ℕ → Result (List HitRatio) ReplayFault
replay_ratios trace capacities = ratios_of capacities (trace_keys trace)
