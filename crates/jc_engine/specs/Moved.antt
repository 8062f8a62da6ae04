-- Caches that are moved: saved in one manager, restored in another, and called on.
use Rattle.std.specs.Prelude.{◌≡◌, ℕ, List, ◌++◌, Option, Some, None}
use Rattle.jc_model.specs.declared.config.CacheConfig.{CacheConfig}
use Rattle.jc_model.specs.declared.event.Event.{Event}
use Rattle.jc_model.specs.declared.event.Outcome.{Outcome}
use Rattle.jc_model.specs.Places.{at_place}
use Rattle.jc_model.specs.Runs.{Status, Lives, IsRun, idle, opened, lives_in_end}
use Rattle.jc_model.specs.Solo.{Seen, PlayedCall, outcomes_from, standing_from, seen_at, seen_of, solo, own_calls, status_at_start}
use Rattle.jc_model.specs.State.{State}
use Rattle.jc_save.specs.Savable.{IsSavable}
use Rattle.jc_save.specs.Spelling.{saved}
use Rattle.jc_engine.specs.Caches.{Cache, lives_of, status_of}
use Rattle.jc_engine.specs.Saving.{AddsSaved}

-- it stands in this state, with no open call
abbrev pub standing_in : CacheConfig → State → Status
standing_in c s = record { config = c; standing = idle s }

-- what whole calls give from this state on
abbrev pub solo_from : CacheConfig → State → List PlayedCall → Seen
solo_from c s calls = seen_at (outcomes_from c (idle s) calls) (standing_from c (idle s) calls)

-- as it was saved, under this name
abbrev pub renamed : List ℕ → Cache → Status
renamed name k = standing_in (record k.config { name = name }) k.progress.state

-- a run of a manager, and a cache in it
pub record Ran : Type 0 where
  pub lives : Lives
  pub events : List Event
  pub outcomes : List Outcome
  pub is : IsRun lives events outcomes

abbrev pub last_lives : Ran → Lives
last_lives r = lives_in_end r.lives r.events r.outcomes

abbrev pub status_first : ℕ → Ran → Option Status
status_first id r = status_at_start id r.lives r.events r.outcomes

abbrev pub seen_in : ℕ → Ran → Option Seen
seen_in id r = seen_of id r.lives r.events r.outcomes (last_lives r)

abbrev pub calls_in : ℕ → Ran → List PlayedCall
calls_in id r = own_calls id r.lives r.events r.outcomes

-- A cache that was new in the first run, idle in its end, and saved there as k; in a manager with these caches before it
-- was restored under its name, and the second run begins with it.
pub record IsMoved (c : CacheConfig) (id : ℕ) (first : Ran) (k : Cache) (old new : List (Option Cache)) (second : Ran) : Type 0 where
  pub starts : status_first id first ≡ Some (opened c)
  pub ends : at_place (last_lives first) id ≡ Some (status_of k)
  pub is_idle : ◌≡◌ {A = Option _} k.turn None
  pub savable : IsSavable k.config k.progress.state
  pub restored : AddsSaved c.name (saved k.config k.progress.state) old new
  pub goes_on : second.lives ≡ lives_of new

-- What is seen of it in both runs is what is seen of one cache that makes all of these calls.
pub record GoesOn (c : CacheConfig) (id : ℕ) (first : Ran) (next : ℕ) (second : Ran) : Type 0 where
  pub before : Seen
  pub after : Seen
  pub seen_first : seen_in id first ≡ Some before
  pub seen_then : seen_in next second ≡ Some after
  pub outcomes : before.outcomes ++ after.outcomes ≡ (solo c (calls_in id first ++ calls_in next second)).outcomes
  pub standing : after.standing ≡ (solo c (calls_in id first ++ calls_in next second)).standing
