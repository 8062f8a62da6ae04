-- The caches that are live while a script's lines are read or run: creating and destroying follow the manager's rules,
-- memory sufficing.
use Rattle.std.specs.Prelude.{◌≡◌, ℕ, ◌≤◌, Bool, true, false, List, [], ◌∷◌, length, map, ⊤}
use Rattle.std.specs.Prelude.{Option, Some, None}
use Rattle.std.specs.Option.{option_map}
use Rattle.jc_model.specs.declared.config.CacheConfig.{CacheConfig}
use Rattle.jc_model.specs.Limits.{most_processors}
use Rattle.jc_model.specs.Places.{named_from, at_place}
use Rattle.jc_model.specs.Runs.{Status, Lives, opened, creates, destroys, answer_in, lives_by, members_of}
use Rattle.jc_script.specs.declared.line.Line.{Line}
use Rattle.jc_script.specs.declared.line.Line.TheVariants.{Call, Create, Destroy}
use Rattle.jc_model.specs.Refusals.{Member}

-- the line creates or destroys a cache
abbrev pub manages : Line → Bool
manages (Call l) = false
manages (Create session c) = true
manages (Destroy session id) = true

-- the caches after one is created, or is refused
abbrev pub after_creating : Lives → CacheConfig → Lives
after_creating lives c = lives_by lives (creates c) (answer_in lives (creates c) false)

-- the caches after one is destroyed, or is refused
abbrev pub after_destroying : Lives → ℕ → Lives
after_destroying lives id = lives_by lives (destroys id) (answer_in lives (destroys id) false)

-- the caches after a line
abbrev pub after_line : Lives → Line → Lives
after_line lives (Call l) = lives
after_line lives (Create session c) = after_creating lives c
after_line lives (Destroy session id) = after_destroying lives id

-- the id of the live cache of that name
abbrev pub id_of_live : Lives → List ℕ → Option ℕ
id_of_live lives name = named_from (λ k. k.config.name) name 0 lives

abbrev pub processors_of : Option Status → ℕ
processors_of None = 0
processors_of (Some k) = length k.config.processors

-- how many processors the cache at an id has
abbrev pub processors_at : Lives → ℕ → ℕ
processors_at lives id = processors_of (at_place lives id)

-- as a reader keeps them: by id, the configurations of those that are live
abbrev pub lives_in : List (Option CacheConfig) → Lives
lives_in caches = map (option_map opened) caches

-- these are live after a line
abbrev pub AreAfter : List (Option CacheConfig) → Line → List (Option CacheConfig) → Type 0
AreAfter before line caches = lives_in caches ≡ after_line (lives_in before) line

abbrev pub HaveFewProcessors : List (Option CacheConfig) → Type 0
HaveFewProcessors [] = ⊤
HaveFewProcessors (None ∷ caches) = HaveFewProcessors caches
HaveFewProcessors (Some c ∷ caches) = (length c.processors ≤ most_processors) × HaveFewProcessors caches

pub record IsFollowed (caches : List (Option CacheConfig)) (members : List (Option Member)) : Type 0 where
  pub listed : members ≡ members_of (lives_in caches)
  pub few : HaveFewProcessors caches
