-- Why no cache is created: which limit its configuration breaks by itself, and what it comes to beside the live caches.
use Rattle.std.specs.Prelude.{ℕ, ◌+◌, Bool, if◌then◌else◌, ◌||◌, ltb, List, length, map, sum}
use Rattle.std.specs.Prelude.{Option, Some, None}
use Rattle.std.specs.List.{list_any}
use Rattle.std.specs.Option.{option_map, option_or}
use Rattle.std.specs.Str.{bytes_eq}
use Rattle.jc_model.specs.Limits.{most_caches, most_rows, most_rows_together, most_listeners, most_processors, most_ids}
use Rattle.jc_model.specs.Places.{all_there}
use Rattle.jc_model.specs.declared.config.CacheConfig.{CacheConfig}
use Rattle.jc_model.specs.declared.config.Limit.{Limit}
use Rattle.jc_model.specs.declared.config.Limit.TheVariants as limit
use Rattle.jc_model.specs.declared.event.CreateRefusal.{CreateRefusal}
use Rattle.jc_model.specs.declared.event.CreateRefusal.TheVariants.{TooManyCaches, BadCapacity, TooManyListeners, TooManyProcessors, DuplicateName, TotalCapacity, IdsSpent}

-- the first limit that a configuration breaks
abbrev pub broken_limit : CacheConfig → Option Limit
broken_limit c =
    if ltb c.capacity 1 || ltb most_rows c.capacity then Some limit.Capacity
    else (if ltb most_listeners c.listeners then Some limit.Listeners
    else (if ltb most_processors (length c.processors) then Some limit.Processors else None))

abbrev pub refusal_for : Limit → CreateRefusal
refusal_for limit.Capacity = BadCapacity
refusal_for limit.Listeners = TooManyListeners
refusal_for limit.Processors = TooManyProcessors

-- this refusal, where it is due
abbrev pub refused_if : {R : Type 0} → Bool → R → Option R
refused_if b refusal = if b then Some refusal else None

-- what a manager knows of a live cache
pub record Member : Type 0 where
  pub name : List ℕ
  pub capacity : ℕ

abbrev pub member_of : CacheConfig → Member
member_of c = record { name = c.name; capacity = c.capacity }

-- how many rows they may have together
abbrev pub rows_of : List (Option Member) → ℕ
rows_of members = sum (map (λ m. m.capacity) (all_there members))

-- why no cache is created beside these, by id, where memory suffices: the first reason that applies
abbrev pub refusal_beside : List (Option Member) → CacheConfig → Option CreateRefusal
refusal_beside members c =
    option_or (refused_if (ltb most_caches (length (all_there members) + 1)) TooManyCaches)
    (option_or (option_map refusal_for (broken_limit c))
    (option_or (refused_if (list_any (λ m. bytes_eq m.name c.name) (all_there members)) DuplicateName)
    (option_or (refused_if (ltb most_rows_together (rows_of members + c.capacity)) TotalCapacity)
    (refused_if (ltb most_ids (length members + 1)) IdsSpent))))
