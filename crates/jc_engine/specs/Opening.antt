-- Which configurations a manager opens with.
use Rattle.std.specs.Prelude.{◌≡◌, ◌<◌, ◌≤◌, ◌⊎◌, ℕ, ◌+◌, ltb, Bool, List, [], ◌∷◌, ◌++◌, length, sum, map, Option, Some, None, IfSome, Result, Err, IfErr}
use Rattle.std.specs.HashSet.{HashSet, contains}
use Rattle.std.specs.List.{list_any}
use Rattle.std.specs.Option.{option_map, option_or}
use Rattle.std.specs.Str.{bytes_eq}
use Rattle.jc_model.specs.declared.config.CacheConfig.{CacheConfig}
use Rattle.jc_model.specs.declared.config.Limit.{Limit}
use Rattle.jc_model.specs.declared.config.Limit.TheVariants as limit
use Rattle.jc_model.specs.Limits.{most_caches, most_rows_together, most_ids}
use Rattle.jc_model.specs.Refusals.{broken_limit, refused_if, rows_of}
use Rattle.jc_model.specs.Runs.{members_of}
use Rattle.jc_model.specs.State.{zeros}
use Rattle.jc_engine.specs.declared.open.OpenRefusal.{OpenRefusal}
use Rattle.jc_engine.specs.declared.open.OpenRefusal.TheVariants.{TooManyCaches, BadCapacity, TooManyListeners, TooManyProcessors, DuplicateName, TotalCapacity, IdsSpent, OutOfMemory}
use Rattle.jc_engine.specs.declared.turn.Turn.TheVariants.{Idle}
use Rattle.jc_engine.specs.Caches.{Cache, lives_of, id_of}
use Rattle.jc_engine.specs.Managed.{Slot}

abbrev pub is_taken : List ℕ → List (List ℕ) → Bool
is_taken name names = list_any (λ n. bytes_eq n name) names

abbrev pub names_in : List CacheConfig → List (List ℕ)
names_in configs = map (λ c. c.name) configs

-- why the cache at a place is refused that breaks this limit
abbrev pub open_refusal_for : ℕ → Limit → OpenRefusal
open_refusal_for place limit.Capacity = BadCapacity place
open_refusal_for place limit.Listeners = TooManyListeners place
open_refusal_for place limit.Processors = TooManyProcessors place

-- what is wrong with the cache at a place, behind caches with these names
abbrev pub refusal_at : List (List ℕ) → ℕ → CacheConfig → Option OpenRefusal
refusal_at names place c = option_or (option_map (open_refusal_for place) (broken_limit c)) (refused_if (is_taken c.name names) (DuplicateName place))

abbrev pub refusal_from : List (List ℕ) → ℕ → List CacheConfig → Option OpenRefusal
refusal_from names place [] = None
refusal_from names place (c ∷ configs) =
    option_or (refusal_at names place c) (refusal_from (names ++ c.name ∷ []) (place + 1) configs)

abbrev pub capacities : List CacheConfig → List ℕ
capacities configs = map (λ c. c.capacity) configs

-- why a manager does not open, where memory suffices
abbrev pub open_refusal : List CacheConfig → Option OpenRefusal
open_refusal configs =
    option_or (refused_if (ltb most_caches (length configs)) TooManyCaches)
    (option_or (refusal_from [] 0 configs)
    (refused_if (ltb most_rows_together (sum (capacities configs))) TotalCapacity))

-- the same, where the first cache has this id
abbrev pub open_refusal_from : ℕ → List CacheConfig → Option OpenRefusal
open_refusal_from first configs = option_or (open_refusal configs) (refused_if (ltb most_ids (first + length configs)) IdsSpent)

-- the refusal that is due, if one is, is the result
abbrev pub RefusesDue : {T : Type 0} → Option OpenRefusal → Result T OpenRefusal → Type 0
RefusesDue due result = IfSome due (λ refusal. result ≡ Err refusal)

-- and no other is, but one for want of memory
abbrev pub RefusesNoOther : {T : Type 0} → Option OpenRefusal → Result T OpenRefusal → Type 0
RefusesNoOther due result = IfErr result (λ refusal. (due ≡ Some refusal) ⊎ (refusal ≡ OutOfMemory))

-- a cache of this configuration may get the next id
pub record MayCome (caches : List (Option Cache)) (c : CacheConfig) : Type 0 where
  pub ids : length caches < most_ids
  pub rows : 1 ≤ c.capacity
  pub limits : broken_limit c ≡ None
  pub name : id_of c.name caches ≡ None
  pub total : rows_of (members_of (lives_of caches)) + c.capacity ≤ most_rows_together

-- the set has these names and no others; where memory was refused there is no set
abbrev pub AreNames : {S : Type 0} → Option (HashSet (List ℕ) S) → List (List ℕ) → Type 0
AreNames None names = Unit {0}
AreNames (Some set) names = (name : List ℕ) → contains bytes_eq set name ≡ is_taken name names

abbrev pub fresh_slot : ℕ → CacheConfig → Slot
fresh_slot id c = record { state = record { config = c; id = id; cells = []; counts = zeros }; turn = Idle }
