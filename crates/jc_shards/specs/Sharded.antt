-- A manager of four shards: which caches each is opened with, what its name tells, and what its sessions are.
use Rattle.std.specs.Prelude.{◌≡◌, ℕ, Bool, true, false, List, [], Option, None, Result}
use Rattle.atomic_table.specs.Seated.{TableId}
use Rattle.jc_shards.specs.Dealing.{Dealt, of_left, of_right}
use Rattle.jc_engine.specs.Opening.{open_refusal}
use Rattle.jc_model.specs.declared.config.CacheConfig.{CacheConfig}
use Rattle.jc_locked.specs.Living.{HasNoOpenCall, HasOpenCall}
use Rattle.jc_locked.specs.Opening.{HandedIn}
use Rattle.jc_locked.specs.Sessions.{Sitting}
use Rattle.jc_locked.specs.Stated.{Stated, stated_by_hand}
use Rattle.jc_locked.specs.declared.fault.CreateFault.{CreateFault}
use Rattle.jc_shards.specs.Dealt.{AreHalves, IsHalfRefusal}
use Rattle.jc_shards.specs.Halves.{IsFoundInHalf, IsMadeInHalf}
use Rattle.jc_shards.specs.Seating.{IsSeated}
use Rattle.jc_shards.specs.Sharding.{Hooks, IsCreation, IsFoundByName}
use Rattle.jc_locked.specs.declared.fault.SharedRefusal.TheVariants.{OutOfMemory}
use Rattle.jc_shards.specs.declared.quarters.QuarterRefusal.{QuarterRefusal}
use Rattle.jc_shards.specs.declared.side.Side.{Side}
use Rattle.jc_shards.specs.declared.side.Side.TheVariants.{Left, Right}

-- each half has the caches that the dealing gives it, dealt out once more
pub record AreQuarters {L P : Type 0} (dealing : Dealt) (configs : List CacheConfig) (seed : ℕ) (first second third fourth : HandedIn L P) : Type 0 where
  pub left_has : AreHalves dealing 1 (of_left dealing 0 configs) seed first second
  pub right_has : AreHalves dealing 1 (of_right dealing 0 configs) seed third fourth

-- no half of these caches is refused
pub record BothOpen (dealing : Dealt) (level : ℕ) (configs : List CacheConfig) : Type 0 where
  pub left_opens : open_refusal (of_left dealing level configs) ≡ None
  pub right_opens : open_refusal (of_right dealing level configs) ≡ None

-- a quarter is refused, one of the right half only where nothing is wrong with the left
abbrev pub IsQuarterRefusal : Dealt → List CacheConfig → QuarterRefusal → Type 0
IsQuarterRefusal dealing configs refused = at refused.right where
  at : Bool → Type 0
  at false = IsHalfRefusal dealing 1 (of_left dealing 0 configs) refused.half
  at true = BothOpen dealing 1 (of_left dealing 0 configs) × IsHalfRefusal dealing 1 (of_right dealing 0 configs) refused.half

-- the first is refused as want of memory, before its caches are looked at
abbrev pub unseen : QuarterRefusal
unseen = record { right = false; half = record { right = false; refusal = OutOfMemory } }

-- what the name of one shard tells
pub record Told : Type 0 where
  pub configs : List CacheConfig
  pub stated : List Stated
  pub index : TableId

pub record FourTold : Type 0 where
  pub first : Told
  pub second : Told
  pub third : Told
  pub fourth : Told

-- what a name tells that stands for none
abbrev pub nothing_told : Told
nothing_told = record { configs = []; stated = []; index = record { words = 0; slots = 0; views_name = 0; atom = 0; block = 0; offset = 0; slot_names = [] } }

abbrev pub untold : FourTold
untold = record { first = nothing_told; second = nothing_told; third = nothing_told; fourth = nothing_told }

-- what is to be told of a shard whose callbacks nobody asks
abbrev pub told_by : {L P : Type 0} → HandedIn L P → Told
told_by unnamed = record { configs = unnamed.configs; stated = stated_by_hand unnamed.shared; index = unnamed.index }

abbrev pub four_told_by : {L P : Type 0} → HandedIn L P → HandedIn L P → HandedIn L P → HandedIn L P → FourTold
four_told_by first second third fourth = record { first = told_by first; second = told_by second; third = told_by third; fourth = told_by fourth }

-- what one of four shards has
abbrev pub Quarter : Type 0 → Type 0
Quarter X = Side (Side X X) (Side X X)

-- each of two shards has a session that has made no call, has seen its table, and was admitted
pub record AreSeated (after : ℕ → Option ℕ) (closes : Bool) (configs others : List CacheConfig) (left right : Sitting) : Type 0 where
  pub in_left : IsSeated after closes configs left
  pub in_right : IsSeated after closes others right

-- no call is open in two shards
pub record NoneIsOpen (configs others : List CacheConfig) : Type 0 where
  pub in_left : HasNoOpenCall configs
  pub in_right : HasNoOpenCall others

-- the first cache of two shards whose call is open: one of the right only where none is open in the left
abbrev pub IsFirstOpen : List CacheConfig → List CacheConfig → Side ℕ ℕ → Type 0
IsFirstOpen configs others (Left id) = HasOpenCall configs id
IsFirstOpen configs others (Right id) = HasNoOpenCall configs × HasOpenCall others id

-- and of four
abbrev pub IsFirstOpenOfFour : List CacheConfig → List CacheConfig → List CacheConfig → List CacheConfig → Quarter ℕ → Type 0
IsFirstOpenOfFour first second third fourth (Left id) = IsFirstOpen first second id
IsFirstOpenOfFour first second third fourth (Right id) = NoneIsOpen first second × IsFirstOpen third fourth id

-- a cache is found in the shard of its name, or is not there
abbrev pub IsFoundInFour : List CacheConfig → List CacheConfig → List CacheConfig → List CacheConfig → ℕ → List ℕ → Option (Quarter ℕ) → Type 0
IsFoundInFour first second third fourth spread name result =
    IsFoundInHalf
    (IsFoundInHalf (λ way. IsFoundByName first name) (λ way. IsFoundByName second name))
    (IsFoundInHalf (λ way. IsFoundByName third name) (λ way. IsFoundByName fourth name))
    spread result

-- and is created there, or refused
abbrev pub IsMadeInFour : List CacheConfig → List CacheConfig → List CacheConfig → List CacheConfig → ℕ → CacheConfig → Hooks → Result (Quarter ℕ) (CreateFault × CacheConfig × Hooks) → Type 0
IsMadeInFour first second third fourth spread config hooks result =
    IsMadeInHalf
    (IsMadeInHalf (λ way. IsCreation first config hooks) (λ way. IsCreation second config hooks))
    (IsMadeInHalf (λ way. IsCreation third config hooks) (λ way. IsCreation fourth config hooks))
    spread result
