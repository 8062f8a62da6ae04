-- What a cache was created with, in the numbers that create it.
use Rattle.std.specs.Prelude.{ℕ, nat_eq, if◌then◌else◌, List, map, option_map, Option, Some, None}
use Rattle.jc_model.specs.declared.config.CacheConfig.{CacheConfig}
use Rattle.jc_model.specs.declared.config.Policy.{Policy}
use Rattle.jc_model.specs.declared.config.Policy.TheVariants.{Eternal, Created, Accessed, Modified, Touched}
use Rattle.jc_model.specs.Limits.{value_bytes}
use Rattle.jc_model.specs.Places.{at_place}
use Rattle.jc_engine.specs.Caches.{Cache}
use Rattle.jc_save.specs.Spelling.{flag}
use Rattle.jc_c.specs.declared.desks.Desk.{Desk}
use Rattle.jc_c.specs.declared.ffi_settings.FfiSettings.{FfiSettings}
use Rattle.jc_c.specs.declared.ffi_settings.NewCache.{NewCache}
use Rattle.jc_c.specs.declared.status.Status.{Status}
use Rattle.jc_c.specs.declared.status.Status.TheVariants.{NoSuchCache}
use Rattle.jc_c.specs.Items.{Bytes, copy_status}
use Rattle.jc_c.specs.Seated.{Seated, desk_of}

abbrev pub policy_number : Policy → ℕ
policy_number Eternal = 0
policy_number (Created d) = 1
policy_number (Accessed d) = 2
policy_number (Modified d) = 3
policy_number (Touched d) = 4

abbrev pub duration_of : Policy → ℕ
duration_of Eternal = 0
duration_of (Created d) = d
duration_of (Accessed d) = d
duration_of (Modified d) = d
duration_of (Touched d) = d

-- the most bytes of a value, where 0 stands for no bound of the cache's own
abbrev pub bound_told : ℕ → ℕ
bound_told most = if nat_eq most value_bytes then 0 else most

abbrev pub settings_by : CacheConfig → ℕ → FfiSettings
settings_by c most = record { duration = duration_of c.policy; capacity = c.capacity; policy = policy_number c.policy; loader = flag c.loader; writer = flag c.writer; listeners = c.listeners; max_value = bound_told most; reserved = 0 }

-- of each processor, whether it wants the value
abbrev pub wants_by : CacheConfig → List ℕ
wants_by c = map flag c.processors

-- what a live cache with its desk was created with
abbrev pub asked_of : Option Cache → Option Desk → Option NewCache
asked_of (Some k) (Some desk) = Some (record { config = k.config; max_value = desk.max_value })
asked_of _ _ = None

abbrev pub asked_at : ℕ → Seated → Option NewCache
asked_at id s = asked_of (at_place s.caches id) (desk_of id s)

-- What is told of it.

abbrev pub asked_status : Option NewCache → ℕ → Status
asked_status None room = NoSuchCache
asked_status (Some asked) room = copy_status (Some (wants_by asked.config)) room

abbrev pub settings_told : Option NewCache → FfiSettings → FfiSettings
settings_told None before = before
settings_told (Some asked) before = settings_by asked.config asked.max_value

abbrev pub wants_told : Option NewCache → Bytes
wants_told asked = option_map (λ a. wants_by a.config) asked
