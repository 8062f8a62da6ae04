-- Under which name a manager may go whose callbacks nobody asks.
use Rattle.std.specs.Prelude.{◌≡◌, List}
use Rattle.atomic_table.specs.Seated.{TableId}
use Rattle.jc_model.specs.declared.config.CacheConfig.{CacheConfig}
use Rattle.jc_locked.specs.Opening.{HandedIn}
use Rattle.jc_locked.specs.Stated.{Stated, stated_by_hand}

-- one that tells its configurations, that nothing is stated, and its index
abbrev pub IsUnder : {L P : Type 0} → HandedIn L P → List CacheConfig → List Stated → TableId → Type 0
IsUnder unnamed configs stated index = (unnamed.configs ≡ configs) × (stated_by_hand unnamed.shared ≡ stated) × (unnamed.index ≡ index)
