-- What the caches of a program together keep to.
use Rattle.std.specs.Prelude.{ℕ, Bool, ◌&&◌, nat_le, List, length, map, sum}
use Rattle.std.specs.List.{list_all}
use Rattle.jc_model.specs.Limits.{most_caches, most_processors, most_rows_together}
use Rattle.jc_model.specs.Lists.{distinct}
use Rattle.jc_model.specs.declared.config.CacheConfig.{CacheConfig}

abbrev pub few_processors : CacheConfig → Bool
few_processors c = nat_le (length c.processors) most_processors

abbrev pub names_of_caches : List CacheConfig → List (List ℕ)
names_of_caches caches = map (λ c. c.name) caches

abbrev pub total_capacity : List CacheConfig → ℕ
total_capacity caches = sum (map (λ c. c.capacity) caches)

abbrev pub within_limits : List CacheConfig → Bool
within_limits caches =
    nat_le (length caches) most_caches && list_all few_processors caches && distinct (names_of_caches caches) && nat_le (total_capacity caches) most_rows_together
