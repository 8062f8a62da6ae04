-- The settings that are told of a cache are those that it was created with.
use Rattle.std.proofs.Common.{◌≡◌, ◌<◌, ℕ, Bool, true, false, List, [], ◌∷◌, map, Ok, refl, ap₂, arith}
use Rattle.std.proofs.lemmas.Bool.Decides.{nat_tests}
use Rattle.jc_model.specs.declared.config.CacheConfig.{CacheConfig}
use Rattle.jc_model.specs.declared.config.Policy.{Policy}
use Rattle.jc_model.specs.declared.config.Policy.TheVariants.{Eternal, Created, Accessed, Modified, Touched}
use Rattle.jc_save.specs.Spelling.{flag}
use Rattle.jc_c.specs.declared.ffi_settings.NewCache.{NewCache}
use Rattle.jc_c.specs.Asked.{bound_told, duration_of, policy_number, settings_by, wants_by}
use Rattle.jc_c.specs.Reading.{bound_said, cache_by, cache_said, is_set, key_said, policy_said}

set_again : (b : Bool) → is_set (flag b) ≡ b
set_again true = refl
set_again false = refl

all_again : (wants : List Bool) → map is_set (map flag wants) ≡ wants
all_again [] = refl
all_again (b ∷ wants) = ap₂ (λ x xs. x ∷ xs) (set_again b) (all_again wants)

policy_again : (p : Policy) → policy_said (policy_number p) (duration_of p) ≡ Ok p
policy_again Eternal = refl
policy_again (Created d) = refl
policy_again (Accessed d) = refl
policy_again (Modified d) = refl
policy_again (Touched d) = refl

bound_again : (n : ℕ) → 0 < n → bound_said (bound_told n) ≡ n
bound_again n some = grind (arith, nat_tests, some)

by_numbers : (c : CacheConfig) (most : ℕ) → 0 < most → cache_by c.name c.policy (settings_by c most) (wants_by c) ≡ Ok (record { config = c; max_value = most })
by_numbers c most some = rw (set_again c.loader, set_again c.writer, all_again c.processors, bound_again most some) refl

pub settings_again : (asked : NewCache) → 0 < asked.max_value → key_said asked.config.name ≡ Ok asked.config.name
    → cache_said asked.config.name (settings_by asked.config asked.max_value) (wants_by asked.config) ≡ Ok asked
settings_again asked some named = rw (named, policy_again asked.config.policy) (by_numbers asked.config asked.max_value some)
