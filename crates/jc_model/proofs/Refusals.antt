-- What a configuration keeps to that is not refused.
use Rattle.jc_model.proofs.Names.{Bool, None, Option, Some, arith, false, length, refl, true, ◌≡◌, ◌≤◌, nat_tests, common_steps, option_map, option_or, CacheConfig}
use Rattle.jc_model.specs.Limits.{most_rows, most_listeners, most_processors}
use Rattle.jc_model.specs.Refusals.{broken_limit, refused_if}

pub both_none : {R : Type 0} (a b : Option R) → option_or a b ≡ None → (a ≡ None) × (b ≡ None)
both_none None b h = (refl, h)
both_none (Some refusal) b h = absurd cc

pub not_refused : {R : Type 0} (b : Bool) (refusal : R) → refused_if b refusal ≡ None → b ≡ false
not_refused true refusal h = absurd cc
not_refused false refusal h = refl

pub none_mapped : {A B : Type 0} (f : A → B) (o : Option A) → option_map f o ≡ None → o ≡ None
none_mapped f None h = refl
none_mapped f (Some x) h = absurd cc

pub record KeepsLimits (c : CacheConfig) : Type 0 where
  pub some_rows : 1 ≤ c.capacity
  pub rows : c.capacity ≤ most_rows
  pub listeners : c.listeners ≤ most_listeners
  pub processors : length c.processors ≤ most_processors

pub keeps_limits : (c : CacheConfig) → broken_limit c ≡ None → KeepsLimits c
keeps_limits c h = grind (arith, common_steps, nat_tests)
