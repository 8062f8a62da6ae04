-- What is known of live caches decides what the model asks of them.
use Rattle.std.proofs.Common.{◌≡◌, ℕ, zero, suc, ◌+◌, ◌<◌, ◌≤◌, Bool, true, false, if◌then◌else◌, List, [], ◌∷◌, map, length, Option, Some, None, is_some, refl, ◌∙◌, ap, arith}
use Rattle.std.specs.Prelude.{◌||◌, ltb}
use Rattle.std.specs.Option.{option_map}
use Rattle.std.specs.List.{list_any}
use Rattle.std.specs.Str.{bytes_eq}
use Rattle.std.proofs.lemmas.Bool.Decides.{nat_tests}
use Rattle.jc_model.specs.declared.config.CacheConfig.{CacheConfig}
use Rattle.jc_model.specs.declared.event.CreateRefusal.TheVariants as create
use Rattle.jc_model.specs.Limits.{most_caches, most_rows_together, most_ids}
use Rattle.jc_model.specs.Places.{at_place, all_there, named_from}
use Rattle.jc_model.specs.Members.{id_named}
use Rattle.jc_model.specs.Refusals.{Member, rows_of, broken_limit, refusal_for, refused_if, refusal_beside}
use Rattle.jc_model.proofs.Refusals.{KeepsLimits, both_none, keeps_limits, none_mapped, not_refused}

-- Words over a list whose items are read by a function.
module _ {A B : Type 0} (f : A → B) where
  pub at_place_map : (xs : List (Option A)) (i : ℕ) → at_place (map (option_map f) xs) i ≡ option_map f (at_place xs i)
  at_place_map [] i = refl
  at_place_map (None ∷ xs) zero = refl
  at_place_map (Some x ∷ xs) zero = refl
  at_place_map (x ∷ xs) (suc i) = at_place_map xs i

  pub named_map : (name_of : B → List ℕ) (name : List ℕ) (i : ℕ) (xs : List (Option A)) → named_from name_of name i (map (option_map f) xs) ≡ named_from (λ x. name_of (f x)) name i xs
  named_map name_of name i [] = refl
  named_map name_of name i (None ∷ xs) = named_map name_of name (i + 1) xs
  named_map name_of name i (Some x ∷ xs) = ap (λ (o : Option ℕ). if bytes_eq (name_of (f x)) name then Some i else o) (named_map name_of name (i + 1) xs)

-- a name is taken where something has it
pub any_named : {A : Type 0} (name_of : A → List ℕ) (name : List ℕ) (i : ℕ) (xs : List (Option A)) → is_some (named_from name_of name i xs) ≡ list_any (λ x. bytes_eq (name_of x) name) (all_there xs)
any_named name_of name i [] = refl
any_named name_of name i (None ∷ xs) = any_named name_of name (i + 1) xs
any_named name_of name i (Some x ∷ xs) = go (bytes_eq (name_of x) name) (any_named name_of name (i + 1) xs)
  where
    go : (b : Bool) → is_some (named_from name_of name (i + 1) xs) ≡ list_any (λ x. bytes_eq (name_of x) name) (all_there xs) → is_some (if b then Some i else named_from name_of name (i + 1) xs) ≡ (b || list_any (λ x. bytes_eq (name_of x) name) (all_there xs))
    go true rest = refl
    go false rest = rest

-- where nothing is refused, the cache may be added
none_there : {A : Type 0} (o : Option A) → is_some o ≡ false → o ≡ None
none_there None h = refl
none_there (Some x) h = absurd cc

pub record IsAllowed (ms : List (Option Member)) (c : CacheConfig) : Type 0 where
  pub few : length (all_there ms) < most_caches
  pub limits : KeepsLimits c
  pub new : id_named c.name ms ≡ None
  pub together : rows_of ms + c.capacity ≤ most_rows_together
  pub ids : length ms < most_ids

pub allowed : (ms : List (Option Member)) (c : CacheConfig) → refusal_beside ms c ≡ None → IsAllowed ms c
allowed ms c h =
    let few = both_none (refused_if (ltb most_caches (length (all_there ms) + 1)) create.TooManyCaches) _ h in
    let limits = both_none (option_map refusal_for (broken_limit c)) _ few.1 in
    let new = both_none (refused_if (list_any (λ m. bytes_eq m.name c.name) (all_there ms)) create.DuplicateName) _ limits.1 in
    let total = both_none (refused_if (ltb most_rows_together (rows_of ms + c.capacity)) create.TotalCapacity) _ new.1 in
    record {
      few = let is = not_refused (ltb most_caches (length (all_there ms) + 1)) _ few.0 in grind (arith, nat_tests);
      limits = keeps_limits c (none_mapped refusal_for (broken_limit c) limits.0);
      new = none_there (id_named c.name ms) (any_named (λ m. m.name) c.name 0 ms ∙ not_refused (list_any (λ m. bytes_eq m.name c.name) (all_there ms)) _ new.0);
      together = let is = not_refused (ltb most_rows_together (rows_of ms + c.capacity)) _ total.0 in grind (arith, nat_tests);
      ids = let is = not_refused (ltb most_ids (length ms + 1)) _ total.1 in grind (arith, nat_tests);
    }
