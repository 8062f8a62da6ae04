-- What is read keeps to the limits of settings.
use Rattle.std.proofs.Common.{◌≡◌, ℕ, ◌+◌, Bool, true, false, List, [], ◌∷◌, length, map, Option, Some, None, Ok, refl, sym, ap, ◌∙◌, nat_le}
use Rattle.std.specs.Prelude.{if◌then◌else◌, ◌||◌}
use Rattle.std.specs.List.{list_all, list_any}
use Rattle.std.specs.Str.{bytes_eq}
use Rattle.std.proofs.lemmas.List.Sums.{sum_by-cons}
use Rattle.std.proofs.lemmas.Slice.Eq.{bytes_eq-Decides}
use Rattle.std.proofs.lemmas.List.{length-map}
use Rattle.toml.specs.Data.{Items}
use Rattle.jc_model.specs.Lists.{distinct}
use Rattle.jc_model.specs.Limits.{most_caches}
use Rattle.jc_config.specs.Limits.{few_processors, names_of_caches, total_capacity, within_limits}
use Rattle.jc_config.specs.Config.{caches_of, duplicate_from, total_of, fault_unless, check_names, check_totals}
use Rattle.jc_config.specs.declared.kinds.CacheSettings.{CacheSettings}
use Rattle.jc_config.proofs.Caches.{AllSound, sound_caches}
use Rattle.jc_config.proofs.Readings.{bind_ok, provided_ok}

few_all : (cs : List CacheSettings) → AllSound cs → list_all few_processors (map (λ c. c.config) cs) ≡ true
few_all [] sound = refl
few_all (c ∷ cs) sound = rw (sound.0.processors, few_all cs sound.1) refl

-- Names that no earlier one is equal to.

either : (a b : Bool) → (a || b) ≡ false → (a ≡ false) × (b ≡ false)
either true b e = absurd cc
either false b e = (refl, e)

passed : (n : ℕ) (b : Bool) (rest : Option ℕ) → (if b then Some n else rest) ≡ None → (b ≡ false) × (rest ≡ None)
passed n true rest e = absurd cc
passed n false rest e = (refl, e)

turned : (x y : List ℕ) (b : Bool) → bytes_eq x y ≡ b → bytes_eq y x ≡ false → b ≡ false
turned x y true is other = absurd (let same : x ≡ y = (bytes_eq-Decides x y).0 is in let itself : bytes_eq y x ≡ true = (bytes_eq-Decides y x).1 (sym same) in cc)
turned x y false is other = refl

-- a name that was seen comes no more
not_again : (s : List ℕ) (seen : List (List ℕ)) (n : ℕ) (xs : List (List ℕ)) → ((x : List ℕ) → list_any (λ y. bytes_eq y x) seen ≡ false → bytes_eq s x ≡ false) → duplicate_from seen n xs ≡ None → list_any (λ y. bytes_eq y s) xs ≡ false
not_again s seen n [] among none = refl
not_again s seen n (x ∷ xs) among none =
    let (new, left) = passed n (list_any (λ y. bytes_eq y x) seen) (duplicate_from (x ∷ seen) (n + 1) xs) none in
    let here : bytes_eq x s ≡ false = turned x s (bytes_eq x s) refl (among x new) in
    rw here (not_again s (x ∷ seen) (n + 1) xs (λ z absent. among z (either (bytes_eq x z) (list_any (λ y. bytes_eq y z) seen) absent).1) left)

own_names : (seen : List (List ℕ)) (n : ℕ) (xs : List (List ℕ)) → duplicate_from seen n xs ≡ None → distinct xs ≡ true
own_names seen n [] none = refl
own_names seen n (x ∷ xs) none =
    let (new, left) = passed n (list_any (λ y. bytes_eq y x) seen) (duplicate_from (x ∷ seen) (n + 1) xs) none in
    rw (not_again x (x ∷ seen) (n + 1) xs (λ z absent. (either (bytes_eq x z) (list_any (λ y. bytes_eq y z) seen) absent).0) left, own_names (x ∷ seen) (n + 1) xs left) refl

checked_ok : (o : Option ℕ) (u : Unit {0}) → check_names o ≡ Ok u → o ≡ None
checked_ok None u e = refl
checked_ok (Some n) u e = absurd cc

same_rows : (cs : List CacheSettings) → total_capacity (map (λ c. c.config) cs) ≡ total_of cs
same_rows [] = refl
same_rows (c ∷ cs) = sum_by-cons (λ n. n) c.config.capacity (map (λ x. x.capacity) (map (λ x. x.config) cs)) ∙ ap (λ n. c.config.capacity + n) (same_rows cs)

same_names : (cs : List CacheSettings) → names_of_caches (map (λ c. c.config) cs) ≡ map (λ c. c.config.name) cs
same_names [] = refl
same_names (c ∷ cs) = ap (λ names. c.config.name ∷ names) (same_names cs)

pub limits_kept : (n : ℕ) (ds : Items) (cs : List CacheSettings) (u : Unit {0}) → caches_of n ds ≡ Ok cs → check_totals cs ≡ Ok u → within_limits (map (λ c. c.config) cs) ≡ true
limits_kept n ds cs u read totals =
    let (few, e, k) = bind_ok (fault_unless (nat_le (length cs) most_caches) _) _ u totals in
    let (distinct, f, rows) = bind_ok (check_names (duplicate_from [] 1 (map (λ c. c.config.name) cs))) _ u k in
    rw (
      length-map cs (λ (c : CacheSettings). c.config),
      provided_ok (nat_le (length cs) most_caches) _ few e,
      few_all cs (sound_caches n ds cs read),
      same_names cs,
      own_names [] 1 (map (λ c. c.config.name) cs) (checked_ok _ distinct f),
      same_rows cs,
      provided_ok _ _ u rows,
    ) refl
