-- No two caches have one name where no manager of theirs refuses what it is dealt: equal names go to one manager.
use Rattle.std.proofs.Common.{◌≡◌, ℕ, ◌+◌, Bool, true, false, if◌then◌else◌, ◌||◌, List, [], ◌∷◌, ◌++◌, filter, None, not, refl, sym, ◌∙◌, ap, true≢false, option_map}
use Rattle.std.proofs.lemmas.List.Folds.{list_any-append}
use Rattle.std.proofs.lemmas.Map.Made.{AllPairs-from_IsDistinct}
use Rattle.std.specs.Cmp.Lexicographic.{bytes_decides}
use Rattle.std.specs.List.{IsDistinct, AllByRecursion}
use Rattle.std.specs.Str.{bytes_eq}
use Rattle.jc_shards.specs.Dealing.{Dealt, is_right, of_left, of_right, names_of, AreApart}
use Rattle.jc_engine.specs.Opening.{is_taken, open_refusal, open_refusal_for, refusal_at, refusal_from}
use Rattle.jc_locked.specs.Opening.{HandedIn}
use Rattle.jc_model.proofs.Refusals.{both_none, not_refused}
use Rattle.jc_model.specs.Refusals.{broken_limit}
use Rattle.jc_model.specs.declared.config.CacheConfig.{CacheConfig}
use Rattle.jc_shards.specs.Dealt.{AreHalves}
use Rattle.jc_shards.specs.Sharded.{AreQuarters}

-- the name is none of these caches'
abbrev IsNew : List ℕ → List CacheConfig → Type 0
IsNew name configs = AllByRecursion (λ n. bytes_eq name n ≡ false) (names_of configs)

abbrev AreDistinct : List CacheConfig → Type 0
AreDistinct configs = IsDistinct bytes_eq (names_of configs)

neither : (a b : Bool) → (a || b) ≡ false → (a ≡ false) × (b ≡ false)
neither true b h = absurd (true≢false h)
neither false b h = (refl, h)

-- a name that one longer list lacks is another than the last
lacks : (names : List (List ℕ)) (last name : List ℕ) → is_taken name (names ++ last ∷ []) ≡ false → (is_taken name names ≡ false) × (bytes_eq last name ≡ false)
lacks names last name h =
    let two = neither (is_taken name names) _ (sym (list_any-append (λ n. bytes_eq n name) names (last ∷ [])) ∙ h) in
    (two.0, (neither (bytes_eq last name) false two.1).0)

-- where none is refused behind these names, none has one of them
not_taken : (names : List (List ℕ)) (place : ℕ) (configs : List CacheConfig) → refusal_from names place configs ≡ None → AllByRecursion (λ n. is_taken n names ≡ false) (names_of configs)
not_taken names place [] h = tt
not_taken names place (c ∷ configs) h =
    let both = both_none (refusal_at names place c) _ h in
    let free = not_refused (is_taken c.name names) _ (both_none (option_map (open_refusal_for place) (broken_limit c)) _ both.0).1 in
    (free, fewer configs (not_taken (names ++ c.name ∷ []) (place + 1) configs both.1)) where
      fewer : (cs : List CacheConfig) → AllByRecursion (λ n. is_taken n (names ++ c.name ∷ []) ≡ false) (names_of cs) → AllByRecursion (λ n. is_taken n names ≡ false) (names_of cs)
      fewer [] all = tt
      fewer (d ∷ cs) all = ((lacks names c.name d.name all.0).0, fewer cs all.1)

distinct_from : (names : List (List ℕ)) (place : ℕ) (configs : List CacheConfig) → refusal_from names place configs ≡ None → AreDistinct configs
unfolding IsDistinct
distinct_from names place [] h = tt
distinct_from names place (c ∷ configs) h =
    let rest = (both_none (refusal_at names place c) _ h).1 in
    (new configs (not_taken (names ++ c.name ∷ []) (place + 1) configs rest), distinct_from (names ++ c.name ∷ []) (place + 1) configs rest) where
      new : (cs : List CacheConfig) → AllByRecursion (λ n. is_taken n (names ++ c.name ∷ []) ≡ false) (names_of cs) → IsNew c.name cs
      new [] all = tt
      new (d ∷ cs) all = ((lacks names c.name d.name all.0).1, new cs all.1)

distinct : (configs : List CacheConfig) → open_refusal configs ≡ None → AreDistinct configs
distinct configs h = distinct_from [] 0 configs (both_none (refusal_from [] 0 configs) _ (both_none _ _ h).1).0

-- a name that is new to those which pass a test as it does is new to all
new_to_all : (test : List ℕ → Bool) (name : List ℕ) (configs : List CacheConfig) → test name ≡ true → IsNew name (filter (λ c. test c.name) configs) → IsNew name configs
new_to_all test name [] passes new = tt
new_to_all test name (c ∷ configs) passes new = go (test c.name) refl new (new_to_all test name configs passes) where
  apart : (b : Bool) → bytes_eq name c.name ≡ b → test c.name ≡ false → bytes_eq name c.name ≡ false
  apart true equal differs = absurd (true≢false (sym passes ∙ ap test ((bytes_decides name c.name).0 equal) ∙ differs))
  apart false other differs = other

  go : (b : Bool) → test c.name ≡ b → IsNew name (if b then c ∷ filter (λ d. test d.name) configs else filter (λ d. test d.name) configs) → (IsNew name (filter (λ d. test d.name) configs) → IsNew name configs) → IsNew name (c ∷ configs)
  go true same new rest = (new.0, rest new.1)
  go false differs new rest = (apart (bytes_eq name c.name) refl differs, rest new)

-- those that pass a test and those that fail it have no name in common
halves : (test : List ℕ → Bool) (configs : List CacheConfig) → AreDistinct (filter (λ c. not (test c.name)) configs) → AreDistinct (filter (λ c. test c.name) configs) → AreDistinct configs
unfolding IsDistinct
halves test [] fail pass = tt
halves test (c ∷ configs) fail pass = go (test c.name) refl fail pass (halves test configs) where
  go : (b : Bool) → test c.name ≡ b → AreDistinct (if not b then c ∷ filter (λ d. not (test d.name)) configs else filter (λ d. not (test d.name)) configs) → AreDistinct (if b then c ∷ filter (λ d. test d.name) configs else filter (λ d. test d.name) configs) → (AreDistinct (filter (λ d. not (test d.name)) configs) → AreDistinct (filter (λ d. test d.name) configs) → AreDistinct configs) → AreDistinct (c ∷ configs)
  go true passes fail pass rest = (new_to_all test c.name configs passes pass.0, rest fail pass.1)
  go false fails fail pass rest = (new_to_all (λ n. not (test n)) c.name configs (ap not fails) fail.0, rest fail.1 pass)

distinct_halves : {L P M Q : Type 0} (dealing : Dealt) (level : ℕ) (configs : List CacheConfig) (seed : ℕ) (left : HandedIn L P) (right : HandedIn M Q) → AreHalves dealing level configs seed left right → AreDistinct configs
distinct_halves dealing level configs seed left right has =
    halves (is_right dealing level) configs (distinct (of_left dealing level configs) has.left_has.opens) (distinct (of_right dealing level configs) has.right_has.opens)

-- caches that have opened in four managers have names of their own
pub apart : {L P : Type 0} (dealing : Dealt) (configs : List CacheConfig) (seed : ℕ) (first second third fourth : HandedIn L P) → AreQuarters dealing configs seed first second third fourth → AreApart (names_of configs)
apart dealing configs seed first second third fourth has =
    let left = distinct_halves dealing 1 (of_left dealing 0 configs) seed first second has.left_has in
    let right = distinct_halves dealing 1 (of_right dealing 0 configs) seed third fourth has.right_has in
    AllPairs-from_IsDistinct bytes_decides (names_of configs) (halves (is_right dealing 0) configs left right)
