-- A manager that is being opened.
use Rattle.std.proofs.Common.{◌≡◌, ℕ, ◌≤◌, ◌+◌, length-append, append_assoc, zero, suc, false, List, [], ◌∷◌, ◌++◌, map, length, Some, None, refl, sym, ap, subst, ◌∙◌, arith, option_map, sum, ltb, append-nil, Bool, true, cond, bytes_eq}
use Rattle.jc_engine.proofs.Names.{nat_tests, common_steps, map-append, sum_by-cons, sum_by-append, CacheConfig, most_caches, most_rows_together, most_ids, at_place, none_before, named_from, all_there, opened_from, Member, members_of, rows_of}
use Rattle.jc_engine.proofs.Names.{Cache, status_of, lives_of, fresh_cache, fresh_from, MayCome, is_taken, names_in, open_refusal_for, refusal_at, refusal_from, capacities, open_refusal, open_refusal_from, TooManyCaches, TotalCapacity, IdsSpent}
use Rattle.jc_engine.proofs.Names.{HashSet, contains, AreNames}
use Rattle.std.proofs.lemmas.Simd.{map-map}
use Rattle.jc_model.specs.Refusals.{broken_limit, refused_if}
use Rattle.jc_model.proofs.Refusals.{both_none, keeps_limits, none_mapped, not_refused}
use Rattle.jc_engine.proofs.Places.{length_map}
use Rattle.std.specs.List.{list_any}
use Rattle.std.proofs.lemmas.List.Folds.{list_any-append}

-- behind the names and the caches before it, one more has rows and a name of its own
next_allowed : (names : List (List ℕ)) (place : ℕ) (before after : List CacheConfig) (c : CacheConfig) → refusal_from names place (before ++ c ∷ after) ≡ None → (1 ≤ c.capacity) × (is_taken c.name (names ++ names_in before) ≡ false) × (broken_limit c ≡ None)
next_allowed names place [] after c h =
    let here = both_none (option_map (open_refusal_for place) (broken_limit c)) _ (both_none (refusal_at names place c) (refusal_from (names ++ c.name ∷ []) (place + 1) after) h).0 in
    let kept = none_mapped (open_refusal_for place) (broken_limit c) here.0 in
    ((keeps_limits c kept).some_rows, rw append-nil (not_refused (is_taken c.name names) _ here.1), kept)
next_allowed names place (d ∷ before) after c h =
    subst (λ (ns : List (List ℕ)). (1 ≤ c.capacity) × (is_taken c.name ns ≡ false) × (broken_limit c ≡ None)) (append_assoc names (d.name ∷ []) (names_in before))
    (next_allowed (names ++ d.name ∷ []) (place + 1) before after c (both_none (refusal_at names place d) (refusal_from (names ++ d.name ∷ []) (place + 1) (before ++ c ∷ after)) h).1)

-- One cache more behind these.

pub fresh_more : (first : ℕ) (configs : List CacheConfig) (c : CacheConfig) → fresh_from first configs ++ Some (fresh_cache c) ∷ [] ≡ fresh_from first (configs ++ c ∷ [])
fresh_more zero configs c = sym (map-append (λ d. Some (fresh_cache d)) configs (c ∷ []))
fresh_more (suc first) configs c = ap (λ l. None ∷ l) (fresh_more first configs c)

pub fresh_length : (first : ℕ) (configs : List CacheConfig) → length (fresh_from first configs) ≡ first + length configs
fresh_length zero configs = length_map (λ c. Some (fresh_cache c)) configs ∙ omega arith
fresh_length (suc first) configs = let rest = fresh_length first configs in omega (arith, rest)

pub fresh_lives : (first : ℕ) (configs : List CacheConfig) → lives_of (fresh_from first configs) ≡ opened_from first configs
fresh_lives zero configs = map-map (option_map status_of) (λ c. Some (fresh_cache c)) configs
fresh_lives (suc first) configs = ap (λ l. None ∷ l) (fresh_lives first configs)

-- each of them was made of a configuration
pub made_there : {A : Type 0} (f : CacheConfig → A) (first : ℕ) (configs : List CacheConfig) (id : ℕ) (k : A) → at_place (none_before first (map (λ c. Some (f c)) configs)) id ≡ Some k → (c : CacheConfig) × (k ≡ f c)
made_there f zero [] id k at = absurd cc
made_there f zero (c ∷ configs) zero k at = (c, cc)
made_there f zero (c ∷ configs) (suc id) k at = made_there f zero configs id k at
made_there f (suc first) configs zero k at = absurd cc
made_there f (suc first) configs (suc id) k at = made_there f first configs id k at

rows_fresh : (first : ℕ) (configs : List CacheConfig) → rows_of (members_of (lives_of (fresh_from first configs))) ≡ sum (capacities configs)
rows_fresh zero configs = ap sum (there configs)
  where
    there : (configs : List CacheConfig) → map (λ (m : Member). m.capacity) (all_there (members_of (lives_of (map (λ c. Some (fresh_cache c)) configs)))) ≡ capacities configs
    there [] = refl
    there (c ∷ cs) = ap (λ l. c.capacity ∷ l) (there cs)
rows_fresh (suc first) configs = rows_fresh first configs

unnamed : (first i : ℕ) (name : List ℕ) (configs : List CacheConfig) → is_taken name (names_in configs) ≡ false → named_from (λ (k : Cache). k.config.name) name i (fresh_from first configs) ≡ None
unnamed zero i name [] free = refl
unnamed zero i name (c ∷ cs) free = grind (arith, common_steps, unnamed zero (i + 1) name cs)
unnamed (suc first) i name configs free = unnamed first (i + 1) name configs free

within_total : (before after : List CacheConfig) (c : CacheConfig) → sum (capacities (before ++ c ∷ after)) ≤ most_rows_together → sum (capacities before) + c.capacity ≤ most_rows_together
within_total before after c at_most =
    let split : sum (capacities (before ++ c ∷ after)) ≡ sum (capacities before) + (c.capacity + sum (capacities after)) =
    ap sum (map-append (λ (d : CacheConfig). d.capacity) before (c ∷ after)) ∙ (sum_by-append (λ n. n) (capacities before) (c.capacity ∷ capacities after) ∙ ap (λ n. sum (capacities before) + n) (sum_by-cons (λ n. n) c.capacity (capacities after))) in
    omega (arith, at_most, split)

-- each of the configurations that are not refused may come behind those before it
pub may_come : (first : ℕ) (configs before after : List CacheConfig) (c : CacheConfig) → open_refusal_from first configs ≡ None → before ++ c ∷ after ≡ configs → MayCome (fresh_from first before) c
may_come first configs before after c h all =
    let opens = both_none (open_refusal configs) _ h in
    let each = both_none (refusal_from [] 0 configs) _ (both_none (refused_if (ltb most_caches (length configs)) TooManyCaches) _ opens.0).1 in
    let few = not_refused (ltb most_ids (first + length configs)) IdsSpent opens.1 in
    let small = not_refused (ltb most_rows_together (sum (capacities configs))) TotalCapacity each.1 in
    let at_most : first + length configs ≤ most_ids = grind (arith, nat_tests) in
    let next = next_allowed [] 0 before after c (ap (refusal_from [] 0) all ∙ each.0) in
    record {
      ids = omega (arith, at_most, length-append before (c ∷ after), fresh_length first before, ap length all);
      rows = next.0;
      limits = next.2;
      name = unnamed first 0 c.name before next.1;
      total = let within = within_total before after c (let most : sum (capacities configs) ≤ most_rows_together = grind (arith, nat_tests) in rw (← all) at most) in omega (arith, rows_fresh first before, within);
    }

-- Names that are taken, in a set and as a list.

pub any_map : {A B : Type 0} (p : B → Bool) (f : A → B) (xs : List A) → list_any (λ x. p (f x)) xs ≡ list_any p (map f xs)
any_map p f [] = refl
any_map p f (x ∷ xs) = cc (any_map p f xs)

pub one_more : {S : Type 0} (set set' : HashSet (List ℕ) S) (names : List (List ℕ)) (name : List ℕ)
    → ((q : List ℕ) → contains bytes_eq set' q ≡ cond (bytes_eq name q) true (contains bytes_eq set q))
    → AreNames (Some set) names → AreNames (Some set') (names ++ name ∷ [])
one_more set set' names name updates are q = grind (arith, common_steps, updates q, are q, list_any-append (λ n. bytes_eq n q) names (name ∷ []))
