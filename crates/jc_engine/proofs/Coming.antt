-- A manager's fields with a cache more, with no caches yet, and over another table.
use Rattle.jc_engine.proofs.Names.{cases_eq, SameElsewhere, common_steps, map-append, length_push, CacheConfig, none_before, Status, RowMap, Member, member_of, members_of, Slot, IsManaged, cache_in, Cache, status_of, lives_of, fresh_cache, fresh_slot, IsAt, places_of, caches_in, get-empty, Lives, at_place, opened, opened_from, state_in, items_of, item_of, Tied, nil_from_length, length-map}
use Rattle.std.specs.FinMap as table
use Rattle.std.proofs.Common.{◌≡◌, ℕ, ◌+◌, ◌≤◌, ◌<◌, zero, suc, List, [], ◌∷◌, ◌++◌, map, length, option_map, Option, Some, None, inl, inr, refl, sym, ap, subst, ◌∙◌, arith}
use Rattle.jc_model.specs.Limits.{most_ids}
use Rattle.jc_model.specs.Refusals.{broken_limit}
use Rattle.jc_ops.specs.Visited.{Visited, IsKeptIn}
use Rattle.jc_engine.specs.Managed.{RestsAgain}
use Rattle.jc_engine.specs.Sound.{IsManager, IsSpare, HasLimits}
use Rattle.jc_engine.proofs.Numbered.{none-places, Puts, put_other, places_more}
use Rattle.jc_engine.proofs.Places.{Within, listed_seen, stands, each_put, limits_put, live_is}
use Rattle.jc_engine.proofs.Tables.{at_elsewhere}
use Rattle.jc_ops.specs.Kept.{Kept}
use Rattle.jc_engine.proofs.Openings.{made_there}
use Rattle.jc_engine.proofs.Watching.{state_is}

fresh_at : (m : RowMap) (id : ℕ) (c : CacheConfig) → IsAt m id None → IsManaged m id (fresh_slot id c)
fresh_at m id c none = grind (arith, common_steps)

-- A cache more, under the next id.
module _ (w : Within) (cache : Slot) (g : ℕ → Option Slot) (puts : Puts w.caches (length w.members) (Some cache) g) where
  pub seen_added : caches_in g (length (w.members ++ Some (member_of cache.state.config) ∷ [])) ≡ w.seen ++ Some (cache_in cache) ∷ []
  seen_added =
      ap (caches_in g) (length_push w.members (Some (member_of cache.state.config)))
      ∙ ap (map (option_map cache_in)) (places_more w.caches g (length w.members) (Some cache) puts)
      ∙ map-append (option_map cache_in) (places_of w.caches (length w.members)) (Some cache ∷ [])
      ∙ ap (λ (ks : List (Option Cache)). ks ++ Some (cache_in cache) ∷ []) w.view_is

  pub manager_added : (n : Visited) → length w.members < most_ids → broken_limit cache.state.config ≡ None → IsManaged n.table (length w.members) cache
      → SameElsewhere (length w.members) w.visit.table n.table → RestsAgain w.visit n → IsManager n g (w.members ++ Some (member_of cache.state.config) ∷ [])
  manager_added n below kept is elsewhere rests = record {
    each = each_put n.table w.caches g (length w.members) (Some cache) puts is
        (λ id differ. at_elsewhere w.visit.table n.table (length w.members) id (w.caches id) elsewhere differ (w.is.each id));
    beyond = λ id above. (let past : length w.members + 1 ≤ id = rw (length_push w.members (Some (member_of cache.state.config))) at above in
        put_other w.caches g (length w.members) _ puts id (λ e. omega (arith, past, e)) ∙ w.is.beyond id (omega (arith, past)));
    listed =
        ap (λ (ms : List (Option Member)). ms ++ Some (member_of cache.state.config) ∷ []) (listed_seen w)
        ∙ sym (ap members_of (map-append (option_map status_of) w.seen (Some (cache_in cache) ∷ [])) ∙ map-append (option_map (λ (k : Status). member_of k.config)) (lives_of w.seen) (Some (status_of (cache_in cache)) ∷ []))
        ∙ ap (λ (ks : List (Option Cache)). members_of (lives_of ks)) (sym seen_added);
    limits = limits_put w.caches g (length w.members) (Some cache) puts kept w.is.limits;
    few = rw (length_push w.members (Some (member_of cache.state.config))) (omega (arith, below));
    spare = rw rests.cache w.is.spare;
    untold = rests.untold;
  }

-- where none was added, and the table has changed elsewhere at most
pub manager_left : (w : Within) (n : Visited) → IsAt n.table (length w.members) None → SameElsewhere (length w.members) w.visit.table n.table → RestsAgain w.visit n → IsManager n w.caches w.members
manager_left w n none elsewhere rests = record {
  each = λ id. elim (cases_eq id (length w.members)) [
    | inl same ↦ subst (λ (i : ℕ). IsAt n.table i (w.caches i)) (sym same) (subst (IsAt n.table (length w.members)) (sym (w.is.beyond (length w.members) (omega arith))) none)
    | inr differ ↦ at_elsewhere w.visit.table n.table (length w.members) id (w.caches id) elsewhere differ (w.is.each id)
  ];
  beyond = w.is.beyond;
  listed = w.is.listed;
  limits = w.is.limits;
  few = w.is.few;
  spare = rw rests.cache w.is.spare;
  untold = rests.untold;
}

module _ (w : Within) (c : CacheConfig) (g : ℕ → Option Slot) (puts : Puts w.caches (length w.members) (Some (fresh_slot (length w.members) c)) g) where
  pub seen_more : caches_in g (length (w.members ++ Some (member_of c) ∷ [])) ≡ w.seen ++ Some (fresh_cache c) ∷ []
  seen_more = seen_added w (fresh_slot (length w.members) c) g puts

  pub manager_more : length w.members < most_ids → broken_limit c ≡ None → IsManager w.visit g (w.members ++ Some (member_of c) ∷ [])
  manager_more below kept = manager_added w (fresh_slot (length w.members) c) g puts w.visit below kept
      (fresh_at w.visit.table (length w.members) c (stands w (length w.members) (w.is.beyond (length w.members) (omega arith))))
      (λ id key differ. refl) (record { cache = refl; untold = w.is.untold })

-- No caches yet.

none_length : (A : Type 0) (n : ℕ) → length (none_before {A = A} n []) ≡ n
none_length A zero = refl
none_length A (suc n) = ap suc (none_length A n)

none_map : {A B : Type 0} (h : A → B) (n : ℕ) → map (option_map h) (none_before n []) ≡ none_before n []
none_map h zero = refl
none_map h (suc n) = ap (λ l. None ∷ l) (none_map h n)

module _ (f : ℕ → Option Slot) (first : ℕ) (none : (id : ℕ) → f id ≡ None) (members : List (Option Member)) (fresh : members ≡ none_before first []) where
  pub vacant_seen : caches_in f (length members) ≡ none_before first []
  vacant_seen = ap (caches_in f) (ap length fresh ∙ none_length Member first) ∙ ap (map (option_map cache_in)) (none-places f first none) ∙ none_map cache_in first

  pub vacant_manager : (v : Visited) → first ≤ most_ids → v.table ≡ table.empty → IsSpare v.cache → v.noted.told ≡ [] → IsManager v f members
  vacant_manager v few empty spare untold = record {
    each = λ id. subst (IsAt v.table id) (sym (none id)) (λ key. ap (λ (n : RowMap). table.get n (id, key)) empty ∙ get-empty (id, key));
    beyond = λ id above. none id;
    listed = fresh ∙ sym (ap (λ (ks : List (Option Cache)). members_of (lives_of ks)) vacant_seen ∙ ap members_of (none_map status_of first) ∙ none_map (λ (k : Status). member_of k.config) first);
    limits = λ id. subst HasLimits (sym (none id)) tt;
    few = rw (fresh, none_length Member first) few;
    spare = spare;
    untold = untold;
  }

-- The same caches over an empty table, where no call has changed one.

tied_empty : (id : ℕ) → Tied table.empty id []
tied_empty id = record { distinct = tt; placed = tt; found = λ k r e at. (let none = get-empty (id, k) in absurd cc) }

vacant : (m : RowMap) (id : ℕ) (cache : Slot) (c : CacheConfig) → IsManaged m id cache → status_of (cache_in cache) ≡ opened c → IsManaged table.empty id cache
vacant m id cache c is fresh =
    let k = cache_in cache in
    let ring : items_of cache.state.cells ≡ [] = ap (λ s. s.ring) (sym (state_is k.config k.progress k.turn)) ∙ ap (λ (s : Status). (state_in s.standing).ring) fresh in
    let none : cache.state.cells ≡ [] = nil_from_length cache.state.cells (sym (length-map cache.state.cells item_of) ∙ ap length ring) in
    record { id_is = is.id_is; kept = record { tied = subst (Tied table.empty cache.state.id) (sym none) (tied_empty cache.state.id); within = is.kept.within }; waits = is.waits }

pub manager_over : (w : Within) (n : Visited) (first : ℕ) (configs : List CacheConfig) → n.table ≡ table.empty → lives_of w.seen ≡ opened_from first configs
    → n.cache ≡ w.visit.cache → n.noted ≡ w.visit.noted → IsManager n w.caches w.members
manager_over w n first configs empty fresh cache noted = record {
  each = λ id. rw empty (by id (w.caches id) refl);
  beyond = w.is.beyond;
  listed = w.is.listed;
  limits = w.is.limits;
  few = w.is.few;
  spare = rw cache w.is.spare;
  untold = rw noted w.is.untold;
}
  where
    by : (id : ℕ) (found : Option Slot) → w.caches id ≡ found → IsAt table.empty id found
    by id None at = λ key. get-empty (id, key)
    by id (Some cache) at =
        let new = made_there opened first configs id (status_of (cache_in cache)) (ap (λ (ks : Lives). at_place ks id) (sym fresh) ∙ live_is w id at) in
        vacant w.visit.table id cache new.0 (stands w id at) new.1

-- a cache without rows has none in an empty table
pub spare_empty : (m : RowMap) (spare : Kept) → m ≡ table.empty → IsSpare spare → IsKeptIn m spare
spare_empty m spare empty is = rw empty record {
  tied = subst (Tied table.empty spare.id) (sym is.empty) (tied_empty spare.id);
  within = rw is.empty (omega arith);
}
