-- The caches by id, and what is seen of them, before and after one of them has changed.
use Rattle.std.proofs.Common.{zero, suc, [], ◌∷◌, ◌≡◌, ◌≢◌, ℕ, ◌<◌, List, map, length, option_map, slice_get, slice_set, Option, Some, inl, inr, sym, ap, subst, ◌∙◌, length-set, arith}
use Rattle.jc_engine.proofs.Names.{cases_eq, length-map, map-set, set-get_or, get_or_from_slice_get, CacheConfig, at_place, Status, RowMap, Member, member_of, members_of, SameElsewhere, Slot, cache_in}
use Rattle.jc_ops.specs.Visited.{Visited}
use Rattle.jc_engine.specs.Managed.{IsReady, RestsAgain, IsPutBack}
use Rattle.jc_engine.specs.Sound.{IsManager, HasLimits}
use Rattle.jc_engine.proofs.Names.{Cache, status_of, lives_of, IsAt, NoneFrom, places_of, caches_in, at_place_map}
use Rattle.jc_engine.proofs.Numbered.{Puts, length-places, at-places, below-places, put_here, put_other, places_put, none_put}
use Rattle.jc_engine.proofs.Tables.{at_elsewhere}

pub length_map : {A B : Type 0} (f : A → B) (xs : List A) → length (map f xs) ≡ length xs
length_map f xs = length-map xs f

pub same_set : {A : Type 0} (xs : List A) (i : ℕ) (x : A) → slice_get xs i ≡ Some x → slice_set xs i x ≡ xs
same_set xs i x at = ap (slice_set xs i) (sym (get_or_from_slice_get xs i x x at)) ∙ set-get_or xs i x

-- what stands at a place
pub place_of : {A : Type 0} (xs : List (Option A)) (i : ℕ) (x : A) → at_place xs i ≡ Some x → slice_get xs i ≡ Some (Some x)
place_of [] i x at = absurd cc
place_of (y ∷ xs) zero x at = ap Some at
place_of (y ∷ xs) (suc i) x at = place_of xs i x at

-- what the roster knows of a live cache
abbrev pub member_in : Option Cache → Option Member
member_in o = option_map (λ (k : Status). member_of k.config) (option_map status_of o)

pub members_set : (caches : List (Option Cache)) (id : ℕ) (o : Option Cache) → members_of (lives_of (slice_set caches id o)) ≡ slice_set (members_of (lives_of caches)) id (member_in o)
members_set caches id o = ap members_of (map-set (option_map status_of) caches id o) ∙ map-set (option_map (λ (k : Status). member_of k.config)) (lives_of caches) id (option_map status_of o)

-- The fields: the visit, the caches by id, and the roster; and what is seen of them.

pub record Within : Type 0 where
  pub visit : Visited
  pub caches : ℕ → Option Slot
  pub members : List (Option Member)
  pub seen : List (Option Cache)
  pub view_is : caches_in caches (length members) ≡ seen
  pub is : IsManager visit caches members

abbrev pub within : {v : Visited} {f : ℕ → Option Slot} {members : List (Option Member)} {seen : List (Option Cache)} → caches_in f (length members) ≡ seen → IsManager v f members → Within
within {v} {f} {members} {seen} view_is is = record { visit = v; caches = f; members = members; seen = seen; view_is = view_is; is = is }

module _ (w : Within) where
  pub listed_seen : w.members ≡ members_of (lives_of w.seen)
  listed_seen = w.is.listed ∙ ap (λ (ks : List (Option Cache)). members_of (lives_of ks)) w.view_is

  pub as_many : length w.seen ≡ length w.members
  as_many = ap length (sym w.view_is) ∙ length_map (option_map cache_in) (places_of w.caches (length w.members)) ∙ length-places w.caches (length w.members)

  -- what is at an id, a cache or none
  module _ (id : ℕ) {o : Option Slot} (at : w.caches id ≡ o) where
    pub seen_is : at_place w.seen id ≡ option_map cache_in o
    seen_is =
        ap (λ (ks : List (Option Cache)). at_place ks id) (sym w.view_is)
        ∙ at_place_map cache_in (places_of w.caches (length w.members)) id
        ∙ ap (option_map cache_in) (at-places w.caches (length w.members) id w.is.beyond ∙ at)

    pub live_is : at_place (lives_of w.seen) id ≡ option_map status_of (option_map cache_in o)
    live_is = at_place_map status_of w.seen id ∙ ap (option_map status_of) seen_is

    pub stands : IsAt w.visit.table id o
    stands = subst (IsAt w.visit.table id) at (w.is.each id)

    pub member_at : at_place w.members id ≡ member_in (option_map cache_in o)
    member_at =
        ap (λ (ms : List (Option Member)). at_place ms id) listed_seen
        ∙ at_place_map (λ (k : Status). member_of k.config) (lives_of w.seen) id
        ∙ ap (option_map (λ (k : Status). member_of k.config)) live_is

  -- a cache is ready for a call, at any moment
  pub ready : (id moment : ℕ) {cache : Slot} → w.caches id ≡ Some cache → IsReady cache (record w.visit { moment = moment })
  ready id moment {cache} at =
      let is = stands id at in
      let below = below-places w.caches (length w.members) id cache w.is.beyond at in
      record { kept = is.kept; waits = is.waits; empty = w.is.spare.empty; apart = λ same. omega (arith, w.is.few, w.is.spare.id_is, is.id_is, below, same); untold = w.is.untold }

-- the rows at each id, where something was put at one
pub each_put : (n : RowMap) (f g : ℕ → Option Slot) (id : ℕ) (o : Option Slot) → Puts f id o g → IsAt n id o → ((other : ℕ) → other ≢ id → IsAt n other (f other)) → (other : ℕ) → IsAt n other (g other)
each_put n f g id o puts is rest other = elim (cases_eq other id) [
  | inl same ↦ subst (λ (i : ℕ). IsAt n i (g i)) (sym same) (subst (IsAt n id) (sym (put_here f g id o puts)) is)
  | inr differ ↦ subst (IsAt n other) (sym (put_other f g id o puts other differ)) (rest other differ)
]

pub limits_put : (f g : ℕ → Option Slot) (id : ℕ) (o : Option Slot) → Puts f id o g → HasLimits o → ((other : ℕ) → HasLimits (f other)) → (other : ℕ) → HasLimits (g other)
limits_put f g id o puts is rest other = elim (cases_eq other id) [
  | inl same ↦ subst (λ (i : ℕ). HasLimits (g i)) (sym same) (subst HasLimits (sym (put_here f g id o puts)) is)
  | inr differ ↦ subst HasLimits (sym (put_other f g id o puts other differ)) (rest other)
]

-- in the place of a cache something was put, or none
pub record Changes (w : Within) (id : ℕ) (cache : Slot) (o : Option Slot) (g : ℕ → Option Slot) : Type 0 where
  pub at : w.caches id ≡ Some cache
  pub puts : Puts w.caches id o g

module _ {w : Within} {id : ℕ} {cache : Slot} {o : Option Slot} {g : ℕ → Option Slot} (c : Changes w id cache o g) where
  given : id < length w.members
  given = below-places w.caches (length w.members) id cache w.is.beyond c.at

  pub seen_put : caches_in g (length w.members) ≡ slice_set w.seen id (option_map cache_in o)
  seen_put =
      ap (map (option_map cache_in)) (places_put w.caches g id o c.puts (length w.members) given)
      ∙ map-set (option_map cache_in) (places_of w.caches (length w.members)) id o
      ∙ ap (λ (ks : List (Option Cache)). slice_set ks id (option_map cache_in o)) w.view_is

  pub seen_after : caches_in g (length (slice_set w.members id (member_in (option_map cache_in o)))) ≡ slice_set w.seen id (option_map cache_in o)
  seen_after = ap (caches_in g) (length-set w.members id (member_in (option_map cache_in o))) ∙ seen_put

  -- and the visit is as before, but for the rows of that cache
  pub manager_after : (n : Visited) → HasLimits o → IsAt n.table cache.state.id o → SameElsewhere cache.state.id w.visit.table n.table → RestsAgain w.visit n → IsManager n g (slice_set w.members id (member_in (option_map cache_in o)))
  manager_after n kept is elsewhere rests =
      let id_is : cache.state.id ≡ id = (stands w id c.at).id_is in
      let as_long = length-set w.members id (member_in (option_map cache_in o)) in
      record {
        each = each_put n.table w.caches g id o c.puts (subst (λ (i : ℕ). IsAt n.table i o) id_is is)
            (λ other differ. at_elsewhere w.visit.table n.table id other (w.caches other) (subst (λ (i : ℕ). SameElsewhere i w.visit.table n.table) id_is elsewhere) differ (w.is.each other));
        beyond = subst (λ (k : ℕ). NoneFrom k g) (sym as_long) (none_put w.caches g id o c.puts (length w.members) given w.is.beyond);
        listed =
            ap (λ (ms : List (Option Member)). slice_set ms id (member_in (option_map cache_in o))) (listed_seen w)
            ∙ sym (members_set w.seen id (option_map cache_in o))
            ∙ ap (λ (ks : List (Option Cache)). members_of (lives_of ks)) (sym seen_after);
        limits = limits_put w.caches g id o c.puts kept w.is.limits;
        few = rw as_long w.is.few;
        spare = rw rests.cache w.is.spare;
        untold = rests.untold;
      }

-- one cache has moved, at any moment
pub manager_moved : {w : Within} {id : ℕ} {cache cache' : Slot} {g : ℕ → Option Slot} {n : Visited} → Changes w id cache (Some cache') g → (moment : ℕ) → IsPutBack cache (record w.visit { moment = moment }) cache' n → IsManager n g w.members
manager_moved {w} {id} {cache} {cache'} {g} {n} c moment is =
    let stays : slice_set w.members id (Some (member_of cache'.state.config)) ≡ w.members =
    ap (λ (d : CacheConfig). slice_set w.members id (Some (member_of d))) is.config ∙ same_set w.members id _ (place_of w.members id _ (member_at w id c.at)) in
    subst (IsManager n g) stays (manager_after c n (rw is.config (subst HasLimits c.at (w.is.limits id))) is.managed is.elsewhere (record { cache = is.rests.cache; untold = is.rests.untold }))
