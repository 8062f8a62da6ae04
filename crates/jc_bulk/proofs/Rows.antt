-- The rows of a ring, one after the other, by their keys.
use Rattle.std.proofs.Common.{◌≡◌, ℕ, Some, List, [], ◌∷◌, map, refl, ap, arith, ◌≢◌, true, false, if◌then◌else◌, ◌∙◌}
use Rattle.std.proofs.lemmas.Grind.{common_steps}
use Rattle.std.specs.List.{list_any}
use Rattle.std.specs.Str.{bytes_eq}
use Rattle.jc_model.specs.Lists.{distinct}
use Rattle.std.proofs.lemmas.Slice.Eq.{bytes_eq-Decides}
use Rattle.jc_model.specs.declared.call.Call.TheVariants.{RemoveAll}
use Rattle.jc_bulk.specs.Each.{each_of}
use Rattle.jc_bulk.specs.Entries.{listed, touched, all_touched}
use Rattle.jc_bulk.proofs.Names.{CacheConfig, Item, Visited, items_of, row_of, is_live, LacksKey, HasDistinctKeys, contents, with_row, after_access, Progress, hit, access, touch_each, remove_each}

abbrev pub keys_of : List Item → List (List ℕ)
keys_of ring = map (λ x. x.key) ring

-- these rows stand in the ring as they are
abbrev pub StillThere : List Item → List Item → Type 0
StillThere [] ring = Unit {0}
StillThere (x ∷ xs) ring = (row_of x.key ring ≡ Some x) × StillThere xs ring

past_all : (y : Item) (ys xs : List Item) → LacksKey y.key xs → StillThere xs ys → StillThere xs (y ∷ ys)
past_all y ys [] l s = tt
past_all y ys (x ∷ xs) l s = (grind (arith, common_steps, bytes_eq-Decides y.key x.key, l.0, s.0), past_all y ys xs l.1 s.1)

pub all_there : (ring : List Item) → HasDistinctKeys ring → StillThere ring ring
all_there [] d = tt
all_there (y ∷ ys) d = (grind (arith, common_steps, bytes_eq-Decides y.key y.key), past_all y ys ys d.0 (all_there ys d.1))

lacks_none : (k : List ℕ) (ring : List Item) → LacksKey k ring → list_any (λ y. bytes_eq y k) (keys_of ring) ≡ false
lacks_none k [] l = refl
lacks_none k (x ∷ xs) l = grind (arith, common_steps, bytes_eq-Decides x.key k, l.0, lacks_none k xs l.1)

pub ring_apart : (ring : List Item) → HasDistinctKeys ring → distinct (keys_of ring) ≡ true
ring_apart [] d = refl
ring_apart (x ∷ xs) d = grind (arith, common_steps, lacks_none x.key xs d.0, ring_apart xs d.1)

-- What is done for each key of the rows is done for each row.

pub all_listed : (c : CacheConfig) (now : ℕ) (ring left : List Item) → StillThere left ring → listed now ring (keys_of left) ≡ contents c now left
all_listed c now ring [] s = refl
all_listed c now ring (x ∷ xs) s = grind (arith, common_steps, s.0, all_listed c now ring xs s.1)

pub all_removed : (v : Visited) (left : List Item) → StillThere left (items_of v.cache.cells) → each_of v RemoveAll (keys_of left) ≡ remove_each v.moment left
all_removed v [] s = refl
all_removed v (x ∷ xs) s = grind (arith, common_steps, s.0, all_removed v xs s.1)

-- All live rows are used, one after the other.

-- another row is stored anew
other_row : (x : Item) (k : List ℕ) (ring : List Item) → k ≢ x.key → row_of k (with_row x ring) ≡ row_of k ring
other_row x k [] d = refl
other_row x k (y ∷ ys) d = grind (arith, common_steps, bytes_eq-Decides y.key x.key, bytes_eq-Decides x.key k, bytes_eq-Decides y.key k, other_row x k ys d)

still_stored : (x : Item) (xs ring : List Item) → LacksKey x.key xs → StillThere xs ring → StillThere xs (with_row x ring)
still_stored x [] ring l s = tt
still_stored x (y ∷ ys) ring l s = (other_row x y.key ring l.0 ∙ s.0, still_stored x ys ring l.1 s.1)

-- the rows that are left are as they were when one more is used
left_after : (c : CacheConfig) (now : ℕ) (x : Item) (left : List Item) (p : Progress) → LacksKey x.key left → StillThere left p.state.ring → StillThere left (touch_each c now (x ∷ []) p).state.ring
left_after c now x left p l s = elim (is_live now x) as (λ b. StillThere left (if b then access c now x (hit p) else p).state.ring) [
  | true ↦ still_stored (record x { expiry = after_access c.policy x.expiry now; used = true }) left p.state.ring l s
  | false ↦ s
]

pub each_touched : (v : Visited) (left : List Item) (p : Progress) → StillThere left p.state.ring → HasDistinctKeys left → all_touched v (keys_of left) p ≡ touch_each v.cache.config v.moment left p
each_touched v [] p s d = refl
each_touched v (x ∷ xs) p s d =
    let here : touched v x.key p ≡ touch_each v.cache.config v.moment (x ∷ []) p = rw (s.0, touched) in
    ap (all_touched v (keys_of xs)) here ∙ each_touched v xs (touch_each v.cache.config v.moment (x ∷ []) p) (left_after v.cache.config v.moment x xs p d.0 s.1) d.1
