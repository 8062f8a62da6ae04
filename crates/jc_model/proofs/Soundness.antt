-- Every call keeps the keys distinct and the ring within its capacity, also while it waits.
use Rattle.jc_model.proofs.Names.{Bool, List, [], arith, if◌then◌else◌, length, length-append, not, subst, sym, zero-le, ℕ, ◌++◌, ◌+◌, ◌<◌, ◌∷◌, ◌≡◌, ◌≤◌, nat_tests, common_steps, filter}
use Rattle.jc_model.proofs.Names.{bytes_eq, Call, CacheConfig, HasDistinctKeys, IsSound, LacksKey, Throughout, Item, State, whole}
use Rattle.jc_model.proofs.Sound.{filter-shorter, distinct-filter, distinct-map, length-mapped, with_row-same, distinct-push, distinct-turned, lacks-turned, length-turned}
use Rattle.jc_model.proofs.Rings.{KeepsRing, room_in}
use Rattle.jc_model.proofs.Keeps.{whole-keeps}

module _ (c : CacheConfig) (now : ℕ) (roomy : 1 ≤ c.capacity) where
  abbrev IsSoundRing : List Item → Type 0
  IsSoundRing ring = HasDistinctKeys ring × (length ring ≤ c.capacity)

  -- a ring that lacks the key k and has room for one row more
  abbrev HasRoom : List ℕ → List Item → Type 0
  HasRoom k ring = HasDistinctKeys ring × LacksKey k ring × (length ring < c.capacity)

  room_in-room : (k : List ℕ) (ring : List Item) → IsSoundRing ring → LacksKey k ring → HasRoom k (room_in c now ring)
  room_in-room k ring h l = grind (arith, distinct-turned, lacks-turned, length-turned, common_steps, nat_tests)

  sound-keeps : (k : List ℕ) → KeepsRing c now k IsSoundRing
  sound-keeps k = record {
    gone = λ x ring is h.
        let test : Item → Bool = λ y. not (bytes_eq y.key x.key) in
        let shorter : length (filter test ring) ≤ length ring = filter-shorter test ring in
        (distinct-filter test ring h.0, omega (arith, h.1, shorter));
    set = λ x ring is h.
        let f : Item → Item = λ y. if bytes_eq y.key x.key then x else y in
        let same : (y : Item) → (f y).key ≡ y.key = with_row-same x in
        (distinct-map f same ring h.0, subst (λ n. n ≤ c.capacity) (sym (length-mapped f same ring)) h.1);
    pushed = λ x ring is l h.
        let roomy : List Item = room_in c now ring in
        let room : HasRoom k roomy = room_in-room k ring h l in
        let longer : length (roomy ++ x ∷ []) ≡ length roomy + 1 = length-append roomy (x ∷ []) in
        (distinct-push x roomy room.0 (rw is room.1), omega (arith, longer, room.2));
  }

  -- a sound cache is sound throughout each call
  pub stays_sound : (call : Call) (s : State) → IsSound c s → Throughout (IsSound c) (whole c now call s)
  stays_sound call s h = whole-keeps c now IsSoundRing sound-keeps (tt, zero-le) call s h
