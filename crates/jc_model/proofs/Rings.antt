-- The rings that the changes of one key's row leave, and what each of those changes keeps.
use Rattle.jc_model.proofs.Names.{Bool, List, None, Option, Some, [], arith, drop, false, if◌then◌else◌, leb, length, refl, true, ℕ, ◌++◌, ◌∷◌, ◌≡◌, common_steps, bytes_eq-Decides, Notice}
use Rattle.jc_model.proofs.Names.{CacheConfig, Change, Progress, access, create, create_by_put, expire, find_row, notify, purge, store, with_room, LacksKey, Item, row_of, turned, with_row, without}
use Rattle.jc_model.proofs.Names.{changed, counted}
use Rattle.jc_model.specs.declared.config.Expiry.{Expiry}
use Rattle.jc_model.proofs.Sound.{row_of-None, length-turned}

-- A row that is found has the key; where it is gone, none is found.

pub row_of-key : (k : List ℕ) (x : Item) (ring : List Item) → row_of k ring ≡ Some x → x.key ≡ k
row_of-key k x [] e = cc
row_of-key k x (y ∷ ys) e = let rest = row_of-key k x ys in let same = (bytes_eq-Decides y.key k).0 in grind (arith, common_steps)

pub row_of-without : (k : List ℕ) (ring : List Item) → row_of k (without k ring) ≡ None
row_of-without k [] = refl
row_of-without k (y ∷ ys) = let rest = row_of-without k ys in grind (arith, common_steps)

-- the ring once room is made for one row more
abbrev pub room_in : CacheConfig → ℕ → List Item → List Item
room_in c now ring = if leb c.capacity (length ring) then drop 1 (turned now ring) else ring

drop_empty : (ring : List Item) → length ring ≡ 0 → ring ≡ []
drop_empty ring h = grind (arith, common_steps)

module _ (c : CacheConfig) (now : ℕ) where
  pub notify-ring : (n : Notice) (p : Progress) → (notify c now n p).state ≡ p.state
  notify-ring n p = grind (arith, common_steps)

  pub with_room-ring : (p : Progress) → (with_room c now p).state.ring ≡ room_in c now p.state.ring
  with_room-ring p = let same = length-turned now p.state.ring in let empty = drop_empty p.state.ring in grind (arith, common_steps)

-- What each change of the rows of the key k keeps of a ring.
pub record KeepsRing (c : CacheConfig) (now : ℕ) (k : List ℕ) (P : List Item → Type 0) : Type 0 where
  pub gone : (x : Item) (ring : List Item) → x.key ≡ k → P ring → P (without x.key ring)
  pub set : (x : Item) (ring : List Item) → x.key ≡ k → P ring → P (with_row x ring)
  pub pushed : (x : Item) (ring : List Item) → x.key ≡ k → LacksKey k ring → P ring → P (room_in c now ring ++ x ∷ [])

module _ (c : CacheConfig) (now : ℕ) (k : List ℕ) (P : List Item → Type 0) (keeps : KeepsRing c now k P) where
  abbrev pub Holds : Progress → Type 0
  Holds p = P p.state.ring

  pub expire-keeps : (x : Item) (p : Progress) → x.key ≡ k → Holds p → Holds (expire c now x p)
  expire-keeps x p is h = let gone = keeps.gone x p.state.ring is h in grind (arith, common_steps)

  stored : (v : List ℕ) (expiry : Expiry) (p : Progress) → LacksKey k p.state.ring → Holds p → Holds (store c now k v expiry p)
  stored v expiry p l h =
      let x : Item = record { key = k; value = v; expiry = expiry; used = false } in
      let pushed = keeps.pushed x p.state.ring refl l h in
      let room = with_room-ring c now p in
      grind (arith, common_steps, notify-ring)

  create-keeps : (v : List ℕ) (p : Progress) → LacksKey k p.state.ring → Holds p → Holds (create c now k v p)
  create-keeps v p l h = grind (arith, common_steps, stored)

  put-keeps : (v : List ℕ) (p : Progress) → LacksKey k p.state.ring → Holds p → Holds (create_by_put c now k v p)
  put-keeps v p l h = grind (arith, common_steps, stored)

  pub access-keeps : (x : Item) (p : Progress) → x.key ≡ k → Holds p → Holds (access c now x p)
  access-keeps x p is h = keeps.set _ p.state.ring is h

  changed-live : (kind : Change) (counts : Bool) (x : Item) (v : Option (List ℕ)) (p : Progress) → x.key ≡ k → Holds p → Holds (changed c now k kind (Some x) v (counted counts (Some x) p))
  changed-live kind counts x v p is h = grind (arith, common_steps)

  changed-absent : (kind : Change) (counts : Bool) (v : Option (List ℕ)) (p : Progress) → LacksKey k p.state.ring → Holds p → Holds (changed c now k kind None v (counted counts None p))
  changed-absent kind true v p l h = grind (arith, common_steps, create-keeps, put-keeps)
  changed-absent kind false v p l h = grind (arith, common_steps, create-keeps, put-keeps)

  -- each way in which a line ends
  pub ends-keep : (p : Progress) → Holds p → (kind : Change) (counts : Bool) (v : Option (List ℕ)) → Holds (changed c now k kind (find_row k p) v (counted counts (find_row k p) p))
  ends-keep p h kind counts v = go (find_row k p) refl
    where
      go : (row : Option Item) → find_row k p ≡ row → Holds (changed c now k kind row v (counted counts row p))
      go None e = changed-absent kind counts v p (row_of-None k p.state.ring e) h
      go (Some x) e = changed-live kind counts x v p (row_of-key k x p.state.ring e) h

  pub purge-keeps : (p : Progress) → Holds p → Holds (purge c now k p)
  purge-keeps p h = grind (arith, common_steps, row_of-key, expire-keeps)
