-- Beginnings of lists, by `take`.
use Rattle.std.proofs.Common.{◌≡◌, ℕ, zero, suc, ◌<◌, List, [], ◌∷◌, ◌++◌, length, map, take, drop, set, get_or, slice_get, Some, refl, ap, sym, subst, ◌∙◌, arith}
use Rattle.std.specs.List.{All}
use mathlib.Core.List.{IsPrefix, map-append}
use Rattle.atomic_table.specs.declared.shared.Seat.{Seat}
use Rattle.jc_index.specs.declared.board.View.{View}
use Rattle.atomic_table.specs.Seated.{TableId}
use Rattle.jc_index.specs.Stripes.{Front}
use Rattle.jc_index.specs.declared.writer.StripeWriter.{StripeWriter}
use Rattle.jc_index.specs.declared.writer.Retired.{Retired}
use Rattle.jc_index.proofs.Lists.{prefix_trans}
use Rattle.jc_index.specs.Lineages.{outgrown, tables, IsEarlier}
use Rattle.std.proofs.lemmas.List.{take-append-drop}
use Rattle.std.proofs.lemmas.List.Elements.{All-push}

module _ {A : Type 0} where
  pub taken : (xs ys : List A) → IsPrefix xs ys → take (length xs) ys ≡ xs
  taken [] ys p = refl
  taken (x ∷ xs) [] p = absurd (cc (p.1))
  taken (x ∷ xs) (y ∷ ys) p = let h = taken xs ys (p.0, cc (p.1)) in cc (p.1, h)

  pub untaken : (xs ys : List A) → take (length xs) ys ≡ xs → IsPrefix xs ys
  untaken xs ys e = (drop (length xs) ys, ap (λ l. l ++ drop (length xs) ys) (sym e) ∙ take-append-drop (length xs) ys)

  pub prefix_get : (xs ys : List A) (k : ℕ) (x : A) → IsPrefix xs ys → slice_get xs k ≡ Some x → slice_get ys k ≡ Some x
  prefix_get [] ys k x p h = absurd cc
  prefix_get (y ∷ xs) [] k x p h = absurd (cc (p.1))
  prefix_get (y ∷ xs) (z ∷ ys) zero x p h = cc (p.1, h)
  prefix_get (y ∷ xs) (z ∷ ys) (suc k) x p h = prefix_get xs ys k x (p.0, cc (p.1)) h

  -- what stands at a place of all but the last, or at the place of the last
  pub get_front : (xs : List A) (y x : A) (k : ℕ) → k < length xs → slice_get (xs ++ y ∷ []) k ≡ Some x → slice_get xs k ≡ Some x
  get_front [] y x k inside e = absurd (omega arith)
  get_front (z ∷ xs) y x zero inside e = e
  get_front (z ∷ xs) y x (suc k) inside e = get_front xs y x k (omega arith) e

  pub get_last : (xs : List A) (y x : A) (k : ℕ) → (k < length xs → ⊥) → slice_get (xs ++ y ∷ []) k ≡ Some x → y ≡ x
  get_last [] y x zero out e = cc
  get_last [] y x (suc k) out e = absurd cc
  get_last (z ∷ xs) y x zero out e = absurd (out (omega arith))
  get_last (z ∷ xs) y x (suc k) out e = get_last xs y x k (λ l. out (omega arith)) e

  pub get_map : {B : Type 0} (f : A → B) (xs : List A) (k : ℕ) (d : A) (b : B) → slice_get (map f xs) k ≡ Some b → f (get_or xs k d) ≡ b
  get_map f [] k d b e = absurd cc
  get_map f (x ∷ xs) zero d b e = cc
  get_map f (x ∷ xs) (suc k) d b e = get_map f xs k d b e

  pub map_set_same : {B : Type 0} (f : A → B) (xs : List A) (k : ℕ) (d x : A) → f x ≡ f (get_or xs k d) → map f (set xs k x) ≡ map f xs
  map_set_same f [] k d x e = refl
  map_set_same f (y ∷ xs) zero d x e = ap (λ z. z ∷ map f xs) e
  map_set_same f (y ∷ xs) (suc k) d x e = ap (λ l. f y ∷ l) (map_set_same f xs k d x e)

  pub get_inside : (xs : List A) (k : ℕ) (x : A) → slice_get xs k ≡ Some x → k < length xs
  get_inside [] k x e = absurd cc
  get_inside (y ∷ xs) zero x e = omega arith
  get_inside (y ∷ xs) (suc k) x e = let h = get_inside xs k x e in omega arith

module _ {L : Type 0} where
  pub table_at : (ws : List (Retired L)) (k : ℕ) (d : Retired L) (b : TableId) → slice_get (map (λ p. p.0) (outgrown ws)) k ≡ Some b → (get_or ws k d).seat.table_id ≡ b
  table_at [] k d b e = absurd cc
  table_at (w ∷ ws) zero d b e = cc
  table_at (w ∷ ws) (suc k) d b e = table_at ws k d b e

  pub earlier_at : (front : Front) (ws : List (Retired L)) (k : ℕ) (d : Retired L) (b : TableId) → slice_get (map (λ p. p.0) (outgrown ws)) k ≡ Some b → All (IsEarlier front) (outgrown ws) → IsPrefix (get_or ws k d).seat.me.0.front front
  earlier_at front [] k d b e all = absurd cc
  earlier_at front (w ∷ ws) zero d b e all = untaken w.seat.me.0.front front (all 0 (w.seat.table_id, w.seat.me.0.front) (omega arith))
  earlier_at front (w ∷ ws) (suc k) d b e all = earlier_at front ws k d b e (λ i x l. all (suc i) x (omega arith))

  -- what a follower knows of its table stands in the whole list
  pub place_is : (mine items : List (Seat (Unit {0}) (View L))) (ids : List TableId) (k : ℕ) (x : TableId) → IsPrefix mine items → tables items ≡ ids → slice_get (tables mine) k ≡ Some x → slice_get ids k ≡ Some x
  place_is mine items ids k x p is e = subst (λ (l : List TableId). slice_get l k ≡ Some x) is
      (prefix_get (tables mine) (tables items) k x (tables p.0, sym (map-append (λ s. s.table_id) mine p.0) ∙ ap tables p.1) e)

pub get_end : {A : Type 0} (xs : List A) (y : A) (k : ℕ) → k ≡ length xs → slice_get (xs ++ y ∷ []) k ≡ Some y
get_end [] y zero e = refl
get_end [] y (suc k) e = absurd (omega arith)
get_end (x ∷ xs) y zero e = absurd (omega arith)
get_end (x ∷ xs) y (suc k) e = get_end xs y k (omega arith)

pub length_ids : {L : Type 0} (ws : List (Retired L)) → length (map (λ p. p.0) (outgrown ws)) ≡ length ws
length_ids [] = refl
length_ids (w ∷ ws) = ap suc (length_ids ws)

-- each front before begins a longer one too
pub earlier_on : (front front' : Front) (ws : List (TableId × Front)) → IsPrefix front front' → All (IsEarlier front) ws → All (IsEarlier front') ws
earlier_on front front' ws longer all k d l = let p = get_or ws k d in taken p.1 front' (prefix_trans p.1 front front' (untaken p.1 front (all k d l)) longer)

-- a new table follows
module _ {L : Type 0} where
  ids-snoc : (ws : List (Retired L)) (w : Retired L) → map (λ p. p.0) (outgrown (ws ++ w ∷ [])) ≡ map (λ p. p.0) (outgrown ws) ++ w.seat.table_id ∷ []
  ids-snoc [] w = refl
  ids-snoc (x ∷ ws) w = ap (λ l. x.seat.table_id ∷ l) (ids-snoc ws w)

  pub listed_more : (seats seats' : List (Seat (Unit {0}) (View L))) (s : Seat (Unit {0}) (View L)) (ws ws' : List (Retired L)) (w : Retired L) (old w' : StripeWriter L)
      → tables seats ≡ map (λ p. p.0) (outgrown ws) ++ old.seat.table_id ∷ [] → w.seat.table_id ≡ old.seat.table_id → seats' ≡ seats ++ s ∷ [] → ws' ≡ ws ++ w ∷ [] → s.table_id ≡ w'.seat.table_id
      → tables seats' ≡ map (λ p. p.0) (outgrown ws') ++ w'.seat.table_id ∷ []
  listed_more seats seats' s ws ws' w old w' listed is more more' same =
      ap tables more ∙ (map-append (λ s. s.table_id) seats (s ∷ []) ∙ ((λ i. (listed ∙ ap (λ t. map (λ p. p.0) (outgrown ws) ++ t ∷ []) (sym is)) i ++ same i ∷ []) ∙ ap (λ l. l ++ w'.seat.table_id ∷ []) (sym (ap (λ l. map (λ p. p.0) (outgrown l)) more' ∙ ids-snoc ws w))))

  pub earlier_more : (ws ws' : List (Retired L)) (w : Retired L) (front : Front) → All (IsEarlier w.seat.me.0.front) (outgrown ws) → ws' ≡ ws ++ w ∷ [] → IsPrefix w.seat.me.0.front front → All (IsEarlier front) (outgrown ws')
  earlier_more ws ws' w front all more longer =
      subst (λ (l : List (Retired L)). All (IsEarlier front) (outgrown l)) (sym more)
      (subst (λ (l : List (TableId × Front)). All (IsEarlier front) l) (sym (map-append (λ w. (w.seat.table_id, w.seat.me.0.front)) ws (w ∷ [])))
      (All-push (IsEarlier front) (outgrown ws) (w.seat.table_id, w.seat.me.0.front) (earlier_on w.seat.me.0.front front (outgrown ws) longer all) (taken w.seat.me.0.front front longer)))
