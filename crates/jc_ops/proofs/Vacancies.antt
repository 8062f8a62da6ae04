-- The list of vacant rows.
use Rattle.std.proofs.Common.{◌≡◌, ◌+◌, ◌<◌, ℕ, cond, true, eqb, List, [], ◌∷◌, ◌++◌, length, Option, Some, None, is_some, set, count_by, arith, length-append, append_assoc}
use Rattle.std.proofs.lemmas.Grind.{common_steps}
use Rattle.std.proofs.lemmas.List.{get_or_past, replicate_more}
use Rattle.std.proofs.lemmas.List.Sums.{sum_by_push}
use Rattle.jc_ops.proofs.StateNames.{Record, slot, ListsVacant, IsSlots}

-- a filled row is within the slots
pub within_filled : (slots : List (Option Record)) (r : ℕ) → is_some (slot slots r) ≡ true → r < length slots
within_filled slots r e = grind (arith, common_steps, get_or_past slots r None)

-- a further row
pub vacant-more : (slots : List (Option Record)) (rs : List ℕ) → ListsVacant slots rs → ListsVacant (slots ++ None ∷ []) (rs ++ length slots ∷ [])
vacant-more slots rs h r = grind (arith, common_steps, h r, sum_by_push (λ q. cond (eqb r q) 1 0) rs (length slots))

-- A row is filled, vacated or filled anew.

module _ (slots : List (Option Record)) (vacant : List ℕ) (room : ℕ) (is : IsSlots slots vacant room) where
  slots-set : (after : List ℕ) (r : ℕ) (x : Option Record) → r < length slots → ((q : ℕ) → count_by (eqb q) after ≡ cond (eqb q r) (cond (is_some x) 0 1) (count_by (eqb q) vacant))
      → length after + cond (is_some x) 1 0 ≡ length vacant + cond (is_some (slot slots r)) 1 0 → IsSlots (set slots r x) after room
  slots-set after r x within listed many = record {
    few = grind (arith, common_steps, is.few);
    vacancies = λ q. grind (arith, common_steps, is.vacancies q, listed q);
    all = grind (arith, common_steps, is.all);
    roomy = grind (arith, common_steps, is.roomy);
  }

  module _ (rest : List ℕ) (r : ℕ) (e : vacant ≡ rest ++ r ∷ []) where
    pub popped : (r < length slots) × (slot slots r ≡ None)
    popped = grind (arith, common_steps, is.vacancies r, sum_by_push (λ q. cond (eqb r q) 1 0) rest r)

    pub slots-filled : (it : Record) → IsSlots (set slots r (Some it)) rest room
    slots-filled it = slots-set rest r (Some it) popped.0 (λ q. grind (arith, common_steps, is.vacancies q, sum_by_push (λ p. cond (eqb q p) 1 0) rest r, popped)) (grind (arith, common_steps, popped))

  module _ (r : ℕ) (e : is_some (slot slots r) ≡ true) where
    pub slots-vacated : IsSlots (set slots r None) (vacant ++ r ∷ []) room
    slots-vacated = slots-set _ r None (within_filled slots r e) (λ q. grind (arith, common_steps, is.vacancies q, sum_by_push (λ p. cond (eqb q p) 1 0) vacant r)) (grind (arith, common_steps))

    pub slots-refilled : (it : Record) → IsSlots (set slots r (Some it)) vacant room
    slots-refilled it = slots-set vacant r (Some it) (within_filled slots r e) (λ q. grind (arith, common_steps, is.vacancies q)) (grind (arith, common_steps))

pub ruleset growth_laws = (replicate_more, vacant-more, length-append, append_assoc)

pub ruleset slot_laws = (popped, slots-filled, slots-vacated, slots-refilled)
