-- A roster's fields after a cache is added or removed.
use Rattle.std.proofs.Common.{◌≡◌, ℕ, zero, suc, ◌+◌, ◌-◌, ◌<◌, ◌≤◌, Bool, true, false, if◌then◌else◌, List, [], ◌∷◌, ◌++◌, map, length, get_or, Option, Some, None, refl, sym, ◌∙◌, ap, ap₂, subst, arith}
use Rattle.std.specs.Prelude.{ltb, slice_get, slice_set, sum}
use Rattle.std.specs.List.{remove}
use Rattle.std.specs.Option.{option_map}
use Rattle.std.specs.Str.{bytes_eq}
use Rattle.std.proofs.lemmas.List.{map-append}
use Rattle.std.proofs.lemmas.List.Sums.{sum_by-cons}
use Rattle.std.proofs.lemmas.Bool.Decides.{nat_tests}
use Rattle.std.proofs.lemmas.Option.{slice_get-map, get_or_from_slice_get}
use Rattle.jc_model.specs.Limits.{most_ids, most_rows_together}
use Rattle.jc_model.specs.Places.{there, at_place, all_there, none_before, named_from, HaveNames}
use Rattle.jc_model.specs.Members.{members, id_named, numbers_from}
use Rattle.jc_model.specs.Fields.{spread, IsRoster}
use Rattle.jc_model.proofs.Listing.{there_more, numbers_more, TakenAt, taken_at, sum_less, lacks_unnamed, named_more, named_less, names_more, names_less, numbers_rise, NumberThere, number_there}
use Rattle.jc_model.proofs.Rebuilt.{rebuilt, members-apart}
use Rattle.jc_model.specs.Refusals.{Member, rows_of}

from_zero : (n : ℕ) → 0 + n ≡ n
from_zero n = omega arith

abbrev name_of : Member → List ℕ
name_of m = m.name

abbrev rows : Member → ℕ
rows m = m.capacity

-- the list that the fields stand for
pub stands_for : (ms : List (Option Member)) (next : ℕ) (order : List ℕ) (names : List (List ℕ)) (capacities : List ℕ) (ids : List ℕ → Option ℕ) (total : ℕ) → IsRoster ms next order names capacities ids total → spread next 0 order (members names capacities) ≡ ms
stands_for ms next order names capacities ids total is =
    ap (λ (n : ℕ). spread n 0 order (members names capacities)) is.counted
    ∙ ap (λ (ns : List ℕ). spread (length ms) 0 ns (members names capacities)) is.numbers
    ∙ ap (λ (ns : List (List ℕ)). spread (length ms) 0 (numbers_from 0 ms) (members ns capacities)) is.named
    ∙ ap (λ (ns : List ℕ). spread (length ms) 0 (numbers_from 0 ms) (members (map name_of (all_there ms)) ns)) is.sized
    ∙ ap (spread (length ms) 0 (numbers_from 0 ms)) (members-apart (all_there ms))
    ∙ rebuilt 0 ms

-- the same fields, by other names
pub same_fields : {ms : List (Option Member)} {next : ℕ} {order order' : List ℕ} {names names' : List (List ℕ)} {capacities capacities' : List ℕ} {ids : List ℕ → Option ℕ} {total total' : ℕ} → IsRoster ms next order names capacities ids total
    → order' ≡ order → names' ≡ names → capacities' ≡ capacities → total' ≡ total → IsRoster ms next order' names' capacities' ids total'
same_fields is e f g h = record {
  counted = is.counted;
  bound = is.bound;
  numbers = e ∙ is.numbers;
  named = f ∙ is.named;
  sized = g ∙ is.sized;
  found = is.found;
  differ = is.differ;
  summed = h ∙ is.summed;
  small = omega (arith, h, is.small);
}

pub is_kept : (ms : List (Option Member)) (next : ℕ) (order : List ℕ) (names : List (List ℕ)) (capacities : List ℕ) (ids : List ℕ → Option ℕ) (total : ℕ) → IsRoster ms next order names capacities ids total → IsRoster (spread next 0 order (members names capacities)) next order names capacities ids total
is_kept ms next order names capacities ids total is =
    subst (λ (l : List (Option Member)). IsRoster l next order names capacities ids total) (sym (stands_for ms next order names capacities ids total is)) is

length_more : {A : Type 0} (xs : List A) (y : A) → length (xs ++ y ∷ []) ≡ length xs + 1
length_more [] y = refl
length_more (x ∷ xs) y = let grows : suc (length xs + 1) ≡ suc (length xs) + 1 = omega arith in ap suc (length_more xs y) ∙ grows

sum_more : (ns : List ℕ) (n : ℕ) → sum (ns ++ n ∷ []) ≡ sum ns + n
sum_more [] n = let alone : 0 + n ≡ n = omega arith in sum_by-cons (λ k. k) n [] ∙ (omega arith)
sum_more (k ∷ ns) n =
    let grouped : k + (sum ns + n) ≡ (k + sum ns) + n = omega arith in
    sum_by-cons (λ i. i) k (ns ++ n ∷ []) ∙ (ap (λ i. k + i) (sum_more ns n) ∙ (grouped ∙ ap (λ i. i + n) (sym (sum_by-cons (λ i. i) k ns))))

length_set : {A : Type 0} (xs : List A) (i : ℕ) (y : A) → length (slice_set xs i y) ≡ length xs
length_set [] i y = refl
length_set (x ∷ xs) zero y = refl
length_set (x ∷ xs) (suc i) y = ap suc (length_set xs i y)

map_remove : {A B : Type 0} (f : A → B) (xs : List A) (p : ℕ) → map f (remove xs p) ≡ remove (map f xs) p
map_remove f [] zero = refl
map_remove f [] (suc p) = refl
map_remove f (x ∷ xs) zero = refl
map_remove f (x ∷ xs) (suc p) = ap (λ l. f x ∷ l) (map_remove f xs p)

length_map : {A B : Type 0} (f : A → B) (xs : List A) → length (map f xs) ≡ length xs
length_map f [] = refl
length_map f (x ∷ xs) = ap suc (length_map f xs)

pub is_live_count : {ms : List (Option Member)} {next : ℕ} {order : List ℕ} {names : List (List ℕ)} {capacities : List ℕ} {ids : List ℕ → Option ℕ} {total : ℕ} → IsRoster ms next order names capacities ids total → length names ≡ length (all_there ms)
is_live_count {ms = ms} is = ap length is.named ∙ length_map name_of (all_there ms)

module _ (ms : List (Option Member)) (next : ℕ) (order : List ℕ) (names : List (List ℕ)) (capacities : List ℕ) (ids : List ℕ → Option ℕ) (total : ℕ) (is : IsRoster ms next order names capacities ids total) where
  pub added : (m : Member) (ids' : List ℕ → Option ℕ) → next < most_ids → id_named m.name ms ≡ None → total + m.capacity ≤ most_rows_together
      → ((q : List ℕ) → ids' q ≡ (if bytes_eq m.name q then Some next else ids q))
      → IsRoster (ms ++ Some m ∷ []) (next + 1) (order ++ next ∷ []) (names ++ m.name ∷ []) (capacities ++ m.capacity ∷ []) ids' (total + m.capacity)
  added m ids' few new small updates = record {
    counted = ap (λ n. n + 1) is.counted ∙ sym (length_more ms (Some m));
    bound = omega (arith, few);
    numbers = ap₂ (λ ns n. ns ++ n ∷ []) is.numbers (is.counted ∙ sym (from_zero (length ms))) ∙ sym (numbers_more 0 ms m);
    named = ap (λ ns. ns ++ m.name ∷ []) is.named ∙ (sym (map-append name_of (all_there ms) (m ∷ [])) ∙ ap (map name_of) (sym (there_more ms m)));
    sized = ap (λ ns. ns ++ m.capacity ∷ []) is.sized ∙ (sym (map-append rows (all_there ms) (m ∷ [])) ∙ ap (map rows) (sym (there_more ms m)));
    found = λ q. updates q ∙ (ap₂ (λ n o. if bytes_eq m.name q then Some n else o) (is.counted ∙ sym (from_zero (length ms))) (is.found q) ∙ sym (named_more name_of q 0 ms m new));
    differ = names_more name_of ms m is.differ (lacks_unnamed name_of m.name 0 ms new);
    summed = ap (λ n. n + m.capacity) is.summed ∙ (sym (sum_more (map rows (all_there ms)) m.capacity) ∙ ap sum (sym (map-append rows (all_there ms) (m ∷ [])) ∙ ap (map rows) (sym (there_more ms m))));
    small = small;
  }

  -- what stands at its place
  pub record StandsAt (place : ℕ) (m : Member) : Type 0 where
    pub name : (d : List ℕ) → get_or names place d ≡ m.name
    pub rows : (d : ℕ) → get_or capacities place d ≡ m.capacity
    pub covered : m.capacity ≤ total

  pub stands_at : (number place : ℕ) (m : Member) → slice_get ms number ≡ Some (Some m) → slice_get order place ≡ Some number → StandsAt place m
  stands_at number place m at placed =
      let t : TakenAt 0 ms number place m = taken_at 0 ms number place m at (ap (λ ns. slice_get ns place) (sym is.numbers) ∙ (placed ∙ ap Some (sym (from_zero number)))) in
      let less : rows_of (slice_set ms number None) + m.capacity ≡ rows_of ms = sum_less rows ms number m at in
      record {
        name = λ d. ap (λ (ns : List (List ℕ)). get_or ns place d) is.named ∙ get_or_from_slice_get (map name_of (all_there ms)) place m.name d (slice_get-map name_of (all_there ms) place ∙ ap (option_map name_of) t.was);
        rows = λ d. ap (λ (ns : List ℕ). get_or ns place d) is.sized ∙ get_or_from_slice_get (map rows (all_there ms)) place m.capacity d (slice_get-map rows (all_there ms) place ∙ ap (option_map rows) t.was);
        covered = omega (arith, less, is.summed);
      }

  pub removed : (number place : ℕ) (m : Member) (ids' : List ℕ → Option ℕ) → slice_get ms number ≡ Some (Some m) → slice_get order place ≡ Some number
      → ((q : List ℕ) → ids' q ≡ (if bytes_eq m.name q then None else ids q))
      → IsRoster (slice_set ms number None) next (remove order place) (remove names place) (remove capacities place) ids' (total - m.capacity)
  removed number place m ids' at placed updates =
      let t : TakenAt 0 ms number place m = taken_at 0 ms number place m at (ap (λ ns. slice_get ns place) (sym is.numbers) ∙ (placed ∙ ap Some (sym (from_zero number)))) in
      let less : rows_of (slice_set ms number None) + m.capacity ≡ rows_of ms = sum_less rows ms number m at in
      record {
        counted = is.counted ∙ sym (length_set ms number None);
        bound = is.bound;
        numbers = ap (λ ns. remove ns place) is.numbers ∙ sym t.numbers;
        named = ap (λ ns. remove ns place) is.named ∙ (sym (map_remove name_of (all_there ms) place) ∙ ap (map name_of) (sym t.there));
        sized = ap (λ ns. remove ns place) is.sized ∙ (sym (map_remove rows (all_there ms) place) ∙ ap (map rows) (sym t.there));
        found = λ q. updates q ∙ (ap (λ o. if bytes_eq m.name q then None else o) (is.found q) ∙ sym (named_less name_of q 0 ms number m is.differ at));
        differ = names_less name_of ms number is.differ;
        summed = omega (arith, less, is.summed);
        small = omega (arith, is.small);
      }

-- Where a number stands in order.

pub in_place : {A : Type 0} (xs : List (Option A)) (i : ℕ) (x : A) → at_place xs i ≡ Some x → slice_get xs i ≡ Some (Some x)
in_place {A = A} xs i x at = go (slice_get xs i) at
  where
    go : (o : Option (Option A)) → there o ≡ Some x → o ≡ Some (Some x)
    go None at = absurd (cc)
    go (Some None) at = absurd (cc)
    go (Some (Some y)) at = let same : y ≡ x = cc in ap (λ z. Some (Some z)) same

numbers_count : {A : Type 0} (i : ℕ) (xs : List (Option A)) → length (numbers_from i xs) ≡ length (all_there xs)
numbers_count i [] = refl
numbers_count i (None ∷ xs) = numbers_count (i + 1) xs
numbers_count i (Some x ∷ xs) = ap suc (numbers_count (i + 1) xs)

pub same_count : {ms : List (Option Member)} {next : ℕ} {order : List ℕ} {names : List (List ℕ)} {capacities : List ℕ} {ids : List ℕ → Option ℕ} {total : ℕ} → IsRoster ms next order names capacities ids total → (length order ≡ length names) × (length capacities ≡ length names)
same_count {ms = ms} is =
    (ap length is.numbers ∙ (numbers_count 0 ms ∙ sym (is_live_count is)), ap length is.sized ∙ (length_map rows (all_there ms) ∙ sym (is_live_count is)))

pub rises : {A : Type 0} (xs : List (Option A)) (order : List ℕ) → order ≡ numbers_from 0 xs → (a b : ℕ) → a ≤ b → b < length order → get_or order a 0 ≤ get_or order b 0
rises xs order same = subst (λ (ns : List ℕ). (a b : ℕ) → a ≤ b → b < length ns → get_or ns a 0 ≤ get_or ns b 0) (sym same) (numbers_rise 0 xs)

pub not_missed : {A : Type 0} (xs : List (Option A)) (order : List ℕ) (number : ℕ) (x : A) → order ≡ numbers_from 0 xs → slice_get xs number ≡ Some (Some x)
    → (i : ℕ) → ((k : ℕ) → k < i → get_or order k 0 < number) → ((k : ℕ) → i ≤ k → k < length order → number < get_or order k 0) → ⊥
not_missed xs order number x same at i below above = go (ltb t.place i) refl
  where
    t : NumberThere 0 xs number
    t = number_there 0 xs number x at

    here : get_or order t.place 0 ≡ number
    here = ap (λ ns. get_or ns t.place 0) same ∙ (t.is ∙ from_zero number)

    within : t.place < length order
    within = subst (λ n. t.place < n) (sym (ap length same)) t.within

    go : (b : Bool) → ltb t.place i ≡ b → ⊥
    go true h = let less : t.place < i = grind (arith, nat_tests) in omega (arith, below t.place less, here)
    go false h = let more : i ≤ t.place = grind (arith, nat_tests) in omega (arith, above t.place more within, here)

pub nothing : (first : ℕ) (ids : List ℕ → Option ℕ) → first ≤ most_ids → ((q : List ℕ) → ids q ≡ None) → IsRoster (none_before first []) first [] [] [] ids 0
nothing first ids few none = record {
  counted = sym (counts first);
  bound = few;
  numbers = sym (no_numbers 0 first);
  named = ap (map name_of) (sym (nobody first));
  sized = ap (map rows) (sym (nobody first));
  found = λ q. none q ∙ sym (unnamed q 0 first);
  differ = all_differ first;
  summed = ap (λ l. sum (map rows l)) (sym (nobody first));
  small = omega arith;
}
  where
    counts : (n : ℕ) → length (none_before {A = Member} n []) ≡ n
    counts zero = refl
    counts (suc n) = ap suc (counts n)

    nobody : (n : ℕ) → all_there (none_before {A = Member} n []) ≡ []
    nobody zero = refl
    nobody (suc n) = nobody n

    no_numbers : (i n : ℕ) → numbers_from i (none_before {A = Member} n []) ≡ []
    no_numbers i zero = refl
    no_numbers i (suc n) = no_numbers (i + 1) n

    unnamed : (q : List ℕ) (i n : ℕ) → named_from name_of q i (none_before n []) ≡ None
    unnamed q i zero = refl
    unnamed q i (suc n) = unnamed q (i + 1) n

    all_differ : (n : ℕ) → HaveNames name_of (none_before n [])
    all_differ zero = tt
    all_differ (suc n) = all_differ n
