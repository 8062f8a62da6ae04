-- The live caches by name, and what creating one asks of them.
use Rattle.std.proofs.Common.{◌≡◌, ◌<◌, ◌≤◌, ◌+◌, ltb, ℕ, zero, suc, false, List, [], ◌∷◌, map, length, get_or, option_map, Option, Some, None, inl, inr, refl, sym, ap, subst, ◌∙◌, arith}
use Rattle.jc_engine.proofs.Names.{CacheConfig, most_ids, all_there, Status, create_refusal, Member, member_of, members_of, id_named, refusal_beside, Cache, status_of, lives_of, names_of, id_of, MayCome, named_map}
use Rattle.jc_engine.proofs.Names.{cases_lt, allowed, at_place, is_open_in, Slot, caches_in}
use Rattle.jc_model.specs.declared.event.CreateRefusal.TheVariants.{TooManyCaches}
use Rattle.jc_model.specs.Limits.{most_caches}
use Rattle.jc_model.specs.Members.{numbers_from}
use Rattle.jc_model.specs.Refusals.{broken_limit, refusal_for, refused_if}
use Rattle.jc_model.proofs.Refusals.{both_none, none_mapped}
use Rattle.jc_model.proofs.Listing.{NumberThere, number_there}
use Rattle.jc_ops.specs.Visited.{Visited}
use Rattle.jc_engine.specs.Sound.{IsManager}
use Rattle.jc_engine.proofs.Places.{as_many, length_map, place_of, Within, within, listed_seen, seen_is, member_at}

named_there : (caches : List (Option Cache)) → map (λ (m : Member). m.name) (all_there (members_of (lives_of caches))) ≡ names_of caches
named_there [] = refl
named_there (None ∷ ks) = named_there ks
named_there (Some k ∷ ks) = ap (λ l. k.config.name ∷ l) (named_there ks)

id_there : (name : List ℕ) (caches : List (Option Cache)) → id_named name (members_of (lives_of caches)) ≡ id_of name caches
id_there name caches = named_map (λ (k : Status). member_of k.config) (λ (m : Member). m.name) name 0 (lives_of caches) ∙ named_map status_of (λ (k : Status). k.config.name) name 0 caches

limits_kept : (ms : List (Option Member)) (c : CacheConfig) → refusal_beside ms c ≡ None → broken_limit c ≡ None
limits_kept ms c h =
    none_mapped refusal_for (broken_limit c) (both_none (option_map refusal_for (broken_limit c)) _ (both_none (refused_if (ltb most_caches (length (all_there ms) + 1)) TooManyCaches) _ h).1).0

-- where creating is not refused
pub may_come : (caches : List (Option Cache)) (c : CacheConfig) → None ≡ create_refusal (lives_of caches) c → MayCome caches c
may_come caches c none =
    let may = allowed (members_of (lives_of caches)) c (sym none) in
    record {
      ids = subst (λ (n : ℕ). n < most_ids) (length_map (option_map (λ (k : Status). member_of k.config)) (lives_of caches) ∙ length_map (option_map status_of) caches) may.ids;
      rows = may.limits.some_rows;
      limits = limits_kept (members_of (lives_of caches)) c (sym none);
      name = sym (id_there c.name caches) ∙ may.new;
      total = may.together;
    }

-- what the roster says is so of the caches that are seen
module _ {v : Visited} {f : ℕ → Option Slot} {members : List (Option Member)} {seen : List (Option Cache)} (view_is : caches_in f (length members) ≡ seen) (is : IsManager v f members) where
  listed : members ≡ members_of (lives_of seen)
  listed = listed_seen (within view_is is)

  pub names_listed : map (λ (m : Member). m.name) (all_there members) ≡ names_of seen
  names_listed = ap (λ (ms : List (Option Member)). map (λ (m : Member). m.name) (all_there ms)) listed ∙ named_there seen

  pub id_listed : (name : List ℕ) → id_named name members ≡ id_of name seen
  id_listed name = ap (id_named name) listed ∙ id_there name seen

  pub refusal_listed : (c : CacheConfig) → refusal_beside members c ≡ create_refusal (lives_of seen) c
  refusal_listed c = ap (λ (ms : List (Option Member)). refusal_beside ms c) listed

  pub length_listed : length members ≡ length seen
  length_listed = sym (as_many (within view_is is))

module _ (w : Within) where
  -- where no call is open of the caches whose numbers are listed, none is of any
  pub none_open : (numbers : List ℕ) → numbers ≡ numbers_from 0 w.members → ((k : ℕ) → k < length numbers → is_open_in (at_place w.seen (get_or numbers k 0)) ≡ false)
      → (id : ℕ) → is_open_in (at_place w.seen id) ≡ false
  none_open numbers is none id = by (w.caches id) refl
    where
      by : (o : Option Slot) → w.caches id ≡ o → is_open_in (at_place w.seen id) ≡ false
      by None at = ap is_open_in (seen_is w id at)
      by (Some cache) at =
          let t : NumberThere 0 w.members id = number_there 0 w.members id _ (place_of w.members id _ (member_at w id at)) in
          let here : get_or numbers t.place 0 ≡ id = ap (λ ns. get_or ns t.place 0) is ∙ (t.is ∙ omega arith) in
          rw here at (none t.place (subst (λ n. t.place < n) (sym (ap length is)) t.within))

-- The numbers of what is there rise.

at_least_from : {A : Type 0} (i : ℕ) (xs : List (Option A)) (p : ℕ) → p < length (numbers_from i xs) → i ≤ get_or (numbers_from i xs) p 0
at_least_from i [] p below = absurd (omega arith)
at_least_from i (None ∷ xs) p below = let above : i + 1 ≤ get_or (numbers_from (i + 1) xs) p 0 = at_least_from (i + 1) xs p below in omega arith
at_least_from i (Some x ∷ xs) zero below = omega arith
at_least_from i (Some x ∷ xs) (suc p) below = let above : i + 1 ≤ get_or (numbers_from (i + 1) xs) p 0 = at_least_from (i + 1) xs p (omega arith) in omega arith

rising : {A : Type 0} (i : ℕ) (xs : List (Option A)) (p q : ℕ) → p ≤ q → q < length (numbers_from i xs) → get_or (numbers_from i xs) p 0 ≤ get_or (numbers_from i xs) q 0
rising i [] p q before below = absurd (omega arith)
rising i (None ∷ xs) p q before below = rising (i + 1) xs p q before below
rising i (Some x ∷ xs) zero zero before below = omega arith
rising i (Some x ∷ xs) (suc p) zero before below = absurd (omega arith)
rising i (Some x ∷ xs) zero (suc q) before below = let above : i + 1 ≤ get_or (numbers_from (i + 1) xs) q 0 = at_least_from (i + 1) xs q (omega arith) in omega arith
rising i (Some x ∷ xs) (suc p) (suc q) before below = rising (i + 1) xs p q (omega arith) (omega arith)

module _ (w : Within) where
  -- where no call is open of the caches listed before a place, none is of those with lesser numbers than the one there
  pub first_open : (numbers : List ℕ) → numbers ≡ numbers_from 0 w.members → (p : ℕ) → p < length numbers
      → ((k : ℕ) → k < p → is_open_in (at_place w.seen (get_or numbers k 0)) ≡ false)
      → (earlier : ℕ) → earlier < get_or numbers p 0 → is_open_in (at_place w.seen earlier) ≡ false
  first_open numbers is p below none earlier less = by (w.caches earlier) refl
    where
      before : (q : ℕ) → get_or numbers q 0 ≡ earlier → q < length numbers → q < p
      before q at_q short = elim (cases_lt q p) [
        | inl short_of ↦ short_of
        | inr past ↦ (let more : get_or numbers p 0 ≤ get_or numbers q 0 = rw is (rising 0 w.members p q past (subst (λ (ns : List ℕ). q < length ns) is short)) in absurd (omega arith))
      ]

      by : (o : Option Slot) → w.caches earlier ≡ o → is_open_in (at_place w.seen earlier) ≡ false
      by None at = ap is_open_in (seen_is w earlier at)
      by (Some cache) at =
          let t : NumberThere 0 w.members earlier = number_there 0 w.members earlier _ (place_of w.members earlier _ (member_at w earlier at)) in
          let here : get_or numbers t.place 0 ≡ earlier = ap (λ ns. get_or ns t.place 0) is ∙ (t.is ∙ omega arith) in
          let short : t.place < length numbers = subst (λ n. t.place < n) (sym (ap length is)) t.within in
          rw here at (none t.place (before t.place here short))
