-- The turns of names of which no two are the same: each has its own number.
use Rattle.std.proofs.Common.{◌≡◌, ◌<◌, ℕ, Bool, true, false, List, [], length, get_or, Some, position, refl, sym, ◌∙◌, ap, arith}
use Rattle.std.proofs.lemmas.Bool.Decides.{nat_tests}
use Rattle.std.proofs.lemmas.List.Sums.{position_or_len_is}
use Rattle.std.proofs.lemmas.Map.Made.{IsDistinct-from_AllPairs}
use Rattle.std.specs.Cmp.Lexicographic.{bytes_decides, nat_list_eq_equiv}
use Rattle.std.specs.List.{position_or_len}
use Rattle.std.specs.Str.{bytes_eq}
use Rattle.indexmap.proofs.SetLemmas.{set_all_distinct}
use Rattle.indexmap.specs.IndexSet.{insert_all}
use Rattle.jc_model.specs.declared.config.CacheConfig.{CacheConfig}
use Rattle.jc_shards.specs.Dealing.{in_turn, names_of, AreApart, GoInTurn}

other : (a b : List ℕ) → (b ≡ a → ⊥) → bytes_eq a b ≡ false
other a b apart = go (bytes_eq a b) refl where
  go : (r : Bool) → bytes_eq a b ≡ r → bytes_eq a b ≡ false
  go true same = absurd (apart (sym ((bytes_decides a b).0 same)))
  go false differs = differs

turn_of : (names : List (List ℕ)) → AreApart names → (n : ℕ) → n < length names → position (bytes_eq (get_or names n [])) names ≡ Some n
turn_of names apart n within =
    let it = get_or names n [] in
    let at : position_or_len (bytes_eq it) names ≡ n =
    position_or_len_is (bytes_eq it) names n [] (omega (arith, within))
    (λ k before. other it (get_or names k []) (apart k n [] before within))
    (λ _. (bytes_decides it it).1 refl) in
    grind (arith, nat_tests, at)

-- caches whose names go in turn have the bits of their numbers
pub go_in_turn : (seed : ℕ) (configs : List CacheConfig) → AreApart (names_of configs) → GoInTurn (in_turn seed configs) (names_of configs)
go_in_turn seed configs apart n within =
    let names = names_of configs in
    let it = get_or names n [] in
    let all : insert_all bytes_eq [] names ≡ names = set_all_distinct nat_list_eq_equiv [] names (IsDistinct-from_AllPairs bytes_decides names apart) in
    rw (ap (position (bytes_eq it)) all ∙ turn_of names apart n within) refl
