-- The caches that a reader keeps, beside the lives that they stand for.
use Rattle.std.proofs.Common.{◌≡◌, ℕ, zero, suc, ◌+◌, ◌<◌, ◌≤◌, Bool, true, false, not, ◌&&◌, ◌||◌, List, [], ◌∷◌, ◌++◌, length, map, take, get_or, Option, Some, None, is_some, option_map, refl, sym, ap, ◌∙◌, subst, arith}
use Rattle.std.specs.Prelude.{slice_set}
use Rattle.std.specs.Borrow.{Bor}
use Rattle.std.specs.List.{list_any, AllByRecursion}
use Rattle.std.specs.Str.{bytes_eq}
use Rattle.std.proofs.lemmas.List.{map-append}
use Rattle.std.proofs.lemmas.List.Sums.{sum_by-cons}
use Rattle.std.proofs.lemmas.Slice.Eq.{bytes_eq-Decides}
use Rattle.jc_config.specs.Limits.{names_of_caches, total_capacity}
use Rattle.jc_model.specs.declared.config.CacheConfig.{CacheConfig}
use Rattle.jc_model.specs.declared.event.CreateRefusal.{CreateRefusal}
use Rattle.jc_model.specs.Limits.{most_processors}
use Rattle.jc_model.specs.Lists.{distinct}
use Rattle.jc_model.specs.Places.{there, at_place, all_there, named_from}
use Rattle.jc_model.specs.Runs.{Status, Lives, opened, creates, destroys, answer_in, answer_to_create, answer_to_destroy, lives_by, create_refusal, members_of}
use Rattle.jc_model.specs.Members.{id_named}
use Rattle.jc_model.proofs.Members.{named_map, at_place_map, allowed}
use Rattle.jc_script.specs.Live.{id_of_live, processors_of, processors_at, lives_in, HaveFewProcessors, IsFollowed}
use Rattle.jc_model.specs.Refusals.{Member, member_of, rows_of, refusal_beside}

-- By name and by id.

pub id_by_members : (name : List ℕ) (lives : Lives) → id_named name (members_of lives) ≡ id_of_live lives name
id_by_members name lives = named_map (λ (k : Status). member_of k.config) (λ m. m.name) name 0 lives

pub live_by_place : (caches : List (Option CacheConfig)) (id : ℕ) → at_place (lives_in caches) id ≡ option_map opened (at_place caches id)
live_by_place caches id = at_place_map opened caches id

pub member_by_place : (caches : List (Option CacheConfig)) (id : ℕ) → at_place (members_of (lives_in caches)) id ≡ option_map member_of (at_place caches id)
member_by_place caches id =
    at_place_map (λ (k : Status). member_of k.config) (lives_in caches) id ∙ ap (option_map (λ (k : Status). member_of k.config)) (live_by_place caches id) ∙ twice (at_place caches id)
  where
    twice : (o : Option CacheConfig) → option_map (λ (k : Status). member_of k.config) (option_map opened o) ≡ option_map member_of o
    twice None = refl
    twice (Some c) = refl

pub few_at : (caches : List (Option CacheConfig)) (id : ℕ) (c : CacheConfig) → HaveFewProcessors caches → at_place caches id ≡ Some c → length c.processors ≤ most_processors
few_at [] id c few at = absurd cc
few_at (None ∷ caches) zero c few at = absurd cc
few_at (None ∷ caches) (suc id) c few at = few_at caches id c few at
few_at (Some x ∷ caches) zero c few at = let same : x ≡ c = cc in subst (λ (y : CacheConfig). length y.processors ≤ most_processors) same few.0
few_at (Some x ∷ caches) (suc id) c few at = few_at caches id c few.1 at

pub no_processors : (caches : List (Option CacheConfig)) (id : ℕ) → at_place caches id ≡ None → processors_at (lives_in caches) id ≡ 0
no_processors caches id none = ap processors_of (live_by_place caches id ∙ ap (option_map opened) none)

-- At first.

pub at_first : (cs : List CacheConfig) → lives_in (map Some cs) ≡ map (λ c. Some (opened c)) cs
at_first [] = refl
at_first (c ∷ cs) = ap (λ lives. Some (opened c) ∷ lives) (at_first cs)

pub few_first : (cs : List CacheConfig) → AllByRecursion (λ c. length c.processors ≤ most_processors) cs → HaveFewProcessors (map Some cs)
few_first [] few = tt
few_first (c ∷ cs) few = (few.0, few_first cs few.1)

both : (a b : Bool) → (a && b) ≡ true → (a ≡ true) × (b ≡ true)
both true b e = (refl, e)
both false b e = absurd cc

either : (a b : Bool) → (a || b) ≡ false → (a ≡ false) × (b ≡ false)
either true b e = absurd cc
either false b e = (refl, e)

not_true : (a : Bool) → not a ≡ true → a ≡ false
not_true true e = absurd cc
not_true false e = refl

turned : (x y : List ℕ) (b : Bool) → bytes_eq x y ≡ b → bytes_eq y x ≡ false → b ≡ false
turned x y true is other = absurd (let same : x ≡ y = (bytes_eq-Decides x y).0 is in let itself : bytes_eq y x ≡ true = (bytes_eq-Decides y x).1 (sym same) in cc)
turned x y false is other = refl

none_passes_at : (name : List ℕ) (cs : List CacheConfig) (i : ℕ) (d : CacheConfig) → i < length cs → list_any (λ y. bytes_eq y name) (names_of_caches cs) ≡ false → bytes_eq (get_or cs i d).name name ≡ false
none_passes_at name [] i d below none = absurd (omega (arith, below))
none_passes_at name (c ∷ cs) zero d below none = (either (bytes_eq c.name name) (list_any (λ y. bytes_eq y name) (names_of_caches cs)) none).0
none_passes_at name (c ∷ cs) (suc i) d below none = none_passes_at name cs i d (omega (arith, below)) (either (bytes_eq c.name name) (list_any (λ y. bytes_eq y name) (names_of_caches cs)) none).1

abbrev known_first : ℕ → List CacheConfig → List (Option Member)
known_first i cs = members_of (lives_in (map Some (take i cs)))

other_name : (c : CacheConfig) (name : List ℕ) (id : ℕ) (ms : List (Option Member)) → bytes_eq c.name name ≡ false → named_from (λ m. m.name) name (id + 1) ms ≡ None → named_from (λ m. m.name) name id (Some (member_of c) ∷ ms) ≡ None
other_name c name id ms other rest = rw other rest

-- the names before a place are others than its own
named_before : (cs : List CacheConfig) (i id : ℕ) (d : CacheConfig) → i < length cs → distinct (names_of_caches cs) ≡ true → named_from (λ m. m.name) (get_or cs i d).name id (known_first i cs) ≡ None
named_before [] i id d below own = absurd (omega (arith, below))
named_before (c ∷ cs) zero id d below own = refl
named_before (c ∷ cs) (suc i) id d below own =
    let parts = both (not (list_any (λ y. bytes_eq y c.name) (names_of_caches cs))) (distinct (names_of_caches cs)) own in
    let other : bytes_eq (get_or cs i d).name c.name ≡ false = none_passes_at c.name cs i d (omega (arith, below)) (not_true _ parts.0) in
    other_name c (get_or cs i d).name id (known_first i cs) (turned c.name (get_or cs i d).name _ refl other) (named_before cs i (id + 1) d (omega (arith, below)) parts.1)

pub new_name : (cs : List CacheConfig) (i : ℕ) (d : CacheConfig) → i < length cs → distinct (names_of_caches cs) ≡ true → id_named (get_or cs i d).name (known_first i cs) ≡ None
new_name cs i d below own = named_before cs i 0 d below own

rows_cons : (c : CacheConfig) (cs : List CacheConfig) → total_capacity (c ∷ cs) ≡ c.capacity + total_capacity cs
rows_cons c cs = sum_by-cons (λ n. n) c.capacity (map (λ x. x.capacity) cs)

known_cons : (m : Member) (ms : List (Option Member)) → rows_of (Some m ∷ ms) ≡ m.capacity + rows_of ms
known_cons m ms = sum_by-cons (λ n. n) m.capacity (map (λ x. x.capacity) (all_there ms))

pub room_left : (cs : List CacheConfig) (i : ℕ) (d : CacheConfig) → i < length cs → rows_of (known_first i cs) + (get_or cs i d).capacity ≤ total_capacity cs
room_left [] i d below = absurd (omega (arith, below))
room_left (c ∷ cs) zero d below = let all = rows_cons c cs in omega (arith, all)
room_left (c ∷ cs) (suc i) d below =
    let all = rows_cons c cs in
    let known = known_cons (member_of c) (known_first i cs) in
    let rest : rows_of (known_first i cs) + (get_or cs i d).capacity ≤ total_capacity cs = room_left cs i d (omega (arith, below)) in
    omega (arith, all, known, rest)

-- One more.

pub few_processors : (ms : List (Option Member)) (c : CacheConfig) → refusal_beside ms c ≡ None → length c.processors ≤ most_processors
few_processors ms c none = (allowed ms c none).limits.processors

few_more : (caches : List (Option CacheConfig)) (c : CacheConfig) → HaveFewProcessors caches → length c.processors ≤ most_processors → HaveFewProcessors (caches ++ Some c ∷ [])
few_more [] c few more = (more, tt)
few_more (None ∷ caches) c few more = few_more caches c few more
few_more (Some x ∷ caches) c few more = (few.0, few_more caches c few.1 more)

pub none_there : {A : Type 0} (o : Option A) → is_some o ≡ false → o ≡ None
none_there None none = refl
none_there (Some x) none = absurd cc

pub one_more : (caches : List (Option CacheConfig)) (members : List (Option Member)) (c : CacheConfig) → IsFollowed caches members → refusal_beside members c ≡ None → IsFollowed (caches ++ Some c ∷ []) (members ++ Some (member_of c) ∷ [])
one_more caches members c followed none = record {
  listed =
      ap (λ (ms : List (Option Member)). ms ++ Some (member_of c) ∷ []) followed.listed
      ∙ sym (ap members_of (map-append (option_map opened) caches (Some c ∷ [])) ∙ map-append (option_map (λ (k : Status). member_of k.config)) (lives_in caches) (Some (opened c) ∷ []));
  few = few_more caches c followed.few (few_processors members c none);
}

pub refused : (caches : List (Option CacheConfig)) (members : List (Option Member)) (c : CacheConfig) → IsFollowed caches members → is_some (refusal_beside members c) ≡ true → lives_in caches ≡ lives_by (lives_in caches) (creates c) (answer_in (lives_in caches) (creates c) false)
refused caches members c followed some =
    go (create_refusal (lives_in caches) c) (ap is_some (sym (ap (λ ms. refusal_beside ms c) followed.listed)) ∙ some)
  where
    go : (o : Option CreateRefusal) → is_some o ≡ true → lives_in caches ≡ lives_by (lives_in caches) (creates c) (answer_to_create o (length (lives_in caches)) false)
    go None some = absurd cc
    go (Some refusal) some = refl

pub accepted : (caches : List (Option CacheConfig)) (members : List (Option Member)) (c : CacheConfig) → IsFollowed caches members → refusal_beside members c ≡ None → lives_in (caches ++ Some c ∷ []) ≡ lives_by (lives_in caches) (creates c) (answer_in (lives_in caches) (creates c) false)
accepted caches members c followed none =
    let free : create_refusal (lives_in caches) c ≡ None = sym (ap (λ ms. refusal_beside ms c) followed.listed) ∙ none in
    map-append (option_map opened) caches (Some c ∷ [])
    ∙ ap (λ (o : Option CreateRefusal). lives_by (lives_in caches) (creates c) (answer_to_create o (length (lives_in caches)) false)) (sym free)

-- One less.

pub somewhere : {A : Type 0} (o : Option (Bor A)) (place : Option A) → option_map (λ x. x.now) o ≡ place → is_some o ≡ true → (x : A) × (place ≡ Some x)
somewhere None place is some = absurd cc
somewhere (Some x) place is some = (x.now, sym is)

map_set : {A B : Type 0} (f : A → B) (xs : List A) (i : ℕ) (y : A) → map f (slice_set xs i y) ≡ slice_set (map f xs) i (f y)
map_set f [] i y = refl
map_set f (x ∷ xs) zero y = refl
map_set f (x ∷ xs) (suc i) y = ap (λ zs. f x ∷ zs) (map_set f xs i y)

few_less : (caches : List (Option CacheConfig)) (id : ℕ) → HaveFewProcessors caches → HaveFewProcessors (slice_set caches id None)
few_less [] id few = tt
few_less (None ∷ caches) zero few = few
few_less (None ∷ caches) (suc id) few = few_less caches id few
few_less (Some x ∷ caches) zero few = few.1
few_less (Some x ∷ caches) (suc id) few = (few.0, few_less caches id few.1)

pub one_less : (caches : List (Option CacheConfig)) (members : List (Option Member)) (id : ℕ) → IsFollowed caches members → IsFollowed (slice_set caches id None) (slice_set members id None)
one_less caches members id followed = record {
  listed =
      ap (λ (ms : List (Option Member)). slice_set ms id None) followed.listed
      ∙ sym (ap members_of (map_set (option_map opened) caches id None) ∙ map_set (option_map (λ (k : Status). member_of k.config)) (lives_in caches) id None);
  few = few_less caches id followed.few;
}

pub nothing_there : (caches : List (Option CacheConfig)) (id : ℕ) → at_place caches id ≡ None → lives_in caches ≡ lives_by (lives_in caches) (destroys id) (answer_in (lives_in caches) (destroys id) false)
nothing_there caches id none =
    ap (λ (o : Option Status). lives_by (lives_in caches) (destroys id) (answer_to_destroy o)) (sym (live_by_place caches id ∙ ap (option_map opened) none))

pub destroyed : (caches : List (Option CacheConfig)) (id : ℕ) (c : CacheConfig) → at_place caches id ≡ Some c → lives_in (slice_set caches id None) ≡ lives_by (lives_in caches) (destroys id) (answer_in (lives_in caches) (destroys id) false)
destroyed caches id c there =
    map_set (option_map opened) caches id None
    ∙ ap (λ (o : Option Status). lives_by (lives_in caches) (destroys id) (answer_to_destroy o)) (sym (live_by_place caches id ∙ ap (option_map opened) there))
