-- Names seen so far, in a set and as a list.
use Rattle.std.proofs.Common.{◌≡◌, ℕ, ◌+◌, ◌<◌, Bool, true, false, not, cond, ◌||◌, List, [], ◌∷◌, length, get_or, drop, map, Some, refl, sym, ◌∙◌, ap, Bor}
use Rattle.std.proofs.lemmas.List.{drop_more}
use Rattle.std.specs.HashSet.{HashSet, contains}
use Rattle.std.specs.List.{list_any}
use Rattle.std.specs.Str.{bytes_eq}
use Rattle.jc_config.specs.Config.{duplicate_from}
use Rattle.jc_config.specs.declared.kinds.CacheSettings.{CacheSettings}

-- the set's names, as a list, before which the caches from i on are looked through
pub record Seen {S : Type 0} (names : HashSet (Bor (List ℕ)) S) (i : ℕ) (caches : List CacheSettings) : Type 0 where
  pub before : List (List ℕ)
  pub same : (q : Bor (List ℕ)) → contains (λ x y. bytes_eq x.now y.now) names q ≡ list_any (λ y. bytes_eq y q.now) before
  pub left : duplicate_from [] 1 (map (λ c. c.config.name) caches) ≡ duplicate_from before (i + 1) (map (λ c. c.config.name) (drop i caches))

-- what the caches from i on are looked through for, where the one at i is new
pub not_seen : {S : Type 0} (names : HashSet (Bor (List ℕ)) S) (i : ℕ) (caches : List CacheSettings) (d : CacheSettings) (seen : Seen names i caches) → i < length caches
    → list_any (λ y. bytes_eq y (get_or caches i d).config.name) seen.before ≡ false
    → duplicate_from [] 1 (map (λ c. c.config.name) caches) ≡ duplicate_from ((get_or caches i d).config.name ∷ seen.before) (i + 1 + 1) (map (λ c. c.config.name) (drop (i + 1) caches))
not_seen names i caches d seen h new = seen.left ∙ rw (drop_more caches i d h, new)

cond_or : (a b : Bool) → cond a true b ≡ (a || b)
cond_or true b = refl
cond_or false b = refl

not_false : (b : Bool) → not b ≡ false → b ≡ true
not_false true e = refl
not_false false e = sym e

not_true : (b : Bool) → not b ≡ true → b ≡ false
not_true true e = sym e
not_true false e = refl

abbrev pub is_in : {S : Type 0} → HashSet (Bor (List ℕ)) S → Bor (List ℕ) → Bool
is_in names key = contains (λ x y. bytes_eq x.now y.now) names key

-- a name that the set has is the first duplicate
pub seen_again : {S : Type 0} (names : HashSet (Bor (List ℕ)) S) (i : ℕ) (caches : List CacheSettings) (key : Bor (List ℕ)) (here : CacheSettings) (is_new : Bool) → Seen names i caches → i < length caches
    → key.now ≡ here.config.name → here ≡ get_or caches i here → is_new ≡ not (is_in names key) → is_new ≡ false
    → Some (i + 1) ≡ duplicate_from [] 1 (map (λ c. c.config.name) caches)
seen_again names i caches key here is_new seen h named at added old =
    let there : list_any (λ y. bytes_eq y key.now) seen.before ≡ true = sym (seen.same key) ∙ not_false (is_in names key) (sym added ∙ old) in
    let found : list_any (λ y. bytes_eq y (get_or caches i here).config.name) seen.before ≡ true = rw (named ∙ ap (λ c. c.config.name) at) at there in
    sym (seen.left ∙ rw (drop_more caches i here h, found))

-- one more name
pub seen_more : {S : Type 0} (names more : HashSet (Bor (List ℕ)) S) (i : ℕ) (caches : List CacheSettings) (key : Bor (List ℕ)) (here : CacheSettings) (is_new : Bool) → Seen names i caches → i < length caches
    → key.now ≡ here.config.name → here ≡ get_or caches i here → is_new ≡ not (is_in names key) → is_new ≡ true
    → ((q : Bor (List ℕ)) → is_in more q ≡ cond (bytes_eq key.now q.now) true (is_in names q))
    → Seen more (i + 1) caches
seen_more names more i caches key here is_new seen h named at added new updated =
    let absent : list_any (λ y. bytes_eq y key.now) seen.before ≡ false = sym (seen.same key) ∙ not_true (is_in names key) (sym added ∙ new) in
    let name : key.now ≡ (get_or caches i here).config.name = named ∙ ap (λ c. c.config.name) at in
    record {
      before = (get_or caches i here).config.name ∷ seen.before;
      same = λ q. updated q ∙ cond_or (bytes_eq key.now q.now) (is_in names q) ∙ rw (name, seen.same q) refl;
      left = not_seen names i caches here seen h (rw name at absent);
    }
