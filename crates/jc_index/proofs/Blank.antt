-- Words that are all zero, and words of versions at rest.
use Rattle.std.proofs.Common.{◌≡◌, ℕ, zero, suc, ◌+◌, ◌-◌, ◌*◌, ◌/◌, ◌<◌, List, [], ◌∷◌, ◌++◌, length, take, drop, replicate, get_or, map, option_map, Option, Some, None, refl, sym, ap, ◌∙◌, subst, arith, add-one, append_assoc}
use Rattle.std.specs.List.{All}
use mathlib.Core.List.{map-append}
use Rattle.std.proofs.Math.Seq.{take-suc}
use Rattle.jc_place.specs.declared.place.Place.{Place}
use Rattle.jc_cuckoo.specs.declared.held.Held.{Held}
use Rattle.jc_rows.specs.Images.{Image, Shown}
use Rattle.jc_cuckoo.specs.Images.{IsImage, image_of, shown_row}
use Rattle.jc_index.proofs.Comparing.{take_whole}
use Rattle.jc_index.specs.StripeLayout.{content_of, version_count, versions_at}
use Rattle.jc_index.specs.Layout.{bucket_slots, bucket_words, slot_words}
use Rattle.jc_index.specs.Indexes.{empty_image}
use Rattle.jc_index.specs.Spelling.{IsCoded, IsSpelt, IsLawful, words_of_slot, words_of_slots, slots_in, words_of_image, image_in}
use Rattle.jc_index.proofs.Coding.{long_slots, AllCoded, coded_back}

drop_alike : (k start : ℕ) (xs : List ℕ) → drop k (replicate k start ++ xs) ≡ xs
drop_alike zero start xs = refl
drop_alike (suc k) start xs = drop_alike k start xs

-- versions that are all alike, and then these words
pub split_versions : (start : ℕ) (items content : List ℕ) → items ≡ versions_at start ++ content → (items ≡ versions_at start ++ content_of items) × (content_of items ≡ content)
split_versions start items content is = let d : content_of items ≡ content = ap content_of is ∙ drop_alike version_count start content in (is ∙ ap (λ (l : List ℕ). versions_at start ++ l) (sym d), d)

abbrev zeros : ℕ → List ℕ
zeros n = replicate n 0

zeros_more : (k n m : ℕ) → m ≡ k + n → zeros k ++ zeros n ≡ zeros m
zeros_more zero n m e = let f : n ≡ m = omega (arith, e) in ap zeros f
zeros_more (suc k) n zero e = absurd (omega (arith, e))
zeros_more (suc k) n (suc m) e = ap (λ (l : List ℕ). 0 ∷ l) (zeros_more k n m (omega (arith, e)))

no_words : (m : ℕ) → words_of_slots (replicate m None) ≡ zeros (slot_words * m)
no_words zero = refl
no_words (suc m) = ap (λ (l : List ℕ). zeros slot_words ++ l) (no_words m) ∙ zeros_more slot_words (slot_words * m) (slot_words * suc m) (omega arith)

none_coded : (m : ℕ) → AllCoded (replicate m None)
none_coded zero = tt
none_coded (suc m) = (refl, none_coded m)

empty_at : (m k : ℕ) (s : Shown) → get_or (replicate m None) k None ≡ Some s → ⊥
empty_at zero k s e = absurd cc
empty_at (suc m) zero s e = absurd cc
empty_at (suc m) (suc k) s e = empty_at m k s e

long_all : {A : Type 0} (n : ℕ) (x : A) → length (replicate n x) ≡ n
long_all zero x = refl
long_all (suc n) x = ap suc (long_all n x)

module _ (buckets : ℕ) where
  abbrev pub blank : List ℕ
  blank = 0 ∷ replicate (bucket_words * buckets) 0

  no_rows : words_of_slots (replicate (bucket_slots * buckets) None) ≡ zeros (bucket_words * buckets)
  no_rows = let e : slot_words * (bucket_slots * buckets) ≡ bucket_words * buckets = omega arith in no_words (bucket_slots * buckets) ∙ ap zeros e

  pub blank_image : image_in blank ≡ empty_image buckets
  blank_image =
      let long : length blank ≡ suc (bucket_words * buckets) = ap suc (long_all {A = ℕ} (bucket_words * buckets) 0) in
      let many : (length blank - 1) / slot_words ≡ length {A = Option Shown} (replicate (bucket_slots * buckets) None) = omega (arith, long, long_all {A = Option Shown} (bucket_slots * buckets) None) in
      let n : length blank / bucket_words ≡ buckets = omega (arith, long) in
      let slots : slots_in ((length blank - 1) / slot_words) (zeros (bucket_words * buckets)) ≡ replicate (bucket_slots * buckets) None =
      ap (slots_in ((length blank - 1) / slot_words)) (sym no_rows) ∙ coded_back (replicate (bucket_slots * buckets) None) ((length blank - 1) / slot_words) many (none_coded (bucket_slots * buckets)) in
      λ i. record { buckets = n i; slots = slots i; stash = 0 }

  pub blank_spelt : IsSpelt buckets blank
  blank_spelt = record { wide = omega (arith, long_all {A = ℕ} (bucket_words * buckets) 0); coded = sym (ap words_of_image blank_image ∙ ap (λ (l : List ℕ). 0 ∷ l) no_rows) }

  pub blank_lawful : (placing : ℕ → List ℕ → Place) → IsLawful placing buckets blank
  blank_lawful placing = record {
    spelt = blank_spelt;
    image = subst (IsImage placing) (sym blank_image) record {
      slots = long_all (bucket_slots * buckets) None;
      placed = λ i s at. absurd (empty_at (bucket_slots * buckets) i s at);
      once = λ i j s t at _ _. absurd (empty_at (bucket_slots * buckets) i s at);
    };
  }

shown_none : (n : ℕ) → map (option_map shown_row) (replicate n None) ≡ replicate n None
shown_none zero = refl
shown_none (suc n) = ap (λ (l : List (Option Shown)). None ∷ l) (shown_none n)

-- it is the image of a table without rows
pub empty_is : (n : ℕ) → empty_image n ≡ image_of n (replicate (bucket_slots * n) None)
empty_is n =
    let cells : List (Option Held) = replicate (bucket_slots * n) None in
    let long : length cells ≡ bucket_slots * n = long_all (bucket_slots * n) None in
    let slots : map (option_map shown_row) (take (bucket_slots * n) cells) ≡ replicate (bucket_slots * n) None = ap (map (option_map shown_row)) (take_whole (bucket_slots * n) cells (sym long)) ∙ shown_none (bucket_slots * n) in
    let stash : length cells - bucket_slots * n ≡ 0 = omega (arith, long) in
    λ i. record { buckets = n; slots = sym slots i; stash = sym stash i }

-- the words of an image that was filled
abbrev showing : List (Option Held) → List (Option Shown)
showing xs = map (option_map shown_row) xs

pub all_coded : (xs : List (Option Held)) → All (λ x. IsCoded (option_map shown_row x)) xs → AllCoded (showing xs)
all_coded [] all = tt
all_coded (x ∷ xs) all = (all 0 x (omega arith), all_coded xs (λ k d inside. all (suc k) d (omega arith)))

pub filled_image : (image : Image) → AllCoded image.slots → length image.slots ≡ bucket_slots * image.buckets → image_in (words_of_image image) ≡ image
filled_image image coded long =
    let n : length (words_of_image image) / bucket_words ≡ image.buckets = omega (arith, long_slots image.slots, long) in
    let many : (length (words_of_image image) - 1) / slot_words ≡ length image.slots = omega (arith, long_slots image.slots) in
    λ i. record { buckets = n i; slots = coded_back image.slots ((length (words_of_image image) - 1) / slot_words) many coded i; stash = image.stash }

pub filled_lawful : (placing : ℕ → List ℕ → Place) (image : Image) → AllCoded image.slots → IsImage placing image → IsLawful placing image.buckets (words_of_image image)
filled_lawful placing image coded lawful =
    let is = filled_image image coded lawful.slots in record {
      spelt = record { wide = omega (arith, long_slots image.slots, lawful.slots); coded = ap words_of_image (sym is) };
      image = subst (IsImage placing) (sym is) lawful;
    }

words_snoc : (xs : List (Option Shown)) (x : Option Shown) → words_of_slots (xs ++ x ∷ []) ≡ words_of_slots xs ++ words_of_slot x
words_snoc [] None = refl
words_snoc [] (Some s) = refl
words_snoc (y ∷ xs) x = ap (λ (l : List ℕ). words_of_slot y ++ l) (words_snoc xs x) ∙ sym (append_assoc (words_of_slot y) (words_of_slots xs) (words_of_slot x))

pub words_more : (xs : List (Option Held)) (i : ℕ) (d : Option Held) → i < length xs → words_of_slots (showing (take (i + 1) xs)) ≡ words_of_slots (showing (take i xs)) ++ words_of_slot (option_map shown_row (get_or xs i d))
words_more xs i d inside =
    rw (add-one, take-suc xs i d inside)
    (ap words_of_slots (map-append (option_map shown_row) (take i xs) (get_or xs i d ∷ [])) ∙ words_snoc (showing (take i xs)) (option_map shown_row (get_or xs i d)))
