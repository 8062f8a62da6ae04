-- What a commit sets.
use Rattle.std.proofs.Common.{◌≡◌, ◌⊎◌, ℕ, zero, suc, ◌+◌, ◌-◌, ◌*◌, ◌/◌, ◌<◌, ◌≤◌, Bool, true, false, List, [], ◌∷◌, ◌++◌, length, take, drop, get_or, set, Option, Some, None, refl, sym, ap, ◌∙◌, subst, inl, ⊎_elim, arith, length-set, length-append, append_assoc, append-nil, add-one}
use Rattle.std.specs.List.{All}
use Rattle.std.proofs.Math.Seq.{take-suc}
use Rattle.jc_index.specs.Stripes.{IsOneOf, AreUnderVersions, set_all}
use Rattle.jc_index.specs.StripeLayout.{common, version_count}
use Rattle.jc_index.specs.Layout.{bucket_slots, bucket_words, slot_place, slot_words, stripe_of, table_words}
use Rattle.jc_index.specs.Spelling.{IsCoded, IsSpelt, group_of, words_of_slot, words_of_slots, slots_in, words_of_image, image_in}
use Rattle.jc_rows.specs.Images.{Image, Shown}
use Rattle.jc_cuckoo.specs.Images.{write_all, written_image}
use Rattle.jc_index.specs.Batches.{Write, shown_by_write, placed_at, slot_batch, count_batch, is_some, stripes_for}
use Rattle.jc_index.specs.Versions.{versions_of}
use Rattle.jc_index.proofs.Opening.{length-set_all}
use Rattle.jc_index.proofs.Coding.{long_slots, AllCoded, coded_back, back_coded, coded_set, image_set, long_slot}
use Rattle.jc_index.proofs.Noting.{group_at, group_zero}
use Rattle.jc_index.proofs.Taking.{few_versions, first_in, second_in, stash_in}

-- one more slot
batch_snoc : (ws : List Write) (w : Write) → slot_batch (ws ++ w ∷ []) ≡ slot_batch ws ++ placed_at (slot_place w.0) (words_of_slot (shown_by_write w))
batch_snoc [] w = append-nil (placed_at (slot_place w.0) (words_of_slot (shown_by_write w)))
batch_snoc (x ∷ ws) w = ap (λ l. placed_at (slot_place x.0) (words_of_slot (shown_by_write x)) ++ l) (batch_snoc ws w) ∙ sym (append_assoc (placed_at (slot_place x.0) (words_of_slot (shown_by_write x))) (slot_batch ws) (placed_at (slot_place w.0) (words_of_slot (shown_by_write w))))

pub batch_more : (ws : List Write) (i : ℕ) (d : Write) → i < length ws → slot_batch (take (i + 1) ws) ≡ slot_batch (take i ws) ++ placed_at (slot_place (get_or ws i d).0) (words_of_slot (shown_by_write (get_or ws i d)))
batch_more ws i d inside = rw (add-one, take-suc ws i d inside) (batch_snoc (take i ws) (get_or ws i d))

-- versions
few_one : All (λ (j : ℕ). j < version_count) (common ∷ [])
few_one zero d inside = omega arith
few_one (suc k) d inside = absurd (omega arith)

pub few_stripes : (ws : List Write) (s : Bool) → All (λ j. j < version_count) (stripes_for ws s)
few_stripes [] s = few_one
few_stripes (w ∷ []) s = few_versions (w.0 / bucket_slots) (w.0 / bucket_slots) s
few_stripes (w ∷ x ∷ ws) s = few_versions (w.0 / bucket_slots) (x.0 / bucket_slots) s

covered_append : (js : List ℕ) (xs ys : List (ℕ × ℕ)) → AreUnderVersions group_of js xs → AreUnderVersions group_of js ys → AreUnderVersions group_of js (xs ++ ys)
covered_append js [] ys a b = b
covered_append js (x ∷ xs) ys a b = (a.0, covered_append js xs ys a.1 b)

covered_slot : (js : List ℕ) (slot p k : ℕ) (vs : List ℕ) → length vs + k ≤ slot_words → p ≡ slot_place slot + k → IsOneOf (stripe_of (slot / bucket_slots)) js → AreUnderVersions group_of js (placed_at p vs)
covered_slot js slot p k [] few is own = tt
covered_slot js slot p k (v ∷ vs) few is own = (subst (λ (z : ℕ). IsOneOf z js) (sym (group_at slot p k (omega (arith, few)) is)) own, covered_slot js slot (p + 1) (k + 1) vs (omega (arith, few)) (omega (arith, is)) own)

covered_one : (js : List ℕ) (w : Write) → IsOneOf (stripe_of (w.0 / bucket_slots)) js → AreUnderVersions group_of js (placed_at (slot_place w.0) (words_of_slot (shown_by_write w)))
covered_one js w own = covered_slot js w.0 (slot_place w.0) 0 (words_of_slot (shown_by_write w)) (omega (arith, long_slot (shown_by_write w))) (omega arith) own

covered_count : (js : List ℕ) (c : Option ℕ) → (is_some c ≡ true → IsOneOf common js) → AreUnderVersions group_of js (count_batch c)
covered_count js None own = tt
covered_count js (Some n) own = (subst (λ (z : ℕ). IsOneOf z js) (sym group_zero) (own refl), tt)

stash_of : (a b : ℕ) (s : Bool) → s ≡ true → IsOneOf common (versions_of a b s)
stash_of a b true e = stash_in a b
stash_of a b false e = absurd cc

pub covered_batch : (ws : List Write) (c : Option ℕ) → length ws ≤ 2 → AreUnderVersions group_of (stripes_for ws (is_some c)) (slot_batch ws ++ count_batch c)
covered_batch [] c few = covered_count (common ∷ []) c (λ _. inl refl)
covered_batch (w ∷ []) c few =
    let js : List ℕ = versions_of (w.0 / bucket_slots) (w.0 / bucket_slots) (is_some c) in
    covered_append js (placed_at (slot_place w.0) (words_of_slot (shown_by_write w)) ++ []) (count_batch c) (covered_append js (placed_at (slot_place w.0) (words_of_slot (shown_by_write w))) [] (covered_one js w (first_in (w.0 / bucket_slots) (w.0 / bucket_slots) (is_some c))) tt) (covered_count js c (stash_of (w.0 / bucket_slots) (w.0 / bucket_slots) (is_some c)))
covered_batch (w ∷ x ∷ []) c few =
    let js : List ℕ = versions_of (w.0 / bucket_slots) (x.0 / bucket_slots) (is_some c) in
    let first = covered_one js w (first_in (w.0 / bucket_slots) (x.0 / bucket_slots) (is_some c)) in
    let second = covered_append js (placed_at (slot_place x.0) (words_of_slot (shown_by_write x))) [] (covered_one js x (second_in (w.0 / bucket_slots) (x.0 / bucket_slots) (is_some c))) tt in
    covered_append js (slot_batch (w ∷ x ∷ [])) (count_batch c) (covered_append js (placed_at (slot_place w.0) (words_of_slot (shown_by_write w))) (placed_at (slot_place x.0) (words_of_slot (shown_by_write x)) ++ []) first second) (covered_count js c (stash_of (w.0 / bucket_slots) (x.0 / bucket_slots) (is_some c)))
covered_batch (w ∷ x ∷ y ∷ ws) c few = absurd (omega arith)

long_placed : (p : ℕ) (vs : List ℕ) → length (placed_at p vs) ≡ length vs
long_placed p [] = refl
long_placed p (v ∷ vs) = ap suc (long_placed (p + 1) vs)

pub some_batch : (ws : List Write) (c : Option ℕ) → (0 < length ws) ⊎ (is_some c ≡ true) → 0 < length (slot_batch ws ++ count_batch c)
some_batch [] None e = absurd (⊎_elim (λ (l : 0 < 0). absurd (omega arith)) (λ (f : false ≡ true). absurd cc) e)
some_batch [] (Some n) e = omega arith
some_batch (w ∷ ws) c e = omega (arith, length-append (placed_at (slot_place w.0) (words_of_slot (shown_by_write w)) ++ slot_batch ws) (count_batch c), length-append (placed_at (slot_place w.0) (words_of_slot (shown_by_write w))) (slot_batch ws), long_placed (slot_place w.0) (words_of_slot (shown_by_write w)), long_slot (shown_by_write w))

-- places
abbrev Below : ℕ → List (ℕ × ℕ) → Type 0
Below n [] = Unit {0}
Below n (w ∷ ws) = (version_count + w.0 < n) × Below n ws

below_all : (n : ℕ) (ws : List (ℕ × ℕ)) → Below n ws → All (λ w. version_count + w.0 < n) ws
below_all n [] b k d inside = absurd (omega arith)
below_all n (w ∷ ws) b zero d inside = b.0
below_all n (w ∷ ws) b (suc k) d inside = below_all n ws b.1 k d (omega arith)

below_append : (n : ℕ) (xs ys : List (ℕ × ℕ)) → Below n xs → Below n ys → Below n (xs ++ ys)
below_append n [] ys a b = b
below_append n (x ∷ xs) ys a b = (a.0, below_append n xs ys a.1 b)

below_placed : (n p : ℕ) (vs : List ℕ) → version_count + p + length vs ≤ n → Below n (placed_at p vs)
below_placed n p [] few = tt
below_placed n p (v ∷ vs) few = (omega (arith, few), below_placed n (p + 1) vs (omega (arith, few)))

below_slots : (buckets : ℕ) (ws : List Write) → All (λ w. w.0 < bucket_slots * buckets) ws → Below (table_words buckets) (slot_batch ws)
below_slots buckets [] all = tt
below_slots buckets (w ∷ ws) all =
    let here : w.0 < bucket_slots * buckets = all 0 w (omega arith) in
    below_append (table_words buckets) (placed_at (slot_place w.0) (words_of_slot (shown_by_write w))) (slot_batch ws) (below_placed (table_words buckets) (slot_place w.0) (words_of_slot (shown_by_write w)) (omega (arith, long_slot (shown_by_write w)))) (below_slots buckets ws (λ k d inside. all (suc k) d (omega arith)))

below_count : (buckets : ℕ) (c : Option ℕ) → Below (table_words buckets) (count_batch c)
below_count buckets None = tt
below_count buckets (Some n) = (omega arith, tt)

pub inside_batch : (buckets : ℕ) (ws : List Write) (c : Option ℕ) → All (λ w. w.0 < bucket_slots * buckets) ws → All (λ w. version_count + w.0 < table_words buckets) (slot_batch ws ++ count_batch c)
inside_batch buckets ws c all = below_all (table_words buckets) (slot_batch ws ++ count_batch c) (below_append (table_words buckets) (slot_batch ws) (count_batch c) (below_slots buckets ws all) (below_count buckets c))

-- the image after it
set_all-append : (words : List ℕ) (xs ys : List (ℕ × ℕ)) → set_all words (xs ++ ys) ≡ set_all (set_all words xs) ys
set_all-append words [] ys = refl
set_all-append words (x ∷ xs) ys = set_all-append (set words x.0 x.1) xs ys

written_slots : (n : ℕ) (xs : List (Option Shown)) (ws : List Write) → All (λ w. w.0 < length xs) ws → set_all (n ∷ words_of_slots xs) (slot_batch ws) ≡ n ∷ words_of_slots (write_all xs ws)
written_slots n xs [] all = refl
written_slots n xs (w ∷ ws) all =
    set_all-append (n ∷ words_of_slots xs) (placed_at (slot_place w.0) (words_of_slot (shown_by_write w))) (slot_batch ws)
    ∙ (ap (λ l. set_all l (slot_batch ws)) (image_set n xs w.0 (slot_place w.0) (shown_by_write w) refl (all 0 w (omega arith)))
    ∙ written_slots n (set xs w.0 (shown_by_write w)) ws (λ k d inside. let h : (get_or ws k d).0 < length xs = all (suc k) d (omega arith) in omega (arith, h, length-set xs w.0 (shown_by_write w))))

coded_after : (xs : List (Option Shown)) (ws : List Write) → All (λ w. IsCoded (shown_by_write w)) ws → AllCoded xs → AllCoded (write_all xs ws)
coded_after xs [] all a = a
coded_after xs (w ∷ ws) all a = coded_after (set xs w.0 (shown_by_write w)) ws (λ k d inside. all (suc k) d (omega arith)) (coded_set xs w.0 (shown_by_write w) (all 0 w (omega arith)) a)

long_written : (xs : List (Option Shown)) (ws : List Write) → length (write_all xs ws) ≡ length xs
long_written xs [] = refl
long_written xs (w ∷ ws) = long_written (set xs w.0 (shown_by_write w)) ws ∙ length-set xs w.0 (shown_by_write w)

abbrev pub count_in : ℕ → Option ℕ → ℕ
count_in n None = n
count_in n (Some m) = m

written_count : (n : ℕ) (rest : List ℕ) (c : Option ℕ) → set_all (n ∷ rest) (count_batch c) ≡ count_in n c ∷ rest
written_count n rest None = refl
written_count n rest (Some m) = refl

pub image_batch : (buckets : ℕ) (words : List ℕ) (ws : List Write) (c : Option ℕ) (stash : ℕ) → All (λ w. w.0 < bucket_slots * buckets) ws → All (λ w. IsCoded (shown_by_write w)) ws → IsSpelt buckets words → count_in (image_in words).stash c ≡ stash
    → IsSpelt buckets (set_all words (slot_batch ws ++ count_batch c)) × (image_in (set_all words (slot_batch ws ++ count_batch c)) ≡ written_image (image_in words) ws stash)
image_batch buckets words ws c stash all coded spelt count =
    let image : Image = image_in words in
    let xs : List (Option Shown) = image.slots in
    let batch : List (ℕ × ℕ) = slot_batch ws ++ count_batch c in
    let long : length words ≡ bucket_words * buckets + 1 = spelt.wide in
    let same : words ≡ image.stash ∷ words_of_slots xs = spelt.coded in
    let many_slots : bucket_words * buckets ≡ slot_words * length xs = omega (arith, long, ap length same, long_slots xs) in
    let n : ℕ = (length words - 1) / slot_words in
    let as_many : n ≡ length xs = omega (arith, many_slots, long) in
    let back : slots_in n (words_of_slots xs) ≡ xs = ap (λ (l : List ℕ). slots_in n (drop 1 l)) (sym same) in
    let after : List (Option Shown) = write_all xs ws in
    let next : set_all words batch ≡ stash ∷ words_of_slots after =
    ap (λ l. set_all l batch) same
    ∙ (set_all-append (image.stash ∷ words_of_slots xs) (slot_batch ws) (count_batch c)
    ∙ (ap (λ l. set_all l (count_batch c)) (written_slots image.stash xs ws (λ k d inside. let h : (get_or ws k d).0 < bucket_slots * buckets = all k d inside in omega (arith, h, many_slots)))
    ∙ (written_count image.stash (words_of_slots after) c ∙ ap (λ n. n ∷ words_of_slots after) count))) in
    let read : slots_in n (words_of_slots after) ≡ after = coded_back after n (as_many ∙ sym (long_written xs ws)) (coded_after xs ws coded (back_coded xs n back)) in
    let is : image_in (set_all words batch) ≡ written_image image ws stash =
    λ i. record {
      buckets = ap (λ (n : ℕ). n / bucket_words) (length-set_all words batch) i;
      slots = ((λ j. slots_in ((length-set_all words batch j - 1) / slot_words) (drop 1 (next j))) ∙ read) i;
      stash = ap (λ (l : List ℕ). (image_in l).stash) next i;
    } in
    (record { wide = length-set_all words batch ∙ long; coded = next ∙ sym (ap words_of_image is) }, is)

pub any_default : {A : Type 0} (xs : List A) (i : ℕ) (d e : A) → i < length xs → get_or xs i d ≡ get_or xs i e
any_default [] i d e inside = absurd (omega arith)
any_default (x ∷ xs) zero d e inside = refl
any_default (x ∷ xs) (suc i) d e inside = any_default xs i d e (omega arith)

pub for_none : (ws : List Write) (s : Bool) → length ws ≡ 0 → common ∷ [] ≡ stripes_for ws s
for_none [] s e = refl
for_none (w ∷ ws) s e = absurd (omega (arith, e))

pub for_one : (ws : List Write) (s : Bool) (d : Write) → length ws ≡ 1 → versions_of ((get_or ws 0 d).0 / bucket_slots) ((get_or ws 0 d).0 / bucket_slots) s ≡ stripes_for ws s
for_one [] s d e = absurd (omega (arith, e))
for_one (w ∷ []) s d e = refl
for_one (w ∷ x ∷ ws) s d e = absurd (omega (arith, e))

pub for_two : (ws : List Write) (s : Bool) (d e : Write) → 1 < length ws → versions_of ((get_or ws 0 d).0 / bucket_slots) ((get_or ws 1 e).0 / bucket_slots) s ≡ stripes_for ws s
for_two [] s d e l = absurd (omega arith)
for_two (w ∷ []) s d e l = absurd (omega arith)
for_two (w ∷ x ∷ ws) s d e l = refl
