-- What is kept of the writer's index.
use Rattle.std.proofs.Common.{◌≡◌, ℕ, suc, ◌+◌, ◌*◌, ◌/◌, ◌^◌, ◌<◌, ◌≤◌, List, Option, map, option_map, length, inl, inr, ap, subst, ◌∙◌, arith}
use Rattle.std.specs.List.{All}
use Rattle.std.proofs.lemmas.Bool.{cases_lt}
use Rattle.jc_place.specs.Place.{IsTableSize}
use Rattle.jc_place.specs.declared.place.Place.{Place}
use Rattle.jc_index.specs.declared.lineage.Lineage.{Lineage}
use Rattle.jc_index.specs.Stripes.{Front, last_of}
use Rattle.jc_rows.specs.Images.{Image, last_image}
use Rattle.jc_cuckoo.specs.Images.{IsGrowth, grown_image, shown_row}
use Rattle.jc_cuckoo.specs.declared.held.Held.{Held}
use Rattle.jc_index.specs.Layout.{bucket_slots, bucket_words}
use Rattle.jc_index.specs.declared.placed.Placed.{Placed}
use Rattle.jc_index.specs.Spelling.{IsCoded, IsLawful, words_of_image, image_in}
use Rattle.jc_index.specs.Batches.{Write}
use Rattle.jc_index.specs.Indexes.{IsIndex}
use Rattle.jc_index.proofs.Seeing.{last_images}
use Rattle.jc_index.proofs.Blank.{all_coded, filled_lawful}

-- twice as many buckets
pub size_twice : (n : ℕ) → IsTableSize n → 2 * n ≤ 65536 → IsTableSize (2 * n)
size_twice n size few = record {
  exponent = suc size.exponent;
  power = ap (λ (m : ℕ). 2 * m) size.power ∙ twice size.exponent;
  least = omega (arith, size.least);
  most = elim (cases_lt size.exponent 16) [
    | inl below ↦ omega arith
    | inr all ↦ (let same : size.exponent ≡ 16 = (let most = size.most in omega arith) in
        let is : n ≡ 65536 = size.power ∙ ap (λ (e : ℕ). 2 ^ e) same in absurd (omega arith))
  ];
}
  where
    twice : (e : ℕ) → 2 * 2 ^ e ≡ 2 ^ suc e
    twice e = omega arith

module _ {P : Type 0} (placer : P) (buckets count : ℕ) (lineage : Lineage (Placed P)) (is : IsIndex placer buckets count lineage) where
  abbrev front : Front
  front = lineage.writer.seat.me.0.front

  pub last_buckets : (last_image (map image_in front)).buckets ≡ buckets
  last_buckets = ap (λ (i : Image). i.buckets) (last_images front) ∙ (let wide : length (last_of front) ≡ bucket_words * buckets + 1 = is.spelt.wide in omega arith)

  pub last_stash : (last_image (map image_in front)).stash ≡ count
  last_stash = ap (λ (i : Image). i.stash) (last_images front) ∙ is.counted

  pub slots_inside : (writes : List Write) → All (λ w. w.0 < bucket_slots * (last_image (map image_in front)).buckets) writes → All (λ w. w.0 < bucket_slots * buckets) writes
  slots_inside writes asked = subst (λ (n : ℕ). All (λ w. w.0 < bucket_slots * n) writes) last_buckets asked

  module _ (placing : ℕ → List ℕ → Place) (slots : List (Option Held)) (stash : ℕ) (asked : IsGrowth placing (last_image (map image_in front)) slots stash) where
    pub grown_size : IsTableSize (2 * buckets)
    grown_size = size_twice buckets is.size (subst (λ (n : ℕ). 2 * n ≤ 65536) last_buckets asked.few)

    pub grown_lawful : All (λ x. IsCoded (option_map shown_row x)) slots → IsLawful placing (2 * buckets) (words_of_image (grown_image slots stash))
    grown_lawful coded =
        let n : length slots / bucket_slots ≡ 2 * buckets = (let twice : length slots ≡ 8 * buckets = asked.twice ∙ ap (λ (n : ℕ). 8 * n) last_buckets in omega arith) in
        subst (λ (n : ℕ). IsLawful placing n (words_of_image (grown_image slots stash))) n (filled_lawful placing (grown_image slots stash) (all_coded slots coded) asked.image)
