-- The image of a doubled table is the next one.
use Rattle.std.proofs.Common.{◌≡◌, ℕ, ◌*◌, ◌≤◌, List, [], ◌∷◌, ◌++◌, length, Option, Some, None, sym, ap, ◌∙◌, subst, arith}
use Rattle.std.specs.FinMap as map
use Rattle.std.specs.Option.{IfSome, option_map}
use Rattle.jc_place.specs.declared.place.Place.{Place}
use Rattle.jc_cuckoo.specs.declared.held.Held.{Held}
use Rattle.jc_cuckoo.specs.Cells.{AreSoundCells, rows_in}
use Rattle.jc_rows.specs.Images.{Image, last_image}
use Rattle.jc_cuckoo.specs.Images.{IsImage, IsGrowth, grown_image, image_of}
use Rattle.jc_cuckoo.specs.Table.{IsTable, IsMirrored, longest}
use Rattle.jc_cuckoo.proofs.Told.{is_image, mirrored_next}

pub growth : (p q told : ℕ → List ℕ → Place) (images : Option (List Image)) (n m s : ℕ) (tags : List ℕ) (cs ds slots : List (Option Held)) → IfSome images (λ is. IsMirrored p told is (image_of n cs)) → q ≡ p → m ≡ 2 * n → 2 * n ≤ 65536 → AreSoundCells q m tags ds → grown_image slots s ≡ image_of m ds → length slots ≡ 4 * m → IfSome images (λ is. IsGrowth told (last_image is) slots s)
growth p q told None n m s tags cs ds slots mirrored same twice few sound is long = tt
growth p q told (Some images) n m s tags cs ds slots mirrored same twice few sound is long =
    let last : (last_image images).buckets ≡ n = ap (λ (x : Image). x.buckets) mirrored.last in
    record {
      image = subst (IsImage told) (sym is) (subst (λ (f : ℕ → List ℕ → Place). IsImage f (image_of m ds)) (same ∙ sym mirrored.placer) (is_image q m tags ds sound));
      twice = omega arith;
      few = omega arith;
    }

pub grown_next : (images next : Option (List Image)) (x y : Image) → x ≡ y → next ≡ option_map (λ is. is ++ x ∷ []) images → next ≡ option_map (λ is. is ++ y ∷ []) images
grown_next images next x y same told = told ∙ ap (λ (z : Image). option_map (λ is. is ++ z ∷ []) images) same

pub table_grown : (p q told told' : ℕ → List ℕ → Place) (images next : Option (List Image)) (n m held : ℕ) (tags tags' : List ℕ) (cs ds : List (Option Held)) → IsTable p told images n tags cs held → q ≡ p → AreSoundCells q m tags' ds → length ds ≤ longest → rows_in ds ≡ rows_in cs → told' ≡ told → next ≡ option_map (λ is. is ++ image_of m ds ∷ []) images → IsTable p told' next m tags' ds held
table_grown p q told told' images next n m held tags tags' cs ds table same sound short rows placing is = record {
  sound = subst (λ (f : ℕ → List ℕ → Place). AreSoundCells f m tags' ds) same sound;
  short = short;
  counted = table.counted ∙ sym (ap map.len rows);
  mirrored = mirrored_next p told told' images next (image_of n cs) (image_of m ds) table.mirrored placing is;
}
