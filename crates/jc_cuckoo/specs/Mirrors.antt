-- What a mirror is given as its next image, over the images that it tells, or none.
use Rattle.std.specs.Prelude.{◌≡◌, ℕ, ◌*◌, ◌<◌, true, Bool, List, [], ◌∷◌, ◌++◌, All, Option, Some, IfSome, option_map}
use Rattle.jc_place.specs.declared.place.Place.{Place}
use Rattle.jc_rows.specs.Images.{Image, last_image}
use Rattle.jc_cuckoo.specs.declared.held.Held.{Held}
use Rattle.jc_cuckoo.specs.Images.{IsImage, IsGrowth, written_image, grown_image}

-- these writes are to slots of the last image
abbrev pub WritesFitLast : List (ℕ × Option Held) → Option (List Image) → Type 0
WritesFitLast writes images = IfSome images (λ is. All (λ w. w.0 < 4 * (last_image is).buckets) writes)

-- what they make of it is an image
abbrev pub WritesMakeImage : (ℕ → List ℕ → Place) → List (ℕ × Option Held) → ℕ → Option (List Image) → Type 0
WritesMakeImage placing writes stash images =
    IfSome images (λ is. IsImage placing (written_image (last_image is) writes stash))

-- what they make of it is the next one
abbrev pub AddsWrittenImage : List (ℕ × Option Held) → ℕ → Option (List Image) → Option (List Image) → Type 0
AddsWrittenImage writes stash old new = new ≡ option_map (λ is. is ++ written_image (last_image is) writes stash ∷ []) old

-- these slots are an image of twice as many buckets as the last one's
abbrev pub SlotsMakeGrowth : (ℕ → List ℕ → Place) → List (Option Held) → ℕ → Option (List Image) → Type 0
SlotsMakeGrowth placing slots stash images = IfSome images (λ is. IsGrowth placing (last_image is) slots stash)

-- their image is the next one
abbrev pub AddsGrownImage : List (Option Held) → ℕ → Option (List Image) → Option (List Image) → Type 0
AddsGrownImage slots stash old new = new ≡ option_map (λ is. is ++ grown_image slots stash ∷ []) old

-- a watcher has met the mirror, and has seen all its images
abbrev pub SeesAll : Option (List Image) → List Image → Bool → Type 0
SeesAll images seen met = (images ≡ Some seen) × (met ≡ true)
