-- What a pass's lookup says of a key, and what it has read.
use Rattle.std.specs.Prelude.{◌≡◌, ◌≢◌, ◌⊎◌, ℕ, Bool, false, List, Option, None}
use Rattle.jc_place.specs.declared.place.Place.{Place}
use Rattle.jc_rows.specs.Images.{last_image}
use Rattle.jc_index.specs.Stripes.{SomeOdd, stripes_in}
use Rattle.jc_index.specs.Spelling.{buckets_of}
use Rattle.jc_index.specs.Found.{found_in_image}
use Rattle.jc_index.specs.Versions.{read_for}
use Rattle.jc_index.specs.Indexes.{Passing}

module _ {P : Type 0} where
  -- whether the last image that a pass has seen has a live row of this key, where it tells
  abbrev pub found_by : Passing P → ℕ → List ℕ → ℕ → Option Bool
  found_by pass id key now = found_in_image (last_image pass.images) id key now

  -- why a lookup is unsure: the last meeting failed, versions were odd or did not stay, or the image does not tell
  abbrev pub MayBeUnsure : Passing P → Passing P → ℕ → List ℕ → ℕ → Type 0
  MayBeUnsure old new id key now =
      (old.met ≡ false) ⊎ ((SomeOdd new.begun ⊎ (new.begun ≢ new.checked)) ⊎ (found_by new id key now ≡ None))

  -- a lookup has read the versions of the stripes of the key's buckets, and has checked the same ones
  abbrev pub ReadsStripes : (P → ℕ → List ℕ → Place) → Passing P → Passing P → ℕ → List ℕ → Type 0
  ReadsStripes placing old new id key =
      (stripes_in new.begun ≡ read_for (buckets_of (placing old.placer) old.buckets (id, key)))
      × (stripes_in new.checked ≡ stripes_in new.begun)
