-- Images of the table, as lookups may see them: no row numbers, and of the stash only its count.
use Rattle.std.specs.Prelude.{◌≡◌, ℕ, ◌+◌, true, Bool, List, [], ◌∷◌, slice_index_or, Option, Some, None, is_some, count_by}
use Rattle.std.specs.FinMap.{get, len}
use Rattle.jc_model.specs.declared.config.Expiry.{Expiry}
use Rattle.jc_rows.specs.Rows.{RowMap}

-- a row's cache and key, and its expiry
abbrev pub Shown : Type 0
Shown = (ℕ × List ℕ) × Expiry

pub record Image : Type 0 where
  pub buckets : ℕ
  pub slots : List (Option Shown)
  pub stash : ℕ

abbrev pub image_slot : Image → ℕ → Option Shown
image_slot image i = slice_index_or image.slots i None

abbrev pub last_image : List Image → Image
last_image [] = record { buckets = 0; slots = []; stash = 0 }
last_image (image ∷ []) = image
last_image (image ∷ next ∷ images) = last_image (next ∷ images)

-- a watcher has met the table, and this image is the last that it has seen
abbrev pub SeesLast : Image → List Image → Bool → Type 0
SeesLast image seen met = (last_image seen ≡ image) × (met ≡ true)

-- an image shows rows: it places some of them, each with its expiry, its count is the number of the others, and where
-- there are none it places all
pub record Shows (rows : RowMap) (image : Image) : Type 0 where
  pub placed : (i : ℕ) (s : Shown) → image_slot image i ≡ Some s → (row : ℕ) × (get rows s.0 ≡ Some (row, s.1))
  pub others : count_by is_some image.slots + image.stash ≡ len rows
  pub whole : image.stash ≡ 0 → (place : ℕ × List ℕ) (row : ℕ × Expiry) → get rows place ≡ Some row → (i : ℕ) × (image_slot image i ≡ Some (place, row.1))
