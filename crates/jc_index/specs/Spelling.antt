-- The words that spell an image.
use Rattle.std.specs.Prelude.{◌≡◌, ℕ, zero, suc, ◌+◌, ◌-◌, ◌*◌, ◌/◌, ◌%◌, ◌^◌, List, [], ◌∷◌, ◌++◌, length, take, drop, replicate, slice_index, if◌then◌else◌, nat_lt, All, Option, Some, None, option_map}
use Rattle.std.specs.Int.{to_le_bytes, w64}
use Rattle.jc_model.specs.Key.{words_of}
use Rattle.jc_model.specs.declared.config.Expiry.{Expiry}
use Rattle.jc_model.specs.declared.config.Expiry.TheVariants.{Never, At}
use Rattle.jc_place.specs.declared.place.Place.{Place}
use Rattle.jc_cuckoo.specs.Cells.{first_bucket, second_bucket}
use Rattle.jc_rows.specs.Images.{Image, Shown}
use Rattle.jc_cuckoo.specs.declared.held.Held.{Held}
use Rattle.jc_cuckoo.specs.Images.{IsImage, shown_row}
use Rattle.jc_model.specs.Limits.{key_words}
use Rattle.jc_index.specs.StripeLayout.{common}
use Rattle.jc_index.specs.Layout.{bucket_words, moment_place, slot_place, slot_words, stripe_of}

-- The place of the stash's count is 0, and the slots follow. A bucket is under the version of its stripe, and the count
-- under the common one.
unfoldable pub group_of : ℕ → ℕ
group_of zero = common
group_of (suc n) = stripe_of (n / bucket_words)

abbrev pub never_bit : Expiry → ℕ
never_bit Never = 2 ^ 33
never_bit (At m) = 0

abbrev pub moment_of : Expiry → ℕ
moment_of Never = 0
moment_of (At m) = m

-- a slot's words: zeros where it is empty, else the cache and whether the row never expires, the key, and the moment
abbrev pub words_of_slot : Option Shown → List ℕ
words_of_slot None = replicate slot_words 0
words_of_slot (Some s) = (never_bit s.1 + (s.0.0 + 1)) ∷ words_of s.0.1 ++ moment_of s.1 ∷ []

abbrev pub words_of_slots : List (Option Shown) → List ℕ
words_of_slots [] = []
words_of_slots (x ∷ xs) = words_of_slot x ++ words_of_slots xs

abbrev pub words_of_image : Image → List ℕ
words_of_image image = image.stash ∷ words_of_slots image.slots

-- and back
abbrev pub bytes_in : List ℕ → List ℕ
bytes_in [] = []
bytes_in (w ∷ ws) = to_le_bytes w64 w ++ bytes_in ws

abbrev pub key_of_words : List ℕ → List ℕ
key_of_words ws = take (slice_index (bytes_in ws) 0) (drop 1 (bytes_in ws))

abbrev pub expiry_of_words : ℕ → ℕ → Expiry
expiry_of_words first moment = if nat_lt first (2 ^ 33) then At moment else Never

abbrev pub slot_of : ℕ → List ℕ → ℕ → Option Shown
slot_of zero ws moment = None
slot_of (suc n) ws moment = Some ((suc n % 2 ^ 33 - 1, key_of_words ws), expiry_of_words (suc n) moment)

-- a key's words, among those of its slot
abbrev pub key_in : List ℕ → List ℕ
key_in ws = take key_words (drop 1 ws)

abbrev pub slot_in : List ℕ → Option Shown
slot_in ws = slot_of (slice_index ws 0) (key_in ws) (slice_index ws moment_place)

-- so many slots
abbrev pub slots_in : ℕ → List ℕ → List (Option Shown)
slots_in zero words = []
slots_in (suc n) words = slot_in (take slot_words words) ∷ slots_in n (drop slot_words words)

abbrev pub image_in : List ℕ → Image
image_in words = record { buckets = length words / bucket_words; slots = slots_in ((length words - 1) / slot_words) (drop 1 words); stash = slice_index words 0 }

-- so many words, from a place on
abbrev pub words_at : List ℕ → ℕ → ℕ → List ℕ
words_at words p zero = []
words_at words p (suc n) = slice_index words p ∷ words_at words (suc p) n

-- the slot with this number, of these words
abbrev pub slot_words_at : List ℕ → ℕ → List ℕ
slot_words_at words slot = words_at words (slot_place slot) slot_words

-- and the key's words among them
abbrev pub key_words_at : List ℕ → ℕ → List ℕ
key_words_at words slot = words_at words (suc (slot_place slot)) key_words

abbrev pub slot_spelt_at : List ℕ → ℕ → Option Shown
slot_spelt_at words slot = slot_in (slot_words_at words slot)

-- the words of a slot spell it, and nothing else
abbrev pub IsCoded : Option Shown → Type 0
IsCoded x = slot_in (words_of_slot x) ≡ x

-- the words of each of these slots spell it
abbrev pub AreCoded : List (Option Held) → Type 0
AreCoded slots = All (λ s. IsCoded (option_map shown_row s)) slots

-- so many buckets, spelt in the one way
pub record IsSpelt (buckets : ℕ) (words : List ℕ) : Type 0 where
  pub wide : length words ≡ bucket_words * buckets + 1
  pub coded : words ≡ words_of_image (image_in words)

-- what holds of each content that is committed
pub record IsLawful (placing : ℕ → List ℕ → Place) (buckets : ℕ) (words : List ℕ) : Type 0 where
  pub spelt : IsSpelt buckets words
  pub image : IsImage placing (image_in words)

-- the two buckets of a key of a cache
abbrev pub buckets_of : (ℕ → List ℕ → Place) → ℕ → ℕ × List ℕ → ℕ × ℕ
buckets_of placing buckets key = (first_bucket placing buckets key, second_bucket placing buckets key)
