-- What a reader's steps tell.
use Rattle.std.specs.Prelude.{◌≡◌, ◌≢◌, ◌⊎◌, ℕ, suc, ◌+◌, ◌*◌, ◌%◌, ◌^◌, ◌<◌, Bool, true, false, List, [], ◌∷◌, map, slice_index, Option, None, Some}
use mathlib.Core.List.{IsPrefix}
use Rattle.atomic_table.specs.declared.shared.Seat.{Seat}
use Rattle.jc_index.specs.declared.board.View.{View}
use Rattle.jc_index.specs.Stripes.{ReadsIn, SomeOdd, AreReadAtRest, glance, glance_of, stripes_in}
use Rattle.jc_index.specs.Seats.{StripesSeat}
use Rattle.jc_index.specs.declared.reader.Reader.{Reader}
use Rattle.jc_place.specs.declared.place.Place.{Place}
use Rattle.jc_rows.specs.Images.{Image, Shown, last_image}
use Rattle.jc_index.specs.declared.placed.Placed.{Placed}
use Rattle.jc_index.specs.declared.sought.Sought.{Sought}
use Rattle.jc_index.specs.Layout.{bucket_slots, slot_place, table_words}
use Rattle.jc_index.specs.Found.{answer_with_stash, first_seen, found_in_image, first_answer, seen_in_slot}
use Rattle.jc_index.specs.Versions.{read_for}
use Rattle.jc_index.specs.Spelling.{buckets_of, image_in, group_of, key_of_words, key_words_at, slot_spelt_at, words_of_slot, slot_words_at}

-- Only the notes changed. Words that fit the notes under these versions now fitted them before, and meet this
pub record IsNoted {L : Type 0} (js : List ℕ) (s t : Seat (Unit {0}) (View L)) (P : List ℕ → Type 0) : Type 0 where
  pub table : t.table_id ≡ s.table_id
  pub view : t.me.0 ≡ record s.me.0 { role = glance (glance_of s.me.0).begun (glance_of s.me.0).checked (glance_of t.me.0).notes false }
  pub tells : (words : List ℕ) → ReadsIn group_of js words (glance_of t.me.0).notes → ReadsIn group_of js words (glance_of s.me.0).notes × P words

-- the words of this slot spell it
abbrev pub IsSpeltAt : List ℕ → ℕ → Type 0
IsSpeltAt words slot = words_of_slot (slot_spelt_at words slot) ≡ slot_words_at words slot

-- the first word of a slot that holds this cache's key of these words
abbrev pub IsHeadAt : ℕ → List ℕ → List ℕ → ℕ → Option ℕ → Type 0
IsHeadAt id key words slot None = (slice_index words (slot_place slot) % 2 ^ 33 ≢ id + 1) ⊎ (key_words_at words slot ≢ key)
IsHeadAt id key words slot (Some head) = (head ≡ slice_index words (slot_place slot)) × (head % 2 ^ 33 ≡ id + 1) × (key_words_at words slot ≡ key)

abbrev pub IsSpeltIn : List ℕ → ℕ → Type 0
IsSpeltIn words bucket = IsSpeltAt words (bucket_slots * bucket) × IsSpeltAt words (bucket_slots * bucket + 1) × IsSpeltAt words (bucket_slots * bucket + 2) × IsSpeltAt words (bucket_slots * bucket + 3)

-- the slots of a bucket
abbrev pub slots_in_bucket : List ℕ → ℕ → List (Option Shown)
slots_in_bucket words bucket = slot_spelt_at words (bucket_slots * bucket) ∷ slot_spelt_at words (bucket_slots * bucket + 1) ∷ slot_spelt_at words (bucket_slots * bucket + 2) ∷ slot_spelt_at words (bucket_slots * bucket + 3) ∷ []

-- the cache and the key that are sought
abbrev pub place_sought : Sought → ℕ × List ℕ
place_sought sought = (sought.id, key_of_words sought.words)

module _ {P : Type 0} where
  -- the law of a seat places them in these two buckets of its table
  abbrev pub HasBuckets : (P → ℕ → List ℕ → Place) → StripesSeat (Placed P) → Sought → ℕ → ℕ → Type 0
  HasBuckets placing seat sought one two =
      (l : Placed P) × (seat.me.0.law ≡ Some l) × (table_words l.buckets ≡ seat.table_id.words)
      × (buckets_of (placing l.placer) l.buckets (place_sought sought) ≡ (one, two))
      × (one < l.buckets) × (two < l.buckets)

-- what these slots tell of the key
abbrev pub seen_among : Sought → List (Option Shown) → Option Bool
seen_among sought slots = first_seen sought.id (key_of_words sought.words) sought.moment slots

-- what the slots of two buckets do
abbrev pub seen_in_buckets : Sought → List ℕ → ℕ → ℕ → Option Bool
seen_in_buckets sought words one two =
    first_answer (seen_among sought (slots_in_bucket words one)) (seen_among sought (slots_in_bucket words two))

-- What a look at words finds, where these spell an image.

-- the first word of a slot that holds the key
abbrev pub FindsHead : Sought → ℕ → Option ℕ → List ℕ → Type 0
FindsHead sought slot head words = IsSpeltAt words slot → IsHeadAt sought.id sought.words words slot head

-- what a slot tells of it
abbrev pub FindsInSlot : Sought → ℕ → Option Bool → List ℕ → Type 0
FindsInSlot sought slot live words =
    IsSpeltAt words slot → live ≡ seen_in_slot sought.id (key_of_words sought.words) sought.moment (slot_spelt_at words slot)

-- what a bucket does
abbrev pub FindsInBucket : Sought → ℕ → Option Bool → List ℕ → Type 0
FindsInBucket sought bucket live words = IsSpeltIn words bucket → live ≡ seen_among sought (slots_in_bucket words bucket)

-- what two buckets and the stash's count do
abbrev pub FindsInBuckets : Sought → ℕ → ℕ → Option Bool → List ℕ → Type 0
FindsInBuckets sought one two live words =
    IsSpeltIn words one → IsSpeltIn words two
    → live ≡ answer_with_stash (seen_in_buckets sought words one two) (slice_index words 0)

-- What a reader has seen and read.

-- the images, the last one last
abbrev pub images_of : {L : Type 0} → Reader L → List Image
images_of r = map image_in r.seat.me.0.front

abbrev pub begun_of : {L : Type 0} → Reader L → List (ℕ × ℕ)
begun_of r = (glance_of r.seat.me.0).begun

abbrev pub checked_of : {L : Type 0} → Reader L → List (ℕ × ℕ)
checked_of r = (glance_of r.seat.me.0).checked

abbrev pub lookups_of : {L : Type 0} → Reader L → ℕ
lookups_of r = r.seat.me.0.lookups

-- what the last image says of the key
abbrev pub found_by_reader : {L : Type 0} → Reader L → Sought → Option Bool
found_by_reader r sought = found_in_image (last_image (images_of r)) sought.id (key_of_words sought.words) sought.moment

-- a lookup of a key of these two buckets: which versions it read twice, and what else became of the reader
pub record IsReaderLookup {L : Type 0} (place : ℕ × ℕ) (before after : Reader L) : Type 0 where
  pub stripes : stripes_in (begun_of after) ≡ read_for place
  pub again : stripes_in (checked_of after) ≡ stripes_in (begun_of after)
  pub front : IsPrefix (images_of before) (images_of after)
  pub counted : lookups_of after ≡ suc (lookups_of before)
  pub table : after.seat.table_id ≡ before.seat.table_id
  pub law : after.seat.me.0.law ≡ before.seat.me.0.law
  pub settled : (glance_of after.seat.me.0).settled ≡ true

-- where a lookup is sure, each version was even and stayed
abbrev pub HasStayed : {L : Type 0} → Reader L → Type 0
HasStayed r = AreReadAtRest (begun_of r) (checked_of r)

-- why it may be unsure: one was odd, or did not stay
abbrev pub HasMoved : {L : Type 0} → Reader L → Type 0
HasMoved r = SomeOdd (begun_of r) ⊎ (begun_of r ≢ checked_of r)
