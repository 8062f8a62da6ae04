-- What a change of an index writes, and the versions that it takes.
use Rattle.std.specs.Prelude.{◌≡◌, ℕ, ◌+◌, ◌*◌, ◌<◌, List, ◌++◌, All, length, take}
use Rattle.jc_cuckoo.specs.Images.{written_image}
use Rattle.jc_index.specs.StripeLayout.{version_count}
use Rattle.jc_index.specs.Stripes.{set_all}
use Rattle.jc_index.specs.declared.batch.Batch.{Batch}
use Rattle.jc_index.specs.declared.change.Change.{Change}
use Rattle.jc_index.specs.Layout.{bucket_slots, table_words}
use Rattle.jc_index.specs.Spelling.{IsSpelt, image_in}
use Rattle.jc_index.specs.Batches.{Write, count_for, is_some, stripes_for}

-- the writes of a batch
abbrev pub writes_in : Batch → List (ℕ × ℕ)
writes_in batch = take batch.length batch.writes

-- it has these too, which are so many
abbrev pub AddsWrites : List (ℕ × ℕ) → ℕ → Batch → Batch → Type 0
AddsWrites writes count old new = (writes_in new ≡ writes_in old ++ writes) × (new.length ≡ old.length + count)

-- the stripes whose versions a change takes
abbrev pub stripes_taken : Change → List ℕ
stripes_taken change = take change.taken change.stripes

-- those whose versions the commit of these slots takes, by which the stash's count changes from the first to the second
abbrev pub stripes_of_commit : List Write → ℕ → ℕ → List ℕ
stripes_of_commit writes old stash = stripes_for writes (is_some (count_for (length writes) old stash))

-- the slots are among those of so many buckets
abbrev pub AreSlotsOf : ℕ → List Write → Type 0
AreSlotsOf buckets writes = All (λ w. w.0 < bucket_slots * buckets) writes

-- the places are in a table of so many buckets
abbrev pub ArePlacesOf : ℕ → List (ℕ × ℕ) → Type 0
ArePlacesOf buckets writes = All (λ w. version_count + w.0 < table_words buckets) writes

-- with this batch the words spell the image that these slots make of the one they spell without it
abbrev pub SpellsWritten : ℕ → List Write → ℕ → List ℕ → List (ℕ × ℕ) → Type 0
SpellsWritten buckets writes stash words batch =
    IsSpelt buckets (set_all words batch) × (image_in (set_all words batch) ≡ written_image (image_in words) writes stash)
