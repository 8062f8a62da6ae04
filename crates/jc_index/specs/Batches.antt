-- The words that a commit sets, and the versions that it takes.
use Rattle.std.specs.Prelude.{ℕ, ◌+◌, ◌/◌, ◌==◌, ◌||◌, not, if◌then◌else◌, Bool, true, false, List, [], ◌∷◌, ◌++◌, Option, Some, None, option_map}
use Rattle.jc_cuckoo.specs.declared.held.Held.{Held}
use Rattle.jc_rows.specs.Images.{Shown}
use Rattle.jc_cuckoo.specs.Images.{shown_row}
use Rattle.jc_index.specs.StripeLayout.{common}
use Rattle.jc_index.specs.Layout.{bucket_slots, slot_place}
use Rattle.jc_index.specs.Spelling.{words_of_slot}
use Rattle.jc_index.specs.Versions.{versions_of}

-- a slot's number, and what it is to hold
abbrev pub Write : Type 0
Write = ℕ × Option Held

abbrev pub shown_by_write : Write → Option Shown
shown_by_write w = option_map shown_row w.1

-- these words at places that follow one another
abbrev pub placed_at : ℕ → List ℕ → List (ℕ × ℕ)
placed_at p [] = []
placed_at p (v ∷ vs) = (p, v) ∷ placed_at (p + 1) vs

-- the words of these slots
abbrev pub slot_batch : List Write → List (ℕ × ℕ)
slot_batch [] = []
slot_batch (w ∷ ws) = placed_at (slot_place w.0) (words_of_slot (shown_by_write w)) ++ slot_batch ws

-- the count, where it changes
abbrev pub count_batch : Option ℕ → List (ℕ × ℕ)
count_batch None = []
count_batch (Some n) = (0, n) ∷ []

abbrev pub is_some : Option ℕ → Bool
is_some None = false
is_some (Some n) = true

-- the count is set where it changes or no slot is written
abbrev pub count_for : ℕ → ℕ → ℕ → Option ℕ
count_for slots old stash = if slots == 0 || not (old == stash) then Some stash else None

-- the versions of the buckets that are written, and that of the stash where its count changes or no slot is written
abbrev pub stripes_for : List Write → Bool → List ℕ
stripes_for [] stash = common ∷ []
stripes_for (w ∷ []) stash = versions_of (w.0 / bucket_slots) (w.0 / bucket_slots) stash
stripes_for (w ∷ x ∷ ws) stash = versions_of (w.0 / bucket_slots) (x.0 / bucket_slots) stash
