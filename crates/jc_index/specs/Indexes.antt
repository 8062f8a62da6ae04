-- The writer's index and a reader's pass, as their contracts see them, and what is kept of their fields.
use Rattle.std.specs.Prelude.{◌≡◌, ℕ, ◌*◌, Bool, true, List, [], ◌∷◌, map, replicate, Some, None}
use Rattle.atomic_table.specs.Seated.{TableId}
use Rattle.jc_place.specs.Place.{IsTableSize}
use Rattle.jc_cuckoo.specs.Images.{blank_image}
use Rattle.jc_index.specs.Stripes.{Changes, IsVersionCommitted, desk_of, glance_of, last_of}
use Rattle.jc_index.specs.declared.lineage.Lineage.{Lineage}
use Rattle.jc_index.specs.declared.member.Member.{Member}
use Rattle.jc_rows.specs.Images.{Image, last_image}
use Rattle.jc_index.specs.Layout.{bucket_slots, table_words}
use Rattle.jc_index.specs.declared.placed.Placed.{Placed}
use Rattle.jc_index.specs.Spelling.{IsSpelt, image_in}
use Rattle.jc_index.specs.Batches.{Write}
use Rattle.jc_index.specs.Changes.{stripes_of_commit}

-- the committed images, the last one last; the versions of the newest table; and its name, which its passes carry
pub record Index (P : Type 0) : Type 0 where
  pub placer : P
  pub buckets : ℕ
  pub images : List Image
  pub versions : List ℕ
  pub name : TableId

-- the images that a pass has seen, whether its last meeting succeeded, and the versions that its last lookup read, each
-- with its stripe and the last one first
pub record Passing (P : Type 0) : Type 0 where
  pub placer : P
  pub buckets : ℕ
  pub images : List Image
  pub met : Bool
  pub lookups : ℕ
  pub begun : List (ℕ × ℕ)
  pub checked : List (ℕ × ℕ)

abbrev pub empty_image : ℕ → Image
empty_image buckets = record { buckets = buckets; slots = replicate (bucket_slots * buckets) None; stash = 0 }

module _ {P : Type 0} where
  abbrev pub index_of : P → ℕ → Lineage (Placed P) → Index P
  index_of placer buckets lineage = record {
    placer = placer;
    buckets = buckets;
    images = map image_in lineage.writer.seat.me.0.front;
    versions = (desk_of lineage.writer.seat.me.0).versions;
    name = lineage.keeper.seat.table_id;
  }

  abbrev pub passing_of : P → ℕ → Bool → Member (Placed P) → Passing P
  passing_of placer buckets met member = record {
    placer = placer;
    buckets = buckets;
    images = map image_in member.reader.seat.me.0.front;
    met = met;
    lookups = member.reader.seat.me.0.lookups;
    begun = (glance_of member.reader.seat.me.0).begun;
    checked = (glance_of member.reader.seat.me.0).checked;
  }

  -- an index has one image, without rows
  abbrev pub IsBlankIndex : P → ℕ → Index P → Type 0
  IsBlankIndex placer buckets index =
      (index.images ≡ blank_image buckets ∷ []) × (index.placer ≡ placer) × (index.buckets ≡ buckets)

  -- the versions that the commit of these slots and of the stash's count takes were opened and shut
  abbrev pub CommitsIndexVersions : List Write → ℕ → Index P → Index P → Type 0
  CommitsIndexVersions writes stash old new =
      Changes IsVersionCommitted (stripes_of_commit writes (last_image old.images).stash stash) old.versions new.versions

  -- a pass has met an index, and has seen all its images
  abbrev pub HasMetIndex : Index P → Passing P → Type 0
  HasMetIndex index pass =
      (pass.met ≡ true) × (pass.images ≡ index.images) × (pass.placer ≡ index.placer) × (pass.buckets ≡ index.buckets)

  -- its last meeting is what it was
  abbrev pub HasSameMeeting : Passing P → Passing P → Type 0
  HasSameMeeting old new = (new.met ≡ old.met) × (new.placer ≡ old.placer) × (new.buckets ≡ old.buckets)

  -- the newest table's words are the last image
  pub record IsIndex (placer : P) (buckets count : ℕ) (lineage : Lineage (Placed P)) : Type 0 where
    pub lawful : lineage.writer.seat.me.0.law ≡ Some record { placer = placer; buckets = buckets }
    pub size : IsTableSize buckets
    pub wide : table_words buckets ≡ lineage.writer.seat.table_id.words
    pub spelt : IsSpelt buckets (last_of lineage.writer.seat.me.0.front)
    pub counted : (image_in (last_of lineage.writer.seat.me.0.front)).stash ≡ count

  pub record IsPassing (placer : P) (buckets : ℕ) (member : Member (Placed P)) : Type 0 where
    pub lawful : member.reader.seat.me.0.law ≡ Some record { placer = placer; buckets = buckets }
    pub size : IsTableSize buckets
    pub wide : table_words buckets ≡ member.reader.seat.table_id.words
    pub rests : (glance_of member.reader.seat.me.0).settled ≡ true
