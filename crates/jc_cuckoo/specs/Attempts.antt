-- A put: one search, or two and a doubling between them.
use Rattle.std.specs.Prelude.{◌≡◌, ℕ, ◌*◌, ◌≤◌, List, Option}
use Rattle.jc_place.specs.declared.place.Place.{Place}
use Rattle.jc_cuckoo.specs.declared.held.Work.{Work}
use Rattle.jc_rows.specs.Images.{Image}
use Rattle.jc_cuckoo.specs.Search.{IsLastResort}
use Rattle.jc_cuckoo.specs.Table.{Table, TellsImage, Searches, TellsImages, no_work}
use Rattle.jc_cuckoo.specs.Double.{Doubles, IsDoubled}

-- what a put does at most: two searches, each over 256 slots, and five moves; a search looks at one slot at least
abbrev pub IsWorkOfPut : Work → Type 0
IsWorkOfPut work =
    (work.searches ≤ 2) × (work.searches ≤ work.looked) × (work.looked ≤ 256 * work.searches) × (work.moves ≤ 5)

-- one search over a table; then as many images as rows were moved, and the last one
pub record Tries {P M : Type 0} (placing : P → ℕ → List ℕ → Place) (told : M → Option (List Image)) (place : ℕ × List ℕ) (from : Work) (before after : Table P M) : Type 0 where
  pub search : Searches placing before place from after.work
  pub buckets : after.buckets ≡ before.buckets
  pub images : TellsImages told before after after.work.moves

-- no path led to an empty slot, the buckets doubled, which is one image, and the doubled table was searched
pub record TriesTwice {P M : Type 0} (placing : P → ℕ → List ℕ → Place) (told : M → Option (List Image)) (place : ℕ × List ℕ) (before after : Table P M) : Type 0 where
  pub middle : Table P M
  pub first : Searches placing before place no_work middle.work
  pub none : IsLastResort (placing before.placer) before.buckets before.cells place
  pub allowed : Doubles before middle
  pub doubled : IsDoubled placing before middle
  pub image : TellsImage told before middle
  pub second : Tries placing told place middle.work middle after
