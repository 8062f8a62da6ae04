-- What an image of the table shows of the caches.
use Rattle.std.specs.Prelude.{◌≡◌, true, false, Bool, ℕ, ◌+◌, List, length, map, sum_by, option_map, is_some, count_by, Option, Some}
use Rattle.jc_model.specs.declared.config.Expiry.{Expiry}
use Rattle.jc_model.specs.State.{State}
use Rattle.jc_model.specs.Runs.{Lives}
use Rattle.jc_model.specs.Solo.{state_in}
use Rattle.jc_rows.specs.Images.{Image, Shown, image_slot, last_image}
use Rattle.jc_model.specs.Places.{at_place, all_there}
pub use Rattle.jc_engine.specs.Caches.{expiry_at}
use Rattle.jc_engine.specs.Caches.{Cache, lives_of}

-- the rows and counters of live caches, by their ids
abbrev pub states_of : Lives → List (Option State)
states_of lives = map (option_map (λ k. state_in k.standing)) lives

-- each row that an image places is one of its cache, with that expiry, its count is the number of the others, and where
-- there are none it places all
pub record ShowsStates (states : List (Option State)) (image : Image) : Type 0 where
  pub placed : (i : ℕ) (s : Shown) → image_slot image i ≡ Some s → expiry_at s.0.1 (at_place states s.0.0) ≡ Some s.1
  pub others : count_by is_some image.slots + image.stash ≡ sum_by (λ s. length s.ring) (all_there states)
  pub whole : image.stash ≡ 0 → (id : ℕ) (key : List ℕ) (e : Expiry) → expiry_at key (at_place states id) ≡ Some e → (i : ℕ) × (image_slot image i ≡ Some ((id, key), e))

-- a watcher has met the last image that it has seen, and it shows the caches
abbrev pub SeesCaches : {W : Type 0} → (W → List Image) → (W → Bool) → W → List (Option Cache) → Type 0
SeesCaches seen met watcher caches = ShowsStates (states_of (lives_of caches)) (last_image (seen watcher)) × (met watcher ≡ true)

-- it has not met the table, and has seen what it had seen
abbrev pub SeesNoMore : {W : Type 0} → (W → List Image) → (W → Bool) → W → W → Type 0
SeesNoMore seen met old new = (seen new ≡ seen old) × (met new ≡ false)
