-- An image that shows the table shows the caches.
use Rattle.std.proofs.Common.{◌≡◌, ℕ, Bool, true, List, length, Option, Some, None, refl, sym, ap, ◌∙◌, option_map}
use Rattle.std.specs.FinMap as table
use Rattle.jc_engine.proofs.Names.{CacheConfig, Expiry, State, Progress, Awaited, at_place, Status, state_in, HasDistinctKeys, Wait, standing_by, Cache, status_of, lives_of, expiry_in, ShowsStates, expiry_at, states_of}
use Rattle.jc_engine.proofs.Names.{IsCacheSound, at_place_map, Member, Slot, caches_in}
use Rattle.jc_rows.specs.Images.{Image, Shows, image_slot, last_image}
use Rattle.jc_ops.specs.Visited.{SeesTable, Visited}
use Rattle.jc_engine.specs.Sound.{IsManager}
use Rattle.jc_engine.proofs.Places.{Within, seen_is, within}
use Rattle.jc_engine.proofs.Tables.{expiry_shown, sound_there}
use Rattle.jc_engine.proofs.Counted.{count}

-- an open call waits in its cache's state
pub state_is : (c : CacheConfig) (p : Progress) (turn : Option (Awaited × Wait)) → state_in (standing_by c p turn) ≡ p.state
state_is c p None = refl
state_is c p (Some w) = refl

pub state_at : (caches : List (Option Cache)) (id : ℕ) → at_place (states_of (lives_of caches)) id ≡ option_map (λ (k : Cache). k.progress.state) (at_place caches id)
state_at caches id =
    at_place_map (λ (k : Status). state_in k.standing) (lives_of caches) id
    ∙ (ap (option_map (λ (k : Status). state_in k.standing)) (at_place_map status_of caches id) ∙ by (at_place caches id))
  where
    by : (o : Option Cache) → option_map (λ (k : Status). state_in k.standing) (option_map status_of o) ≡ option_map (λ (k : Cache). k.progress.state) o
    by None = refl
    by (Some k) = ap (λ (s : State). Some s) (state_is k.config k.progress k.turn)

module _ (w : Within) where
  -- the table's rows are those of the caches
  pub expiry_seen : (id : ℕ) (key : List ℕ) → option_map (λ row. row.1) (table.get w.visit.table (id, key)) ≡ expiry_in key (at_place w.seen id)
  expiry_seen id key = expiry_shown w.visit.table id (w.caches id) key (w.is.each id) ∙ ap (expiry_in key) (sym (seen_is w id refl))

  pub sound_seen : (id : ℕ) (k : Cache) → at_place w.seen id ≡ Some k → IsCacheSound k.config k.progress.state
  sound_seen id k at = sound_there w.visit.table id (w.caches id) k (w.is.each id) (sym (seen_is w id refl) ∙ at)

  expiry : (id : ℕ) (key : List ℕ) → option_map (λ row. row.1) (table.get w.visit.table (id, key)) ≡ expiry_at key (at_place (states_of (lives_of w.seen)) id)
  expiry id key = expiry_seen id key ∙ ap (expiry_at key) (sym (state_at w.seen id))

  distinct : (id : ℕ) (s : State) → at_place (states_of (lives_of w.seen)) id ≡ Some s → HasDistinctKeys s.ring
  distinct id s at = by (at_place w.seen id) refl (sym (state_at w.seen id) ∙ at)
    where
      by : (found : Option Cache) → at_place w.seen id ≡ found → option_map (λ (k : Cache). k.progress.state) found ≡ Some s → HasDistinctKeys s.ring
      by None is e = absurd cc
      by (Some k) is e = let same : k.progress.state ≡ s = cc in rw same at (sound_seen id k is).0

  placed_there : (image : Image) → Shows w.visit.table image → image.stash ≡ 0 → (id : ℕ) (key : List ℕ) (e : Expiry) → expiry_at key (at_place (states_of (lives_of w.seen)) id) ≡ Some e → (i : ℕ) × (image_slot image i ≡ Some ((id, key), e))
  placed_there image shows none id key e at = by (table.get w.visit.table (id, key)) refl (expiry id key ∙ at)
    where
      by : (o : Option (ℕ × Expiry)) → table.get w.visit.table (id, key) ≡ o → option_map (λ row. row.1) o ≡ Some e → (i : ℕ) × (image_slot image i ≡ Some ((id, key), e))
      by None here is = absurd cc
      by (Some row) here is =
          let there = shows.whole none (id, key) row here in
          let same : row.1 ≡ e = cc in
          (there.0, there.1 ∙ ap (λ (x : Expiry). Some ((id, key), x)) same)

  pub states_shown : (image : Image) → Shows w.visit.table image → ShowsStates (states_of (lives_of w.seen)) image
  states_shown image shows = record {
    placed = λ i s at. (let row = shows.placed i s at in sym (expiry s.0.0 s.0.1) ∙ ap (option_map (λ (r : ℕ × _). r.1)) row.1);
    others = shows.others ∙ count w.visit.table (states_of (lives_of w.seen)) expiry distinct;
    whole = placed_there image shows;
  }

-- a watcher that has seen the table has seen the caches
pub caches_seen : {v : Visited} {f : ℕ → Option Slot} {members : List (Option Member)} {seen : List (Option Cache)} {images : List Image} {met : Bool} → caches_in f (length members) ≡ seen → IsManager v f members → SeesTable v.table images met
    → ShowsStates (states_of (lives_of seen)) (last_image images) × (met ≡ true)
caches_seen view_is is sees = (rw sees.last.0 (states_shown (within view_is is) sees.image sees.shows), sees.last.1)
