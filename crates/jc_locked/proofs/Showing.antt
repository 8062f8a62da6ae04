-- What the image that a pass has seen last tells of the caches.
use Rattle.std.proofs.Common.{◌≡◌, ℕ, suc, zero, Bool, true, false, ◌==◌, if◌then◌else◌, List, [], ◌∷◌, slice_get, get_or, Option, Some, None, Result, Ok, Err, refl, sym, ap, ◌∙◌, eqb-true}
use Rattle.std.specs.Prelude.{OnOk, OnErr, option_map}
use Rattle.jc_model.specs.declared.config.Expiry.{Expiry}
use Rattle.jc_model.specs.State.{Item, State, live, is_live, row_of}
use Rattle.jc_model.specs.Places.{at_place}
use Rattle.jc_model.specs.Whole.{holds as holds_now}
use Rattle.jc_rows.specs.Images.{Image, Shown}
use Rattle.jc_engine.proofs.Names.{at_place_map}
use Rattle.jc_engine.specs.Caches.{Cache, status_of, lives_of, holds_in}
use Rattle.jc_engine.specs.Watching.{ShowsStates, expiry_at, states_of}
use Rattle.jc_engine.proofs.Watching.{state_is, state_at}
use Rattle.jc_index.specs.declared.lookup.Lookup.{Lookup}
use Rattle.jc_index.specs.declared.lookup.Lookup.TheVariants.{Sure, Unsure}
use Rattle.jc_index.specs.Found.{found_in_image, first_seen, answer_with_stash}
use Rattle.jc_index.proofs.Found.{seen_some, seen_none, got}
use Rattle.jc_locked.specs.Living.{has_live_row}

-- a pass that has met the table, or was refused
pub met_shows : {A E P : Type 0} (R : Type 0) (r : Result A E) (m : Bool) → OnOk r (P × (m ≡ true)) → OnErr r (R × (m ≡ false)) → m ≡ true → P
met_shows R (Ok x) m met refused is = met.0
met_shows R (Err e) m met refused is = absurd cc

-- a cache has a live row as its status tells
pub row_told : (now : ℕ) (key : List ℕ) (caches : List (Option Cache)) (id : ℕ) → holds_in now key (at_place caches id) ≡ has_live_row now key (at_place (lives_of caches) id)
row_told now key caches id = by (at_place caches id) ∙ ap (has_live_row now key) (sym (at_place_map status_of caches id))
  where
    by : (o : Option Cache) → holds_in now key o ≡ has_live_row now key (option_map status_of o)
    by None = refl
    by (Some k) = ap (λ (s : State). holds_now k.config now key s) (sym (state_is k.config k.progress k.turn))

-- whether a row is live, by when it expires
abbrev lives_by : ℕ → Option Expiry → Bool
lives_by now None = false
lives_by now (Some e) = live now e

holds_by : (now : ℕ) (key : List ℕ) (o : Option Cache) → holds_in now key o ≡ lives_by now (expiry_at key (option_map (λ (k : Cache). k.progress.state) o))
holds_by now key None = refl
holds_by now key (Some k) = by (row_of key k.progress.state.ring)
  where
    by : (x : Option Item) → elim x [ None ↦ false | Some x ↦ is_live now x ] ≡ lives_by now (option_map (λ (i : Item). i.expiry) x)
    by None = refl
    by (Some x) = refl

there : (xs : List (Option Shown)) (i : ℕ) (s : Shown) → get_or xs i None ≡ Some s → slice_get xs i ≡ Some (Some s)
there [] i s at = absurd cc
there (x ∷ xs) zero s at = ap Some at
there (x ∷ xs) (suc i) s at = there xs i s at

-- where the image tells whether a cache has a live row, it has one or not
module _ (caches : List (Option Cache)) (image : Image) (id : ℕ) (key : List ℕ) (now : ℕ) (b : Bool) (shows : ShowsStates (states_of (lives_of caches)) image) where
  abbrev expires : Option Expiry
  expires = expiry_at key (at_place (states_of (lives_of caches)) id)

  holds : holds_in now key (at_place caches id) ≡ lives_by now expires
  holds = holds_by now key (at_place caches id) ∙ ap (λ o. lives_by now (expiry_at key o)) (sym (state_at caches id))

  unseen : (e : Option Expiry) → expires ≡ e → first_seen id key now image.slots ≡ None → image.stash ≡ 0 → lives_by now e ≡ false
  unseen None here none empty = refl
  unseen (Some e) here none empty =
      let placed = shows.whole empty id key e here in
      absurd (seen_none id key now image.slots none placed.0 ((id, key), e) (there image.slots placed.0 ((id, key), e) placed.1) refl refl)

  by_stash : (empty : Bool) → (image.stash == 0) ≡ empty → first_seen id key now image.slots ≡ None → (if empty then Some false else None) ≡ Some b → holds_in now key (at_place caches id) ≡ b
  by_stash true e none is = let no : false ≡ b = cc in holds ∙ (unseen expires refl none (eqb-true image.stash 0 e) ∙ no)
  by_stash false e none is = absurd cc

  by_seen : (x : Option Bool) → first_seen id key now image.slots ≡ x → answer_with_stash x image.stash ≡ Some b → holds_in now key (at_place caches id) ≡ b
  by_seen None none is = by_stash (image.stash == 0) refl none is
  by_seen (Some x) some is =
      let same : x ≡ b = cc in
      let s = seen_some id key now image.slots x some in
      let placed = shows.placed s.place s.row (got image.slots s.place (Some s.row) s.at) in
      let here : expires ≡ Some s.row.1 = (λ i. expiry_at (sym s.text i) (at_place (states_of (lives_of caches)) (sym s.number i))) ∙ placed in
      holds ∙ (ap (lives_by now) here ∙ (s.lives ∙ same))

  pub has_agrees : found_in_image image id key now ≡ Some b → holds_in now key (at_place caches id) ≡ b
  has_agrees is = by_seen (first_seen id key now image.slots) refl is

-- a lookup that is sure has met the table
pub surely_met : {P : Type 0} (old new : Bool) (r : Lookup) (b : Bool) → r ≡ Sure b → (old ≡ false → (r ≡ Unsure) × P) → new ≡ old → new ≡ true
surely_met true new r b is unmet same = same
surely_met false new r b is unmet same = let no : Sure b ≡ Unsure = sym is ∙ (unmet refl).0 in absurd cc
