-- The steps that are left of a call, each with its values.
use Rattle.std.specs.Prelude.{◌≡◌, ◌+◌, ◌*◌, ◌<◌, ◌≤◌, ◌^◌, ℕ, Bool, true, false, ltb, List, [], ◌∷◌, length, map}
use Rattle.std.specs.List.{list_any}
use Rattle.jc_model.specs.declared.call.KeyCall.{KeyCall}
use Rattle.jc_model.specs.declared.config.CacheConfig.{CacheConfig}
use Rattle.jc_model.specs.Lists.{distinct}
use Rattle.jc_model.specs.State.{Item}
use Rattle.jc_ops.specs.Lines.{creates, most_told}
use Rattle.jc_ops.specs.Noted.{Noted, HasPlaces}
use Rattle.jc_ops.specs.Supply.{Covers}
use Rattle.jc_bulk.specs.declared.bulk.Needs.{Needs}
use Rattle.jc_bulk.specs.declared.bulk.Provided.{Provided}
use Rattle.jc_bulk.specs.declared.call_sum.CallSum.{CallSum}
use Rattle.jc_bulk.specs.Tallied.{HasRoomFor}

abbrev pub calls_in : List Provided → List KeyCall
calls_in ps = map (λ p. p.call) ps

abbrev pub keys_in : List KeyCall → List (List ℕ)
keys_in calls = map (λ call. call.key) calls

-- each step has its values, in a cache with these items
abbrev pub AreCovered : CacheConfig → List Item → List Provided → Type 0
AreCovered c items [] = Unit {0}
AreCovered c items (p ∷ ps) = Covers c.writer c p.call items p.values × AreCovered c items ps

-- whether any of these itself stores a key that is not there
abbrev pub any_creates : List KeyCall → Bool
any_creates calls = list_any (λ call. creates call.op) calls

-- whether any of these may tell more than one notice
abbrev pub any_tells : List KeyCall → Bool
any_tells calls = list_any (λ call. ltb 1 (most_told false call.op)) calls

-- places for the notices of so many steps, by whether one of them may tell more than one
abbrev pub places_for : Bool → ℕ → ℕ
places_for true steps = 3 * steps
places_for false steps = steps

-- what needs no look at the cache: the keys are different, and lists and numbers have room for all
pub record IsAhead (keys : List (List ℕ)) (rest : List KeyCall) (sum : CallSum) (needs : Needs) : Type 0 where
  pub apart : distinct keys ≡ true
  pub lists : HasRoomFor (length keys) sum.collected
  pub few : sum.done + length keys < 2 ^ 32
  pub adding : needs.adds ≡ false → any_creates rest ≡ false
  pub telling : needs.tells ≡ false → any_tells rest ≡ false

-- and all that the steps ahead may need is there
pub record IsReady (c : CacheConfig) (items : List Item) (notices : Noted) (spare : ℕ) (rest : List Provided) (sum : CallSum) (needs : Needs) : Type 0 where
  pub ahead : IsAhead (keys_in (calls_in rest)) (calls_in rest) sum needs
  pub covered : AreCovered c items rest
  pub places : HasPlaces c (places_for needs.tells (length rest)) notices
  pub room : needs.adds ≡ true → length rest ≤ spare
