-- Events that take no memory.
use Rattle.std.specs.Prelude.{◌≡◌, Bool, true, false, List, [], ◌∷◌, ⊤}
use Rattle.jc_model.specs.declared.event.Event.{Event}
use Rattle.jc_model.specs.declared.event.Event.TheVariants.{Begin, Answer, GiveUp, Create, Destroy}
use Rattle.jc_model.specs.declared.event.Outcome.{Outcome}
use Rattle.jc_model.specs.Run.{fits, for_tell}
use Rattle.jc_model.specs.Runs.{for_memory}
use Rattle.jc_model.specs.Whole.{is_free}

abbrev pub takes_none : Event → Bool
takes_none (Begin id now call) = is_free call
takes_none (Answer id answer) = fits for_tell answer
takes_none (GiveUp id) = true
takes_none (Create config) = false
takes_none (Destroy id) = true

-- none of these is refused for want of memory
abbrev pub FreeAreHeard : List Event → List Outcome → Type 0
FreeAreHeard [] outcomes = ⊤
FreeAreHeard (event ∷ events) [] = ⊤
FreeAreHeard (event ∷ events) (outcome ∷ outcomes) = (takes_none event ≡ true → for_memory outcome ≡ false) × FreeAreHeard events outcomes
