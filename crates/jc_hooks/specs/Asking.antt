-- What each callback of a cache states of its answers. One that is not there fails.
use Rattle.std.specs.Prelude.{◌≡◌, ℕ, Bool, if◌then◌else◌, List, [], ◌∷◌, ◌++◌, map, slice_get, slice_set, Option, Some, None, option_map, Result, Err, ⊤}
use denote.Ref.{Bor}
use Rattle.jc_model.specs.declared.call.Answer.{Answer}
use Rattle.jc_model.specs.declared.call.Answer.TheVariants.{LoadFailed, Processed}
use Rattle.jc_model.specs.declared.call.Notice.{Notice}
use Rattle.jc_model.specs.declared.call.ProcessorFault.{ProcessorFault}
use Rattle.jc_model.specs.declared.call.Request.{Request}
use Rattle.jc_model.specs.declared.call.Verdict.{Verdict}
use Rattle.jc_hooks.specs.Answers.{load_answer_of, MayGive}
use Rattle.jc_hooks.specs.declared.hook.ListenerHook.{ListenerHook}
use Rattle.jc_hooks.specs.declared.loader.Loaded.{Loaded}

abbrev pub load_by : {L : Type 0} → (L → List ℕ → Loaded) → Option L → List ℕ → Answer
load_by load_of None key = LoadFailed
load_by load_of (Some loader) key = load_answer_of (load_of loader key)

abbrev pub verdict_by : {P : Type 0} → (P → Option (List ℕ) → List ℕ → Result Verdict ProcessorFault) → Option P → Option (List ℕ) → List ℕ → Answer
verdict_by verdict_of None value argument = Processed (Err (record {}))
verdict_by verdict_of (Some processor) value argument = Processed (verdict_of processor value argument)

-- the value that is lent, or none
abbrev pub lent_value : Option (Bor (List ℕ)) → Option (List ℕ)
lent_value value = option_map (λ r. r.now) value

-- a writer that is not there states nothing
abbrev pub MayGiveBy : {W : Type 0} → (W → List (Request × Answer) → Type 0) → Option W → List (Request × Answer) → Type 0
MayGiveBy may None given = ⊤
MayGiveBy may (Some writer) given = MayGive (may writer) given

-- the writer has given these answers: what it may give from now on, it might give behind them
abbrev pub GivesAnswers : {W : Type 0} → (W → List (Request × Answer) → Type 0) → Option W → Option W → List (Request × Answer) → Type 0
GivesAnswers may old new given = (rest : List (Request × Answer)) → MayGiveBy may new rest → MayGiveBy may old (given ++ rest)

-- the notices that a filter admits, in order
abbrev pub admitted_notices : (Notice → Bool) → List Notice → List Notice
admitted_notices lets [] = []
admitted_notices lets (n ∷ ns) = if lets n then n ∷ admitted_notices lets ns else admitted_notices lets ns

-- what a listener behind a filter states: what the listener states for the notices that the filter admits
abbrev pub hook_state : {F K : Type 0} → (F → Notice → Bool) → (K → List Notice → List ℕ) → ListenerHook F K → List Notice → List ℕ
hook_state lets state_after h notices = state_after h.listener (admitted_notices (lets h.filter) notices)

-- what is stated for a list from now on was stated for this notice and the list behind it
abbrev pub MovesOnBy : (List Notice → List ℕ) → (List Notice → List ℕ) → Notice → Type 0
MovesOnBy old new notice = (rest : List Notice) → new rest ≡ old (notice ∷ rest)

-- the states of all listeners
abbrev pub states_after : {K : Type 0} → (K → List Notice → List ℕ) → List K → List Notice → List (List ℕ)
states_after state_after listeners notices = map (λ k. state_after k notices) listeners

-- the listeners were told these notices, and no others
abbrev pub TellsAll : {K : Type 0} → (K → List Notice → List ℕ) → List K → List K → List Notice → Type 0
TellsAll state_after old new notices = (rest : List Notice) → states_after state_after new rest ≡ states_after state_after old (notices ++ rest)

-- the listener at this place was told, and no other
abbrev pub TellsAt : {K : Type 0} → (K → List Notice → List ℕ) → List K → List K → ℕ → Notice → Type 0
TellsAt {K} state_after old new place notice =
    (before after : K) × (slice_get old place ≡ Some before) × (new ≡ slice_set old place after) × MovesOnBy (state_after before) (state_after after) notice
