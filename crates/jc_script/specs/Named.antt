-- Lines that name what is there.
use Rattle.std.specs.Prelude.{◌≡◌, ℕ, true, List, [], ◌∷◌, Some, ⊤}
use Rattle.jc_model.specs.declared.call.Call.{Call}
use Rattle.jc_model.specs.Runs.{Status, Lives, has_processor}
use Rattle.jc_script.specs.declared.line.Line.{Line}
use Rattle.jc_script.specs.declared.line.Line.TheVariants as line
use Rattle.jc_script.specs.Live.{after_line}
use Rattle.jc_model.specs.Places.{at_place}

pub record IsLive (lives : Lives) (id : ℕ) : Type 0 where
  pub status : Status
  pub there : at_place lives id ≡ Some status

-- a call's cache is live, and has the processor that the call names, if it names one
pub record IsCallOnLive (lives : Lives) (id : ℕ) (call : Call) : Type 0 where
  pub status : Status
  pub there : at_place lives id ≡ Some status
  pub processor : has_processor status.config call ≡ true

abbrev pub Names : Lives → Line → Type 0
Names lives (line.Call l) = IsCallOnLive lives l.id l.call
Names lives (line.Create session c) = ⊤
Names lives (line.Destroy session id) = IsLive lives id

-- each line, of the caches that are live then
abbrev pub AllName : Lives → List Line → Type 0
AllName lives [] = ⊤
AllName lives (l ∷ ls) = Names lives l × AllName (after_line lives l) ls
