-- What a step was given while it waited.
use Rattle.std.specs.Prelude.{ℕ, List, [], ◌∷◌, Option, Some, None, Ok}
use Rattle.jc_model.specs.declared.call.Answer.{Answer}
use Rattle.jc_model.specs.declared.call.Answer.TheVariants.{Loaded, Processed}
use Rattle.jc_model.specs.declared.call.Verdict.{Verdict}
use Rattle.jc_model.specs.Run.{verdict_of}
use Rattle.jc_ops.specs.Lines.{loaded_value}

-- the answers of a loader and of a processor, where they have answered
abbrev pub given_by : Option (Option (List ℕ)) → Option Verdict → List Answer
given_by None None = []
given_by None (Some v) = Processed (Ok v) ∷ []
given_by (Some loaded) None = Loaded loaded ∷ []
given_by (Some loaded) (Some v) = Loaded loaded ∷ Processed (Ok v) ∷ []

-- the value that the loader gave, if it was asked and gave one
abbrev pub loaded_in : List Answer → Option (List ℕ)
loaded_in [] = None
loaded_in (a ∷ rest) = loaded_value a

abbrev pub verdict_in : List Answer → Option Verdict
verdict_in [] = None
verdict_in (a ∷ rest) = elim (verdict_of a) [ None ↦ verdict_in rest | Some v ↦ Some v ]
