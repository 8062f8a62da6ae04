-- What a callback answered, as the answer to a request.
use Rattle.std.specs.Prelude.{Bool, true, false, List, [], ◌∷◌, ⊤}
use Rattle.jc_model.specs.declared.call.Request.{Request}
use Rattle.jc_model.specs.declared.call.Answer.{Answer}
use Rattle.jc_model.specs.declared.call.Answer.TheVariants as answers
use Rattle.jc_hooks.specs.declared.loader.Loaded.{Loaded}
use Rattle.jc_hooks.specs.declared.loader.Loaded.TheVariants.{Found, Failed}

abbrev pub load_answer_of : Loaded → Answer
load_answer_of (Found value) = answers.Loaded value
load_answer_of Failed = answers.LoadFailed

-- true: it was written or deleted
abbrev pub write_answer_of : Bool → Answer
write_answer_of true = answers.Written
write_answer_of false = answers.WriteFailed

-- a writer may give these answers to these requests, in this order; no request need come
abbrev pub MayGive : (List (Request × Answer) → Type 0) → List (Request × Answer) → Type 0
MayGive may [] = ⊤
MayGive may (given ∷ rest) = may (given ∷ rest)
