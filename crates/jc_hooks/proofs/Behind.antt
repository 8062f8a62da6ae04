-- What callbacks answered and were told, one thing behind the other.
use Rattle.std.proofs.Common.{ℕ, List, ◌++◌, Option, sym, ap, ◌∙◌, subst, append_assoc}
use Rattle.jc_model.specs.declared.call.Answer.{Answer}
use Rattle.jc_model.specs.declared.call.Notice.{Notice}
use Rattle.jc_model.specs.declared.call.Request.{Request}
use Rattle.jc_hooks.specs.Asking.{MayGiveBy, GivesAnswers, states_after, TellsAll}

-- answers behind those that the writer gave first
pub gives_more : {W : Type 0} (may : W → List (Request × Answer) → Type 0) (first old new : Option W) (xs ys : List (Request × Answer)) → GivesAnswers may first old xs → GivesAnswers may old new ys → GivesAnswers may first new (xs ++ ys)
gives_more may first old new xs ys before now rest m = subst (MayGiveBy may first) (sym (append_assoc xs ys rest)) (before (ys ++ rest) (now rest m))

-- notices behind those that were told first
pub tells_more : {K : Type 0} (state_after : K → List Notice → List ℕ) (first old new : List K) (xs ys : List Notice) → TellsAll state_after first old xs → TellsAll state_after old new ys → TellsAll state_after first new (xs ++ ys)
tells_more state_after first old new xs ys before now rest = now rest ∙ before (ys ++ rest) ∙ ap (states_after state_after first) (sym (append_assoc xs ys rest))
