-- A call by hand that is given up.
use Rattle.std.proofs.Common.{◌≡◌, ◌⊎◌, ◌==◌, List, [], ◌∷◌, ◌++◌, length, Bool, true, false, if◌then◌else◌, inl, inr, sym, ◌∙◌, ap, append-nil, eqb-true}
use Rattle.jc_model.specs.declared.call.Notice.{Notice}
use Rattle.jc_model.specs.declared.call.Request.{Request}
use Rattle.jc_model.specs.declared.event.End.TheVariants as ends
use Rattle.jc_model.specs.declared.event.Entry.{Entry}
use Rattle.jc_locked.specs.Pending.{Pending, given_up_entry}
use Rattle.jc_locked.specs.Serving.{told_behind}

-- What a call that is given up has told, and what is left.
pub told_and_left : (told new left : List Notice) (untold : Bool) → untold ≡ (length told == 0) → left ≡ (if untold then new else []) → (told ≡ []) ⊎ (new ≡ told) → new ≡ told ++ left
told_and_left [] new left true is lefts which = sym lefts
told_and_left [] new left false is lefts which = absurd cc
told_and_left (n ∷ told) new left true is lefts which = let none : length (n ∷ told) ≡ 0 = eqb-true (length (n ∷ told)) 0 (sym is) in absurd cc
told_and_left (n ∷ told) new left false is lefts (inl none) = absurd cc
told_and_left (n ∷ told) new left false is lefts (inr same) = same ∙ (sym (append-nil (n ∷ told)) ∙ sym (ap (λ (ns : List Notice). (n ∷ told) ++ ns) lefts))

-- Its entry, from the pending call's parts.
pub given_up_as : (p : Pending) (draft held new : Entry) (q : Request) (left : List Notice) → draft ≡ p.draft → q ≡ p.request → held ≡ record draft { told = told_behind q draft.told } → new ≡ record held { told = new.told; end = ends.GivenUp } → new.told ≡ held.told ++ left → new ≡ given_up_entry p left
given_up_as p draft held new q left first request holds ended told =
    let whole : held ≡ record p.draft { told = told_behind p.request p.draft.told } = holds ∙ (λ i. record (first i) { told = told_behind (request i) (first i).told }) in
    ended ∙ (ap (λ (ns : List Notice). record held { told = ns; end = ends.GivenUp }) told ∙ (λ i. record (whole i) { told = (whole i).told ++ left; end = ends.GivenUp }))
