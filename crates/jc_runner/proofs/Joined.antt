-- Texts of faults that are joined one after the other.
use Rattle.std.proofs.Common.{◌≡◌, ℕ, ◌+◌, ◌<◌, ◌≤◌, List, [], ◌∷◌, ◌++◌, length, drop, get_or, sym, ap, ◌∙◌, subst, refl, append_assoc, append-nil}
use Rattle.std.proofs.lemmas.List.{drop_all, drop_more}
use Rattle.jc_cli.specs.declared.fault.ProgramFault.{ProgramFault}
use Rattle.jc_runner.specs.Every.{Each}

-- the texts of the faults that are left complete those before
abbrev pub Completes : (ProgramFault → List ℕ → Type 0) → List ProgramFault → ℕ → List ℕ → Type 0
Completes Tells faults i text = (rest : List ℕ) → Each Tells (drop i faults) rest → Each Tells faults (text ++ rest)

pub more_told : (Tells : ProgramFault → List ℕ → Type 0) (faults : List ProgramFault) (i : ℕ) (fault : ProgramFault) (old one new : List ℕ) → i < length faults → fault ≡ get_or faults i fault → Tells fault one → Completes Tells faults i old → new ≡ old ++ one → Completes Tells faults (i + 1) new
more_told Tells faults i fault old one new lt is told so_far pushed rest left =
    let here : Each Tells (fault ∷ drop (i + 1) faults) (one ++ rest) = (one, rest, told, left, refl) in
    let at : fault ∷ drop (i + 1) faults ≡ drop i faults = ap (λ x. x ∷ drop (i + 1) faults) is ∙ sym (drop_more faults i fault lt) in
    let all : Each Tells (drop i faults) (one ++ rest) = subst (λ (fs : List ProgramFault). Each Tells fs (one ++ rest)) at here in
    subst (Each Tells faults) (sym (append_assoc old one rest) ∙ ap (λ (text : List ℕ). text ++ rest) (sym pushed)) (so_far (one ++ rest) all)

pub all_told : (Tells : ProgramFault → List ℕ → Type 0) (faults : List ProgramFault) (i : ℕ) (text : List ℕ) → length faults ≤ i → Completes Tells faults i text → Each Tells faults text
all_told Tells faults i text le so_far =
    subst (Each Tells faults) (append-nil text) (so_far [] (subst (λ (fs : List ProgramFault). Each Tells fs []) (sym (drop_all i faults le)) refl))
