-- Calls in batches, as one list.
use Rattle.std.proofs.Common.{◌≡◌, Bool, List, [], ◌∷◌, ◌++◌, IsTrue, refl, sym, ◌∙◌, ap, append_assoc, append-nil, arith, length}
use Rattle.std.specs.Prelude.{◌==◌}
use Rattle.std.specs.List.{flat_map}
use Rattle.std.proofs.lemmas.Bool.Decides.{nat_tests}
use Rattle.std.proofs.lemmas.List.Concat.{flat_map-append}
use Rattle.jc_script.specs.declared.line.LineCall.{LineCall}
use Rattle.jc_threads.specs.Batches.{calls_in_batches}

abbrev pub flat : List (List LineCall) → List LineCall
flat batches = flat_map (λ calls. calls) batches

-- whether a list is empty, by its length
pub none_by : (calls shown : List LineCall) (b : Bool) → shown ≡ calls → b ≡ (length shown == 0) → (IsTrue b → calls ≡ []) × (calls ≡ [] → IsTrue b)
none_by [] shown b same is = ((λ yes. refl), (λ none. grind (arith, nat_tests, same, is)))
none_by (c ∷ calls) shown b same is = ((λ yes. absurd (grind (arith, nat_tests, same, is))), (λ none. absurd cc))

none_behind : (calls last : List LineCall) → calls ++ last ≡ [] → last ≡ []
none_behind [] last none = none
none_behind (c ∷ calls) last none = absurd cc

-- where there is none behind the full batches, there is no full one
pub none_at_all : (full : List (List LineCall)) (last : List LineCall) (b : Bool) → (IsTrue b → last ≡ []) × (last ≡ [] → IsTrue b) → (last ≡ [] → full ≡ [])
    → (IsTrue b → calls_in_batches full last ≡ []) × (calls_in_batches full last ≡ [] → IsTrue b)
none_at_all full last b is filled = ((λ yes. rw (is.0 yes, filled (is.0 yes)) refl), (λ none. is.1 (none_behind (flat full) last none)))

-- a batch more
pub batch_more : (done : List LineCall) (batches : List (List LineCall)) (batch calls : List LineCall) → calls ≡ batch → (done ++ flat batches) ++ calls ≡ done ++ flat (batches ++ batch ∷ [])
batch_more done batches batch calls is =
    append_assoc done (flat batches) calls ∙ ap (λ (ls : List LineCall). done ++ ls) (ap (λ (ls : List LineCall). flat batches ++ ls) (is ∙ sym (append-nil batch)) ∙ sym (flat_map-append (λ (ls : List LineCall). ls) batches (batch ∷ [])))

none_left : (rest : List (List LineCall)) → length rest ≡ 0 → rest ≡ []
none_left [] none = refl
none_left (batch ∷ rest) none = absurd (omega (arith, none))

-- the full batches, and the last calls behind them
pub last_behind : (done : List LineCall) (batches rest : List (List LineCall)) (last all : List LineCall) → length rest ≡ 0 → calls_in_batches (batches ++ rest) last ≡ all → (done ++ flat batches) ++ last ≡ done ++ all
last_behind done batches rest last all none is =
    let same : batches ≡ batches ++ rest = sym (append-nil batches) ∙ ap (λ (bs : List (List LineCall)). batches ++ bs) (sym (none_left rest none)) in
    append_assoc done (flat batches) last ∙ ap (λ (ls : List LineCall). done ++ ls) (ap (λ (bs : List (List LineCall)). calls_in_batches bs last) same ∙ is)
