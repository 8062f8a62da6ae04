-- Processors that want the value where they are to, one after the other.
use Rattle.std.proofs.Common.{◌≡◌, ℕ, ◌+◌, ◌<◌, ◌≤◌, Bool, true, false, not, List, [], ◌∷◌, ◌++◌, map, length, get_or, take, refl, sym, ap, ◌∙◌, arith}
use Rattle.std.proofs.Math.Bool.{beq}
use Rattle.std.proofs.lemmas.List.{take_all, take_more, map_push}

alike : (a b : Bool) → not (beq a b) ≡ false → a ≡ b
alike true true e = refl
alike true false e = absurd cc
alike false true e = absurd cc
alike false false e = refl

pub one_more_wants : {P : Type 0} (wants : P → Bool) (wanted : List Bool) (ps : List P) (i : ℕ) (p : P) (answer d : Bool) → i < length wanted → i < length ps → take i wanted ≡ map wants (take i ps)
    → p ≡ get_or ps i p → answer ≡ wants p → not (beq answer (get_or wanted i d)) ≡ false → take (i + 1) wanted ≡ map wants (take (i + 1) ps)
one_more_wants wants wanted ps i p answer d below below' front is says same =
    take_more wanted i d below ∙ ap (λ (bs : List Bool). bs ++ get_or wanted i d ∷ []) front ∙ ap (λ (b : Bool). map wants (take i ps) ++ b ∷ []) (sym (alike answer (get_or wanted i d) same) ∙ says ∙ ap wants is)
    ∙ sym (map_push wants (take i ps) (get_or ps i p)) ∙ ap (map wants) (sym (take_more ps i p below'))

pub all_want : {P : Type 0} (wants : P → Bool) (wanted : List Bool) (ps : List P) (i : ℕ) → length wanted ≡ length ps → length ps ≤ i → take i wanted ≡ map wants (take i ps) → wanted ≡ map wants ps
all_want wants wanted ps i same le front = sym (take_all i wanted (omega (arith, same))) ∙ front ∙ ap (map wants) (take_all i ps le)
