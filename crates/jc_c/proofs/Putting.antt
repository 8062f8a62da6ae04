-- Bytes that are written one behind the other.
use Rattle.std.proofs.Common.{◌≡◌, ℕ, ◌+◌, ◌<◌, Bool, List, [], ◌∷◌, ◌++◌, length, get_or, take, drop, map, refl, sym, ap, ◌∙◌, append-nil, arith}
use Rattle.std.specs.List.{flat_map}
use Rattle.std.proofs.lemmas.Grind.{flat_map-append}
use Rattle.std.proofs.lemmas.List.Concat.{flat_map-cons}
use Rattle.std.proofs.lemmas.List.{length-map, length-take-le, length-take, map_more, take_all, take_more, take-append-drop}
use Rattle.jc_save.specs.Placing.{put_at}
use Rattle.jc_save.specs.Spelling.{flag}
use Rattle.jc_save.proofs.Placing.{put_after}

-- no bytes
pub put_none : (at : ℕ) (out : List ℕ) → put_at at [] out ≡ out
unfolding put_at
put_none at out =
    let here : at + 0 ≡ at = omega arith in
    rw (append-nil (take at out), take_all (length out) (take at out) (omega (arith, length-take at out)), here) (take-append-drop at out)

-- bytes from the first place on
pub put_first : (bytes out : List ℕ) → put_at 0 bytes out ≡ take (length out) bytes ++ drop (length bytes) out
unfolding put_at
put_first bytes out =
    let same : 0 + length bytes ≡ length bytes = omega arith in
    rw same refl

pub flags_then : (flags : List Bool) (i : ℕ) (d : Bool) (out : List ℕ) → i < length flags
    → put_at i (flag (get_or flags i d) ∷ []) (put_at 0 (map flag (take i flags)) out) ≡ put_at 0 (map flag (take (i + 1) flags)) out
flags_then flags i d out lt =
    let front : length (map flag (take i flags)) ≡ i = length-map (take i flags) flag ∙ length-take-le i flags (omega (arith, lt)) in
    ap (λ (n : ℕ). put_at n (flag (get_or flags i d) ∷ []) (put_at 0 (map flag (take i flags)) out)) (sym front)
    ∙ put_after (map flag (take i flags)) (flag (get_or flags i d) ∷ []) out
    ∙ ap (λ (t : List ℕ). put_at 0 t out) (sym (map_more flag flags i d lt))

-- of each item its bytes
module _ {A : Type 0} (bytes : A → List ℕ) (xs : List A) (i : ℕ) (d : A) (lt : i < length xs) where
  pub listed_then : flat_map bytes (take (i + 1) xs) ≡ flat_map bytes (take i xs) ++ bytes (get_or xs i d)
  listed_then =
      rw (take_more xs i d lt) (flat_map-append bytes (take i xs) (get_or xs i d ∷ []) ∙ ap (λ (t : List ℕ). flat_map bytes (take i xs) ++ t) (flat_map-cons bytes (get_or xs i d) [] ∙ append-nil (bytes (get_or xs i d))))

  pub listed_put : (out : List ℕ) → put_at (length (flat_map bytes (take i xs))) (bytes (get_or xs i d)) (put_at 0 (flat_map bytes (take i xs)) out) ≡ put_at 0 (flat_map bytes (take (i + 1) xs)) out
  listed_put out = put_after (flat_map bytes (take i xs)) (bytes (get_or xs i d)) out ∙ ap (λ (t : List ℕ). put_at 0 t out) (sym listed_then)
