-- Beginnings of a list, and two lists side by side.
use Rattle.std.proofs.Common.{◌≡◌, ℕ, zero, suc, ◌+◌, ◌<◌, length, get_or, set, arith, List, [], ◌∷◌, ◌++◌, refl, ap, sym, ◌∙◌, append_assoc}
use mathlib.Core.List.{IsPrefix}
use Rattle.jc_index.specs.Stripes.{last_or}

module _ {A : Type 0} where
  pub prefix_self : (xs : List A) → IsPrefix xs xs
  prefix_self [] = ([], refl)
  prefix_self (x ∷ xs) = (let r = prefix_self xs in r.0, ap (λ ys. x ∷ ys) (prefix_self xs).1)

  pub prefix_trans : (xs ys zs : List A) → IsPrefix xs ys → IsPrefix ys zs → IsPrefix xs zs
  prefix_trans xs ys zs p q = (p.0 ++ q.0, sym (append_assoc xs p.0 q.0) ∙ (ap (λ w. w ++ q.0) p.1 ∙ q.1))

  pub last-append : (d : A) (xs : List A) (y : A) → last_or d (xs ++ y ∷ []) ≡ y
  last-append d [] y = refl
  last-append d (x ∷ xs) y = last-append x xs y

  pub set_left : (xs ys : List A) (j : ℕ) (v : A) → j < length xs → set (xs ++ ys) j v ≡ set xs j v ++ ys
  set_left [] ys j v inside = absurd (omega arith)
  set_left (x ∷ xs) ys zero v inside = refl
  set_left (x ∷ xs) ys (suc j) v inside = ap (λ l. x ∷ l) (set_left xs ys j v (omega arith))

  pub set_right : (xs ys : List A) (k i : ℕ) (v : A) → k ≡ length xs + i → set (xs ++ ys) k v ≡ xs ++ set ys i v
  set_right [] ys k i v e = let is : k ≡ i = omega arith in ap (λ n. set ys n v) is
  set_right (x ∷ xs) ys zero i v e = absurd (omega arith)
  set_right (x ∷ xs) ys (suc k) i v e = ap (λ l. x ∷ l) (set_right xs ys k i v (omega arith))

  pub get_left : (xs ys : List A) (j : ℕ) (d : A) → j < length xs → get_or (xs ++ ys) j d ≡ get_or xs j d
  get_left [] ys j d inside = absurd (omega arith)
  get_left (x ∷ xs) ys zero d inside = refl
  get_left (x ∷ xs) ys (suc j) d inside = get_left xs ys j d (omega arith)

  pub get_right : (xs ys : List A) (k i : ℕ) (d : A) → k ≡ length xs + i → get_or (xs ++ ys) k d ≡ get_or ys i d
  get_right [] ys k i d e = let is : k ≡ i = omega arith in ap (λ n. get_or ys n d) is
  get_right (x ∷ xs) ys zero i d e = absurd (omega arith)
  get_right (x ∷ xs) ys (suc k) i d e = get_right xs ys k i d (omega arith)
