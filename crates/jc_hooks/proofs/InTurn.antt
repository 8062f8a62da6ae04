-- One listener after the other is told.
use Rattle.std.proofs.Common.{◌≡◌, ℕ, zero, suc, ◌+◌, ◌<◌, List, [], ◌∷◌, ◌++◌, map, length, get_or, take, drop, refl, sym, ap, ◌∙◌, subst, arith, add-one}
use Rattle.std.specs.Prelude.{slice_set}
use Rattle.std.proofs.Math.ListN.{set}
use Rattle.std.proofs.lemmas.Option.{same_Some, slice_get-get_or}
use Rattle.jc_model.specs.declared.call.Notice.{Notice}
use Rattle.jc_hooks.specs.Asking.{states_after, TellsAt}

length_set : {A : Type 0} (xs : List A) (i : ℕ) (y : A) → length (slice_set xs i y) ≡ length xs
length_set [] i y = refl
length_set (x ∷ xs) zero y = refl
length_set (x ∷ xs) (suc i) y = ap suc (length_set xs i y)

one_told : {K A : Type 0} (after before : K → A) (xs : List K) (i : ℕ) (d x' : K) → i < length xs → after x' ≡ before (get_or xs i d)
    → map after (take (suc i) (set xs i x')) ++ map before (drop (suc i) (set xs i x')) ≡ map after (take i xs) ++ map before (drop i xs)
one_told after before [] i d x' lt told = absurd (omega arith)
one_told after before (y ∷ ys) zero d x' lt told = ap (λ z. z ∷ map before ys) told
one_told after before (y ∷ ys) (suc i) d x' lt told = ap (λ zs. after y ∷ zs) (one_told after before ys i d x' (omega arith) told)

pub one_more_told : {K A : Type 0} (after before : K → A) (xs : List K) (i : ℕ) (d x' : K) → i < length xs → after x' ≡ before (get_or xs i d)
    → map after (take (i + 1) (set xs i x')) ++ map before (drop (i + 1) (set xs i x')) ≡ map after (take i xs) ++ map before (drop i xs)
one_more_told after before xs i d x' lt told = rw add-one (one_told after before xs i d x' lt told)

module _ {K : Type 0} (state_after : K → List Notice → List ℕ) where
  pub next_told : (old new : List K) (i : ℕ) (notice : Notice) → i < length old → TellsAt state_after old new i notice → (rest : List Notice)
      → states_after state_after (take (i + 1) new) rest ++ states_after state_after (drop (i + 1) new) (notice ∷ rest) ≡ states_after state_after (take i old) rest ++ states_after state_after (drop i old) (notice ∷ rest)
  next_told old new i notice lt t rest =
      let after : K → List ℕ = λ k. state_after k rest in
      let before : K → List ℕ = λ k. state_after k (notice ∷ rest) in
      let was : t.0 ≡ get_or old i t.0 = same_Some t.0 (get_or old i t.0) (sym t.2 ∙ slice_get-get_or old i t.0 lt) in
      subst (λ (ks : List K). map after (take (i + 1) ks) ++ map before (drop (i + 1) ks) ≡ map after (take i old) ++ map before (drop i old)) (sym t.3)
      (one_more_told after before old i t.0 t.1 lt (t.4 rest ∙ ap before was))

  pub as_many : (old new : List K) (i : ℕ) (notice : Notice) → TellsAt state_after old new i notice → length new ≡ length old
  as_many old new i notice t = ap length t.3 ∙ length_set old i t.1
