-- The callbacks of the opening apart, after one more cache.
use Rattle.std.proofs.Common.{◌≡◌, List, [], ◌∷◌, ◌++◌, map, refl, sym, ◌∙◌, ap}

-- all that a list yields
pub map_same : {A : Type 0} (xs : List A) → map (λ y. y) xs ≡ xs
map_same [] = refl
map_same {A} (x ∷ xs) = ap (λ (ys : List A). x ∷ ys) (map_same xs)

module _ {A B : Type 0} (f : A → B) where
  map_more : (xs : List A) (y : A) → map f (xs ++ y ∷ []) ≡ map f xs ++ f y ∷ []
  map_more [] y = refl
  map_more (x ∷ xs) y = ap (λ (zs : List B). f x ∷ zs) (map_more xs y)

  pub shared_more : (xs : List A) (y : A) (ys zs : List B) (b : B) → zs ≡ ys ++ b ∷ [] → ys ≡ map f xs → b ≡ f y → zs ≡ map f (xs ++ y ∷ [])
  shared_more xs y ys zs b push same is = push ∙ ((λ i. same i ++ is i ∷ []) ∙ sym (map_more xs y))

-- what is told of each thing is what is told of each cache
pub told_more : {A B C : Type 0} (f : A → C) (g : B → C) (xs : List A) (y : A) (ys zs : List B) (b : B) → zs ≡ ys ++ b ∷ [] → map g ys ≡ map f xs → g b ≡ f y → map g zs ≡ map f (xs ++ y ∷ [])
told_more f g xs y ys zs b push same is = ap (map g) push ∙ (map_more g ys b ∙ shared_more f xs y (map g ys) (map g ys ++ g b ∷ []) (g b) refl same is)
