-- A lookup's views, one after another.
use Rattle.std.proofs.Common.{◌≡◌, ℕ, suc, length, arith, List, [], ◌∷◌, map, true, false, refl, sym, ap, ◌∙◌}
use mathlib.Core.List.{IsPrefix, map-append}
use Rattle.jc_index.specs.declared.board.View.{View}
use Rattle.jc_index.specs.Stripes.{last_or, glance, glance_of, stack_of, stripes_in}
use Rattle.jc_rows.specs.Images.{last_image}
use Rattle.jc_index.specs.Spelling.{image_in}
use Rattle.jc_index.specs.Versions.{onto}

pub prefix_map : {A B : Type 0} (f : A → B) (xs ys : List A) → IsPrefix xs ys → IsPrefix (map f xs) (map f ys)
prefix_map f xs ys p = (map f p.0, sym (map-append f xs p.0) ∙ ap (map f) p.1)

last_from : (x : List ℕ) (xs : List (List ℕ)) → last_image (image_in x ∷ map image_in xs) ≡ image_in (last_or x xs)
last_from x [] = refl
last_from x (y ∷ ys) = last_from y ys

-- the last image is that of the last content
pub last_images : (xs : List (List ℕ)) → last_image (map image_in xs) ≡ image_in (last_or [] xs)
last_images [] = refl
last_images (x ∷ xs) = last_from x xs

module _ {L : Type 0} (v0 v1 v2 v3 : View L) (begun : List (ℕ × ℕ)) (begin : v1 ≡ record v0 { role = glance begun [] [] false; lookups = suc v0.lookups })
    (look : v2 ≡ record v1 { role = glance (glance_of v1).begun (glance_of v1).checked (glance_of v2).notes false }) (check : v3 ≡ record v2 { role = glance (glance_of v2).begun (glance_of v3).checked (glance_of v2).notes true; front = v3.front }) where
  pub young : (glance_of v1).settled ≡ false
  young = ap (λ (v : View L). (glance_of v).settled) begin

  pub begun_two : (glance_of v2).begun ≡ begun
  begun_two = ap (λ (v : View L). (glance_of v).begun) look ∙ ap (λ (v : View L). (glance_of v).begun) begin

  pub front_two : v2.front ≡ v0.front
  front_two = ap (λ (v : View L). v.front) look ∙ ap (λ (v : View L). v.front) begin

  pub law_two : v2.law ≡ v0.law
  law_two = ap (λ (v : View L). v.law) look ∙ ap (λ (v : View L). v.law) begin

  pub law_three : v3.law ≡ v0.law
  law_three = ap (λ (v : View L). v.law) check ∙ law_two

  pub lookups_three : v3.lookups ≡ suc v0.lookups
  lookups_three = ap (λ (v : View L). v.lookups) check ∙ (ap (λ (v : View L). v.lookups) look ∙ ap (λ (v : View L). v.lookups) begin)

pub stacked_stripes : (js vs : List ℕ) (done : List (ℕ × ℕ)) → length vs ≡ length js → stripes_in (stack_of js vs done) ≡ onto js (stripes_in done)
stacked_stripes [] vs done e = refl
stacked_stripes (j ∷ js) [] done e = absurd (omega (arith, e))
stacked_stripes (j ∷ js) (v ∷ vs) done e = stacked_stripes js vs ((j, v) ∷ done) (omega (arith, e))
