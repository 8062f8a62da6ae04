-- The slots that the mirror is asked for are slots of its last image.
use Rattle.std.proofs.Common.{ℕ, zero, suc, ◌*◌, ◌<◌, List, [], ◌∷◌, Option, Some, None, sym, ap, subst, arith}
use Rattle.std.specs.List.{All}
use Rattle.std.specs.Option.{IfSome}
use Rattle.jc_place.specs.declared.place.Place.{Place}
use Rattle.jc_cuckoo.specs.declared.held.Held.{Held}
use Rattle.jc_rows.specs.Images.{Image, last_image}
use Rattle.jc_cuckoo.specs.Table.{IsTable}

abbrev pub Below : ℕ → List (ℕ × Option Held) → Type 0
Below n writes = All (λ w. w.0 < 4 * n) writes

named : {p told : ℕ → List ℕ → Place} {images : Option (List Image)} {n held : ℕ} {tags : List ℕ} {cs : List (Option Held)} → IsTable p told images n tags cs held
    → (writes : List (ℕ × Option Held)) → Below n writes → IfSome images (λ is. Below (last_image is).buckets writes)
named {images = None} table writes below = tt
named {images = Some is} table writes below = subst (λ (m : ℕ). Below m writes) (sym (ap (λ (i : Image). i.buckets) table.mirrored.last)) below

module _ {p told : ℕ → List ℕ → Place} {images : Option (List Image)} {n held : ℕ} {tags : List ℕ} {cs : List (Option Held)} (table : IsTable p told images n tags cs held) where
  pub named_none : IfSome images (λ is. Below (last_image is).buckets [])
  named_none = named table [] (λ k d inside. absurd (omega arith))

  pub named_one : (i : ℕ) (x : Option Held) → i < 4 * n → IfSome images (λ is. Below (last_image is).buckets ((i, x) ∷ []))
  named_one i x below = named table ((i, x) ∷ []) go
    where
      go : Below n ((i, x) ∷ [])
      go zero d inside = below
      go (suc k) d inside = absurd (omega arith)

  pub named_two : (i j : ℕ) (x y : Option Held) → i < 4 * n → j < 4 * n → IfSome images (λ is. Below (last_image is).buckets ((i, x) ∷ (j, y) ∷ []))
  named_two i j x y below under = named table ((i, x) ∷ (j, y) ∷ []) go
    where
      go : Below n ((i, x) ∷ (j, y) ∷ [])
      go zero d inside = below
      go (suc zero) d inside = under
      go (suc (suc k)) d inside = absurd (omega arith)
