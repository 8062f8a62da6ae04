-- Two places are the same, or they differ.
use Rattle.std.proofs.Common.{◌≡◌, ℕ, true, false, List, refl, sym, ap, ◌∙◌, ◌⊎◌, inl, inr}
use Rattle.std.proofs.lemmas.Map.Lookups.{exact_pairs, exact_unsigned, exact_bytes, CmpEqualImpliesEq}
use Rattle.std.proofs.lemmas.Cmp.{on_total, then_total}
use Rattle.std.specs.Cmp.{IsTotalOrder, nat_cmp_total, eq_by_cmp_equiv}
use Rattle.std.specs.Cmp.Lexicographic.{slice_cmp, nat_list_cmp_total}
use Rattle.std.specs.Ordering.{nat_cmp, eq_by_cmp, is_eq}
use Rattle.std.specs.declared.cmp.Ordering.TheVariants.{Less, Equal, Greater}
use Rattle.jc_rows.specs.Rows.{place_cmp}

pub places_total : IsTotalOrder place_cmp
places_total = then_total (on_total (λ p. p.0) nat_cmp_total) (on_total (λ p. p.1) nat_list_cmp_total)

pub exact_places : CmpEqualImpliesEq place_cmp
exact_places = exact_pairs nat_cmp (slice_cmp nat_cmp) exact_unsigned exact_bytes

pub same_place : (x : ℕ × List ℕ) → eq_by_cmp place_cmp x x ≡ true
same_place x = (eq_by_cmp_equiv places_total).refl x

pub apart : (x y : ℕ × List ℕ) → (x ≡ y → ⊥) → eq_by_cmp place_cmp x y ≡ false
apart x y differ = elim (place_cmp x y) as (λ o. place_cmp x y ≡ o → is_eq o ≡ false) [
  | Less ↦ λ e. refl
  | Equal ↦ λ e. absurd (differ (exact_places x y e))
  | Greater ↦ λ e. refl
] refl

-- a test of two places, with what it tells
pub place_tells : (x y : ℕ × List ℕ) → ((eq_by_cmp place_cmp x y ≡ true) × (x ≡ y)) ⊎ ((eq_by_cmp place_cmp x y ≡ false) × (x ≡ y → ⊥))
place_tells x y = elim (place_cmp x y) as (λ o. place_cmp x y ≡ o → ((is_eq o ≡ true) × (x ≡ y)) ⊎ ((is_eq o ≡ false) × (x ≡ y → ⊥))) [
  | Less ↦ λ e. inr (refl, λ h. (let t : true ≡ false = sym (same_place x) ∙ (ap (eq_by_cmp place_cmp x) h ∙ ap is_eq e) in cc))
  | Equal ↦ λ e. inl (refl, exact_places x y e)
  | Greater ↦ λ e. inr (refl, λ h. (let t : true ≡ false = sym (same_place x) ∙ (ap (eq_by_cmp place_cmp x) h ∙ ap is_eq e) in cc))
] refl
