-- Counting on.
use Rattle.std.proofs.Common.{◌≡◌, ℕ, suc, ◌<◌, ◌==◌, Bool, true, false, refl, ap, ◌∙◌, arith}
use Rattle.std.proofs.lemmas.Bool.Decides.{nat_tests}
use Rattle.jc_cli.specs.Meters.{next_count, next_count_if, AddsAtMost}

pub one_added : (most most' old n new : ℕ) → AddsAtMost most old n → new ≡ next_count n → most < most' → AddsAtMost most' old new
one_added most most' old n new a e lt = (suc a.0, omega (arith, a.1, lt), e ∙ ap next_count a.2)

-- a write that took something did not fail
pub none_failed : (n old new : ℕ) → (n ≡ 0 → ⊥) → new ≡ next_count_if (n == 0) old → new ≡ old
none_failed n old new some e = e ∙ go (n == 0) refl
  where
    go : (b : Bool) → (n == 0) ≡ b → next_count_if b old ≡ old
    go true is = absurd (some (grind (arith, nat_tests)))
    go false is = refl
