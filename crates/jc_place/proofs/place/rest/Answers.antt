use Rattle.std.proofs.Common.{◌≡◌, ℕ, ◌%◌, ◌-◌, ◌<◌, sym, ap, ◌∙◌, subst}
use Rattle.std.specs.Int.Bits.{bit_and}
use Rattle.std.proofs.lemmas.Nat.{and_mask, mod_below}
use Rattle.jc_place.specs.Place.{IsBucketCount}
use Rattle.jc_place.proofs.Other.{size_positive}
use Rattle.jc_place.proofs.place.rest.Goals as goal

low_bits : (number n : ℕ) → IsBucketCount n → bit_and number (n - 1) ≡ number % n
low_bits number n size = ap (λ (m : ℕ). bit_and number (m - 1)) size.power ∙ (and_mask number size.exponent ∙ ap (λ (m : ℕ). number % m) (sym size.power))

pub returns-clause-rest : goal.returns-clause-rest
returns-clause-rest c = low_bits c.args.number c.args.buckets c.requires

pub returns-clause-below : goal.returns-clause-below
returns-clause-below c = subst (λ (x : ℕ). x < c.args.buckets) (sym (low_bits c.args.number c.args.buckets c.requires)) (mod_below c.args.number c.args.buckets (size_positive c.args.buckets c.requires))
