-- The test of a number of buckets.
use Rattle.std.proofs.Common.{◌≡◌, ℕ, zero, suc, ◌+◌, ◌*◌, ◌/◌, ◌%◌, ◌^◌, ◌<◌, ◌≤◌, true, refl, sym, ap, ◌∙◌, arith, inl, inr}
use Rattle.std.specs.Int.{is_power_of_two, IsPowerOfTwo}
use Rattle.std.specs.Int.RustNames.{count_ones}
use Rattle.std.proofs.lemmas.Bool.{cases_lt, eqb-true, eq-eqb}
use Rattle.std.proofs.Math.Nat.{pow-suc}
use Rattle.std.proofs.lemmas.Nat.{ones_cat, zero_from_ones, pow_below}
use Rattle.jc_place.specs.Place.{IsTableSize}

-- one digit more
half_ones : (n : ℕ) → count_ones n ≡ count_ones (n / 2) + count_ones (n % 2)
half_ones n =
    let parts : n / 2 * 2 ^ 1 + n % 2 ≡ n = omega arith in
    sym (ap count_ones parts) ∙ ones_cat 1 (n / 2) (n % 2) (omega arith)

power_from_ones : (d n : ℕ) → n ≤ d → count_ones n ≡ 1 → IsPowerOfTwo n
unfolding count_ones
power_from_ones zero n low one = (let none : n ≡ 0 = omega arith in let e : count_ones n ≡ 0 = ap count_ones none in absurd (omega arith))
power_from_ones (suc d) n low one = elim (cases_lt (n % 2) 1) [
  | inl even ↦ (
      let last : count_ones (n % 2) ≡ 0 = (let e : n % 2 ≡ 0 = omega arith in ap count_ones e) in
      let parts = half_ones n in
      let k = power_from_ones d (n / 2) (omega arith) (omega arith) in
      (k.0 + 1, double n k.0 even k.1))
  | inr odd ↦ (
      let last : count_ones (n % 2) ≡ 1 = (let e : n % 2 ≡ 1 = omega arith in ap count_ones e) in
      let parts = half_ones n in
      let rest = zero_from_ones (n / 2) (omega arith) in
      (0, omega arith))
]
  where
    double : (n k : ℕ) → n % 2 < 1 → n / 2 ≡ 2 ^ k → n ≡ 2 ^ (k + 1)
    double n k even half = let twice : 2 ^ (k + 1) ≡ 2 ^ k * 2 = ap (λ (m : ℕ). 2 ^ m) (sym (after k)) ∙ pow-suc 2 k in omega arith
      where
        after : (k : ℕ) → suc k ≡ k + 1
        after k = omega arith

ones_power : (k : ℕ) → count_ones (2 ^ k) ≡ 1
unfolding count_ones
ones_power zero = refl
ones_power (suc k) =
    let twice : 2 ^ suc k ≡ 2 ^ k * 2 ^ 1 + 0 = (let e = pow-suc 2 k in omega arith) in
    let more = ones_cat 1 (2 ^ k) 0 (omega arith) in
    let none : count_ones 0 ≡ 0 = refl in
    let rest = ones_power k in
    ap count_ones twice ∙ omega arith

pub sized : (n : ℕ) → is_power_of_two n ≡ true → 2 ≤ n → n ≤ 65536 → IsTableSize n
sized n test least most =
    let power = power_from_ones n n (omega arith) (eqb-true (count_ones n) 1 test) in
    record {
      exponent = power.0;
      power = power.1;
      least = elim (cases_lt power.0 1) [
        | inl none ↦ (let zeroth : power.0 ≡ 0 = omega arith in let one : n ≡ 2 ^ 0 = power.1 ∙ ap (λ (m : ℕ). 2 ^ m) zeroth in absurd (omega arith))
        | inr some ↦ some
      ];
      most = elim (cases_lt 16 power.0) [
        | inl large ↦ (let more = pow_below 16 power.0 large in let is = power.1 in absurd (omega arith))
        | inr small ↦ small
      ];
    }

-- what the test asks is true of each number of buckets

pub size_power : (n : ℕ) → IsTableSize n → is_power_of_two n ≡ true
size_power n size = eq-eqb (count_ones n) 1 (ap count_ones size.power ∙ ones_power size.exponent)

pub size_least : (n : ℕ) → IsTableSize n → 2 ≤ n
size_least n size = elim (cases_lt 1 size.exponent) [
  | inl more ↦ (let larger = pow_below 1 size.exponent more in let is = size.power in omega arith)
  | inr one ↦ (let least = size.least in let first : size.exponent ≡ 1 = omega arith in let two : n ≡ 2 ^ 1 = size.power ∙ ap (λ (m : ℕ). 2 ^ m) first in omega arith)
]
