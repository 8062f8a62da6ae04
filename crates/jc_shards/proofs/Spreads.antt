-- What a spread has above its 32 bits: nothing.
use Rattle.std.proofs.Common.{◌≡◌, ℕ, ◌/◌, ◌%◌, ◌^◌, ◌<◌, ◌≤◌, false, sym, ap, arith}
use Rattle.std.proofs.Math.Nat.{div-eq_of_lt, mod-eq_of_lt}
use Rattle.std.proofs.Math.Pow.{pow_mono}
use Rattle.jc_shards.specs.Dealing.{goes_right}

below : (n bits : ℕ) → n < 2 ^ 32 → 32 ≤ bits → n < 2 ^ bits
below n bits less many = omega (arith, pow_mono {i = 32} {j = bits} many)

pub never-right : (n level : ℕ) → n < 2 ^ 32 → 32 ≤ level → goes_right (n / 2 ^ level) ≡ false
never-right n level less many = ap goes_right (div-eq_of_lt (below n level less many))

pub whole-way : (n levels : ℕ) → n < 2 ^ 32 → 32 ≤ levels → n ≡ n % 2 ^ levels
whole-way n levels less many = sym (mod-eq_of_lt (below n levels less many))
