-- The buckets of a key where there are twice as many.
use Rattle.std.proofs.Common.{◌≡◌, ℕ, ◌+◌, ◌*◌, ◌^◌, ◌%◌, ◌/◌, ◌<◌, List, sym, ap, ap₂, ◌∙◌, arith, inl, inr}
use Rattle.std.specs.Int.Bits.{bit_xor, bit_or}
use Rattle.std.proofs.lemmas.Nat.{xor_mod, mod_below, mod_low, pow_pos, pow-add, mod-pow-add}
use Rattle.std.proofs.lemmas.Bool.{cases_lt}
use Rattle.jc_place.specs.declared.place.Place.{Place}
use Rattle.jc_place.specs.Place.{IsTableSize, alternate_of, apart_by, mix_of}
use Rattle.jc_cuckoo.specs.Cells.{first_bucket, second_bucket}

pub size_twice : (n : ℕ) → IsTableSize n → n < 65536 → IsTableSize (2 * n)
size_twice n size below = record {
  exponent = size.exponent + 1;
  power = let power = size.power in let more : 2 ^ (size.exponent + 1) ≡ 2 ^ size.exponent * 2 ^ 1 = pow-add 2 size.exponent 1 in omega arith;
  least = let least = size.least in omega arith;
  most = elim (cases_lt size.exponent 16) [
    | inl less ↦ (omega arith)
    | inr all ↦ (let most = size.most in let e : size.exponent ≡ 16 = omega arith in let whole : n ≡ 2 ^ 16 = size.power ∙ ap (λ (x : ℕ). 2 ^ x) e in absurd (omega arith))
  ];
}

half_pow : (x e : ℕ) → x % 2 ^ (1 + e) % 2 ^ e ≡ x % 2 ^ e
half_pow x e = ap (λ (y : ℕ). y % 2 ^ e) (mod-pow-add x 1 e) ∙ mod_low (x / 2 ^ e % 2 ^ 1) e (x % 2 ^ e) (mod_below x (2 ^ e) (pow_pos e))

twice_pow : (n e : ℕ) → n ≡ 2 ^ e → 2 * n ≡ 2 ^ (1 + e)
twice_pow n e power = let more : 2 ^ (1 + e) ≡ 2 ^ 1 * 2 ^ e = pow-add 2 1 e in omega arith

pub half : (x n : ℕ) → IsTableSize n → x % (2 * n) % n ≡ x % n
half x n size =
    ap₂ (λ (m k : ℕ). x % m % k) (twice_pow n size.exponent size.power) size.power
    ∙ (half_pow x size.exponent ∙ ap (λ (k : ℕ). x % k) (sym size.power))

half_xor : (x y n : ℕ) → IsTableSize n → bit_xor x y % n ≡ bit_xor (x % n) (y % n)
half_xor x y n size =
    ap (λ (m : ℕ). bit_xor x y % m) size.power
    ∙ (xor_mod x y size.exponent ∙ ap (λ (m : ℕ). bit_xor (x % m) (y % m)) (sym size.power))

pub half_other : (n t b : ℕ) → IsTableSize n → alternate_of (2 * n) t b % n ≡ alternate_of n t (b % n)
unfolding apart_by
half_other n t b size = half_xor b (bit_or (mix_of t) 1 % (2 * n)) n size ∙ ap (bit_xor (b % n)) (half (bit_or (mix_of t) 1) n size)

-- a bucket is, of twice as many, part of one of the two buckets of each of its rows
pub first_half : (p : ℕ → List ℕ → Place) (n : ℕ) (x : ℕ × List ℕ) → IsTableSize n → first_bucket p (2 * n) x % n ≡ first_bucket p n x
first_half p n x size = half (p x.0 x.1).first n size

pub second_half : (p : ℕ → List ℕ → Place) (n : ℕ) (x : ℕ × List ℕ) → IsTableSize n → second_bucket p (2 * n) x % n ≡ second_bucket p n x
second_half p n x size = half_other n (p x.0 x.1).tag (first_bucket p (2 * n) x) size ∙ ap (alternate_of n (p x.0 x.1).tag) (first_half p n x size)
