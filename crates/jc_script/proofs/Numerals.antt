-- The number of a text, by the numeral in it.
use Rattle.std.proofs.Common.{◌≡◌, ℕ, ℤ, negsuc, ◌==◌, List, get_or, drop, Bool, true, false, Option, Some, None, refl}
use Rattle.std.specs.Prelude.{if◌then◌else◌, option_and_then, unwrap_or, Float}
use Rattle.fast_float.specs.Text.{Parts, scan}
use Rattle.serde_json.specs.Data.{Num, negative, float}
use Rattle.serde_json.specs.Find.{as_u64}
use Rattle.serde_json.specs.Read.{number_of, number_from}
use Rattle.jc_script.specs.Tree.{num_of}

pub with_minus : (s : List ℕ) → (get_or s 0 0 == 45) ≡ true → number_from true (scan (drop 1 s)) ≡ number_of s
unfolding number_of
with_minus s e = rw e refl

pub without_minus : (s : List ℕ) → (get_or s 0 0 == 45) ≡ false → number_from false (scan s) ≡ number_of s
unfolding number_of
without_minus s e = rw e refl

by_number : (o : Option Num) → option_and_then as_u64 o ≡ as_u64 (unwrap_or o (negative (negsuc 0)))
by_number None = refl
by_number (Some n) = refl

pub whole_by_number : (s : List ℕ) → option_and_then as_u64 (number_of s) ≡ as_u64 (num_of s)
unfolding num_of
whole_by_number s = by_number (number_of s)

no_whole : (b c : Bool) (z : ℤ) (x : Float) → None ≡ option_and_then as_u64 (if b then Some (negative z) else (if c then Some (float x) else None))
no_whole true c z x = refl
no_whole false true z x = refl
no_whole false false z x = refl

-- a number with a minus is below zero, or a float
pub never_whole : (p : Parts) → None ≡ option_and_then as_u64 (number_from true p)
never_whole p = no_whole _ _ _ _
