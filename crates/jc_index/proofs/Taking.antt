-- The versions taken.
use Rattle.std.proofs.Common.{◌≡◌, ℕ, zero, suc, ◌<◌, ◌==◌, Bool, true, false, List, [], ◌∷◌, ◌++◌, length, nat_lt, refl, sym, subst, inl, inr, arith, eqb-true}
use Rattle.std.specs.List.{All}
use Rattle.jc_index.specs.Stripes.{IsOneOf}
use Rattle.jc_index.specs.StripeLayout.{common, stripe_count, version_count}
use Rattle.jc_index.specs.Layout.{stripe_of}
use Rattle.jc_index.specs.Versions.{version_pair_by, stash_if, versions_of}

abbrev Few : List ℕ → Type 0
Few [] = Unit {0}
Few (x ∷ xs) = (x < version_count) × Few xs

few_all : (xs : List ℕ) → Few xs → All (λ j. j < version_count) xs
few_all [] f k d inside = absurd (omega arith)
few_all (x ∷ xs) f zero d inside = f.0
few_all (x ∷ xs) f (suc k) d inside = few_all xs f.1 k d (omega arith)

few_by : (e l s : Bool) (a b : ℕ) → a < stripe_count → b < stripe_count → Few (version_pair_by e l a b ++ stash_if s)
few_by true l true a b p q = (omega arith, (omega arith, tt))
few_by true l false a b p q = (omega arith, tt)
few_by false true true a b p q = (omega arith, (omega arith, (omega arith, tt)))
few_by false true false a b p q = (omega arith, (omega arith, tt))
few_by false false true a b p q = (omega arith, (omega arith, (omega arith, tt)))
few_by false false false a b p q = (omega arith, (omega arith, tt))

pub few_versions : (one two : ℕ) (s : Bool) → All (λ j. j < version_count) (versions_of one two s)
few_versions one two s = few_all (versions_of one two s) (few_by (stripe_of one == stripe_of two) (nat_lt (stripe_of one) (stripe_of two)) s (stripe_of one) (stripe_of two) (omega arith) (omega arith))

some_by : (e l s : Bool) (a b : ℕ) → 0 < length (version_pair_by e l a b ++ stash_if s)
some_by true l true a b = omega arith
some_by true l false a b = omega arith
some_by false true true a b = omega arith
some_by false true false a b = omega arith
some_by false false true a b = omega arith
some_by false false false a b = omega arith

pub some_versions : (one two : ℕ) (s : Bool) → 0 < length (versions_of one two s)
some_versions one two s = some_by (stripe_of one == stripe_of two) (nat_lt (stripe_of one) (stripe_of two)) s (stripe_of one) (stripe_of two)

first_by : (e l s : Bool) (a b : ℕ) → IsOneOf a (version_pair_by e l a b ++ stash_if s)
first_by true l true a b = inl refl
first_by true l false a b = inl refl
first_by false true true a b = inl refl
first_by false true false a b = inl refl
first_by false false true a b = inr (inl refl)
first_by false false false a b = inr (inl refl)

second_by : (e l s : Bool) (a b : ℕ) → (e ≡ true → a ≡ b) → IsOneOf b (version_pair_by e l a b ++ stash_if s)
second_by true l true a b same = inl (sym (same refl))
second_by true l false a b same = inl (sym (same refl))
second_by false true true a b same = inr (inl refl)
second_by false true false a b same = inr (inl refl)
second_by false false true a b same = inl refl
second_by false false false a b same = inl refl

stash_by : (e l : Bool) (a b : ℕ) → IsOneOf common (version_pair_by e l a b ++ stash_if true)
stash_by true l a b = inr (inl refl)
stash_by false true a b = inr (inr (inl refl))
stash_by false false a b = inr (inr (inl refl))

pub first_in : (one two : ℕ) (s : Bool) → IsOneOf (stripe_of one) (versions_of one two s)
first_in one two s = first_by (stripe_of one == stripe_of two) (nat_lt (stripe_of one) (stripe_of two)) s (stripe_of one) (stripe_of two)

pub second_in : (one two : ℕ) (s : Bool) → IsOneOf (stripe_of two) (versions_of one two s)
second_in one two s = second_by (stripe_of one == stripe_of two) (nat_lt (stripe_of one) (stripe_of two)) s (stripe_of one) (stripe_of two) (eqb-true (stripe_of one) (stripe_of two))

pub stash_in : (one two : ℕ) → IsOneOf common (versions_of one two true)
stash_in one two = stash_by (stripe_of one == stripe_of two) (nat_lt (stripe_of one) (stripe_of two)) (stripe_of one) (stripe_of two)

-- the versions that a lookup reads are those of its two buckets and the stash's
pub all_in : (js : List ℕ) (one two : ℕ) → js ≡ versions_of one two true → IsOneOf (stripe_of one) js × IsOneOf (stripe_of two) js × IsOneOf common js
all_in js one two is =
    subst (λ (l : List ℕ). IsOneOf (stripe_of one) l × IsOneOf (stripe_of two) l × IsOneOf common l) (sym is) (first_in one two true, second_in one two true, stash_in one two)
