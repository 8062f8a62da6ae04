-- No bucket overflows where the rows of one go to two.
use Rattle.std.proofs.Common.{◌≡◌, ℕ, ◌+◌, ◌-◌, ◌*◌, ◌%◌, ◌/◌, ◌<◌, ◌≤◌, Bool, true, false, List, Option, Some, None, ◌⊎◌, refl, sym, ap, ◌∙◌, subst, arith, inl, inr}
use Rattle.std.proofs.Math.Nat.{mod-eq_of_lt, add-mod_left}
use Rattle.std.proofs.lemmas.Bool.{cases_lt}
use Rattle.std.proofs.lemmas.Nat.{mod_below}
use Rattle.std.proofs.lemmas.List.{get_or-set_other}
use Rattle.jc_place.specs.declared.place.Place.{Place}
use Rattle.jc_place.specs.Place.{IsTableSize, alternate_of}
use Rattle.jc_place.proofs.Other.{counts, size_positive}
use Rattle.jc_cuckoo.specs.declared.held.Held.{Held}
use Rattle.jc_cuckoo.specs.Cells.{cell, IsBucketOf, IsFull, first_bucket, second_bucket}
use Rattle.jc_cuckoo.specs.Double.{IsBlankFrom, IsFilled}
use Rattle.jc_cuckoo.proofs.Twice.{first_half, second_half}

-- a slot's bucket became part of this one, of twice as many
pub record Heir (n at bucket : ℕ) : Type 0 where
  pub from : at < 4 * n
  pub below : bucket < 2 * n
  pub half : bucket % n ≡ at / 4

two_halves : (n b t : ℕ) → t < 2 * n → t % n ≡ b → (t ≡ b) ⊎ (t ≡ n + b)
two_halves n b t below half = elim (cases_lt t n) [
  | inl low ↦ inl (sym (mod-eq_of_lt low) ∙ half)
  | inr high ↦ (let split : n + (t - n) ≡ t = omega arith in let rest : t - n < n = omega arith in
      let e : t - n ≡ b = sym (mod-eq_of_lt rest) ∙ (sym (add-mod_left n (t - n)) ∙ (ap (λ (x : ℕ). x % n) split ∙ half)) in inr (omega arith))
]

-- its slot that is as far on as the old one is empty
free : (n at t : ℕ) (cs : List (Option Held)) → Heir n at t → IsBlankFrom n cs at → cell cs (4 * t + at % 4) ≡ None
free n at t cs heir blank = let from = heir.from in let here = blank.blank at (omega arith) from in elim (two_halves n (at / 4) t heir.below heir.half) [
  | inl low ↦ (let e : 4 * t + at % 4 ≡ at = omega arith in ap (cell cs) e ∙ here.0)
  | inr high ↦ (let e : 4 * t + at % 4 ≡ 4 * n + at = omega arith in ap (cell cs) e ∙ here.1)
]

pub never_full : (n at t : ℕ) (cs : List (Option Held)) → Heir n at t → IsBlankFrom n cs at → IsFull cs t → ⊥
never_full n at t cs heir blank full = full.full (4 * t + at % 4) (omega arith) (omega arith) (free n at t cs heir blank)

-- the slot that was filled is no later one
filled_below : (n at t : ℕ) (cs ds : List (Option Held)) (h : Held) → Heir n at t → IsBlankFrom n cs at → (f : IsFilled cs ds t h) → f.at ≤ 4 * t + at % 4
filled_below n at t cs ds h heir blank f = elim (cases_lt (4 * t + at % 4) f.at) [
  | inl past ↦ absurd (f.first.first (4 * t + at % 4) (omega arith) past (free n at t cs heir blank))
  | inr up ↦ up
]

pub still_blank : (n at t : ℕ) (cs ds : List (Option Held)) (h : Held) → Heir n at t → IsBlankFrom n cs at → IsFilled cs ds t h → IsBlankFrom n ds (at + 1)
still_blank n at t cs ds h heir blank f = record {
  blank = λ j after below. (
      let old = blank.blank j (omega arith) below in
      let last = filled_below n at t cs ds h heir blank f in
      let above = f.first.vacant.above in
      let from = heir.from in
      let low : j ≡ f.at → ⊥ = λ e. elim (two_halves n (at / 4) t heir.below heir.half) [
        | inl a ↦ omega arith
        | inr b ↦ omega arith
      ] in
      let high : 4 * n + j ≡ f.at → ⊥ = λ e. elim (two_halves n (at / 4) t heir.below heir.half) [
        | inl a ↦ omega arith
        | inr b ↦ omega arith
      ] in (
        ap (λ (l : List (Option Held)). cell l j) f.cells ∙ (get_or-set_other cs f.at j (Some h) None low ∙ old.0),
        ap (λ (l : List (Option Held)). cell l (4 * n + j)) f.cells ∙ (get_or-set_other cs f.at (4 * n + j) (Some h) None high ∙ old.1),
      ));
}

pub blank_on : (n at : ℕ) (cs : List (Option Held)) → IsBlankFrom n cs at → IsBlankFrom n cs (at + 1)
blank_on n at cs blank = record { blank = λ j after below. blank.blank j (omega arith) below }

-- which of its two buckets

pub first_heir : (p : ℕ → List ℕ → Place) (n m at : ℕ) (place : Place) (x : ℕ × List ℕ) → IsTableSize m → m ≡ 2 * n → at < 4 * n → place ≡ p x.0 x.1 → place.first % m % n ≡ at / 4 → Heir n at (place.first % m)
first_heir p n m at place x size twice from is half = record { from = from; below = subst (λ (k : ℕ). place.first % m < k) twice (mod_below place.first m (size_positive m (counts m size))); half = half }

pub second_heir : (p : ℕ → List ℕ → Place) (n m at s : ℕ) (place : Place) (x : ℕ × List ℕ) → IsTableSize n → m ≡ 2 * n → at < 4 * n → place ≡ p x.0 x.1 → s ≡ alternate_of m place.tag (place.first % m) → s < m → (place.first % m % n ≡ at / 4 → ⊥) → IsBucketOf p n x (at / 4) → Heir n at s
second_heir p n m at s place x size twice from is second below other bucket = record {
  from = from;
  below = omega arith;
  half = elim bucket [
    | inl a ↦ absurd (other (ap (λ (y : Place). y.first % m % n) is ∙ (ap (λ (k : ℕ). first_bucket p k x % n) twice ∙ (first_half p n x size ∙ sym a))))
    | inr b ↦ ap (λ (y : ℕ). y % n) (second ∙ ap (λ (y : Place). alternate_of m y.tag (y.first % m)) is) ∙ (ap (λ (k : ℕ). second_bucket p k x % n) twice ∙ (second_half p n x size ∙ sym b))
  ];
}

-- an answer that can't be no
pub surely : {A : Type 0} (answer : Bool) → (answer ≡ true → A) → (answer ≡ false → ⊥) → A
surely true so never = so refl
surely false so never = absurd (never refl)
