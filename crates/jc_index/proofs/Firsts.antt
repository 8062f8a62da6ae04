-- The first of several answers, where one looks no further than to that.
use Rattle.std.proofs.Common.{◌≡◌, ℕ, zero, suc, ◌+◌, ◌-◌, ◌*◌, ◌<◌, ◌≤◌, Bool, true, false, List, drop, Option, None, Some, is_some, refl, ap, subst, ◌∙◌, arith}
use Rattle.jc_index.specs.Layout.{bucket_slots}
use Rattle.jc_index.specs.Spelling.{slot_spelt_at}
use Rattle.jc_index.specs.Found.{answer_with_stash, first_seen, first_answer, seen_in_slot}
use Rattle.jc_index.specs.Passes.{IsSpeltAt, IsSpeltIn, slots_in_bucket}

-- an answer is told
pub taken : (x s y : Option Bool) → is_some x ≡ true → x ≡ s → x ≡ first_answer s y
taken (Some b) s y some is = ap (λ z. first_answer z y) is
taken None s y some is = absurd cc

-- where there is none, the next one is
pub passed : (x s y : Option Bool) → is_some x ≡ false → x ≡ s → y ≡ first_answer s y
passed None s y none is = ap (λ z. first_answer z y) is
passed (Some b) s y none is = absurd cc

-- the slots of a bucket from one of them on
from_nth : (id : ℕ) (key : List ℕ) (now : ℕ) (words : List ℕ) (b n : ℕ) → n < bucket_slots
    → first_seen id key now (drop n (slots_in_bucket words b)) ≡ first_answer (seen_in_slot id key now (slot_spelt_at words (bucket_slots * b + n))) (first_seen id key now (drop (n + 1) (slots_in_bucket words b)))
from_nth id key now words b zero few =
    let e : bucket_slots * b ≡ bucket_slots * b + 0 = omega arith in ap (λ (k : ℕ). first_answer (seen_in_slot id key now (slot_spelt_at words k)) (first_seen id key now (drop 1 (slots_in_bucket words b)))) e
from_nth id key now words b (suc zero) few = refl
from_nth id key now words b (suc (suc zero)) few = refl
from_nth id key now words b (suc (suc (suc zero))) few = refl
from_nth id key now words b (suc (suc (suc (suc n)))) few = absurd (omega arith)

pub from_slot : (id : ℕ) (key : List ℕ) (now : ℕ) (words : List ℕ) (b slot : ℕ) → bucket_slots * b ≤ slot → slot < bucket_slots * b + bucket_slots
    → first_seen id key now (drop (slot - bucket_slots * b) (slots_in_bucket words b)) ≡ first_answer (seen_in_slot id key now (slot_spelt_at words slot)) (first_seen id key now (drop (slot + 1 - bucket_slots * b) (slots_in_bucket words b)))
from_slot id key now words b slot start few =
    let n = slot - bucket_slots * b in
    let is : bucket_slots * b + n ≡ slot = omega (arith, start) in
    let next : n + 1 ≡ slot + 1 - bucket_slots * b = omega (arith, start) in
    from_nth id key now words b n (omega (arith, start, few)) ∙ (λ i. first_answer (seen_in_slot id key now (slot_spelt_at words (is i))) (first_seen id key now (drop (next i) (slots_in_bucket words b))))

-- each slot of a bucket is spelt
spelt_nth : (words : List ℕ) (b n : ℕ) → n < bucket_slots → IsSpeltIn words b → IsSpeltAt words (bucket_slots * b + n)
spelt_nth words b zero few at = let e : bucket_slots * b ≡ bucket_slots * b + 0 = omega arith in subst (IsSpeltAt words) e at.0
spelt_nth words b (suc zero) few at = at.1
spelt_nth words b (suc (suc zero)) few at = at.2
spelt_nth words b (suc (suc (suc zero))) few at = at.3
spelt_nth words b (suc (suc (suc (suc n)))) few at = absurd (omega arith)

pub spelt_slot : (words : List ℕ) (b slot : ℕ) → bucket_slots * b ≤ slot → slot < bucket_slots * b + bucket_slots → IsSpeltIn words b → IsSpeltAt words slot
spelt_slot words b slot start few at =
    let n = slot - bucket_slots * b in let is : bucket_slots * b + n ≡ slot = omega (arith, start) in subst (IsSpeltAt words) is (spelt_nth words b n (omega (arith, start, few)) at)

-- an answer is told whatever lies in the stash
pub answered : (x s : Option Bool) (count : ℕ) → is_some x ≡ true → x ≡ s → x ≡ answer_with_stash s count
answered (Some b) s count some is = ap (λ z. answer_with_stash z count) is
answered None s count some is = absurd cc

-- where there is none, the stash's count tells
pub unanswered : (x s : Option Bool) (count : ℕ) → is_some x ≡ false → x ≡ s → answer_with_stash None count ≡ answer_with_stash s count
unanswered None s count none is = ap (λ z. answer_with_stash z count) is
unanswered (Some b) s count none is = absurd cc
