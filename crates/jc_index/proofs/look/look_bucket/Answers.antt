use Rattle.std.proofs.Common.{◌≡◌, ◌+◌, ◌-◌, ◌*◌, ◌/◌, ◌<◌, ◌≤◌, ℕ, List, drop, refl, arith, ap, sym, subst, ◌∙◌}
use Rattle.jc_index.specs.Stripes.{IsOneOf}
use Rattle.jc_index.specs.Layout.{bucket_slots, stripe_of}
use Rattle.jc_index.specs.Spelling.{key_of_words}
use Rattle.jc_index.specs.Found.{first_seen}
use Rattle.jc_index.specs.Passes.{slots_in_bucket}
use Rattle.jc_index.proofs.Firsts.{from_slot, passed, spelt_slot, taken}
use Rattle.jc_index.proofs.Noting.{noted_and, noted_as, unnoted}
use Rattle.jc_index.proofs.look.look_bucket.Goals as goal

under : (js : List ℕ) (bucket slot : ℕ) → IsOneOf (stripe_of bucket) js → bucket_slots * bucket ≤ slot → slot < bucket_slots * bucket + bucket_slots → IsOneOf (stripe_of (slot / bucket_slots)) js
under js bucket slot own start few = let e : bucket ≡ slot / bucket_slots = omega (arith, start, few) in subst (λ (z : ℕ). IsOneOf (stripe_of z) js) e own

pub loop-slot-init : goal.loop-slot-init
loop-slot-init g c =
    let b = c.args.bucket in
    let me = c.args.sought.now in
    let none : bucket_slots * b - bucket_slots * b ≡ 0 = omega arith in
    record {
      same = refl;
      young = c.requires.young;
      start = omega arith;
      few = omega arith;
      noted = λ js own. unnoted js c.args.reader.now.seat c.args.reader.now.reads c.requires.young (λ words at. ap (λ (n : ℕ). first_seen me.id (key_of_words me.words) me.moment (drop n (slots_in_bucket words b))) (sym none));
    }

pub returns-then-is_some-clause-noted : goal.returns-then-is_some-clause-noted
returns-then-is_some-clause-noted g c js own =
    let b = c.args.bucket in
    let slot = c.loop-slot.slot in
    let start = c.loop-slot.invariant.start in
    let me = c.args.sought.now in
    let it = c.look_slot-live in
    let few : slot < bucket_slots * b + bucket_slots = omega (arith, c.loop-slot-test.true) in
    noted_as (noted_and (c.loop-slot.invariant.noted js own) (it.ensures.noted js (under js b slot own start few)))
    (λ words k at. taken it.result _ _ (sym c.is_some.ensures ∙ c.if-is_some.true) (k.1 (spelt_slot words b slot start few at)) ∙ (sym (from_slot me.id (key_of_words me.words) me.moment words b slot start few) ∙ sym (k.0 at)))

pub loop-slot-preserved : goal.loop-slot-preserved
loop-slot-preserved g c =
    let b = c.args.bucket in
    let slot = c.loop-slot.slot in
    let start = c.loop-slot.invariant.start in
    let me = c.args.sought.now in
    let it = c.look_slot-live in
    let few : slot < bucket_slots * b + bucket_slots = omega (arith, c.loop-slot-test.true) in
    record {
      same = it.ensures.same ∙ c.loop-slot.invariant.same;
      young = it.ensures.young;
      start = omega (arith, start);
      few = omega (arith, few);
      noted = λ js own. noted_as (noted_and (c.loop-slot.invariant.noted js own) (it.ensures.noted js (under js b slot own start few)))
          (λ words k at. k.0 at ∙ (from_slot me.id (key_of_words me.words) me.moment words b slot start few ∙ sym (passed it.result _ _ (sym c.is_some.ensures ∙ c.if-is_some.false) (k.1 (spelt_slot words b slot start few at)))));
    }

pub returns-clause-noted : goal.returns-clause-noted
returns-clause-noted g c js own =
    let b = c.args.bucket in
    let me = c.args.sought.now in
    let all : c.loop-slot.slot - bucket_slots * b ≡ bucket_slots = omega (arith, c.loop-slot-test.false, c.loop-slot.invariant.few) in
    noted_as (c.loop-slot.invariant.noted js own) (λ words k at. sym (k at ∙ ap (λ (n : ℕ). first_seen me.id (key_of_words me.words) me.moment (drop n (slots_in_bucket words b))) all))
