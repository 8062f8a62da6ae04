use Rattle.std.proofs.Common.{◌≡◌, ◌+◌, ◌/◌, ◌<◌, ◌%◌, ◌^◌, ℕ, suc, List, take, get_or, inl, inr, refl, arith, ap, sym, subst, ◌∙◌}
use Rattle.jc_model.specs.Limits.{key_words}
use Rattle.jc_index.specs.Stripes.{IsOneOf, glance_of}
use Rattle.jc_index.specs.Layout.{bucket_slots, slot_place, slot_words, stripe_of}
use Rattle.jc_index.specs.Spelling.{group_of, key_words_at, words_at}
use Rattle.jc_index.proofs.Judging.{whole}
use Rattle.jc_index.proofs.Noting.{first_of_words, group_at, note_is, noted_and, noted_as, nth_word, word_more}
use Rattle.jc_index.proofs.look.head_at.Goals as goal

under : (js : List ℕ) (slot p k : ℕ) → IsOneOf (stripe_of (slot / bucket_slots)) js → k < slot_words → p ≡ slot_place slot + k → IsOneOf (group_of p) js
under js slot p k own few e = subst (λ (z : ℕ). IsOneOf z js) (sym (group_at slot p k few e)) own

pub returns-then-not-is_of_cache-clause-noted : goal.returns-then-not-is_of_cache-clause-noted
returns-then-not-is_of_cache-clause-noted g c js own =
    let slot = c.args.slot in
    let p = slot_place slot in
    noted_as (note_is js c.args.reader.now.seat c.note-head.new.self.seat p c.note-head.result (under js slot p 0 own (omega arith) (omega arith)) c.note-head.ensures.same c.note-head.ensures.view)
    (λ words is _. inl (λ e. c.is_of_cache.ensures.other c.if-not-is_of_cache.true (ap (λ (n : ℕ). n % 2 ^ 33) is ∙ e)))

pub loop-k-init : goal.loop-k-init
loop-k-init g c =
    let slot = c.args.slot in
    let p = slot_place slot in
    record {
      same = c.note-head.ensures.same;
      young = ap (λ v. (glance_of v).settled) c.note-head.ensures.view;
      few = omega arith;
      noted = λ js own. noted_as (note_is js c.args.reader.now.seat c.note-head.new.self.seat p c.note-head.result (under js slot p 0 own (omega arith) (omega arith)) c.note-head.ensures.same c.note-head.ensures.view) (λ words is. (is, refl));
    }

pub returns-then-note-sought-clause-same : goal.returns-then-note-sought-clause-same
returns-then-note-sought-clause-same g c = c.note.ensures.same ∙ c.loop-k.invariant.same

pub returns-then-note-sought-clause-noted : goal.returns-then-note-sought-clause-noted
returns-then-note-sought-clause-noted g c js own =
    let slot = c.args.slot in
    let p = slot_place slot in
    let k = c.loop-k.k in
    let it = c.note in
    let few : k < key_words = omega (arith, c.loop-k-test.true, c.args.sought.now.few) in
    noted_as (noted_and (c.loop-k.invariant.noted js own) (note_is js c.loop-k.reader.seat it.new.self.seat (p + 1 + k) it.result (under js slot (p + 1 + k) (suc k) own (omega (arith, few)) (omega arith)) it.ensures.same it.ensures.view))
    (λ words at _. let e : p + 1 + k ≡ suc p + k = omega arith in
    inr (λ (same : key_words_at words slot ≡ c.args.sought.now.words). c.if-note-sought.true (at.1 ∙ (ap (λ (z : ℕ). get_or words z 0) e ∙ (sym (nth_word words (suc p) key_words k few) ∙ ap (λ (l : List ℕ). get_or l k 0) same)))))

pub loop-k-preserved : goal.loop-k-preserved
loop-k-preserved g c =
    let slot = c.args.slot in
    let p = slot_place slot in
    let k = c.loop-k.k in
    let it = c.note in
    let few : k < key_words = omega (arith, c.loop-k-test.true, c.args.sought.now.few) in
    record {
      same = it.ensures.same ∙ c.loop-k.invariant.same;
      young = ap (λ v. (glance_of v).settled) it.ensures.view;
      few = omega (arith, c.loop-k-test.true);
      noted = λ js own. noted_as (noted_and (c.loop-k.invariant.noted js own) (note_is js c.loop-k.reader.seat it.new.self.seat (p + 1 + k) it.result (under js slot (p + 1 + k) (suc k) own (omega (arith, few)) (omega arith)) it.ensures.same it.ensures.view))
          (λ words at. (at.0.0, word_more c.args.sought.now.words words (suc p) (p + 1 + k) k (omega arith) (omega (arith, few)) at.0.1 (sym c.if-note-sought.false ∙ at.1)));
    }

pub returns-clause-same : goal.returns-clause-same
returns-clause-same g c = c.loop-k.invariant.same

pub returns-clause-young : goal.returns-clause-young
returns-clause-young g c = c.loop-k.invariant.young

pub returns-clause-noted : goal.returns-clause-noted
returns-clause-noted g c js own =
    let me = c.args.sought.now in
    let p = slot_place c.args.slot in
    let number = c.is_of_cache.ensures.same c.if-not-is_of_cache.false in
    let all : c.loop-k.k ≡ me.count = omega (arith, c.loop-k-test.false, c.loop-k.invariant.few) in
    noted_as (c.loop-k.invariant.noted js own)
    (λ words read at.
    let first : take me.count me.words ≡ take me.count (key_words_at words c.args.slot) =
    subst (λ (n : ℕ). take n me.words ≡ words_at words (suc p) n) all read.1 ∙ sym (first_of_words words (suc p) key_words me.count me.few) in
    (read.0, number, whole me words c.args.slot at c.note-head.result read.0 number first))
