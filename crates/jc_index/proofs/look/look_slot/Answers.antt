use Rattle.std.proofs.Common.{◌+◌, ℕ, arith, sym, subst}
use Rattle.jc_index.specs.Stripes.{IsOneOf}
use Rattle.jc_index.specs.Layout.{moment_place, slot_place}
use Rattle.jc_index.specs.Spelling.{group_of}
use Rattle.jc_index.specs.Passes.{IsHeadAt}
use Rattle.jc_index.proofs.Judging.{absent, forever, until}
use Rattle.jc_index.proofs.Noting.{group_at, note_is, noted_and, noted_as}
use Rattle.jc_index.proofs.look.look_slot.Goals as goal

pub returns-in_default-clause-noted : goal.returns-in_default-clause-noted
returns-in_default-clause-noted g c js own =
    let me = c.args.sought.now in
    noted_as (c.head_at.ensures.noted js own) (λ words here at. absent me words c.args.slot at (subst (IsHeadAt me.id me.words words c.args.slot) c.in_default.is (here at)))

pub returns-then-head-ge-NEVER-clause-noted : goal.returns-then-head-ge-NEVER-clause-noted
returns-then-head-ge-NEVER-clause-noted g c js own =
    let me = c.args.sought.now in
    noted_as (c.head_at.ensures.noted js own) (λ words here at. forever me words c.args.slot at c.in-Some.head c.if-head-ge-NEVER.true (subst (IsHeadAt me.id me.words words c.args.slot) c.in-Some.is (here at)))

pub returns-clause-noted : goal.returns-clause-noted
returns-clause-noted g c js own =
    let me = c.args.sought.now in
    let slot = c.args.slot in
    let p = slot_place slot + moment_place in
    let it = c.note-moment in
    let under : IsOneOf (group_of p) js = subst (λ (z : ℕ). IsOneOf z js) (sym (group_at slot p moment_place (omega arith) (omega arith))) own in
    noted_as (noted_and (c.head_at.ensures.noted js own) (note_is js c.head_at.new.reader.seat it.new.self.seat p it.result under it.ensures.same it.ensures.view))
    (λ words k at. until me words slot at c.in-Some.head it.result c.if-head-ge-NEVER.false k.1 (subst (IsHeadAt me.id me.words words slot) c.in-Some.is (k.0 at)))
