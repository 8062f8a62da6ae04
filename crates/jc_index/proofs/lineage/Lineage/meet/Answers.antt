use Rattle.std.proofs.Common.{◌≡◌, List, Some, slice_get, ap, sym, subst, ◌∙◌, arith}
use Rattle.atomic_table.specs.Seated.{TableId}
use Rattle.jc_index.specs.Lineages.{tables}
use Rattle.jc_index.proofs.Ahead.{place_is, get_last, length_ids}
use Rattle.jc_index.proofs.lineage.Lineage.meet.Goals as goal

pub renew-requires-2 : goal.renew-requires-2
renew-requires-2 g c =
    let me = c.args.self.now in
    let mine = c.args.member.now in
    let at = place_is _ _ _ mine.generation mine.reader.seat.table_id c.renew.ensures.seen me.listed mine.listed in
    let ids = length_ids me.retired.items in
    sym (get_last _ _ _ mine.generation (λ l. omega (arith, l, ids, c.if-member-newest.false, c.len-newest.ensures)) at)

pub invariant_of-member : goal.invariant_of-member
invariant_of-member g c =
    let me = c.args.self.now in
    let mine = c.args.member.now in
    let at = place_is _ _ _ mine.generation mine.reader.seat.table_id c.renew.ensures.seen me.listed mine.listed in
    let items = ap tables c.renew.ensures.follower ∙ me.listed in
    record { listed = subst (λ (z : List TableId × TableId). slice_get z.0 mine.generation ≡ Some z.1) (λ i. (sym items i, sym c.renew-2.ensures.table i)) at }

pub returns-clause-met : goal.returns-clause-met
returns-clause-met g c =
    let me = c.args.self.now in
    let mine = c.args.member.now in
    let at = place_is _ _ _ mine.generation mine.reader.seat.table_id c.renew.ensures.seen me.listed mine.listed in
    let ids = length_ids me.retired.items in
    let same = get_last _ _ _ mine.generation (λ l. omega (arith, l, ids, c.if-member-newest.false, c.len-newest.ensures)) at in (c.renew-2.ensures.reader, c.renew-2.ensures.table ∙ sym same)
