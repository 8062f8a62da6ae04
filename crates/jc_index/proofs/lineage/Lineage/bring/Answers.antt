use Rattle.std.proofs.Common.{◌≡◌, ◌++◌, ◌∷◌, [], List, length, map, Some, slice_get, ap, sym, subst, ◌∙◌, arith}
use Rattle.atomic_table.specs.Seated.{TableId}
use Rattle.jc_index.specs.Lineages.{outgrown, tables}
use Rattle.jc_index.proofs.Ahead.{place_is, get_front, get_end, length_ids}
use Rattle.jc_index.proofs.lineage.Lineage.bring.Goals as goal

pub hear_at-requires : goal.hear_at-requires
hear_at-requires g c =
    let me = c.args.self.now in
    let mine = c.args.member.now in
    let at = place_is _ _ _ mine.generation mine.reader.seat.table_id c.renew.ensures.seen me.listed mine.listed in
    let ids = length_ids me.retired.items in
    let here = get_front _ _ _ mine.generation (omega (arith, ids, c.requires.outgrown)) at in
    subst (λ (z : TableId). slice_get (map (λ p. p.0) (outgrown me.retired.items)) mine.generation ≡ Some z) (sym (ap (λ r. r.seat.table_id) c.replace-old.ensures.value)) here

pub invariant_of-member : goal.invariant_of-member
invariant_of-member g c =
    let me = c.args.self.now in
    let ids = length_ids c.hear_at.new.writers.items in
    let same = ap (λ (l : List _). length (map (λ p. p.0) l)) c.hear_at.ensures.same in
    let items : tables c.renew.new.follower.seat.me.0.items ≡ map (λ p. p.0) (outgrown me.retired.items) ++ me.writer.seat.table_id ∷ [] = ap tables c.renew.ensures.follower ∙ me.listed in
    let table : c.replace-old.new.dest.seat.table_id ≡ me.writer.seat.table_id = ap (λ r. r.seat.table_id) c.replace-old.ensures.after ∙ c.in_ok-reader.ensures.reader.0 in
    let end = get_end (map (λ p. p.0) (outgrown me.retired.items)) me.writer.seat.table_id c.len-member.result (omega (arith, ids, same, c.len-member.ensures)) in
    record { listed = subst (λ (z : List TableId × TableId). slice_get z.0 c.len-member.result ≡ Some z.1) (λ i. (sym items i, sym table i)) end }
