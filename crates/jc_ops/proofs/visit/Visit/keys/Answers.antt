use Rattle.std.proofs.Common.{◌<◌, ◌∙◌, length, arith}
use Rattle.std.proofs.lemmas.Grind.{common_steps}
use Rattle.jc_ops.proofs.Walk.{walk_goes_on, walk_is_shorter}
use Rattle.jc_ops.proofs.TiedKeys.{tied_keys}
use Rattle.jc_ops.proofs.visit.Visit.keys.Goals as goal

pub push_reserved-requires : goal.push_reserved-requires
push_reserved-requires g c =
    let shorter : length c.rows.keys.items < length c.deref-cache.result.now.kept.cells = walk_is_shorter _ _ _ _ (rw c.deref-cache.ensures c.self.invariant.tied.distinct) (rw c.in-Some.is at c.rows.invariant.walked) c.record.ensures in
    grind (arith, common_steps, shorter, c.rows.invariant.room)

pub rows-preserved : goal.rows-preserved
rows-preserved g c = record {
  walked = rw (c.after-next.ensures, c.push_reserved.ensures.items) (walk_goes_on _ _ _ c.record.result.now (rw c.deref-cache.ensures c.self.invariant.tied.distinct) (rw c.in-Some.is at c.rows.invariant.walked) c.record.ensures);
  room = c.push_reserved.ensures.capacity ∙ c.rows.invariant.room;
}

pub returns-clause-apart : goal.returns-clause-apart
returns-clause-apart g c = rw (← c.self.view_is) (tied_keys _ _ _ c.self.invariant.tied)
