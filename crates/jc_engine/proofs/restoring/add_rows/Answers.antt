use Rattle.std.proofs.Common.{[], ◌∷◌, ◌∙◌, append_assoc}
use Rattle.jc_engine.proofs.Saved.{is_absent, one_added}
use Rattle.jc_engine.proofs.restoring.add_rows.Goals as goal

pub add_saved-requires-clause-absent : goal.add_saved-requires-clause-absent
add_saved-requires-clause-absent g c =
    is_absent c.args.visit.now c.loop-row.visit c.loop-row.yielded c.next.new.self.rest.items c.args.rows.items c.in-Some.row
    (rw c.in-Some.ensures.steps.0 at c.loop-row.invariant.added) (rw c.in-Some.ensures.steps.0 at c.loop-row.invariant.all) c.requires.apart

pub loop-row-preserved : goal.loop-row-preserved
loop-row-preserved g c = record {
  added = one_added c.args.visit.now c.loop-row.visit c.loop-row.yielded c.next.new.self.rest.items c.args.rows.items c.in-Some.row
      (rw c.in-Some.ensures.steps.0 at c.loop-row.invariant.added) (rw c.in-Some.ensures.steps.0 at c.loop-row.invariant.all)
      c.add_saved.new.self c.add_saved.ensures.spends c.add_saved.ensures.same (rw c.in-Ok.ensures at c.add_saved.ensures.added) c.add_saved.ensures.noted;
  all = append_assoc c.loop-row.yielded (c.in-Some.row ∷ []) c.next.new.self.rest.items ∙ (rw c.in-Some.ensures.steps.0 at c.loop-row.invariant.all);
}
