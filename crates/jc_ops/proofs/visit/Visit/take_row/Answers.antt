use Rattle.std.proofs.Common.{◌≡◌}
use Rattle.jc_rows.proofs.Laws.{get-removed_absent}
use Rattle.jc_ops.proofs.Changes.{kept-removed}
use Rattle.jc_ops.proofs.Found.{items-without}
use Rattle.jc_ops.proofs.visit.Visit.take_row.Goals as goal

pub invariant_of-self : goal.invariant_of-self
invariant_of-self g c =
    let id : c.id.result ≡ c.self.inside.cache.value.kept.id = rw (c.id.ensures, c.deref.ensures, c.take-gone.ensures.kept, c.deref_mut.ensures.value) in
    rw (c.remove-row.ensures.removed, id, c.take-gone.ensures.kept, c.deref_mut.ensures.value)
    (kept-removed _ _ c.self.invariant c.args.row c.take-gone.result (rw c.deref_mut.ensures.value at c.take-gone.ensures.was))

pub returns-clause-gone : goal.returns-clause-gone
returns-clause-gone g c = record {
  kept = rw (← c.self.view_is, c.take-gone.ensures.kept, c.deref_mut.ensures.value);
  one = rw (← c.self.view_is, ← c.deref_mut.ensures.value) c.take-gone.ensures.one;
  left =
      let was = rw c.deref_mut.ensures.value at c.take-gone.ensures.was in
      rw (← c.self.view_is, c.take-gone.ensures.kept, c.deref_mut.ensures.value, was) (items-without _ c.self.inside.cache.value.kept c.args.row _ c.self.invariant.tied was);
  still_absent = λ k h. rw (c.remove-row.ensures.removed, ← c.self.view_is) (get-removed_absent _ _ _ (rw (← c.self.view_is) at h));
}
