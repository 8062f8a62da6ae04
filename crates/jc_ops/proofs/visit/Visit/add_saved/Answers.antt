use Rattle.std.proofs.Common.{◌≡◌}
use Rattle.jc_ops.proofs.Changes.{kept-pushed}
use Rattle.jc_ops.proofs.Found.{absent_there}
use Rattle.jc_ops.proofs.visit.Visit.add_saved.Goals as goal

pub invariant_of-self : goal.invariant_of-self
invariant_of-self g c =
    let k = c.self.inside.cache.value.kept in
    let id : c.id.result ≡ k.id = rw (c.id.ensures, c.deref.ensures, c.push_saved-row.ensures.kept, c.deref_mut.ensures.value) in
    rw (c.put.ensures.put, id, c.push_saved-row.ensures.kept, c.deref_mut.ensures.value)
    (kept-pushed _ k c.self.invariant c.push_saved-row.result c.args.new c.args.used
    (rw c.deref_mut.ensures.value at c.push_saved-row.ensures.fresh)
    (absent_there _ c.args.new.key k c.self.invariant.tied (rw (← c.self.view_is) at c.requires.absent))
    (rw (← c.self.view_is) at c.requires.within))
