use Rattle.std.proofs.Common.{refl, arith}
use Rattle.std.proofs.lemmas.Grind.{common_steps}
use Rattle.jc_ops.proofs.StateNames.{Record, after_access, with_expiry_of, record_of, IsRow}
use Rattle.jc_ops.proofs.Changes.{kept-stored}
use Rattle.jc_ops.proofs.Found.{items-stored}
use Rattle.jc_ops.proofs.Ties.{placed_at}
use Rattle.jc_ops.proofs.visit.Visit.access.Goals as goal

pub renew-requires : goal.renew-requires
renew-requires g c = rw (c.id.ensures, c.deref_mut-cache.ensures.value, placed_at _ _ _ _ _ c.self.invariant.tied.placed (rw c.deref_mut-cache.ensures.value at c.record-held.ensures))

pub invariant_of-self : goal.invariant_of-self
invariant_of-self g c =
    let there = rw c.deref_mut-cache.ensures.value at c.record-held.ensures in
    rw (c.renew.ensures.set, c.id.ensures, c.renew-2.ensures, c.deref_mut-cache.ensures.value, there)
    (kept-stored _ _ c.self.invariant c.args.row (with_expiry_of c.after_access-expiry.result c.record-held.result.now) (rw there))

pub returns-clause-progress : goal.returns-clause-progress
returns-clause-progress g c = λ key x at.
    let s = c.self.inside.cache.value.kept in
    let is : IsRow key s c.args.row x = rw (← c.self.view_is) at at in
    let new : Record = with_expiry_of (after_access s.config.policy x.expiry c.self.inside.moment) (record_of x) in
    grind (arith, common_steps, is.there, items-stored _ s c.args.row (record_of x) new c.self.invariant.tied is.there refl)
