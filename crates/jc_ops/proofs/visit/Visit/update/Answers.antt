use Rattle.std.proofs.Common.{◌≡◌, refl, arith}
use Rattle.std.proofs.lemmas.Grind.{common_steps}
use Rattle.jc_ops.proofs.StateNames.{Record, after_update, record_of, IsRow}
use Rattle.jc_ops.proofs.Changes.{kept-stored}
use Rattle.jc_ops.proofs.Found.{items-stored}
use Rattle.jc_ops.proofs.Ties.{placed_at}
use Rattle.jc_ops.proofs.visit.Visit.update.Goals as goal

pub renew-requires : goal.renew-requires
renew-requires g c =
    let was = rw c.deref_mut-cache.ensures.value at c.store-before.ensures.was in
    rw (c.id.ensures, c.store-before.ensures.kept, c.deref_mut-cache.ensures.value, placed_at _ _ _ _ _ c.self.invariant.tied.placed was)

pub invariant_of-self : goal.invariant_of-self
invariant_of-self g c =
    let there = rw c.deref_mut-cache.ensures.value at c.record-held.ensures in
    let key : c.record-held.result.now.key ≡ c.store-before.result.key = cc (c.record-held.ensures, c.store-before.ensures.was) in
    rw (c.renew.ensures.set, c.id.ensures, c.store-before.ensures.kept, c.deref_mut-cache.ensures.value, ← key)
    (kept-stored _ _ c.self.invariant c.args.row _ (rw there))

pub returns-clause-progress : goal.returns-clause-progress
returns-clause-progress g c = λ key x at.
    let s = c.self.inside.cache.value.kept in
    let is : IsRow key s c.args.row x = rw (← c.self.view_is) at at in
    let new : Record = record { key = x.key; value = c.args.stored.value; expiry = after_update s.config.policy x.expiry c.self.inside.moment } in
    grind (arith, common_steps, is.there, items-stored _ s c.args.row (record_of x) new c.self.invariant.tied is.there refl)
