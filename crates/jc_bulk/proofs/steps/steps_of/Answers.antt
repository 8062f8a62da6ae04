use Rattle.std.proofs.Common.{inl, inr}
use Rattle.jc_bulk.proofs.Names.{items_of}
use Rattle.jc_bulk.proofs.Rows.{all_there, all_removed, ring_apart}
use Rattle.jc_bulk.proofs.steps.steps_of.Goals as goal

pub returns-in_ok-keys-in-RemoveAll-clause-steps : goal.returns-in_ok-keys-in-RemoveAll-clause-steps
returns-in_ok-keys-in-RemoveAll-clause-steps g c =
    let v = c.args.visit.now in
    let keys = c.in_ok-keys-in-RemoveAll.ensures in
    rw (c.in-RemoveAll.is, c.in-RemoveAll.is) (rw (c.as_slice.ensures.value, keys.keys, c.in-RemoveAll.is, all_removed v (items_of v.cache.cells) (all_there _ keys.apart)) at c.each_key.ensures.steps)

pub each_key-requires : goal.each_key-requires
each_key-requires g c =
    record { apart = rw (c.as_slice.ensures.value, c.in_ok-keys-in-RemoveAll.ensures.keys) (ring_apart _ c.in_ok-keys-in-RemoveAll.ensures.apart) }

pub returns-in-GetAll-clause-steps : goal.returns-in-GetAll-clause-steps
returns-in-GetAll-clause-steps g c =
    let made = rw c.keys-in-GetAll.ensures.same at c.each_key-in-GetAll.ensures.steps in
    elim c.in-GetAll.is [
      | inl e ↦ rw (e, e) (rw e at made)
      | inr f ↦ elim f [ inl e ↦ rw (e, e) (rw e at made) | inr h ↦ elim h [ inl e ↦ rw (e.2, e.2) (rw e.2 at made) | inr e ↦ rw (e.1, e.1) (rw e.1 at made) ] ]
    ]
