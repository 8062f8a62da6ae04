use Rattle.std.proofs.Common.{arith}
use Rattle.jc_ops.proofs.Vacancies.{popped, slots-filled}
use Rattle.jc_ops.proofs.slots.Slots.fill.Goals as goal

pub index_mut-requires : goal.index_mut-requires
index_mut-requires c = omega (arith, (popped _ _ _ c.self.invariant _ _ c.in-Some.ensures.items).0)

pub invariant_of-self : goal.invariant_of-self
invariant_of-self c = rw c.in-Some.ensures.capacity (slots-filled _ _ _ c.self.invariant _ _ c.in-Some.ensures.items c.args.new)

pub returns-clause-below : goal.returns-clause-below
returns-clause-below c = rw (← c.self.view_is) (popped _ _ _ c.self.invariant _ _ c.in-Some.ensures.items).0
