use Rattle.jc_threads.proofs.Batched.{none_by, none_at_all}
use Rattle.jc_threads.proofs.batches.Batches.is_empty.Goals as goal

pub returns : goal.returns
returns c = rw (← c.self.view_is) (none_at_all c.self.inside.full.items c.self.inside.last.items c.is_empty.result (none_by c.self.inside.last.items c.as_slice.result.now c.is_empty.result c.as_slice.ensures.value c.is_empty.ensures) c.self.invariant)
