use Rattle.jc_cuckoo.proofs.Ordered.{waits_sorted}
use Rattle.jc_cuckoo.proofs.cuckoo.Cuckoo.stash_in_order.Goals as goal

pub returns : goal.returns
returns g c = waits_sorted _ _ _ _ c.in_ok-rows.ensures c.sort_unstable_by_key.ensures.permutation
