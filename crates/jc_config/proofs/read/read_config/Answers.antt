use Rattle.jc_config.proofs.Limits.{limits_kept}
use Rattle.jc_config.proofs.read.read_config.Goals as goal

pub make_configuration-requires : goal.make_configuration-requires
make_configuration-requires c = limits_kept 1 _ _ _ c.in_ok-caches.ensures (rw c.deref.ensures.value at c.in_ok-check_totals.ensures)
