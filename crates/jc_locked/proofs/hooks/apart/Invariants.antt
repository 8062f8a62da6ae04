use Rattle.std.proofs.Common.{◌≡◌, map}
use Rattle.std.specs.Prelude.{is_some}
use Rattle.jc_locked.specs.Stated.{shared_of, wants_lock}
use Rattle.jc_locked.proofs.hooks.apart.Given as goal

abbrev pub invariant-loop-own : goal.invariant-loop-own
invariant-loop-own g l = (l.shared.items ≡ map shared_of l.yielded) × (map is_some l.locks.items ≡ map wants_lock l.yielded)
