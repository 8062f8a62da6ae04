use Rattle.std.proofs.Common.{◌≢◌, ℕ, ◌-◌, ◌<◌, ◌≤◌}
use Rattle.jc_cuckoo.specs.Search.{queued_bucket}
use Rattle.jc_cuckoo.proofs.queue.Queue.has.Given as goal

abbrev pub invariant-reached : goal.invariant-reached
invariant-reached l = record { to : l.at ≤ l.self.count; absent : (j : ℕ) → j < l.at → queued_bucket l.self j ≢ l.bucket }

abbrev pub decreases-reached : goal.decreases-reached
decreases-reached l = l.self.count - l.at
