use Rattle.std.proofs.Common.{◌≡◌, length}
use Rattle.jc_bulk.proofs.Names.{IsSameVisit, AreReady, ahead_run}
use Rattle.jc_bulk.proofs.bulk.go_on.Given as goal

-- the steps that are left, from here, make the run of all
abbrev pub invariant-steps : goal.invariant-steps
invariant-steps g l = record {
  same : IsSameVisit l.fn.visit l.visit;
  ready : AreReady l.visit l.ahead;
  run : ahead_run l.visit l.ahead ≡ ahead_run l.fn.visit l.fn.ahead;
}

abbrev pub decreases-steps : goal.decreases-steps
decreases-steps g l = length l.ahead.rest.items
