use Rattle.std.proofs.Common.{◌≡◌, ◌≤◌, ◌+◌, length, vec_len}
use Rattle.std.specs.Vec.{vec_capacity}
use Rattle.std.specs.Vec.Iter.{into_iter_items, into_iter_len}
use Rattle.jc_engine.proofs.Names.{Leads, lives_of}
use Rattle.jc_engine.proofs.Hearing.{HeardSoFar}
use Rattle.jc_engine.proofs.engine.Engine.run.Given as goal

-- the outcomes so far, and whatever the events that are left are answered, make a run
abbrev pub invariant-loop-event : goal.invariant-loop-event
invariant-loop-event g l = record {
  run : Leads (lives_of l.fn.self) l.fn.events.items l.outcomes.items (lives_of l.self) (into_iter_items l.left);
  heard : HeardSoFar l.fn.events.items l.outcomes.items (into_iter_items l.left);
  counted : into_iter_len l.left ≡ length (into_iter_items l.left);
  room : vec_len l.outcomes + into_iter_len l.left ≤ vec_capacity l.outcomes;
}

abbrev pub decreases-loop-event : goal.decreases-loop-event
decreases-loop-event g l = into_iter_len l.left
