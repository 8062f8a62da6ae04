use Rattle.std.proofs.Common.{◌≡◌}
use mathlib.Core.List.{IsPrefix}
use Rattle.jc_locked.specs.Calls.{IsSameCall, CallStands}
use Rattle.jc_locked.specs.Counting.{CountsOn}
use Rattle.jc_locked.specs.Serving.{TellsListenersOn, WritesOn}
use Rattle.jc_shared.proofs.manager.Manager.carry_on.Given as goal

-- it is the same call, and stands as it was brought to
abbrev pub invariant-loop : goal.invariant-loop
invariant-loop g l =
    (goal.iterator-loop g).can_next l.iterator' × (goal.iterator-loop g).is_finite l.iterator' × IsSameCall l.fn.draft l.draft × CallStands g.N.Name.configs g.N.Name.stated l.step l.draft l.seat.pass × IsPrefix l.fn.seat.pass.images l.seat.pass.images × TellsListenersOn g.K.FilteredListener.state_after l.fn.hooks l.hooks l.fn.draft.told l.draft.told
    × WritesOn g.W.Writer.may l.fn.hooks l.hooks l.fn.draft.answers l.draft.answers × (l.seat.number ≡ l.fn.seat.number) × CountsOn l.fn.seat.accepted l.seat.accepted l.fn.draft l.draft
