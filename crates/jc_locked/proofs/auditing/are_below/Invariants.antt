use Rattle.std.proofs.Common.{◌<◌, map, length}
use Rattle.std.specs.Prelude.{◌↔◌}
use Rattle.std.specs.List.{All}
use Rattle.jc_locked.proofs.auditing.are_below.Given as goal

abbrev pub invariant-loop-log : goal.invariant-loop-log
invariant-loop-log g l = All (λ o. o.number < l.given) (map g.S.Logged.log l.logs) ↔ All (λ o. o.number < l.given) (map g.S.Logged.log l.left)

abbrev pub decreases-loop-log : goal.decreases-loop-log
decreases-loop-log g l = length l.left
