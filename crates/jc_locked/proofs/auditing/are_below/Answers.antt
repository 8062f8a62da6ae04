use Rattle.std.proofs.Common.{◌≡◌, ◌<◌, ◌∷◌, map, ap, arith}
use Rattle.jc_locked.specs.Sessions.{Own}
use Rattle.jc_locked.proofs.Comparing.{all_rest, all_with}
use Rattle.jc_locked.proofs.auditing.are_below.Goals as goal

pub loop-log-preserved : goal.loop-log-preserved
loop-log-preserved g c =
    let P : Own → Type 0 = λ o. o.number < c.args.given in
    let log = g.S.Logged.log c.in-Some.log.now in
    let rest = map g.S.Logged.log c.in-Some.rest.now in
    let is : map g.S.Logged.log c.loop-log.left.now ≡ log ∷ rest = ap (map g.S.Logged.log) c.in-Some.ensures.cases.0 in
    let here : log.number < c.args.given = omega (arith, c.if-log_number-given.false, c.log_number.ensures) in
    (λ h. all_rest P _ rest log is (c.loop-log.invariant.0 h), λ h. c.loop-log.invariant.1 (all_with P _ rest log is here h))
