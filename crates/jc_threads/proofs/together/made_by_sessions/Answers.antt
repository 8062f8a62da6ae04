use Rattle.std.proofs.Common.{◌<◌, List, length, subst, arith}
use Rattle.std.specs.List.{flat_map}
use Rattle.jc_script.specs.Calls.{calls_in_lines}
use Rattle.jc_locked.specs.Accounts.{Accounts}
use Rattle.jc_locked.specs.Sessions.{Own}
use Rattle.jc_threads.specs.Dealing.{Share}
use Rattle.jc_threads.proofs.Gathered.{are_made, all_made, all_there}
use Rattle.jc_threads.proofs.together.made_by_sessions.Goals as goal

pub returns-clause-made : goal.returns-clause-made
returns-clause-made g c = λ given entries accounts.
    let stated = g.N.Name.stated in
    let all = calls_in_lines c.args.lines.items in
    let crew = c.in_ok-crew-3.crew.items in
    let some : 0 < length crew = omega (arith, c.in_ok-crew.ensures.ready.0, c.in_ok-crew-2.ensures.counted, c.in_ok-crew-3.ensures.counted, c.requires) in
    let rest = c.in_ok-crew-3.ensures.rested all (c.in_ok-crew-2.ensures.made c.in_ok-crew.ensures.ready.1) in
    are_made stated given all (flat_map (λ (s : Share). s.sessions) crew) entries (subst (λ (logs : List Own). Accounts given logs entries) c.in_ok-logs.ensures accounts)
    (all_made stated all crew rest) (all_there stated all crew rest some)
