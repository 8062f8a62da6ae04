use Rattle.std.proofs.Common.{◌≡◌, ◌/◌, length, true, ap, ◌∙◌, arith, nat_lt}
use Rattle.std.proofs.lemmas.Bool.Decides.{nat_tests}
use Rattle.std.proofs.lemmas.Option.{get_or_from_slice_get, slice_get_within}
use Rattle.jc_locked.specs.Sessions.{Sitting}
use Rattle.jc_threads.proofs.Seats.{found_by}
use Rattle.jc_threads.proofs.managing.own_session.Goals as goal

pub returns-in_default-clause-found : goal.returns-in_default-clause-found
returns-in_default-clause-found g c = λ seat.
    let crew = c.args.crew.now in let sessions = c.sessions.result.now in let place = c.args.session / length crew in
    let found = found_by (length crew) c.args.session crew c.index-crew-number.result sessions c.index-crew-number.is c.sessions.ensures seat in
    let within = slice_get_within sessions place found.session found.there in
    let below : nat_lt place (length sessions) ≡ true = grind (arith, nat_tests, within) in
    c.in_default.ensures.lookup.0 ∙ below

pub returns-then-number-session-clause-found : goal.returns-then-number-session-clause-found
returns-then-number-session-clause-found g c = λ seat.
    let crew = c.args.crew.now in let sessions = c.sessions.result.now in let place = c.args.session / length crew in
    let found = found_by (length crew) c.args.session crew c.index-crew-number.result sessions c.index-crew-number.is c.sessions.ensures seat in
    let same = c.in-Some.ensures.lookup.1 ∙ get_or_from_slice_get sessions place found.session c.in-Some.own.now found.there in
    absurd (c.if-number-session.true (c.number.ensures ∙ (ap (λ (o : Sitting). o.number) same ∙ found.own)))
