use Rattle.std.proofs.Common.{get_or}
use Rattle.std.proofs.lemmas.Option.{slice_get-get_or}
use Rattle.jc_locked.specs.Sessions.{log_of}
use Rattle.jc_threads.proofs.Lists.{map_set_same}
use Rattle.jc_threads.proofs.managing.destroy_by.Goals as goal

pub returns-in-Ok-clause-same : goal.returns-in-Ok-clause-same
returns-in-Ok-clause-same g c =
    let sessions = c.args.sessions.now in
    let place = c.args.place in
    let d = c.index-sessions-place-2.result in
    map_set_same log_of sessions place (get_or sessions place d) c.destroy.new.self (slice_get-get_or sessions place d c.if-place-sessions.false) c.destroy.ensures.same

pub returns-in-Err-clause-same : goal.returns-in-Err-clause-same
returns-in-Err-clause-same g c =
    let sessions = c.args.sessions.now in
    let place = c.args.place in
    let d = c.index-sessions-place-2.result in
    map_set_same log_of sessions place (get_or sessions place d) c.destroy.new.self (slice_get-get_or sessions place d c.if-place-sessions.false) c.destroy.ensures.same

pub returns-in-Ok-clause-gone : goal.returns-in-Ok-clause-gone
returns-in-Ok-clause-gone g c = (c.destroy.new.self.pass, c.in-Ok.ensures.gone)
