use Rattle.std.proofs.Common.{◌/◌, get_or, refl}
use Rattle.std.proofs.lemmas.Option.{slice_get-get_or}
use Rattle.jc_threads.specs.Lines.{HasMade}
use Rattle.jc_threads.proofs.Lists.{all_at, on_ok_both}
use Rattle.jc_threads.proofs.Making.{at_work_more}
use Rattle.jc_threads.proofs.worker.make_line.Goals as goal

pub returns-clause-made : goal.returns-clause-made
returns-clause-made g c =
    let stated = g.N.Name.stated in
    let sessions = c.args.sessions.now in
    let place = c.args.line.session / c.args.workers in
    let o = get_or sessions place c.index-sessions-place.result in
    let at = slice_get-get_or sessions place c.index-sessions-place.result c.if-place-sessions.false in
    on_ok_both c.make_call.result c.make_call.ensures.own c.make_call.ensures.made (λ own made worker done work.
    at_work_more stated c.args.workers worker done c.args.line sessions place o c.make_call.new.session at refl own c.make_call.ensures.number work
    (made done (all_at (HasMade stated done) sessions place o work.made at)))
