use Rattle.std.proofs.Common.{◌≡◌, rules}
use Rattle.jc_model.specs.Runs.{has_processor}
use Rattle.jc_locked.specs.Sessions.{Sitting}
use Rattle.jc_shared.proofs.Carrying.{not_accepted, told_or_gone, unaccepted_fails}
use Rattle.jc_shared.proofs.session.Session.call.Goals as goal

pub returns-in-Err-clause-err : goal.returns-in-Err-clause-err
returns-in-Err-clause-err g c =
    let old : Sitting = c.args.self.now in
    let new : Sitting = c.get_at_once.new.self in
    let same : new ≡ old = search rules in
    let refused = c.in-Err.ensures in
    let fails = unaccepted_fails g.N.Name.configs g.N.Name.stated old new c.args.id c.args.now c.args.call c.in-Err.fault refused.err same (record { names = refused.names; lacks = λ k at. not_accepted (has_processor k c.args.call) c.in-Err.fault (refused.agrees k (c.in-Some-opening_hooks.ensures.counted k at)) }) c.in-Some-opening_hooks.ensures.opened in
    told_or_gone g.N.Name.configs g.N.Name.stated old new c.args.id c.args.now c.args.call c.in-Err.fault c.lack_fault.result same c.lack_fault.ensures fails
