use Rattle.std.proofs.Common.{◌≡◌, ◌∙◌, refl, Some, subst}
use Rattle.jc_model.specs.declared.call.Reply.TheVariants.{Found}
use Rattle.jc_model.specs.declared.event.Step.TheVariants.{Done}
use Rattle.jc_engine.specs.declared.journal.change.Origin.{Origin}
use Rattle.jc_engine.specs.Recording.{blank_of}
use Rattle.jc_engine.proofs.Recordings.{begun_is}
use Rattle.jc_locked.specs.Calls.{CallGoesOnTo}
use Rattle.jc_locked.specs.Sessions.{Sitting}
use Rattle.jc_shared.proofs.Carrying.{replied_entry}
use Rattle.jc_shared.proofs.session.Session.get_at_once.Goals as goal

pub returns-clause-some : goal.returns-clause-some
returns-clause-some g c =
    let old : Sitting = record { number = c.self.inside.seat.number; calls = g.J.Own.SessionJournal.calls c.self.inside.own; accepted = c.self.inside.seat.accepted; pass = c.self.inside.seat.pass } in
    let new : Sitting = record { number = c.get_at_once-found.new.seat.number; calls = g.J.Own.SessionJournal.calls c.note.new.self; accepted = c.get_at_once-found.new.seat.accepted; pass = c.get_at_once-found.new.seat.pass } in
    let origin : Origin = record { session = old.number; id = c.args.id; at = c.args.now } in
    let call = c.args.call.now in
    let begun = c.of-begun.result in
    let from : begun.origin ≡ origin = c.of-begun.ensures.origin ∙ (rw (← c.self.view_is) at c.origin.ensures) in
    let value = c.in_ok-value.value in
    rw (← c.self.view_is, c.found_in.ensures)
    (replied_entry g.N.Name.configs old new c.args.id c.args.now call begun (Done (Found value)) (Some (Found value)) (Found value) (Found value) refl refl refl
    (subst (λ (o : Origin). CallGoesOnTo g.N.Name.configs (blank_of o call) (Done (Found value)) (Some (Found value)) new.pass) from c.in_ok-value.ensures.some)
    (begun_is begun origin call from c.of-begun.ensures.call) (c.note.ensures.noted c.if-not-note.false) c.in_ok-value.ensures.accepted)
