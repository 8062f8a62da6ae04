use Rattle.std.proofs.Common.{◌≡◌, ◌∙◌, List, subst}
use Rattle.jc_model.specs.declared.event.Entry.{Entry}
use Rattle.jc_engine.specs.Changed.{begun_entry}
use Rattle.jc_engine.specs.Recording.{blank}
use Rattle.jc_engine.proofs.Recordings.{begun_is}
use Rattle.jc_locked.specs.Sessions.{Sitting}
use Rattle.jc_shared.specs.Progress.{AddsBegun}
use Rattle.jc_shared.proofs.Carrying.{begun_ok, begun_err}
use Rattle.jc_shared.proofs.Unasked.{if_replied}
use Rattle.jc_shared.proofs.session.Session.make_in.Goals as goal

pub returns-in-Ok-came-clause-ok : goal.returns-in-Ok-came-clause-ok
returns-in-Ok-came-clause-ok g c =
    let old : Sitting = record { number = c.self.inside.seat.number; calls = g.J.Own.SessionJournal.calls c.self.inside.own; accepted = c.self.inside.seat.accepted; pass = c.self.inside.seat.pass } in
    let new : Sitting = record { number = c.begin_call-came.new.seat.number; calls = g.J.Own.SessionJournal.calls c.add_begun.new.own; accepted = c.begin_call-came.new.seat.accepted; pass = c.begin_call-came.new.seat.pass } in
    let begun = c.of-begun.result in
    let step = c.in-Ok-came.pair.0 in
    let begins : begun_entry begun ≡ blank old.number c.args.id c.args.now c.args.call = begun_is begun (record { session = old.number; id = c.args.id; at = c.args.now }) c.args.call (c.of-begun.ensures.origin ∙ c.origin.ensures) c.of-begun.ensures.call in
    let adds : AddsBegun begun step old.calls new.calls c.add_begun.result = subst (λ (calls : List Entry). AddsBegun begun step calls new.calls c.add_begun.result) c.in-Ok.ensures.same c.add_begun.ensures.adds in
    rw (← c.self.view_is)
    (begun_ok g.N.Name.configs g.N.Name.stated old new c.args.id c.args.now c.args.call begun step c.in-Ok-came.pair.1 c.in-Ok-came.ensures.copy c.in-Ok-came.ensures.ok begins c.in-Ok-came.ensures.accepted c.add_begun.result adds)

pub returns-in-Ok-came-clause-err : goal.returns-in-Ok-came-clause-err
returns-in-Ok-came-clause-err g c =
    let old : Sitting = record { number = c.self.inside.seat.number; calls = g.J.Own.SessionJournal.calls c.self.inside.own; accepted = c.self.inside.seat.accepted; pass = c.self.inside.seat.pass } in
    let new : Sitting = record { number = c.begin_call-came.new.seat.number; calls = g.J.Own.SessionJournal.calls c.add_begun.new.own; accepted = c.begin_call-came.new.seat.accepted; pass = c.begin_call-came.new.seat.pass } in
    let begun = c.of-begun.result in
    let step = c.in-Ok-came.pair.0 in
    let begins : begun_entry begun ≡ blank old.number c.args.id c.args.now c.args.call = begun_is begun (record { session = old.number; id = c.args.id; at = c.args.now }) c.args.call (c.of-begun.ensures.origin ∙ c.origin.ensures) c.of-begun.ensures.call in
    let adds : AddsBegun begun step old.calls new.calls c.add_begun.result = subst (λ (calls : List Entry). AddsBegun begun step calls new.calls c.add_begun.result) c.in-Ok.ensures.same c.add_begun.ensures.adds in
    rw (← c.self.view_is)
    (begun_err g.N.Name.configs g.N.Name.stated old new c.args.id c.args.now c.args.call begun step c.in-Ok-came.pair.1 c.in-Ok-came.ensures.copy c.in-Ok-came.ensures.ok begins c.in-Ok-came.ensures.accepted c.add_begun.result adds)

pub returns-in-Ok-came-clause-unasked : goal.returns-in-Ok-came-clause-unasked
returns-in-Ok-came-clause-unasked g c = λ none. if_replied c.add_begun.result (c.add_begun.ensures.replied (c.in-Ok-came.ensures.unasked none))
