use Rattle.std.proofs.Common.{Option, refl, ap}
use Rattle.jc_model.specs.declared.call.Reply.{Reply}
use Rattle.jc_model.specs.declared.event.Entry.{Entry}
use Rattle.jc_model.specs.declared.event.Event.TheVariants as event
use Rattle.jc_engine.specs.Caches.{lives_of}
use Rattle.jc_engine.specs.Recording.{blank}
use Rattle.jc_engine.specs.RecordedSteps.{of_recorded_begin}
use Rattle.jc_model.specs.Runs.{begins}
use Rattle.jc_locked.specs.Finding.{entry_ended_by}
use Rattle.jc_locked.proofs.Tenures.{still_begins, begun_asks, begun_live, begin_faults, begun_goes_on, is_tenure}
use Rattle.jc_locked.proofs.Unasked.{unasked_replies}
use Rattle.jc_locked.proofs.guarded_state.GuardedState.begin_call.Goals as goal

pub invariant_of-self : goal.invariant_of-self
invariant_of-self g c =
    let old = c.args.self.now.recorded in
    let new = c.begin.new.self in
    record { begins = still_begins g.N.Name.configs old.transcript new.transcript c.args.seat.now.number c.args.id (begins c.args.now c.args.call) (of_recorded_begin c.begin.result) c.args.self.now.begins c.begin.ensures.transcript; closes = c.args.self.now.closes }

pub returns-in-Ok-clause-ok : goal.returns-in-Ok-clause-ok
returns-in-Ok-clause-ok g c =
    let old = c.args.self.now.recorded in
    let new = c.begin.new.self in
    let entry : Entry = blank c.args.seat.now.number c.args.id c.args.now c.args.call in
    begun_goes_on g.N.Name.configs old.transcript new.transcript entry (entry_ended_by c.in-Ok.pair.1 entry) c.show_reply.new.pass c.args.call c.in-Ok.pair.0
    refl (ap (λ (copy : Option Reply). entry_ended_by copy entry) c.in-Ok.ensures.copy) c.in-Ok.ensures.told.1.legal
    (still_begins g.N.Name.configs old.transcript new.transcript c.args.seat.now.number c.args.id (begins c.args.now c.args.call) (of_recorded_begin c.begin.result) c.args.self.now.begins c.begin.ensures.transcript)
    (lives_of new.caches) (begun_live (lives_of old.caches) (lives_of new.caches) c.args.id c.args.now c.args.call c.in-Ok.pair.0 _ c.in-Ok.ensures.outcome c.in-Ok.ensures.lives)
    c.show_reply.ensures.sees c.in-Ok.ensures.transcript (begun_asks (lives_of old.caches) c.args.id c.args.now c.args.call c.in-Ok.pair.0 _ c.in-Ok.ensures.outcome)

pub returns-in-Ok-clause-tenure : goal.returns-in-Ok-clause-tenure
returns-in-Ok-clause-tenure g c =
    is_tenure c.args.self.now.recorded c.begin.new.self c.show_reply.new.self.recorded c.args.seat.now.number (event.Begin c.args.id c.args.now c.args.call) c.in-Ok.pair.0
    c.show_reply.ensures.same c.in-Ok.ensures.outcome c.in-Ok.ensures.transcript c.in-Ok.ensures.lives

pub returns-in-Err-clause-err : goal.returns-in-Err-clause-err
returns-in-Err-clause-err g c =
    let old = c.args.self.now.recorded in
    rw c.fault_of.ensures (begin_faults (lives_of old.caches) g.N.Name.configs old.transcript c.args.self.now.begins c.in-Err.ensures.told.0 c.args.id c.args.now c.args.call c.in-Err.cause c.in-Err.ensures.outcome)

pub returns-in-Err-clause-refused : goal.returns-in-Err-clause-refused
returns-in-Err-clause-refused g c = record { cause = c.in-Err.cause; told = c.fault_of.ensures; refusal = c.in-Err.ensures.outcome }

pub returns-in-Ok-clause-unasked : goal.returns-in-Ok-clause-unasked
returns-in-Ok-clause-unasked g c = λ none.
    let old = c.args.self.now.recorded in
    unasked_replies g.N.Name.configs old.transcript (lives_of old.caches) c.args.self.now.begins c.in-Ok.ensures.told.0 c.args.id c.args.now c.args.call c.in-Ok.pair.0 _ c.in-Ok.ensures.outcome none
