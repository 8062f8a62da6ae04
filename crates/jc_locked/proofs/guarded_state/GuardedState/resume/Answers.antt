use Rattle.std.proofs.Common.{◌≡◌, ◌++◌, ◌∷◌, [], List, Option, sym, ◌∙◌, ap, subst}
use Rattle.std.proofs.lemmas.List.{same_from_push}
use Rattle.jc_model.specs.declared.call.Answer.{Answer}
use Rattle.jc_model.specs.declared.call.Reply.{Reply}
use Rattle.jc_model.specs.declared.event.Event.TheVariants as event
use Rattle.jc_model.specs.Runs.{answers}
use Rattle.jc_engine.specs.Caches.{lives_of}
use Rattle.jc_engine.specs.RecordedSteps.{of_recorded_resume}
use Rattle.jc_locked.specs.Finding.{IsOpenIn, entry_ended_by}
use Rattle.jc_locked.proofs.Tenures.{still_begins, resumed_goes_on, is_tenure, refused_answer, last_given, stops}
use Rattle.jc_locked.proofs.guarded_state.GuardedState.resume.Goals as goal

pub invariant_of-self : goal.invariant_of-self
invariant_of-self g c =
    let old = c.args.self.now.recorded in
    let new = c.resume.new.self in
    let draft = c.args.draft.now in
    record { begins = still_begins g.N.Name.configs old.transcript new.transcript draft.session draft.id (answers c.args.answer) (of_recorded_resume c.resume.result) c.args.self.now.begins (c.resume.ensures.transcript draft.session); closes = c.args.self.now.closes }

pub returns-in-Ok-clause-ok : goal.returns-in-Ok-clause-ok
returns-in-Ok-clause-ok g c =
    let old = c.args.self.now.recorded in
    let new = c.resume.new.self in
    let draft = c.args.draft.now in
    let given : draft.answers ≡ c.in-Some.before.now ++ c.args.answer ∷ [] = last_given draft.answers c.in-Some.before.now c.requires.answered.0 c.in-Some.field-0-0.now c.args.answer (sym c.items.ensures ∙ c.in-Some.ensures.cases.0) c.requires.answered.1 in
    resumed_goes_on g.N.Name.configs (lives_of old.caches) (lives_of new.caches) old.transcript new.transcript draft c.end_by.new.draft c.in-Some.before.now c.show_reply.new.pass (c.is_open.ensures.open c.if-not-is_open.false) c.requires.waits
    c.args.answer c.in-Ok.pair.0 _ given (c.end_by.ensures ∙ ap (λ (copy : Option Reply). entry_ended_by copy draft) c.in-Ok.ensures.copy) c.in-Ok.ensures.told.1.legal
    (still_begins g.N.Name.configs old.transcript new.transcript draft.session draft.id (answers c.args.answer) (of_recorded_resume c.resume.result) c.args.self.now.begins (c.resume.ensures.transcript draft.session))
    c.show_reply.ensures.sees c.in-Ok.ensures.lives (c.in-Ok.ensures.transcript draft.session) c.in-Ok.ensures.outcome

pub returns-in-Ok-clause-tenure : goal.returns-in-Ok-clause-tenure
returns-in-Ok-clause-tenure g c =
    let draft = c.args.draft.now in
    is_tenure c.args.self.now.recorded c.resume.new.self c.show_reply.new.self.recorded draft.session (event.Answer draft.id c.args.answer) c.in-Ok.pair.0
    c.show_reply.ensures.same c.in-Ok.ensures.outcome (c.in-Ok.ensures.transcript draft.session) c.in-Ok.ensures.lives

pub returns-in-Err-clause-refused : goal.returns-in-Err-clause-refused
returns-in-Err-clause-refused g c =
    let old = c.args.self.now.recorded in
    rw c.answer_fault_of.ensures (refused_answer g.N.Name.configs (lives_of old.caches) old.transcript c.args.self.now.begins c.in-Err.ensures.told.0 c.args.draft.now.id c.args.answer c.in-Err.cause c.in-Err.ensures.outcome)

pub returns-in-Err-clause-err : goal.returns-in-Err-clause-err
returns-in-Err-clause-err g c = λ before given.
    let old = c.args.self.now.recorded in
    let draft = c.args.draft.now in
    let same : c.in-Some.before.now ≡ before = (same_from_push c.in-Some.before.now before c.in-Some.field-0-0.now c.args.answer (sym (sym c.items.ensures ∙ c.in-Some.ensures.cases.0) ∙ given)).0 in
    let here : IsOpenIn old draft before = subst (λ (answers : List Answer). IsOpenIn old draft answers) same (c.is_open.ensures.open c.if-not-is_open.false) in
    rw c.answer_fault_of.ensures (stops old draft before c.args.answer c.in-Err.cause here c.in-Err.ensures.outcome)
