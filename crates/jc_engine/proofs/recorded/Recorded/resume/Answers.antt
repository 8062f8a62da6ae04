use Rattle.std.proofs.Common.{◌≡◌, ℕ, refl, sym, ◌∙◌, slice_set}
use Rattle.jc_engine.proofs.Names.{Entry, History, with_outcome, with_answer, step_of, Stepped}
use Rattle.jc_engine.specs.Recording.{with_entries}
use Rattle.jc_engine.specs.Journals.{IsKept}
use Rattle.jc_engine.proofs.Recordings.{FindsOpen, answer_busy, found, kept_of, resumed, written_at, can_tell, restored, on_ok, on_error, answered_kept, written_twice, written_back, keeps_over}
use Rattle.jc_engine.proofs.recorded.Recorded.resume.Given as given
use Rattle.jc_engine.proofs.recorded.Recorded.resume.Goals as goal

pub answer-requires : goal.answer-requires
answer-requires g c =
    let at = found c.self.invariant (answer_busy c.self.inside.engine c.args.id c.args.answer c.in_default.ensures) in
    (at.0, at.1.opened.entry, kept_of at.1)

pub invariant_of-self : goal.invariant_of-self
invariant_of-self g c = restored c.self.invariant refl (on_error c.answer.result c.answer.ensures.refused (sym c.is_err.ensures.value ∙ c.if-is_err.true)) c.answer.ensures.places

pub returns-then-is_err-clause-told : goal.returns-then-is_err-clause-told
returns-then-is_err-clause-told g c = (rw (← c.self.view_is) c.self.invariant.told, (invariant_of-self g c).told)

pub go_on-requires-in-Ok : goal.go_on-requires-in-Ok
go_on-requires-in-Ok g c =
    let at = found c.self.invariant (answer_busy c.self.inside.engine c.args.id c.args.answer c.in_default.ensures) in
    let h = g.J.Journal.history c.self.inside.journal in
    let e : Entry = at.1.opened.entry in
    let entered = on_ok c.answer.result c.answer.ensures.ok (sym c.is_err.ensures.value ∙ c.if-is_err.false) at.0 e (kept_of at.1) in (
      at.0,
      with_answer c.args.answer e,
      answered_kept h (g.J.Journal.history c.answer.new.self) (g.J.Journal.places c.self.inside.journal) (g.J.Journal.places c.answer.new.self) c.args.id at.0 c.args.answer e (kept_of at.1) entered c.answer.ensures.places,
      can_tell c.self.invariant c.in-Ok.ensures.one at.1 c.args.answer c.in-Ok.advance c.in-Ok.ensures.fits c.in-Ok.ensures.outcome,
    )

module _ (g : given.Over) (c : goal.After-go_on-in-Ok g) where
  abbrev h : History
  h = g.J.Journal.history c.self.inside.journal

  at : (place : ℕ) × FindsOpen c.self.inside.engine h.entries (g.J.Journal.places c.self.inside.journal) c.args.id place
  at = found c.self.invariant (answer_busy c.self.inside.engine c.args.id c.args.answer c.in_default.ensures)

  abbrev answered : Entry
  answered = with_answer c.args.answer at.1.opened.entry

  entered : g.J.Journal.history c.answer.new.self ≡ with_entries (slice_set h.entries at.0 answered) h
  entered = on_ok c.answer.result c.answer.ensures.ok (sym c.is_err.ensures.value ∙ c.if-is_err.false) at.0 at.1.opened.entry (kept_of at.1)

  kept : IsKept (g.J.Journal.history c.answer.new.self) (g.J.Journal.places c.answer.new.self) c.args.id at.0 answered
  kept = answered_kept h (g.J.Journal.history c.answer.new.self) (g.J.Journal.places c.self.inside.journal) (g.J.Journal.places c.answer.new.self) c.args.id at.0 c.args.answer at.1.opened.entry (kept_of at.1) entered c.answer.ensures.places

  noted : g.J.Journal.history c.go_on-in-Ok.new.self ≡ with_entries (slice_set h.entries at.0 (with_outcome (Stepped (step_of c.in-Ok.advance)) answered)) h
  noted =
      written_twice h (g.J.Journal.history c.answer.new.self) (g.J.Journal.history c.go_on-in-Ok.new.self) at.0 answered (with_outcome (Stepped (step_of c.in-Ok.advance)) answered) entered
      (c.go_on-in-Ok.ensures.noted at.0 answered kept (can_tell c.self.invariant c.in-Ok.ensures.one at.1 c.args.answer c.in-Ok.advance c.in-Ok.ensures.fits c.in-Ok.ensures.outcome))

pub invariant_of-self-in-Ok : goal.invariant_of-self-in-Ok
invariant_of-self-in-Ok g c =
    rw (noted g c)
    (resumed c.self.invariant c.in-Ok.ensures.one (at g c).1 c.args.answer c.in-Ok.advance c.in-Ok.ensures.fits c.in-Ok.ensures.outcome (g.J.Journal.places c.go_on-in-Ok.new.self)
    (keeps_over (g.J.Journal.places c.self.inside.journal) (g.J.Journal.places c.answer.new.self) (g.J.Journal.places c.go_on-in-Ok.new.self) c.args.id (at g c).0 c.in-Ok.advance c.answer.ensures.places (c.go_on-in-Ok.ensures.places (at g c).0 (answered g c) (kept g c)))
    c.in-Ok.ensures.lives)

pub returns-in-Ok-clause-transcript : goal.returns-in-Ok-clause-transcript
returns-in-Ok-clause-transcript g c = λ session. rw (← c.self.view_is, c.go_on-in-Ok.ensures.shown, ← written_at c.self.invariant c.in-Ok.ensures.one (at g c).1 (λ d. with_outcome (Stepped (step_of c.in-Ok.advance)) (with_answer c.args.answer d))) (noted g c)

pub returns-in-Ok-clause-told : goal.returns-in-Ok-clause-told
returns-in-Ok-clause-told g c = (rw (← c.self.view_is) c.self.invariant.told, (invariant_of-self-in-Ok g c).told)

pub take_answer-requires : goal.take_answer-requires
take_answer-requires g c =
    let at = found c.self.invariant (answer_busy c.self.inside.engine c.args.id c.args.answer c.in_default.ensures) in
    let e : Entry = at.1.opened.entry in
    let entered = on_ok c.answer.result c.answer.ensures.ok (sym c.is_err.ensures.value ∙ c.if-is_err.false) at.0 e (kept_of at.1) in (
      at.0,
      with_answer c.args.answer e,
      answered_kept (g.J.Journal.history c.self.inside.journal) (g.J.Journal.history c.answer.new.self) (g.J.Journal.places c.self.inside.journal) (g.J.Journal.places c.answer.new.self) c.args.id at.0 c.args.answer e (kept_of at.1) entered c.answer.ensures.places,
    )

taken_back : (g : given.Over) (c : goal.After-take_answer g) → g.J.Journal.history c.take_answer.new.self ≡ g.J.Journal.history c.self.inside.journal
taken_back g c =
    let at = found c.self.invariant (answer_busy c.self.inside.engine c.args.id c.args.answer c.in_default.ensures) in
    let h = g.J.Journal.history c.self.inside.journal in
    let e : Entry = at.1.opened.entry in
    let entered = on_ok c.answer.result c.answer.ensures.ok (sym c.is_err.ensures.value ∙ c.if-is_err.false) at.0 e (kept_of at.1) in
    let kept = answered_kept h (g.J.Journal.history c.answer.new.self) (g.J.Journal.places c.self.inside.journal) (g.J.Journal.places c.answer.new.self) c.args.id at.0 c.args.answer e (kept_of at.1) entered c.answer.ensures.places in
    written_back h (g.J.Journal.history c.answer.new.self) (g.J.Journal.history c.take_answer.new.self) at.0 (with_answer c.args.answer e) e at.1.opened.there entered (c.take_answer.ensures.back at.0 e c.args.answer kept)

pub invariant_of-self-in-Err : goal.invariant_of-self-in-Err
invariant_of-self-in-Err g c = restored c.self.invariant c.in-Err.ensures.refused (taken_back g c) (λ q. c.take_answer.ensures.places q ∙ c.answer.ensures.places q)

pub returns-in-Err-clause-transcript : goal.returns-in-Err-clause-transcript
returns-in-Err-clause-transcript g c = λ session. rw (← c.self.view_is) (taken_back g c)

pub returns-in-Err-clause-told : goal.returns-in-Err-clause-told
returns-in-Err-clause-told g c = (rw (← c.self.view_is) c.self.invariant.told, (invariant_of-self-in-Err g c).told)

pub returns-in-Err-clause-refused : goal.returns-in-Err-clause-refused
returns-in-Err-clause-refused g c = rw (c.in-Err.ensures.refused, taken_back g c) c.self.view_is
