use Rattle.std.proofs.Common.{◌≡◌, ◌++◌, ◌∷◌, [], refl}
use Rattle.std.proofs.lemmas.Iterator.Adapters.{option_map_id}
use Rattle.jc_engine.proofs.Names.{Entry, at_place, History, with_outcome, step_of, Stepped}
use Rattle.jc_engine.specs.declared.turn.EngineStep.{EngineStep}
use Rattle.jc_engine.specs.declared.turn.EngineStep.TheVariants.{Replied}
use Rattle.jc_engine.specs.Recording.{blank, with_entries}
use Rattle.jc_engine.specs.Recording.{CanTell}
use Rattle.jc_engine.proofs.Recordings.{begun, can_tell_by, keeps_over}
use Rattle.jc_engine.proofs.recorded.Recorded.begin.Given as given
use Rattle.jc_engine.proofs.recorded.Recorded.begin.Goals as goal

-- a call that was answered at once
module _ (g : given.Over) (c : goal.After-begin g) where
  abbrev before : History
  before = g.J.Journal.history c.self.inside.journal

  abbrev opened : Entry
  opened = blank c.args.session c.args.id c.args.now c.args.call

  abbrev replied : EngineStep
  replied = Replied c.found.result

  noted : g.J.Journal.history c.begin.new.self ≡ with_entries (before.entries ++ with_outcome (Stepped (step_of replied)) opened ∷ []) before
  noted = c.begin.ensures.noted before opened c.in-Ok.ensures.entered refl tt

pub invariant_of-self-in-Some : goal.invariant_of-self-in-Some
invariant_of-self-in-Some g c =
    let called = c.call.ensures (before g c) (opened g c) c.in-Ok.ensures.entered in
    rw (noted g c)
    (begun c.self.invariant c.in-Some.ensures.one c.args.session c.args.now c.args.call (replied g c) (g.J.Journal.places c.begin.new.self) (rw (option_map_id c.in-Some.value, ← c.found.ensures) at c.in-Some.ensures.fits)
    (keeps_over (g.J.Journal.places c.self.inside.journal) (g.J.Journal.places c.enter.new.self) (g.J.Journal.places c.begin.new.self) c.args.id _ (replied g c) c.enter.ensures.places (c.begin.ensures.places (before g c) (opened g c) c.in-Ok.ensures.entered))
    (rw (called, option_map_id c.in-Some.value, ← c.found.ensures) at c.in-Some.ensures.outcome) (rw called at c.in-Some.ensures.lives))

pub returns-in-Some-clause-told : goal.returns-in-Some-clause-told
returns-in-Some-clause-told g c = (rw (← c.self.view_is) c.self.invariant.told, (invariant_of-self-in-Some g c).told)

-- one that has begun
module _ (g : given.Over) (c : goal.After-begin-in-Ok-start g) where
  abbrev history : History
  history = g.J.Journal.history c.self.inside.journal

  abbrev entered : Entry
  entered = blank c.args.session c.args.id c.args.now c.args.call

  abbrev written : Entry
  written = with_outcome (Stepped (step_of c.in-Ok-start.advance)) entered

  can_tell : CanTell c.in-Ok-start.advance entered
  can_tell = can_tell_by c.in-Ok-start.advance (at_place c.start.new.self c.args.id) entered c.in-Ok-start.ensures.fits (λ _. refl)

  told_so : g.J.Journal.history c.begin-in-Ok-start.new.self ≡ with_entries (history.entries ++ written ∷ []) history
  told_so = c.begin-in-Ok-start.ensures.noted history entered c.in-Ok.ensures.entered refl can_tell

pub invariant_of-self-in-Ok-start : goal.invariant_of-self-in-Ok-start
invariant_of-self-in-Ok-start g c =
    let called = c.call-2.ensures (history g c) (entered g c) c.in-Ok.ensures.entered in
    let same = c.in_default.ensures.same refl in
    rw (told_so g c)
    (begun c.self.invariant (rw same at c.in-Ok-start.ensures.one) c.args.session c.args.now c.args.call c.in-Ok-start.advance (g.J.Journal.places c.begin-in-Ok-start.new.self) c.in-Ok-start.ensures.fits
    (keeps_over (g.J.Journal.places c.self.inside.journal) (g.J.Journal.places c.enter.new.self) (g.J.Journal.places c.begin-in-Ok-start.new.self) c.args.id _ c.in-Ok-start.advance c.enter.ensures.places (c.begin-in-Ok-start.ensures.places (history g c) (entered g c) c.in-Ok.ensures.entered))
    (rw (called, same) at c.in-Ok-start.ensures.outcome) (rw (called, same) at c.in-Ok-start.ensures.lives))

pub returns-in-Ok-start-clause-told : goal.returns-in-Ok-start-clause-told
returns-in-Ok-start-clause-told g c = (rw (← c.self.view_is) c.self.invariant.told, (invariant_of-self-in-Ok-start g c).told)
