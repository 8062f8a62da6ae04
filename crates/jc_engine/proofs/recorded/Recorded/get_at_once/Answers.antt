use Rattle.std.proofs.Common.{◌≡◌, ◌++◌, ◌∷◌, [], ◌∙◌, ap}
use Rattle.std.proofs.lemmas.Iterator.Adapters.{option_map_id}
use Rattle.jc_model.specs.declared.call.Reply.TheVariants.{Found}
use Rattle.jc_engine.proofs.Names.{Entry, History, with_outcome}
use Rattle.jc_engine.specs.declared.turn.EngineStep.TheVariants.{Replied}
use Rattle.jc_engine.specs.Recording.{with_entries}
use Rattle.jc_engine.specs.Recording.{blank_of}
use Rattle.jc_engine.specs.Results.{of_found}
use Rattle.jc_engine.proofs.Recordings.{begun, begun_is}
use Rattle.jc_engine.proofs.recorded.Recorded.get_at_once.Goals as goal

pub invariant_of-self-2 : goal.invariant_of-self-2
invariant_of-self-2 g c =
    let origin = c.args.origin in
    let found = c.in_ok-found.found in
    let before : History = g.J.Journal.history c.self.inside.journal in
    let noted : g.J.Journal.history c.note.new.self ≡ with_entries (before.entries ++ with_outcome (of_found found) (blank_of origin c.args.call.now) ∷ []) before =
    c.note.ensures.noted c.if-not-note.false
    ∙ ap (λ (e : Entry). with_entries (before.entries ++ with_outcome (of_found found) e ∷ []) before) (begun_is c.of.result origin c.args.call.now c.of.ensures.origin c.of.ensures.call) in
    rw noted
    (begun c.self.invariant c.in_ok-found.ensures.one origin.session origin.at c.args.call.now (Replied (Found found)) (g.J.Journal.places c.note.new.self) (rw (option_map_id found) at c.in_ok-found.ensures.fits)
    (record { others = λ other differ. c.note.ensures.places other; own = λ goes. absurd cc })
    (rw (option_map_id found) at c.in_ok-found.ensures.outcome) c.in_ok-found.ensures.lives)

pub returns-clause-told : goal.returns-clause-told
returns-clause-told g c = (rw (← c.self.view_is) c.self.invariant.told, (invariant_of-self-2 g c).told)
