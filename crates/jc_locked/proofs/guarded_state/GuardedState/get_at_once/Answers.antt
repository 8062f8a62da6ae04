use Rattle.std.proofs.Common.{Some, false, refl}
use Rattle.jc_model.specs.declared.call.Reply.TheVariants.{Found}
use Rattle.jc_model.specs.declared.event.Entry.{Entry}
use Rattle.jc_model.specs.declared.event.Step.{Step}
use Rattle.jc_model.specs.declared.event.Step.TheVariants.{Done}
use Rattle.jc_model.specs.Runs.{begins}
use Rattle.jc_engine.specs.Caches.{lives_of}
use Rattle.jc_engine.specs.Recording.{blank_of}
use Rattle.jc_engine.specs.Results.{of_found}
use Rattle.jc_locked.specs.Finding.{entry_ended_by}
use Rattle.jc_locked.proofs.Tenures.{still_begins, begun_asks, begun_live, begun_goes_on}
use Rattle.jc_locked.proofs.guarded_state.GuardedState.get_at_once.Goals as goal

pub returns-clause-some : goal.returns-clause-some
returns-clause-some g c =
    let old = c.args.self.now.recorded in
    let new = c.get_at_once.new.self in
    let origin = c.args.origin in
    let call = c.args.call.now in
    let found = c.in_ok-found.found in
    let entry : Entry = blank_of origin call in
    let step : Step = Done (Found found) in
    begun_goes_on g.N.Name.configs old.transcript new.transcript entry (entry_ended_by (Some (Found found)) entry) c.show.new.pass call step refl refl c.in_ok-found.ensures.told.1.legal
    (still_begins g.N.Name.configs old.transcript new.transcript origin.session origin.id (begins origin.at call) (of_found found) c.args.self.now.begins c.in_ok-found.ensures.transcript)
    (lives_of new.caches) (begun_live (lives_of old.caches) (lives_of new.caches) origin.id origin.at call step false c.in_ok-found.ensures.outcome c.in_ok-found.ensures.lives)
    (λ replied. c.show.ensures.sees) c.in_ok-found.ensures.transcript (begun_asks (lives_of old.caches) origin.id origin.at call step false c.in_ok-found.ensures.outcome)
