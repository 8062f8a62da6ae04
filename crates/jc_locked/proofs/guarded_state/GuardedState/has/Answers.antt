use Rattle.std.proofs.Common.{◌∙◌, ap}
use Rattle.jc_model.specs.Places.{at_place}
use Rattle.jc_engine.specs.Caches.{lives_of, holds_in}
use Rattle.jc_engine.specs.Recording.{Recording}
use Rattle.jc_rows.specs.Images.{last_image}
use Rattle.jc_locked.proofs.Showing.{has_agrees, row_told}
use Rattle.jc_locked.proofs.guarded_state.GuardedState.has.Goals as goal

pub returns-clause-agrees : goal.returns-clause-agrees
returns-clause-agrees g c = λ met b found.
    c.has.ensures ∙ (ap (λ (r : Recording). holds_in c.args.now c.args.key.now (at_place r.caches c.args.id)) c.show.ensures.same ∙ has_agrees c.args.self.now.recorded.caches (last_image c.show.new.pass.images) c.args.id c.args.key.now c.args.now b (c.show.ensures.sees.shows met) found)

pub returns-clause-exact : goal.returns-clause-exact
returns-clause-exact g c =
    c.has.ensures ∙ (ap (λ (r : Recording). holds_in c.args.now c.args.key.now (at_place r.caches c.args.id)) c.show.ensures.same ∙ row_told c.args.now c.args.key.now c.args.self.now.recorded.caches c.args.id)

pub returns-clause-held : goal.returns-clause-held
returns-clause-held g c =
    let recorded = c.args.self.now.recorded in
    let sees = c.show.ensures.sees in
    record {
      transcript = recorded.transcript;
      lives = lives_of recorded.caches;
      told = record { legal = sees.tells.legal; begins = c.args.self.now.begins; tells = sees.tells };
      sees = sees;
      held = c.has.ensures ∙ (ap (λ (r : Recording). holds_in c.args.now c.args.key.now (at_place r.caches c.args.id)) c.show.ensures.same ∙ row_told c.args.now c.args.key.now recorded.caches c.args.id);
    }
