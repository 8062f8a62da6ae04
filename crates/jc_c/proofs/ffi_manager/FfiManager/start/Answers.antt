use Rattle.std.proofs.Common.{◌≡◌, false, refl, ap, ◌∙◌, nat_eq}
use Rattle.std.specs.HashMap.{get}
use Rattle.jc_model.specs.declared.event.Event.TheVariants.{Begin}
use Rattle.jc_model.specs.declared.event.Outcome.TheVariants.{Step as Stepped}
use Rattle.jc_model.specs.Runs.{answer_to, begins}
use Rattle.jc_engine.specs.Caches.{lives_of}
use Rattle.jc_c.proofs.Seating.{slots_after, shown_after, accepted_does}
use Rattle.jc_c.proofs.ffi_manager.FfiManager.start.Goals as goal

module _ (c : goal.After-show) where
  answer : Stepped c.step_of.result ≡ answer_to (lives_of c.self.inside.engine) (Begin c.args.id c.args.now c.args.call.now) false
  answer = ap Stepped c.step_of.ensures ∙ c.in-Ok.ensures.outcome

pub returns-in-Ok : goal.returns-in-Ok
returns-in-Ok c = rw (← c.self.view_is) (record {
  outcome = Stepped c.step_of.result;
  does = accepted_does 0 c.self.inside.placer c.self.inside.engine c.start.new.self (get nat_eq c.self.inside.desks) (get nat_eq c.show.new.desks) (Begin c.args.id c.args.now c.args.call.now) (Stepped c.step_of.result) refl
      (answer c) c.in-Ok.ensures.lives (λ _. answer c)
      (shown_after c.self.inside.engine c.start.new.self (get nat_eq c.self.inside.desks) (get nat_eq c.show.new.desks) c.args.id (begins c.args.now c.args.call.now) (Stepped c.step_of.result) c.self.invariant
      false (answer c) refl c.in-Ok.ensures.lives c.show.ensures.desks);
  status_is = c.show.ensures.status;
})

pub invariant_of-self : goal.invariant_of-self
invariant_of-self c =
    slots_after c.self.inside.engine c.start.new.self (get nat_eq c.self.inside.desks) (get nat_eq c.show.new.desks) c.args.id (begins c.args.now c.args.call.now) (Stepped c.step_of.result) c.self.invariant
    false (ap Stepped c.step_of.ensures ∙ c.in-Ok.ensures.outcome) refl c.in-Ok.ensures.lives c.show.ensures.desks
