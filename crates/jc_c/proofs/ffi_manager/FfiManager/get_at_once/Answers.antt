use Rattle.std.proofs.Common.{◌≡◌, ℕ, false, List, Option, Some, None, refl, subst, nat_eq}
use Rattle.std.specs.HashMap.{get}
use Rattle.jc_model.specs.declared.call.Reply.TheVariants.{Found}
use Rattle.jc_model.specs.declared.event.Event.TheVariants.{Begin}
use Rattle.jc_model.specs.declared.event.Outcome.{Outcome}
use Rattle.jc_model.specs.declared.event.Outcome.TheVariants.{Step as Stepped}
use Rattle.jc_model.specs.declared.event.Step.TheVariants.{Done}
use Rattle.jc_model.specs.Runs.{answer_to, begins}
use Rattle.jc_engine.specs.Caches.{lives_of}
use Rattle.jc_engine.specs.Results.{of_found}
use Rattle.jc_c.proofs.Seating.{slots_after, shown_after, accepted_does}
use Rattle.jc_c.proofs.ffi_manager.FfiManager.get_at_once.Goals as goal

found_is : (found : Option (List ℕ)) → of_found (Rattle.std.specs.Prelude.option_map (λ (v : List ℕ). v) found) ≡ of_found found
found_is None = refl
found_is (Some v) = refl

pub returns-in-Some-clause-status : goal.returns-in-Some-clause-status
returns-in-Some-clause-status c =
    let is = found_is c.in-Some.found in
    let answer = subst (λ (o : Outcome). o ≡ answer_to (lives_of c.self.inside.engine) (Begin c.args.id c.args.now c.args.call.now) false) is c.in-Some.ensures.outcome in
    rw (← c.self.view_is) (record {
      outcome = of_found c.in-Some.found;
      does = accepted_does 0 c.self.inside.placer c.self.inside.engine c.get_at_once.new.self (get nat_eq c.self.inside.desks) (get nat_eq c.show.new.desks) (Begin c.args.id c.args.now c.args.call.now) (of_found c.in-Some.found) refl
          answer c.in-Some.ensures.lives (λ _. answer)
          (shown_after c.self.inside.engine c.get_at_once.new.self (get nat_eq c.self.inside.desks) (get nat_eq c.show.new.desks) c.args.id (begins c.args.now c.args.call.now) (of_found c.in-Some.found) c.self.invariant
          false answer refl c.in-Some.ensures.lives c.show.ensures.desks);
      status_is = c.show.ensures.status;
    })

pub invariant_of-self : goal.invariant_of-self
invariant_of-self c =
    let answer = subst (λ (o : Outcome). o ≡ answer_to (lives_of c.self.inside.engine) (Begin c.args.id c.args.now c.args.call.now) false) (found_is c.in-Some.found) c.in-Some.ensures.outcome in
    slots_after c.self.inside.engine c.get_at_once.new.self (get nat_eq c.self.inside.desks) (get nat_eq c.show.new.desks) c.args.id (begins c.args.now c.args.call.now) (of_found c.in-Some.found) c.self.invariant
    false answer refl c.in-Some.ensures.lives c.show.ensures.desks
