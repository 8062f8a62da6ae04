use Rattle.std.proofs.Common.{false, refl, nat_eq}
use Rattle.std.specs.HashMap.{get}
use Rattle.jc_model.specs.declared.event.Event.TheVariants.{GiveUp}
use Rattle.jc_model.specs.declared.event.Outcome.TheVariants.{GivenUp}
use Rattle.jc_model.specs.Runs.{gives_up}
use Rattle.jc_c.proofs.Seating.{slots_after, shown_after, accepted_does}
use Rattle.jc_c.proofs.ffi_manager.FfiManager.give_up.Goals as goal

pub invariant_of-self : goal.invariant_of-self
invariant_of-self c =
    slots_after c.self.inside.engine c.give_up.new.self (get nat_eq c.self.inside.desks) (get nat_eq c.show.new.desks) c.args.id (gives_up) (GivenUp c.in-Ok.notices) c.self.invariant
    false c.in-Ok.ensures.outcome refl c.in-Ok.ensures.lives c.show.ensures.desks

pub returns-in-Ok : goal.returns-in-Ok
returns-in-Ok c = rw (← c.self.view_is) (record {
  outcome = GivenUp c.in-Ok.notices;
  does = accepted_does 0 c.self.inside.placer c.self.inside.engine c.give_up.new.self (get nat_eq c.self.inside.desks) (get nat_eq c.show.new.desks) (GiveUp c.args.id) (GivenUp c.in-Ok.notices) refl c.in-Ok.ensures.outcome c.in-Ok.ensures.lives (λ _. c.in-Ok.ensures.outcome)
      (shown_after c.self.inside.engine c.give_up.new.self (get nat_eq c.self.inside.desks) (get nat_eq c.show.new.desks) c.args.id (gives_up) (GivenUp c.in-Ok.notices) c.self.invariant
      false c.in-Ok.ensures.outcome refl c.in-Ok.ensures.lives c.show.ensures.desks);
  status_is = c.show.ensures.status;
})
