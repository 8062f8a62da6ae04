use Rattle.std.proofs.Common.{false, refl, nat_eq}
use Rattle.std.specs.HashMap.{get}
use Rattle.jc_model.specs.declared.event.Event.TheVariants.{Answer as Answers}
use Rattle.jc_model.specs.declared.event.Outcome.TheVariants.{Step as Stepped}
use Rattle.jc_model.specs.Runs.{answers}
use Rattle.jc_c.proofs.Seating.{slots_after, shown_after, accepted_does}
use Rattle.jc_c.proofs.ffi_manager.FfiManager.resume.Goals as goal

pub invariant_of-self : goal.invariant_of-self
invariant_of-self c =
    slots_after c.self.inside.engine c.resume.new.self (get nat_eq c.self.inside.desks) (get nat_eq c.show.new.desks) c.args.id (answers c.args.answer) (Stepped c.in-Ok.step) c.self.invariant
    false c.in-Ok.ensures.outcome refl c.in-Ok.ensures.lives c.show.ensures.desks

pub returns-in-Ok : goal.returns-in-Ok
returns-in-Ok c = rw (← c.self.view_is) (record {
  outcome = Stepped c.in-Ok.step;
  does = accepted_does 0 c.self.inside.placer c.self.inside.engine c.resume.new.self (get nat_eq c.self.inside.desks) (get nat_eq c.show.new.desks) (Answers c.args.id c.args.answer) (Stepped c.in-Ok.step) refl c.in-Ok.ensures.outcome c.in-Ok.ensures.lives c.in-Ok.ensures.told
      (shown_after c.self.inside.engine c.resume.new.self (get nat_eq c.self.inside.desks) (get nat_eq c.show.new.desks) c.args.id (answers c.args.answer) (Stepped c.in-Ok.step) c.self.invariant
      false c.in-Ok.ensures.outcome refl c.in-Ok.ensures.lives c.show.ensures.desks);
  status_is = c.show.ensures.status;
})
