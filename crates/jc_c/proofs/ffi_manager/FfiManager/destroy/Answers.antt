use Rattle.std.proofs.Common.{refl, nat_eq}
use Rattle.std.specs.HashMap.{get}
use Rattle.jc_model.specs.declared.event.Event.TheVariants.{Destroy}
use Rattle.jc_model.specs.declared.event.Outcome.TheVariants.{Destroyed}
use Rattle.jc_c.proofs.Seating.{shown_without, accepted_does}
use Rattle.jc_c.proofs.ffi_manager.FfiManager.destroy.Goals as goal

pub returns-in-Ok : goal.returns-in-Ok
returns-in-Ok c = rw (← c.self.view_is) (record {
  outcome = Destroyed;
  does = accepted_does 0 c.self.inside.placer c.self.inside.engine c.destroy.new.self (get nat_eq c.self.inside.desks) (get nat_eq c.take_away.new.desks) (Destroy c.args.id) Destroyed refl c.in-Ok.ensures.outcome c.in-Ok.ensures.lives (λ _. c.in-Ok.ensures.outcome)
      (shown_without c.self.inside.engine c.destroy.new.self (get nat_eq c.self.inside.desks) (get nat_eq c.take_away.new.desks) c.args.id c.self.invariant c.in-Ok.ensures.outcome c.in-Ok.ensures.gone c.take_away.ensures);
  status_is = refl;
})
