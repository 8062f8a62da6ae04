use Rattle.std.proofs.Common.{List, Option, Some, inl, inr, refl, ap, ◌∙◌, length, nat_eq}
use Rattle.std.specs.HashMap.{get}
use Rattle.jc_model.specs.declared.event.Event.TheVariants.{Create}
use Rattle.jc_model.specs.declared.event.Outcome.TheVariants.{Created, CreateRefused}
use Rattle.jc_engine.proofs.Numbered.{Puts, puts_same}
use Rattle.jc_engine.specs.Caches.{fresh_cache}
use Rattle.jc_c.specs.declared.desks.Desk.{Desk}
use Rattle.jc_c.proofs.Seating.{created_id, slots_more, shown_more, same_places, accepted_does, refused_does}
use Rattle.jc_c.proofs.ffi_manager.FfiManager.create.Goals as goal

pub returns-then-is_err : goal.returns-then-is_err
returns-then-is_err c = λ id.
    inr (refl, refl, ap (λ (ds : List (Option Desk)). record { caches = c.self.inside.engine; desks = ds; placer = c.self.inside.placer }) (same_places (get nat_eq c.self.inside.desks) (get nat_eq c.reserve.new.self) (length c.self.inside.engine) c.reserve.ensures.entries.2) ∙ c.self.view_is)

abbrev first : goal.After-add → Desk
first c = record { shown = Created c.in-Ok.id; max_value = c.args.asked.max_value }

module _ (c : goal.After-add) where
  puts : Puts (get nat_eq c.self.inside.desks) c.in-Ok.id (Some (first c)) (get nat_eq c.add.new.desks)
  puts = puts_same _ (get nat_eq c.reserve.new.self) _ c.in-Ok.id c.in-Ok.id _ _ c.reserve.ensures.entries.2 refl refl c.add.ensures

pub invariant_of-self-in-Ok : goal.invariant_of-self-in-Ok
invariant_of-self-in-Ok c =
    slots_more c.self.inside.engine c.create.new.self (get nat_eq c.self.inside.desks) (get nat_eq c.add.new.desks) c.in-Ok.id (fresh_cache c.args.asked.config) c.self.invariant (created_id c.self.inside.engine c.in-Ok.id c.args.asked.config c.in-Ok.ensures.outcome) c.in-Ok.ensures.added (first c) (puts c) refl

pub returns-in-Ok : goal.returns-in-Ok
returns-in-Ok c = rw (← c.self.view_is)
    (accepted_does c.args.asked.max_value c.self.inside.placer c.self.inside.engine c.create.new.self (get nat_eq c.self.inside.desks) (get nat_eq c.add.new.desks) (Create c.args.asked.config) (Created c.in-Ok.id) refl c.in-Ok.ensures.outcome c.in-Ok.ensures.lives (λ never. absurd cc)
    (shown_more c.self.inside.engine c.create.new.self (get nat_eq c.self.inside.desks) (get nat_eq c.add.new.desks) c.in-Ok.id (fresh_cache c.args.asked.config) c.self.invariant (created_id c.self.inside.engine c.in-Ok.id c.args.asked.config c.in-Ok.ensures.outcome) c.in-Ok.ensures.added (first c) (puts c)))

pub returns-in-Err : goal.returns-in-Err
returns-in-Err c = λ id. rw (← c.self.view_is) (inl (record {
  outcome = CreateRefused c.in-Err.refusal;
  does = refused_does c.args.asked.max_value c.self.inside.placer c.self.inside.engine c.create.new.self (get nat_eq c.self.inside.desks) (get nat_eq c.reserve.new.self) (Create c.args.asked.config) (CreateRefused c.in-Err.refusal) refl c.in-Err.ensures.outcome c.in-Err.ensures.lives (λ never. absurd cc) c.in-Err.ensures.refused c.reserve.ensures.entries.2;
  status_is = c.of_refusal.ensures;
  id_is = refl;
}))
