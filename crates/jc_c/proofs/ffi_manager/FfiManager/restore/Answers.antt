use Rattle.std.proofs.Common.{Some, refl, nat_eq}
use Rattle.std.specs.HashMap.{get}
use Rattle.jc_model.specs.declared.event.Outcome.TheVariants.{Created}
use Rattle.jc_save.specs.Restoring.{restored}
use Rattle.jc_engine.proofs.Numbered.{Puts, puts_same}
use Rattle.jc_engine.specs.Caches.{Cache}
use Rattle.jc_engine.specs.Saving.{idle_cache}
use Rattle.jc_c.specs.declared.desks.Desk.{Desk}
use Rattle.jc_c.proofs.Restoring.{refused, seated_same, unrefused}
use Rattle.jc_c.proofs.Seating.{slots_more, shown_more}
use Rattle.jc_c.proofs.ffi_manager.FfiManager.restore.Goals as goal

module _ (c : goal.After-add) where
  abbrev desk : Desk
  desk = record { shown = Created c.in-Ok.id; max_value = c.args.asked.max_value }

  abbrev cache : Cache
  cache = idle_cache c.in-Ok.ensures.added.config c.in-Ok.ensures.added.state c.in-Ok.ensures.added.numbers

  puts : Puts (get nat_eq c.self.inside.desks) c.in-Ok.id (Some desk) (get nat_eq c.add.new.desks)
  puts = puts_same _ (get nat_eq c.reserve.new.self) _ c.in-Ok.id c.in-Ok.id _ _ c.reserve.ensures.entries.2 refl refl c.add.ensures

pub invariant_of-self-in-Ok : goal.invariant_of-self-in-Ok
invariant_of-self-in-Ok c =
    slots_more c.self.inside.engine c.restore.new.self (get nat_eq c.self.inside.desks) (get nat_eq c.add.new.desks) c.in-Ok.id (cache c) c.self.invariant c.in-Ok.ensures.exact.1 c.in-Ok.ensures.added.added (desk c) (puts c) refl

pub returns-in-Ok : goal.returns-in-Ok
returns-in-Ok c = λ lacks. rw (← c.self.view_is) (
  unrefused c.self.inside.engine c.args.asked.max_value (restored c.args.asked.name c.args.bytes.now) lacks c.in-Ok.ensures.exact.0,
  record {
    id_is = c.in-Ok.ensures.exact.1;
    caches = c.in-Ok.ensures.added;
    desks = shown_more c.self.inside.engine c.restore.new.self (get nat_eq c.self.inside.desks) (get nat_eq c.add.new.desks) c.in-Ok.id (cache c) c.self.invariant c.in-Ok.ensures.exact.1 c.in-Ok.ensures.added.added (desk c) (puts c);
    placer = refl;
  },
)

pub returns-in-Err : goal.returns-in-Err
returns-in-Err c = λ lacks. rw (← c.self.view_is, c.of_refusal.ensures) (
  refused c.self.inside.engine c.args.asked.max_value (restored c.args.asked.name c.args.bytes.now) c.in-Err.refusal lacks c.in-Err.ensures.exact,
  seated_same c.self.inside.placer c.self.inside.engine c.restore.new.self (get nat_eq c.self.inside.desks) (get nat_eq c.reserve.new.self) c.in-Err.ensures.refused c.reserve.ensures.entries.2,
)
