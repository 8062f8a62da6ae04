use Rattle.std.proofs.Common.{nat_eq}
use Rattle.std.specs.HashMap.{get}
use Rattle.jc_c.specs.Desks.{truth_at}
use Rattle.jc_c.proofs.Looking.{slots_told, told_does}
use Rattle.jc_c.proofs.ffi_manager.FfiManager.contains.Goals as goal

pub invariant_of-self : goal.invariant_of-self
invariant_of-self c =
    slots_told c.args.now c.args.key.now c.self.inside.placer c.self.inside.engine (get nat_eq c.self.inside.desks) (get nat_eq c.show_truth.new.desks) c.args.id c.has-held.result c.self.invariant c.has-held.ensures c.show_truth.ensures.desks

pub returns : goal.returns
returns c = rw (← c.self.view_is) (record {
  outcome = truth_at c.has-held.result (get nat_eq c.self.inside.desks c.args.id);
  does = told_does c.args.now c.args.key.now c.self.inside.placer c.self.inside.engine (get nat_eq c.self.inside.desks) (get nat_eq c.show_truth.new.desks) c.args.id c.has-held.result c.self.invariant c.has-held.ensures c.show_truth.ensures.desks;
  status_is = c.show_truth.ensures.status;
})
