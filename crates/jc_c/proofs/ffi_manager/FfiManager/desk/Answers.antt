use Rattle.std.proofs.Common.{sym, ◌∙◌, length, nat_eq}
use Rattle.std.specs.HashMap.{get}
use Rattle.jc_engine.proofs.Numbered.{at-places}
use Rattle.jc_c.proofs.Seating.{none_beyond}
use Rattle.jc_c.proofs.ffi_manager.FfiManager.desk.Goals as goal

pub returns : goal.returns
returns c =
    rw (← c.self.view_is)
    (rw c.number-number.ensures at c.get.ensures.value
    ∙ sym (at-places (get nat_eq c.self.inside.desks) (length c.self.inside.engine) c.args.id (none_beyond c.self.inside.engine (get nat_eq c.self.inside.desks) c.self.invariant)))
