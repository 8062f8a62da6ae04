use Rattle.std.proofs.Common.{ap}
use Rattle.jc_model.specs.Places.{at_place}
use Rattle.jc_c.specs.Seated.{Seated}
use Rattle.jc_c.proofs.Restoring.{written}
use Rattle.jc_c.proofs.ffi_manager.FfiManager.save_cache.Goals as goal

pub returns-in-Ok-clause-out : goal.returns-in-Ok-clause-out
returns-in-Ok-clause-out c =
    let there = ap (λ (s : Seated). at_place s.caches c.args.id) c.self.view_is in
    written c.in-Ok.length c.args.out.now c.save.new.out (at_place c.args.self.now.caches c.args.id) (rw (c.new.ensures, there) at c.in-Ok.ensures.exact) (rw (c.new.ensures, there) at c.in-Ok.ensures.out)
