use Rattle.std.proofs.Common.{sym, ap, subst, refl, length}
use Rattle.jc_model.specs.Places.{at_place}
use Rattle.jc_c.specs.Seated.{Seated}
use Rattle.jc_c.specs.Walk.{Walked, WalkTells}
use Rattle.jc_c.proofs.Walking.{walked_there, walked_nowhere}
use Rattle.jc_c.proofs.ffi_manager.FfiManager.walk.Goals as goal

pub returns-in-Some : goal.returns-in-Some
returns-in-Some c =
    let there = walked_there (length c.args.out.now) (at_place c.args.self.now.caches c.args.id) c.args.from c.in-Some.config.now (rw (ap (λ (s : Seated). s.caches) c.self.view_is, c.new-id.ensures) at c.in-Some.ensures) in
    let t = subst (λ (w : Walked). WalkTells w c.args.from c.args.out.now c.args.len.now c.args.next.now c.walk_rows.result c.walk_rows.new.out c.walk_rows.new.len c.walk_rows.new.next) (sym there) (rw c.new-id.ensures at c.walk_rows.ensures) in
    record { status = t.status; out = t.bytes; len = t.many; next = t.onward }

pub returns-in-None : goal.returns-in-None
returns-in-None c =
    let nowhere = walked_nowhere (length c.args.out.now) (at_place c.args.self.now.caches c.args.id) c.args.from (rw (ap (λ (s : Seated). s.caches) c.self.view_is, c.new-id.ensures) at c.in-None.ensures) in
    rw nowhere (record { status = refl; out = refl; len = refl; next = refl })
