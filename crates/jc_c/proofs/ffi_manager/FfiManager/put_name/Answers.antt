use Rattle.std.proofs.Common.{ℕ, Option, sym, ap, ◌∙◌}
use Rattle.jc_save.specs.Placing.{put_at}
use Rattle.jc_c.specs.Names.{name_bytes}
use Rattle.jc_c.proofs.Naming.{name_put}
use Rattle.jc_c.proofs.Putting.{put_none}
use Rattle.jc_c.proofs.ffi_manager.FfiManager.put_name.Goals as goal

pub returns-in_default-clause-out : goal.returns-in_default-clause-out
returns-in_default-clause-out c =
    sym (ap (λ (o : Option ℕ). put_at c.args.at (name_bytes c.args.name.now o) c.args.out.now) (sym c.in_default.ensures) ∙ put_none c.args.at c.args.out.now)

pub returns-clause-out : goal.returns-clause-out
returns-clause-out c =
    rw (c.put.ensures.out, c.put-behind.ensures.out, c.put-behind.ensures.place, c.as_bytes.ensures.value, c.text.ensures.same, c.head_of-head.ensures, ← c.in-Some.ensures) (name_put c.args.at c.in-Some.id c.args.name.now c.args.out.now)
