use Rattle.std.proofs.Common.{◌≡◌, true, Option, sym, subst}
use Rattle.std.specs.List.{list_all}
use Rattle.jc_c.specs.declared.desks.Desk.{Desk}
use Rattle.jc_c.specs.Desks.{is_taken}
use Rattle.jc_c.proofs.Taking.{all_taken}
use Rattle.jc_c.proofs.ffi_manager.FfiManager.takes_pairs.Goals as goal

pub returns-in-None : goal.returns-in-None
returns-in-None c = sym (subst (λ (desk : Option Desk). list_all (λ p. is_taken desk p.1) c.args.pairs.now ≡ true) c.in-None.ensures (all_taken c.args.pairs.now))
