use Rattle.std.proofs.Common.{ap, subst, sym, ◌∙◌, arith}
use Rattle.jc_save.specs.Spelling.{saved}
use Rattle.jc_save.specs.Restoring.{Restores, restored, cache_of}
use Rattle.jc_save.proofs.Whole.{is_restored, restored_again}
use Rattle.jc_save.proofs.restoring.restore.Goals as goal

pub returns-clause-found : goal.returns-clause-found
returns-clause-found c = is_restored c.args.name c.args.bytes.now c.restored.result (λ i. omega (arith, c.type_inv.bytes i)) c.restored.ensures

pub returns-clause-only : goal.returns-clause-only
returns-clause-only c =
    λ config state savable named same. subst (λ read. Restores cache_of c.restored.result read)
    (ap (restored c.args.name) same ∙ ap (λ name. restored name (saved config state)) (sym named) ∙ restored_again config state savable) c.restored.ensures
