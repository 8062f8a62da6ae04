use Rattle.std.proofs.Common.{length, ap, ◌∙◌, arith}
use Rattle.std.proofs.lemmas.List.{take_all}
use Rattle.jc_engine.specs.Caches.{names_of}
use Rattle.jc_c.specs.Seated.{Seated}
use Rattle.jc_c.proofs.Naming.{few_names}
use Rattle.jc_c.proofs.ffi_manager.FfiManager.names.Goals as goal

pub returns-clause-same : goal.returns-clause-same
returns-clause-same c =
    let few = few_names c.self.inside.engine in
    let all = ap length c.names-names.ensures in
    take_all c.min.result c.names-names.result.now (omega (arith, few, all, c.next_id.ensures, c.number-given.ensures, c.min.ensures))
    ∙ c.names-names.ensures ∙ ap (λ (s : Seated). names_of s.caches) c.self.view_is
