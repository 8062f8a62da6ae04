use Rattle.std.proofs.Common.{◌++◌, ◌∷◌, [], sym, subst, append-nil}
use Rattle.jc_script.specs.declared.line.Line.{Line}
use Rattle.jc_script.specs.declared.line.Line.TheVariants.{Call}
use Rattle.jc_threads.specs.Managing.{AreManaged}
use Rattle.jc_threads.proofs.Managed.{managed_both}
use Rattle.jc_threads.proofs.rounds.take_line.Goals as goal

pub returns-in_ok-take_call-in-Call-clause-managed : goal.returns-in_ok-take_call-in-Call-clause-managed
returns-in_ok-take_call-in-Call-clause-managed g c =
    let configs = g.N.Name.configs in
    let rs = c.args.refusals.now.items in
    let more = Call c.in-Call.call ∷ [] in
    λ done before.
    subst (λ (l : Line). AreManaged configs (done ++ l ∷ []) rs) (sym c.in-Call.is)
    (subst (AreManaged configs (done ++ more)) (append-nil rs) (managed_both configs done more rs [] before tt))
