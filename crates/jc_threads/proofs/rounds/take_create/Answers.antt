use Rattle.std.proofs.Common.{◌++◌, ◌∷◌, [], List, Option, sym, subst}
use Rattle.jc_model.specs.declared.event.CreateRefusal.{CreateRefusal}
use Rattle.jc_script.specs.declared.line.Line.TheVariants.{Create}
use Rattle.jc_threads.specs.Dealing.{AreAtRest}
use Rattle.jc_threads.specs.Managing.{AreManaged}
use Rattle.jc_threads.proofs.Dealt.{under_way_again}
use Rattle.jc_threads.proofs.Managed.{managed_both}
use Rattle.jc_threads.proofs.rounds.take_create.Goals as goal

pub returns-clause-made : goal.returns-clause-made
returns-clause-made g c = λ all under. under_way_again g.N.Name.stated all c.in_ok-crew.crew.items (c.in_ok-crew.ensures.rested all under)

pub returns-clause-managed : goal.returns-clause-managed
returns-clause-managed g c =
    let configs = g.N.Name.configs in
    let more = Create c.args.session c.args.config ∷ [] in
    λ done before.
    subst (λ (rs : List (Option CreateRefusal)). AreManaged configs (done ++ more) rs) (sym c.in_ok-push.ensures.items)
    (managed_both configs done more c.args.refusals.now.items (c.in_ok-refusal.refusal ∷ []) before (c.in_ok-refusal.ensures.told, tt))

pub create-requires-clause-rest : goal.create-requires-clause-rest
create-requires-clause-rest g c = λ _ _. subst AreAtRest (sym c.as_slice.ensures.value) c.in_ok-crew.ensures.rest
