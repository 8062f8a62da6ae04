use Rattle.std.proofs.Common.{◌++◌, ◌∷◌, [], List, Option, None, length, drop, sym, subst, arith}
use Rattle.jc_model.specs.declared.event.CreateRefusal.{CreateRefusal}
use Rattle.jc_script.specs.declared.line.Line.TheVariants.{Destroy}
use Rattle.jc_threads.specs.Dealing.{Share, AreAtRest, AreUnderWay, HaveRested}
use Rattle.jc_threads.specs.Managing.{AreManaged}
use Rattle.jc_threads.proofs.Dealt.{under_way_again}
use Rattle.jc_threads.proofs.Lists.{written_back}
use Rattle.jc_threads.proofs.Managed.{managed_both}
use Rattle.jc_threads.proofs.rounds.take_destroy.Goals as goal

pub returns-clause-made : goal.returns-clause-made
returns-clause-made g c =
    let stated = g.N.Name.stated in
    let given = c.as_mut_slice.ensures.value in
    let same = written_back c.in_ok-crew.crew.len c.destroy.new.crew (drop (length c.destroy.new.crew) c.in_ok-crew.crew.items) (omega (arith, c.destroy.ensures.counted, c.as_mut_slice.ensures.len)) in
    λ all under.
    subst (λ (crew : List Share). AreUnderWay stated all crew) (sym same)
    (under_way_again stated all c.destroy.new.crew (c.destroy.ensures.rested all (subst (HaveRested stated all) (sym given) (c.in_ok-crew.ensures.rested all under))))

pub returns-clause-managed : goal.returns-clause-managed
returns-clause-managed g c =
    let configs = g.N.Name.configs in
    let more = Destroy c.args.session c.args.id ∷ [] in
    λ done before.
    subst (λ (rs : List (Option CreateRefusal)). AreManaged configs (done ++ more) rs) (sym c.in_ok-push.ensures.items)
    (managed_both configs done more c.args.refusals.now.items (None ∷ []) before (c.in_ok-destroy.ensures.gone, tt))

pub destroy-requires-clause-rest : goal.destroy-requires-clause-rest
destroy-requires-clause-rest g c = λ _ _. subst AreAtRest (sym c.as_mut_slice.ensures.value) c.in_ok-crew.ensures.rest
