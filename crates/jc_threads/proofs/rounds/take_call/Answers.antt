use Rattle.std.proofs.Common.{◌++◌, ◌∷◌, [], List, length, drop, sym, subst, arith}
use Rattle.jc_threads.specs.Dealing.{Share, AreUnderWay}
use Rattle.jc_threads.proofs.Lists.{written_back}
use Rattle.jc_threads.proofs.rounds.take_call.Goals as goal

pub returns-clause-made : goal.returns-clause-made
returns-clause-made g c =
    let stated = g.N.Name.stated in
    let given = c.as_mut_slice.ensures.value in
    let same = written_back c.args.crew.len c.hand_call.new.crew (drop (length c.hand_call.new.crew) c.args.crew.items) (omega (arith, c.hand_call.ensures.counted, c.as_mut_slice.ensures.len)) in
    λ all under. subst (λ (crew : List Share). AreUnderWay stated (all ++ c.args.line ∷ []) crew) (sym same) (c.in_ok-hand_call.ensures.handed all (subst (AreUnderWay stated all) (sym given) under))
