use Rattle.std.proofs.Common.{◌%◌, ◌++◌, ◌∷◌, [], length, get_or, sym, subst}
use Rattle.std.specs.Prelude.{slice_set}
use Rattle.std.proofs.lemmas.Nat.{mod_below}
use Rattle.std.proofs.lemmas.Option.{slice_get-get_or}
use Rattle.std.proofs.lemmas.Result.{on_ok_weaker}
use Rattle.jc_threads.specs.Dealing.{Share, AreUnderWay}
use Rattle.jc_threads.proofs.Dealt.{hand_more}
use Rattle.jc_threads.proofs.dealing.hand_call.Goals as goal

pub returns-clause-handed : goal.returns-clause-handed
returns-clause-handed g c =
    let stated = g.N.Name.stated in
    let crew = c.args.crew.now in
    let n = c.args.line.session in
    let d = c.index-crew-line.result in
    on_ok_weaker c.hand.result (λ handed all under.
    subst (λ (s : Share). AreUnderWay stated (all ++ c.args.line ∷ []) (slice_set crew (n % length crew) s)) (sym handed)
    (hand_more stated all c.args.line crew (get_or crew (n % length crew) d) (slice_get-get_or crew (n % length crew) d (mod_below n (length crew) c.requires.some)) under)) c.hand.ensures.handed
