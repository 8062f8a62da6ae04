use Rattle.std.proofs.Common.{◌%◌, length, get_or}
use Rattle.std.proofs.lemmas.Nat.{mod_below}
use Rattle.std.proofs.lemmas.Option.{slice_get-get_or}
use Rattle.jc_threads.proofs.Dealt.{rested_still}
use Rattle.jc_threads.proofs.managing.destroy.Goals as goal

pub returns-clause-rested : goal.returns-clause-rested
returns-clause-rested g c =
    let crew = c.args.crew.now in
    let worker = c.args.session % length crew in
    let d = c.index-crew-number.result in
    rested_still g.N.Name.stated crew worker (get_or crew worker d) c.destroy.new.self (slice_get-get_or crew worker d (mod_below c.args.session (length crew) c.requires.some)) c.destroy.ensures.lines c.destroy.ensures.same
