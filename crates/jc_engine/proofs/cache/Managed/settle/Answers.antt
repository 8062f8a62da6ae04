use Rattle.std.proofs.Common.{subst, sym, ap, ◌∙◌}
use Rattle.jc_ops.specs.Visited.{Visited}
use Rattle.jc_engine.proofs.Names.{Noted, WaitsOn, progress_of}
use Rattle.jc_engine.proofs.Calls.{settled_waiting}
use Rattle.jc_engine.proofs.cache.Managed.settle.Goals as goal

pub returns-in-Ended-clause-settled : goal.returns-in-Ended-clause-settled
returns-in-Ended-clause-settled g c = λ f run come. c.end.ensures.settled f run (rw c.in-Ended.is at come)

pub returns-in-Waiting-clause-settled : goal.returns-in-Waiting-clause-settled
returns-in-Waiting-clause-settled g c = λ f run come.
    let k = c.args.visit.now.cache in
    let noted = c.hand_out_notices-notices.ensures.notices ∙ ap (λ (v : Visited). v.noted) c.exchange.ensures.exchanged in
    let waits = subst (λ (n : Noted). WaitsOn f (progress_of k n.told) c.in-Waiting.request c.in-Waiting.suspended run) (sym noted) (rw c.in-Waiting.is at come) in
    rw (c.stand_at.ensures, c.exchange.ensures.left) (settled_waiting f run k _ _ waits)
