use Rattle.std.proofs.Common.{◌≡◌, ◌∙◌, ◌++◌, List, length, drop, sym, ap, subst, arith}
use Rattle.jc_script.specs.declared.line.LineCall.{LineCall}
use Rattle.jc_locked.specs.Sessions.{Sitting}
use Rattle.jc_threads.specs.Dealing.{Share, IsAtWork}
use Rattle.jc_threads.proofs.Lists.{written_back}
use Rattle.jc_threads.proofs.worker.work.Goals as goal

pub returns-in-Ok : goal.returns-in-Ok
returns-in-Ok g c =
    let items : c.as_mut_slice.result.now ≡ c.args.worker.sessions = c.as_mut_slice.ensures.value ∙ ap (λ (s : Share). s.sessions) c.worker.view_is in
    let lines : c.worker.inside.lines ≡ c.args.worker.lines = ap (λ (s : Share). s.lines) c.worker.view_is in
    let same = written_back c.worker.inside.sessions.len c.make_all.new.sessions (drop (length c.make_all.new.sessions) c.worker.inside.sessions.items) (omega (arith, c.make_all.auto.sessions, c.as_mut_slice.ensures.len)) in
    record {
      lines = c.new.ensures;
      made = λ worker done first.
          let made = c.in-Ok.ensures worker done (subst (λ (os : List Sitting). IsAtWork g.N.Name.stated c.args.workers worker done os) (sym items) first) in
          subst (λ (os : List Sitting). IsAtWork g.N.Name.stated c.args.workers worker (done ++ c.args.worker.lines) os) (sym same)
          (subst (λ (ls : List LineCall). IsAtWork g.N.Name.stated c.args.workers worker (done ++ ls) c.make_all.new.sessions) lines made);
    }
