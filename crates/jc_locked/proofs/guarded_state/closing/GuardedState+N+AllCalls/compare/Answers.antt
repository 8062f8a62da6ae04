use Rattle.std.proofs.Common.{sym, map, subst}
use Rattle.jc_model.specs.Legal.{History, IsLegal}
use Rattle.jc_locked.specs.Accounts.{IsAuditFault, IsCloseRefusal}
use Rattle.jc_locked.specs.Sessions.{BeginsWith}
use Rattle.jc_locked.proofs.Comparing.{cannot_close, fault_weaker}
use Rattle.jc_locked.proofs.guarded_state.closing.GuardedState+N+AllCalls.compare.Goals as goal

pub returns-clause-refused : goal.returns-clause-refused
returns-clause-refused g c =
    let configs = g.N.Name.configs in
    let given = c.args.self.now.given in
    let logs = map g.S.Logged.log c.args.logs.now in
    let told = c.transcript-transcript.result.now in
    let value = sym c.transcript-transcript.ensures.value in
    fault_weaker (IsAuditFault given logs told.entries) (IsCloseRefusal configs logs) c.audit.result
    (λ fault is. cannot_close configs given logs told fault (subst IsLegal value c.transcript-transcript.ensures.legal) (subst (λ (h : History). BeginsWith configs h) value c.args.self.now.begins) is) c.audit.ensures.fault
