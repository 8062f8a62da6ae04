use Rattle.std.proofs.Common.{sym, ◌∙◌}
use Rattle.jc_locked.proofs.Missing.{refuses_missing}
use Rattle.jc_locked.proofs.guarded_state.GuardedState.is_live.Goals as goal

pub returns-clause-missing : goal.returns-clause-missing
returns-clause-missing g c = λ none.
    refuses_missing g.N.Name.configs c.args.self.now.recorded.transcript c.args.self.now.recorded.caches c.args.self.now.begins c.is_live.ensures.told c.args.id (sym none ∙ c.is_live.ensures.exact)
