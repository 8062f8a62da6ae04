use Rattle.jc_hooks.proofs.Stated.{admits_stated}
use Rattle.jc_hooks.proofs.closure.ClosureFilterFilter.admits.Goals as goal

pub returns : goal.returns
returns g c = record { stated = admits_stated _ c.args.self.now.answers c.args.notice _ c.is_admitted.ensures }
