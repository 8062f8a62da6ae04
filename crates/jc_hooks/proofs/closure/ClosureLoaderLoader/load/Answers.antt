use Rattle.jc_hooks.proofs.Stated.{loads_stated}
use Rattle.jc_hooks.proofs.closure.ClosureLoaderLoader.load.Goals as goal

pub returns : goal.returns
returns g c = record { stated = loads_stated _ c.args.self.now.answers c.args.alloc c.args.key _ (λ l e. rw e at c.ask.ensures) }
