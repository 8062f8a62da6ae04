use Rattle.jc_model.specs.contracts.event.EntryPartialEq.TheImpl.{eq-value}
use Rattle.jc_model.specs.contracts.event.EntryEq.TheImpl.Laws.{laws-law}
use Rattle.jc_model.proofs.Tests.{decides, entries}
use Rattle.jc_model.proofs.exact.EntryExact.same.Goals as goal

pub returns : goal.returns
returns c = decides eq-value.it entries (λ x. laws-law.refl x) c.args.self.now c.args.other.now c.eq.result c.eq.ensures
