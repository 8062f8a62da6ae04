use Rattle.jc_model.specs.contracts.call.CallPartialEq.TheImpl.{eq-value}
use Rattle.jc_model.specs.contracts.call.CallEq.TheImpl.Laws.{laws-law}
use Rattle.jc_model.proofs.Tests.{decides, calls}
use Rattle.jc_model.proofs.exact.CallExact.same.Goals as goal

pub returns : goal.returns
returns c = decides eq-value.it calls (λ x. laws-law.refl x) c.args.self.now c.args.other.now c.eq.result c.eq.ensures
