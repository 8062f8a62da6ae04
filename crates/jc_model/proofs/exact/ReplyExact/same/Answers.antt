use Rattle.jc_model.specs.contracts.call.ReplyPartialEq.TheImpl.{eq-value}
use Rattle.jc_model.specs.contracts.call.ReplyEq.TheImpl.Laws.{laws-law}
use Rattle.jc_model.proofs.Tests.{decides, replies}
use Rattle.jc_model.proofs.exact.ReplyExact.same.Goals as goal

pub returns : goal.returns
returns c = decides eq-value.it replies (λ x. laws-law.refl x) c.args.self.now c.args.other.now c.eq.result c.eq.ensures
