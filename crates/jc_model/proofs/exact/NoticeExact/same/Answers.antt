use Rattle.jc_model.specs.contracts.call.NoticePartialEq.TheImpl.{eq-value}
use Rattle.jc_model.specs.contracts.call.NoticeEq.TheImpl.Laws.{laws-law}
use Rattle.jc_model.proofs.Tests.{decides, notices}
use Rattle.jc_model.proofs.exact.NoticeExact.same.Goals as goal

pub returns : goal.returns
returns c = decides eq-value.it notices (λ x. laws-law.refl x) c.args.self.now c.args.other.now c.eq.result c.eq.ensures
