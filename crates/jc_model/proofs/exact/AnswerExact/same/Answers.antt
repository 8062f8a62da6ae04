use Rattle.jc_model.specs.contracts.call.AnswerPartialEq.TheImpl.{eq-value}
use Rattle.jc_model.specs.contracts.call.AnswerEq.TheImpl.Laws.{laws-law}
use Rattle.jc_model.proofs.Tests.{decides, answers}
use Rattle.jc_model.proofs.exact.AnswerExact.same.Goals as goal

pub returns : goal.returns
returns c = decides eq-value.it answers (λ x. laws-law.refl x) c.args.self.now c.args.other.now c.eq.result c.eq.ensures
