use Rattle.std.specs.Coded.{Coded-set}
use Rattle.jc_hooks.specs.Codes.{verdict_code}
use Rattle.jc_hooks.proofs.Stated.{stated_is}
use Rattle.jc_hooks.proofs.closure.ClosureProcessor.new.Goals as goal

-- there is one function only
pub returns-clause-answers : goal.returns-clause-answers
returns-clause-answers g c = λ f is. stated_is (Coded-set verdict_code) _ c.result-1.given.1.0 f is
