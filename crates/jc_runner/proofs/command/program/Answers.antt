use Rattle.jc_runner.proofs.Pushed.{if_ok_weaker, if_err_weaker}
use Rattle.jc_runner.proofs.command.program.Goals as goal

pub returns-clause-ends : goal.returns-clause-ends
returns-clause-ends g c =
    if_ok_weaker c.args.words _ _ (λ v obeys. record { ending = c.dispatch-ending.result; written = c.dispatch-ending.new.standard.output; obeys = obeys; status = c.say.ensures.status; says = rw c.dispatch-ending.ensures.errors at c.say.ensures.says; leaves = c.say.ensures.leaves }) c.dispatch-ending.ensures.obeys

pub returns-clause-wordless : goal.returns-clause-wordless
returns-clause-wordless g c =
    if_err_weaker c.args.words _ _ (λ fault obeys. record { ending = c.dispatch-ending.result; written = c.dispatch-ending.new.standard.output; obeys = obeys; status = c.say.ensures.status; says = rw c.dispatch-ending.ensures.errors at c.say.ensures.says; leaves = c.say.ensures.leaves }) c.dispatch-ending.ensures.wordless
