use Rattle.jc_runner.proofs.Pushed.{if_ok_weaker, if_err_weaker}
use Rattle.jc_runner.specs.Telling.{TellsEnding}
use Rattle.jc_runner.proofs.ProgramTold.{told}
use Rattle.jc_runner.proofs.telling.run_program.Goals as goal

pub returns-clause-ends : goal.returns-clause-ends
returns-clause-ends g c =
    if_ok_weaker c.args.words _ _ (λ v obeys. record {
      lines = c.text_of-lines.result.now;
      ends = record { ending = c.dispatch-ending.result; written = c.dispatch-ending.new.standard.output; obeys = obeys; status = c.say.ensures.status; says = rw c.dispatch-ending.ensures.errors at c.say.ensures.says; leaves = c.say.ensures.leaves };
      tells = told _ (TellsEnding c.dispatch-ending.new.files.opened c.dispatch-ending.new.files.disk.fault c.dispatch-ending.new.standard.input c.dispatch-ending.result) _ c.lines_of-explanation.ensures c.text_of-lines.ensures;
    }) c.dispatch-ending.ensures.obeys

pub returns-clause-wordless : goal.returns-clause-wordless
returns-clause-wordless g c =
    if_err_weaker c.args.words _ _ (λ fault obeys. record {
      lines = c.text_of-lines.result.now;
      ends = record { ending = c.dispatch-ending.result; written = c.dispatch-ending.new.standard.output; obeys = obeys; status = c.say.ensures.status; says = rw c.dispatch-ending.ensures.errors at c.say.ensures.says; leaves = c.say.ensures.leaves };
      tells = told _ (TellsEnding c.dispatch-ending.new.files.opened c.dispatch-ending.new.files.disk.fault c.dispatch-ending.new.standard.input c.dispatch-ending.result) _ c.lines_of-explanation.ensures c.text_of-lines.ensures;
    }) c.dispatch-ending.ensures.wordless
