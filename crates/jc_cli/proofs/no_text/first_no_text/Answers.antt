use Rattle.std.proofs.Common.{◌+◌, ◌∙◌, sym}
use Rattle.jc_cli.proofs.NoText.{passed, met}
use Rattle.jc_cli.proofs.no_text.first_no_text.Goals as goal

pub returns-in-Err : goal.returns-in-Err
returns-in-Err c = sym (c.loop-i.invariant ∙ met (c.loop-i.i + 1) c.loop-i.i _ c.args.words.now c.loop-i-test.true c.in-Err.ensures.cases.0)

pub loop-i-preserved : goal.loop-i-preserved
loop-i-preserved c = c.loop-i.invariant ∙ passed (c.loop-i.i + 1) c.loop-i.i _ c.args.words.now c.loop-i-test.true c.in-Ok.ensures.cases.1
