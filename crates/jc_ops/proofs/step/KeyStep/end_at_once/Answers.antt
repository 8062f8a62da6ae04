use Rattle.jc_ops.proofs.Names.{◌∙◌}
use Rattle.jc_ops.proofs.Lined.{unasked}
use Rattle.jc_ops.proofs.step.KeyStep.end_at_once.Goals as goal

pub returns : goal.returns
returns g c =
    let begun = c.begin-line.ensures in
    record {
      spends = begun.spends _ c.end.ensures.spends;
      ended = begun.ends (unasked c.args.visit.now.cache.config c.args.call.key c.args.call.op c.begin-line.result _ c.requires.unasked) ∙ c.end.ensures.run;
    }
