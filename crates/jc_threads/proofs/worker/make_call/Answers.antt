use Rattle.std.proofs.lemmas.Result.{on_ok_weaker}
use Rattle.std.proofs.Common.{sym, ◌∙◌}
use Rattle.jc_threads.proofs.Making.{made_if_replied}
use Rattle.jc_threads.proofs.worker.make_call.Goals as goal

pub returns-clause-made : goal.returns-clause-made
returns-clause-made g c =
    on_ok_weaker c.outcome.result (λ replied done made.
    made_if_replied g.N.Name.configs g.N.Name.stated done c.args.line c.args.session.now c.call-replied.new.self c.call-replied.result (sym c.number.ensures ∙ c.if-number-line.false) c.call-replied.ensures.number c.call-replied.ensures.ok replied made) c.outcome.ensures.replied
