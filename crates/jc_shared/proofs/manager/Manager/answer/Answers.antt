use Rattle.std.proofs.Common.{◌∙◌, rules}
use Rattle.std.proofs.lemmas.Result.{on_err_weaker}
use Rattle.jc_shared.proofs.Callbacks.{left_alone, served_lent}
use Rattle.jc_shared.proofs.manager.Manager.answer.Goals as goal

pub returns-clause-served : goal.returns-clause-served
returns-clause-served g c =
    served_lent g.W.Writer.may g.K.FilteredListener.state_after c.args.hooks.now c.answer_request.new.writer c.as_mut_slice.result.now c.answer_request.new.listeners c.args.request.now c.answer_request.result
    c.as_mut_slice.ensures.value (search rules) c.answer_request.ensures.asked c.answer_request.ensures.told

pub returns-clause-untold : goal.returns-clause-untold
returns-clause-untold g c =
    on_err_weaker c.answer_request.result (λ same. left_alone c.args.hooks.now.listeners c.answer_request.new.listeners (same ∙ c.as_mut_slice.ensures.value)) c.answer_request.ensures.untold
