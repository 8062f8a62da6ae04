use Rattle.jc_ops.proofs.Names.{sym, ◌∙◌, ap, KeyWait, is_invoke}
use Rattle.jc_model.specs.declared.call.Answer.TheVariants.{Processed}
use Rattle.jc_ops.proofs.Judged.{verdict_ends, verdict_waits}
use Rattle.jc_ops.proofs.step.invoke.answer_process.Goals as goal

pub invariant_of-result : goal.invariant_of-result
invariant_of-result g c = λ plain. let is = ap (λ (w : KeyWait). is_invoke w.call.op) c.step.view_is in cc (is, plain, c.requires.invoke)

pub returns-in-Some-clause-next : goal.returns-in-Some-clause-next
returns-in-Some-clause-next g c =
    verdict_waits _ _ _ _ _ _ c.step.view_is _ _ _ c.requires.ready c.requires.undecided c.requires.means _ (c.in-Processed-Ok.is ∙ ap Processed c.in-Processed-Ok.field-0-is) _
    (rw c.is_some-2.ensures at c.verdict_line-line.ensures) _ c.config.ensures c.in-Some.request (rw c.take-copy.ensures.value at (sym c.in-Some.ensures))

pub returns-in-None-clause-next : goal.returns-in-None-clause-next
returns-in-None-clause-next g c =
    verdict_ends _ _ _ _ _ _ c.step.view_is _ _ _ c.requires.ready c.requires.undecided c.requires.means _ (c.in-Processed-Ok.is ∙ ap Processed c.in-Processed-Ok.field-0-is) _
    (rw c.is_some-2.ensures at c.verdict_line-line.ensures) _ c.config.ensures (rw c.take-copy.ensures.value at (sym c.in-None.ensures)) ∙ c.end-reply.ensures.run
