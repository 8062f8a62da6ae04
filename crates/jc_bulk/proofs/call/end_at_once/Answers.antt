use Rattle.std.proofs.Common.{sym, ◌∙◌}
use Rattle.jc_ops.specs.declared.step.Next.TheVariants.{Ended}
use Rattle.jc_bulk.proofs.Names.{progress_in}
use Rattle.jc_bulk.proofs.EachStep.{call_steps}
use Rattle.jc_bulk.proofs.call.end_at_once.Goals as goal

pub returns-clause-ended : goal.returns-clause-ended
returns-clause-ended g c =
    let v = c.args.visit.now in
    call_steps v c.for_step.new.visit c.for_step.ensures.same (Ended c.end_at_once.result) (progress_in c.end_at_once.new.visit) c.args.call.now c.in-Some.step
    (sym (c.in_ok-step.ensures v.cache.config v.moment (progress_in v)) ∙ c.in-Some.is) c.end_at_once.ensures.ended
