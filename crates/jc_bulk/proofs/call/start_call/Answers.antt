use Rattle.std.proofs.Common.{◌≡◌, false, sym, ◌∙◌, arith}
use Rattle.std.proofs.lemmas.Grind.{common_steps}
use Rattle.jc_model.specs.Whole.{is_at_once}
use Rattle.jc_bulk.proofs.Names.{progress_in, plan_in}
use Rattle.jc_bulk.proofs.EachStep.{call_steps, waits_alone, many_steps}
use Rattle.jc_bulk.proofs.call.start_call.Goals as goal

pub returns-in-Ended-clause-ok : goal.returns-in-Ended-clause-ok
returns-in-Ended-clause-ok g c =
    let v = c.args.visit.now in
    rw c.in-Ended.is at (call_steps v c.for_step.new.visit c.for_step.ensures.same c.start.result (progress_in c.start.new.visit) c.args.call.now c.in-Some.step
    (sym (c.in_ok-step-in_default.ensures v.cache.config v.moment (progress_in v)) ∙ c.in-Some.is) c.start.ensures.next)

pub returns-in-Waiting-clause-ok : goal.returns-in-Waiting-clause-ok
returns-in-Waiting-clause-ok g c =
    let v = c.args.visit.now in
    rw c.suspend.ensures (waits_alone v.cache.config c.in-Waiting.step _ (progress_in c.start.new.visit) c.in-Waiting.request
    (rw c.in-Waiting.is at (call_steps v c.for_step.new.visit c.for_step.ensures.same c.start.result (progress_in c.start.new.visit) c.args.call.now c.in-Some.step
    (sym (c.in_ok-step-in_default.ensures v.cache.config v.moment (progress_in v)) ∙ c.in-Some.is) c.start.ensures.next)))

pub returns-in_ok-ahead-in-None-clause-ok : goal.returns-in_ok-ahead-in-None-clause-ok
returns-in_ok-ahead-in-None-clause-ok g c =
    let v = c.args.visit.now in
    let p = progress_in v in
    let same = c.prepare.ensures.same in
    let ahead = c.in_ok-ahead-in-None.ensures in
    let steps : is_at_once (plan_in v c.args.call.now) ≡ false = grind (arith, common_steps) in
    rw (ahead.steps, ahead.sum, same.cache, same.told, same.moment, many_steps v.cache.config v.moment p (plan_in v c.args.call.now) (sym (c.in_ok-step-in_default.ensures v.cache.config v.moment p) ∙ c.in-None.is) steps) at c.go_on.ensures.moved
