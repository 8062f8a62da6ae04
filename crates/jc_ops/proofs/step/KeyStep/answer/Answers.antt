use Rattle.jc_ops.proofs.Names.{ℕ, sym, ◌∙◌, ap, subst, is_some, KeyWait, told_on, answer_run}
use Rattle.jc_ops.specs.Carried.{IsReady}
use Rattle.jc_ops.specs.Stepped.{StepsFrom}
use Rattle.jc_ops.proofs.Goes.{ready, spends_all, invoke_told, not_invoke, line_view}
use Rattle.jc_ops.proofs.step.KeyStep.answer.Goals as goal

pub answer_invoke-requires : goal.answer_invoke-requires
answer_invoke-requires g c =
    let op = ap (λ (w : KeyWait). w.call.op) (sym c.self.view_is) ∙ c.in-Invoke.is in
    record {
      invoke = (c.in-Invoke.argument, op);
      ready = subst (λ (n : ℕ). IsReady c.args.visit.now n c.args.self c.args.answer c.args.supply) (invoke_told _ _ _ _ op)
          (ready _ _ _ _ c.requires.row c.requires.waits c.requires.covered c.requires.room c.requires.places);
    }

pub returns-in-Invoke : goal.returns-in-Invoke
returns-in-Invoke g c =
    let op = ap (λ (w : KeyWait). w.call.op) (sym c.self.view_is) ∙ c.in-Invoke.is in
    record {
      spends = spends_all _ _ c.args.answer c.args.supply c.requires.row c.requires.waits _
          (rw (invoke_told (is_some c.args.supply.row) c.in-Invoke.processor c.in-Invoke.argument c.args.self.call.op op) c.answer_invoke.ensures.spends);
      next = c.answer_invoke.ensures.next;
      call_stays = rw c.requires.waits.moment at c.answer_invoke.ensures.call_stays;
    }

pub answer_line-next-requires : goal.answer_line-next-requires
answer_line-next-requires g c =
    let plain = not_invoke c.self.inside.call.op c.in_default.not-Invoke in
    let view = line_view _ _ _ c.args.self _ c.requires.waits.moment (c.self.invariant plain) c.self.view_is in
    record {
      invoke = plain;
      ready = subst (λ (w : KeyWait). IsReady c.args.visit.now (told_on (is_some c.args.supply.row) w.call.op) w c.args.answer c.args.supply) (sym view)
          (ready _ _ _ _ c.requires.row c.requires.waits c.requires.covered c.requires.room c.requires.places);
    }

pub returns-in_default : goal.returns-in_default
returns-in_default g c =
    let v = c.args.visit.now in
    let plain = not_invoke c.self.inside.call.op c.in_default.not-Invoke in
    let view = line_view _ _ _ c.args.self _ c.requires.waits.moment (c.self.invariant plain) c.self.view_is in
    let call = ap (λ (w : KeyWait). w.call) view in
    record {
      spends = spends_all _ _ c.args.answer c.args.supply c.requires.row c.requires.waits _ (rw call at c.answer_line-next.ensures.spends);
      next = subst (λ (w : KeyWait). StepsFrom v (answer_run v w c.args.answer) c.answer_line-next.result c.answer_line-next.new.visit) view c.answer_line-next.ensures.next;
      call_stays = rw call at c.answer_line-next.ensures.call_stays;
    }
