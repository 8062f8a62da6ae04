use Rattle.std.proofs.Common.{ap, sym, ◌∙◌}
use Rattle.jc_bulk.proofs.Names.{Sum, progress_in}
use Rattle.jc_bulk.proofs.EachStep.{step_of_call, waits_again, answer_steps}
use Rattle.jc_bulk.proofs.Left.{covered_at_answer}
use Rattle.jc_bulk.proofs.Ready.{ready_after}
use Rattle.jc_bulk.proofs.call.answer_call.Goals as goal

pub answer-requires-clause-waits : goal.answer-requires-clause-waits
answer-requires-clause-waits g c =
    let b = c.suspended.inside in
    let same = c.prepare_answer.ensures.same in
    let waits = step_of_call _ c.args.visit.now b.step b.ahead (rw (← c.suspended.view_is) at c.requires.waits) in
    record { waits = rw (same.cache, same.told) waits.waits; moment = rw same.moment waits.moment }

pub go_on-requires : goal.go_on-requires
go_on-requires g c =
    let v = c.args.visit.now in
    let w = c.prepare_answer.new.visit in
    let b = c.suspended.inside in
    let ready = c.prepare_answer.ensures in
    let after = c.answer.new.visit in
    let goes = answer_steps v w ready.same c.answer.result (progress_in after) b.step c.args.answer c.answer.ensures.next in
    let covered = covered_at_answer _ v b.step b.ahead c.args.answer c.answer.result (progress_in after) (rw (← c.suspended.view_is) at c.requires.waits) c.suspended.invariant ready.apart goes in
    record {
      ready = ready_after w after b.step.call.key _ c.in-Some.ahead c.add.new.self (rw c.in-Some.is at c.suspended.invariant) (rw c.in-Some.is at c.in-Ok.ensures.places) (rw c.in-Some.is at c.in-Ok.ensures.rest_room)
          c.answer.ensures.spends (rw (c.answer.ensures.spends.same.config, ready.same.cache) (rw c.in-Some.is at covered)) (ap (λ (s : Sum). s.done) (c.add.ensures.sum c.in-None-add.is)) (c.add.ensures.room c.in-None-add.is);
    }

pub returns-in-Waiting-clause-ok : goal.returns-in-Waiting-clause-ok
returns-in-Waiting-clause-ok g c =
    let v = c.args.visit.now in
    let b = c.suspended.inside in
    let same = c.prepare_answer.ensures.same in
    let after = progress_in c.answer.new.visit in
    let held = rw (← c.suspended.view_is) at c.requires.waits in
    let waits = step_of_call _ v b.step b.ahead held in
    let goes = answer_steps v c.prepare_answer.new.visit same c.answer.result after b.step c.args.answer c.answer.ensures.next in
    let stays = c.in-Waiting.ensures.call_stays in
    rw (c.suspend.ensures, ← c.suspended.view_is)
    (waits_again _ v.cache.config (progress_in v) after b.step c.in-Waiting.step b.ahead c.in-Waiting.request c.args.answer waits.waits (stays.0 ∙ (same.moment ∙ sym waits.moment), stays.1) (rw c.in-Waiting.is at goes)
    (covered_at_answer _ v b.step b.ahead c.args.answer c.answer.result after held c.suspended.invariant c.prepare_answer.ensures.apart goes))
