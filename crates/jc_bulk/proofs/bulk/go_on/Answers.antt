use Rattle.std.proofs.Common.{◌∙◌, [], refl, sym, ap, arith}
use Rattle.jc_model.proofs.Refusals.{none_mapped}
use Rattle.jc_ops.proofs.VisitLaws.{same_on, same_visit}
use Rattle.jc_ops.specs.Visited.{has_live_in}
use Rattle.jc_bulk.proofs.Names.{Ahead, Sum, progress_in, calls_ahead, step_run, sum_of}
use Rattle.jc_bulk.proofs.EachStep.{step_ended, step_waits}
use Rattle.jc_bulk.proofs.Left.{covered-stays}
use Rattle.jc_bulk.proofs.Ready.{ready_after, first_ahead, first_and_rest, first_room}
use Rattle.jc_bulk.proofs.bulk.go_on.Goals as goal

pub steps-init : goal.steps-init
steps-init g c = record { same = same_visit _; ready = c.requires.ready; run = refl }

pub start-requires-clause-places : goal.start-requires-clause-places
start-requires-clause-places g c =
    let places = first_and_rest c.steps.visit c.in-Some.field-0 (record c.steps.ahead { rest = c.pop_front.new.self }) (rw c.in-Some.ensures.items at c.steps.invariant.ready) in
    λ listens. omega (arith, places (has_live_in c.steps.visit c.in-Some.field-0.call.key) listens)

pub start-requires-clause-room : goal.start-requires-clause-room
start-requires-clause-room g c =
    first_room c.steps.visit c.in-Some.field-0 (record c.steps.ahead { rest = c.pop_front.new.self }) (rw c.in-Some.ensures.items at c.steps.invariant.ready) _

pub returns-in-Waiting-clause-moved : goal.returns-in-Waiting-clause-moved
returns-in-Waiting-clause-moved g c =
    let v = c.steps.visit in
    let p = c.in-Some.field-0 in
    let left : Ahead = record c.steps.ahead { rest = c.pop_front.new.self } in
    let ready = rw c.in-Some.ensures.items at c.steps.invariant.ready in
    rw (c.suspend.ensures, ← c.steps.invariant.run, ← c.steps.invariant.same.config, c.in-Some.ensures.items)
    (step_waits v.cache.config v.moment p.call c.in-Waiting.step left (step_run v p.call) (progress_in c.start.new.visit) c.in-Waiting.request c.in-Waiting.ensures.call_stays c.in-Waiting.ensures.next
    (covered-stays v.cache.config v.moment p.call (progress_in v) [] _ (progress_in c.start.new.visit) c.start.ensures.next c.find-row.ensures.apart left.rest.items ready.ahead.apart ready.covered.1))

pub steps-preserved : goal.steps-preserved
steps-preserved g c =
    let v = c.steps.visit in
    let w = c.start.new.visit in
    let p = c.in-Some.field-0 in
    let left : Ahead = record c.steps.ahead { rest = c.pop_front.new.self } in
    let ready = rw c.in-Some.ensures.items at c.steps.invariant.ready in
    let spends = c.start.ensures.spends in
    let added = c.add.ensures.sum c.in_default-add.is in
    let covered = covered-stays v.cache.config v.moment p.call (progress_in v) [] _ (progress_in w) c.start.ensures.next c.find-row.ensures.apart left.rest.items ready.ahead.apart ready.covered.1 in
    record {
      same = same_on _ _ _ c.steps.invariant.same spends.same;
      ready = ready_after v w p.call.key _ left c.add.new.self (first_ahead v p left ready) (first_and_rest v p left ready _) (λ e. omega (arith, ready.room e)) spends
          (rw spends.same.config covered) (ap (λ (s : Sum). s.done) added) (c.add.ensures.room c.in_default-add.is);
      run = rw (spends.same.config, spends.same.moment)
          (step_ended v.cache.config v.moment p.call (calls_ahead left) (sum_of left.sum) (sum_of c.add.new.self) (progress_in v) (progress_in w) c.in-Ended.reply c.in-Ended.ensures.next
          (none_mapped _ _ (sym c.add.ensures.ends ∙ c.in_default-add.is)) added
          ∙ (rw c.in-Some.ensures.items at c.steps.invariant.run));
    }
