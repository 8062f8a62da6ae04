use Rattle.std.proofs.Common.{◌≡◌, ap, refl, subst, sym, ◌∙◌}
use Rattle.jc_ops.specs.Visited.{Visited, IsSameVisit}
use Rattle.jc_bulk.specs.Calls.{ComesFrom, answered_run}
use Rattle.jc_engine.specs.Waiting.{WaitState}
use Rattle.jc_engine.specs.declared.turn.Turn.{Turn}
use Rattle.jc_engine.proofs.Names.{Slot, Waiting, progress_of, resume, wait_run}
use Rattle.jc_engine.proofs.Calls.{awaited, has_gone_on}
use Rattle.jc_engine.proofs.Untold.{not_told}
use Rattle.jc_engine.proofs.cache.Managed.go_on.Goals as goal

pub returns-in-Ok-clause-heard : goal.returns-in-Ok-clause-heard
returns-in-Ok-clause-heard g c =
    let k = c.self.inside.state.value.kept in
    let call : WaitState = record { call = c.call.inside.suspended; told = c.call.inside.notices.told } in
    let is : c.self.inside.turn ≡ Waiting call = sym c.replace.ensures.value ∙ (c.in-Waiting.is ∙ ap Waiting (sym c.call.view_is)) in
    let here : c.args.self.now ≡ record { state = k; turn = Waiting call } = sym c.self.view_is ∙ ap (λ (t : Turn). (let cache : Slot = record { state = k; turn = t } in cache)) is in
    let before = c.take_notices.ensures ∙ ap (λ (v : Visited). record v { noted = c.call.inside.notices }) c.set_moment.ensures in
    let entered = c.exchange.ensures.exchanged ∙ ap (λ (v : Visited). record v { cache = k; spare = c.exchange.new.self.spare }) before in
    let left = c.exchange.ensures.left ∙ ap (λ (v : Visited). v.cache) before in
    let comes = subst (λ (v : Visited). ComesFrom v (answered_run v call.call c.args.answer) c.in-Ok.next c.answer_call.new.visit) entered c.in-Ok.ensures.ok in
    let settled = c.settle.ensures.settled k.config (resume (wait_run k.config (progress_of k call.told) call.call.wait) c.args.answer) comes in
    let same = subst (λ (v : Visited). IsSameVisit v c.answer_call.new.visit) entered c.in-Ok.ensures.same_visit in
    rw here (has_gone_on (rw here at c.requires.ready) (rw here at c.requires.allowed) refl refl same (rw left at c.settle.ensures.back) settled)

pub returns-in-Err-clause-told : goal.returns-in-Err-clause-told
returns-in-Err-clause-told g c = λ told.
    let k = c.self.inside.state.value.kept in
    let call : WaitState = record { call = c.call.inside.suspended; told = c.call.inside.notices.told } in
    let is : c.self.inside.turn ≡ Waiting call = sym c.replace.ensures.value ∙ (c.in-Waiting.is ∙ ap Waiting (sym c.call.view_is)) in
    let here : c.args.self.now ≡ record { state = k; turn = Waiting call } = sym c.self.view_is ∙ ap (λ (t : Turn). (let cache : Slot = record { state = k; turn = t } in cache)) is in
    let ready = rw here at c.requires.ready in
    absurd (not_told k.config (progress_of k call.told) call.call c.args.answer ready.waits (awaited k call c.args.answer (rw here at c.requires.allowed)) told)
