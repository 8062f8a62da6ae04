use Rattle.jc_ops.proofs.Names.{◌≡◌, false, sym, ◌∙◌, ap, subst, Request, StepWaits, KeyWait, ended, loaded_by, is_invoke, progress_in, answer_run, given_by, Some}
use Rattle.jc_model.specs.declared.call.Request.TheVariants.{Process}
use Rattle.jc_ops.specs.Lines.{handed}
use Rattle.jc_ops.proofs.Judged.{awaits_by, loader_gave, processor_answered, writer_agreed, writer_failed}
use Rattle.jc_ops.proofs.step.invoke.answer_invoke.Goals as goal

pub answer_process-requires-clause-means : goal.answer_process-requires-clause-means
answer_process-requires-clause-means g c =
    processor_answered _ _ _ _ _ _ c.step.view_is _ _ _ c.requires.ready _ _ c.requires.invoke.1 c.in-None.is
    (awaits_by _ _ _ _ _ _ _ _ c.config.ensures (sym c.is_some-there.ensures) (sym c.is_some-answered.ensures) c.awaits_load.ensures ∙ c.if-not-awaits_load.true)

pub unreachable-requires : goal.unreachable-requires
unreachable-requires g c =
    let invoke = c.requires.invoke.1 in
    let cov = c.requires.ready.covered.loaded c.in-Loaded.loaded (ap loaded_by c.in-Loaded.is) in
    cc (c.process.ensures c.requires.invoke.0 (cov.copy (ap is_invoke invoke) ∙ ap (handed false) invoke), c.in-None-process.is)

pub returns-in-Some-process-clause-next : goal.returns-in-Some-process-clause-next
returns-in-Some-process-clause-next g c =
    let v = c.args.visit.now in
    let i = c.step.inside in
    let loaded = c.in-Loaded.loaded in
    let invoke = c.requires.invoke.1 in
    let cov = c.requires.ready.covered.loaded loaded (ap loaded_by c.in-Loaded.is) in
    let made = c.process.ensures c.requires.invoke.0 (cov.copy (ap is_invoke invoke) ∙ ap (handed false) invoke) in
    let request : c.in-Some-process.request ≡ Process i.call.key c.args.processor loaded c.requires.invoke.0 = cc (made, c.in-Some-process.is, cov.entry (ap is_invoke invoke)) in
    let asks = awaits_by _ _ _ _ _ _ _ _ c.config.ensures (sym c.is_some-there.ensures) (sym c.is_some-answered.ensures) c.awaits_load.ensures ∙ c.if-not-awaits_load.false in
    let asked : KeyWait = record { now = i.now; call = i.call; given = given_by (Some loaded) i.verdict } in
    subst (λ (r : Request). StepWaits v.cache.config (progress_in v) r asked (answer_run v c.args.step c.args.answer)) (sym request)
    (loader_gave _ _ _ _ _ _ c.step.view_is _ _ _ c.requires.ready _ _ invoke loaded c.in-Loaded.is c.in-None.is asks)

pub returns-in-Written-clause-next : goal.returns-in-Written-clause-next
returns-in-Written-clause-next g c =
    writer_agreed _ _ _ _ _ _ c.step.view_is _ _ _ c.requires.ready _ _ c.requires.invoke.1 c.in-Some.verdict c.in-Some.is _ c.in-Written.is (rw c.is_some.ensures at c.verdict_line-line.ensures) ∙
    c.end-reply.ensures.run

pub returns-in_default-clause-next : goal.returns-in_default-clause-next
returns-in_default-clause-next g c =
    writer_failed _ _ _ _ _ _ c.step.view_is _ _ _ c.requires.ready _ _ c.requires.invoke.1 c.in-Some.verdict c.in-Some.is c.in_default.not-Written ∙
    ap (ended (progress_in c.args.visit.now)) (sym c.fault.ensures)
