use Rattle.std.proofs.Common.{◌≢◌, sym, ◌∙◌}
use Rattle.std.proofs.lemmas.Bool.{false≢true}
use Rattle.jc_model.specs.declared.event.End.TheVariants.{Waiting}
use Rattle.jc_model.specs.declared.event.Entry.{Entry}
use Rattle.jc_locked.proofs.Comparing.{all_rest, all_with}
use Rattle.jc_locked.proofs.auditing.none_waits.Goals as goal

pub loop-entry-preserved : goal.loop-entry-preserved
loop-entry-preserved c =
    let P : Entry → Type 0 = λ e. e.end ≢ Waiting in
    let here : c.in-Some.entry.now.end ≢ Waiting = λ w. false≢true (sym c.if-is_waiting.false ∙ c.is_waiting.ensures.1 w) in (
      λ h. all_rest P _ c.in-Some.rest.now c.in-Some.entry.now c.in-Some.ensures.cases.0 (c.loop-entry.invariant.0 h),
      λ h. c.loop-entry.invariant.1 (all_with P _ c.in-Some.rest.now c.in-Some.entry.now c.in-Some.ensures.cases.0 here h),
    )
