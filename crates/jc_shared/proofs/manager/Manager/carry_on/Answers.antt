use Rattle.std.proofs.Common.{◌∙◌, sym, subst}
use Rattle.std.proofs.lemmas.Result.{err_from_is_err_and}
use Rattle.jc_index.proofs.Lists.{prefix_trans}
use Rattle.jc_locked.specs.Serving.{HasStated}
use Rattle.jc_shared.proofs.Carrying.{same_call, counts_on}
use Rattle.jc_shared.proofs.Writing.{has_stated, takes_in}
use Rattle.jc_shared.proofs.manager.Manager.carry_on.Goals as goal

pub loop-preserved : goal.loop-preserved
loop-preserved g c =
    let before = c.loop.invariant in
    let step = c.in_ok-step-in-Need.ensures in (
      tt,
      tt,
      same_call c.args.draft.now c.loop.draft c.advance.new.draft before.2 step.same,
      step.brought,
      prefix_trans c.args.seat.now.pass.images c.loop.seat.pass.images c.advance.new.seat.pass.images before.4 step.front,
      λ first h. step.told first (before.5 first h),
      λ first h. takes_in g.W.Writer.may g.K.FilteredListener.state_after c.loop.hooks c.advance.new.hooks c.loop.draft.answers _ c.advance.new.draft.answers step.served first (before.6 first h),
      step.number ∙ before.7,
      counts_on c.args.seat.now.accepted c.loop.seat.accepted c.advance.new.seat.accepted c.args.draft.now c.loop.draft c.advance.new.draft before.8 step.counted,
    )

pub returns-in_err-step-in-Need-clause-wrote : goal.returns-in_err-step-in-Need-clause-wrote
returns-in_err-step-in-Need-clause-wrote g c =
    let p = err_from_is_err_and c.from_residual.result c.from_residual.ensures.1 in
    rw p.1 (λ first h. subst (HasStated g.W.Writer.may first) (sym c.in_err-step-in-Need.ensures.kept) (has_stated g.W.Writer.may first c.loop.hooks c.loop.draft.answers (c.loop.invariant.6 first h)))
