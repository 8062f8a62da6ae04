use Rattle.std.proofs.Common.{◌∙◌, sym, ap, Option, ◌++◌, ◌∷◌, []}
use Rattle.jc_model.proofs.Bare.{create_refusal-bare}
use Rattle.jc_model.specs.declared.event.CreateRefusal.{CreateRefusal}
use Rattle.jc_script.specs.declared.managed.ManageOp.TheVariants as op
use Rattle.jc_runner.specs.Halfway.{lives_now}
use Rattle.jc_runner.proofs.serial_run.caches.run_create.Goals as goal

pub returns-clause-moves : goal.returns-clause-moves
returns-clause-moves g c = c.in_ok-refusal.ensures.moves c.args.session

pub returns-clause-managed : goal.returns-clause-managed
returns-clause-managed g c =
    c.in_ok-push.ensures.items
    ∙ ap (λ (why : Option CreateRefusal). c.args.managed.now.items ++ record { session = c.args.session; op = op.Create; name = c.args.config.name; refusal = why } ∷ [])
    (c.in_ok-refusal.ensures.refusal ∙ sym (create_refusal-bare (lives_now c.args.recorded.now) c.args.config))
