use Rattle.std.proofs.Common.{codes, true}
use Rattle.std.proofs.lemmas.Result.{IfOk-weaker}
use Rattle.clap.specs.Words.{new_app, with_rule}
use Rattle.jc_cli.specs.Program.{path_rule, capacity_rule, format_rule, explain_rule}
use Rattle.jc_cli.proofs.Adding.{Has, adds}
use Rattle.jc_cli.proofs.command.replay.Goals as goal

before : (c : goal.After-arg-4) → Has (with_rule (with_rule (with_rule (new_app (codes "replay")) (path_rule (codes "TRACE") true)) capacity_rule) format_rule) c.in_ok-arg-3.field-0
before c =
    let one = adds _ _ _ _ (path_rule (codes "TRACE") true) c.in_ok-arg.ensures c.path.ensures.global c.path.ensures.rule (c.command_with_help.ensures.app, c.command_with_help.ensures.local) in
    let two = adds _ _ _ _ capacity_rule c.in_ok-arg-2.ensures c.capacity.ensures.global c.capacity.ensures.rule one in
    adds _ _ _ _ format_rule c.in_ok-arg-3.ensures c.format.ensures.global c.format.ensures.rule two

pub returns-clause-app : goal.returns-clause-app
returns-clause-app c = IfOk-weaker c.arg-4.result _ _ (λ m h. (adds _ m _ _ explain_rule h c.explain.ensures.global c.explain.ensures.rule (before c)).0) c.arg-4.ensures

pub returns-clause-local : goal.returns-clause-local
returns-clause-local c = IfOk-weaker c.arg-4.result _ _ (λ m h. (adds _ m _ _ explain_rule h c.explain.ensures.global c.explain.ensures.rule (before c)).1) c.arg-4.ensures
