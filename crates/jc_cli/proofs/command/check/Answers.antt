use Rattle.std.proofs.Common.{codes, true, false}
use Rattle.std.proofs.lemmas.Result.{IfOk-weaker}
use Rattle.clap.specs.Words.{with_rule}
use Rattle.jc_cli.specs.Program.{path_rule, files_app, flag_rule, explain_rule}
use Rattle.jc_cli.proofs.Adding.{Has, adds}
use Rattle.jc_cli.proofs.command.check.Goals as goal

before : (c : goal.After-arg-5) → Has (with_rule (with_rule (files_app (codes "check") false) (flag_rule (codes "strict"))) (flag_rule (codes "all"))) c.in_ok-arg-4.field-0
before c =
    let one = adds _ _ _ _ (path_rule (codes "CONFIG") true) c.in_ok-arg.ensures c.path.ensures.global c.path.ensures.rule (c.command_with_help.ensures.app, c.command_with_help.ensures.local) in
    let two = adds _ _ _ _ (path_rule (codes "SCRIPT") false) c.in_ok-arg-2.ensures c.optional_path.ensures.global c.optional_path.ensures.rule one in
    let three = adds _ _ _ _ (flag_rule (codes "strict")) c.in_ok-arg-3.ensures c.flag.ensures.global c.flag.ensures.rule two in
    adds _ _ _ _ (flag_rule (codes "all")) c.in_ok-arg-4.ensures c.flag-2.ensures.global c.flag-2.ensures.rule three

pub returns-clause-app : goal.returns-clause-app
returns-clause-app c = IfOk-weaker c.arg-5.result _ _ (λ m h. (adds _ m _ _ explain_rule h c.explain.ensures.global c.explain.ensures.rule (before c)).0) c.arg-5.ensures

pub returns-clause-local : goal.returns-clause-local
returns-clause-local c = IfOk-weaker c.arg-5.result _ _ (λ m h. (adds _ m _ _ explain_rule h c.explain.ensures.global c.explain.ensures.rule (before c)).1) c.arg-5.ensures
