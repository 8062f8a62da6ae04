use Rattle.std.proofs.Common.{codes, true}
use Rattle.std.proofs.lemmas.Result.{IfOk-weaker}
use Rattle.clap.specs.Words.{with_rule}
use Rattle.jc_cli.specs.Program.{path_rule, files_app, workers_rule, seed_rule, format_rule, flag_rule, explain_rule}
use Rattle.jc_cli.proofs.Adding.{Has, adds}
use Rattle.jc_cli.proofs.command.run.Goals as goal

before : (c : goal.After-arg-8) → Has (with_rule (with_rule (with_rule (with_rule (with_rule (files_app (codes "run") true) workers_rule) seed_rule) (flag_rule (codes "serial"))) format_rule) (flag_rule (codes "strict"))) c.in_ok-arg-7.field-0
before c =
    let one = adds _ _ _ _ (path_rule (codes "CONFIG") true) c.in_ok-arg.ensures c.path.ensures.global c.path.ensures.rule (c.command_with_help.ensures.app, c.command_with_help.ensures.local) in
    let two = adds _ _ _ _ (path_rule (codes "SCRIPT") true) c.in_ok-arg-2.ensures c.path-2.ensures.global c.path-2.ensures.rule one in
    let three = adds _ _ _ _ workers_rule c.in_ok-arg-3.ensures c.workers.ensures.global c.workers.ensures.rule two in
    let four = adds _ _ _ _ seed_rule c.in_ok-arg-4.ensures c.seed.ensures.global c.seed.ensures.rule three in
    let five = adds _ _ _ _ (flag_rule (codes "serial")) c.in_ok-arg-5.ensures c.flag.ensures.global c.flag.ensures.rule four in
    let six = adds _ _ _ _ format_rule c.in_ok-arg-6.ensures c.format.ensures.global c.format.ensures.rule five in
    adds _ _ _ _ (flag_rule (codes "strict")) c.in_ok-arg-7.ensures c.flag-2.ensures.global c.flag-2.ensures.rule six

pub returns-clause-app : goal.returns-clause-app
returns-clause-app c = IfOk-weaker c.arg-8.result _ _ (λ m h. (adds _ m _ _ explain_rule h c.explain.ensures.global c.explain.ensures.rule (before c)).0) c.arg-8.ensures

pub returns-clause-local : goal.returns-clause-local
returns-clause-local c = IfOk-weaker c.arg-8.result _ _ (λ m h. (adds _ m _ _ explain_rule h c.explain.ensures.global c.explain.ensures.rule (before c)).1) c.arg-8.ensures
