use Rattle.std.proofs.Common.{◌++◌, ◌∙◌, ap, arith, rules, string_bytes}
use Rattle.jc_runner.specs.Every.{TellsAlone}
use Rattle.jc_runner.proofs.Joined.{more_told, all_told}
use Rattle.jc_runner.proofs.every.each_fault.Goals as goal

pub loop-fault-preserved : goal.loop-fault-preserved
loop-fault-preserved c =
    more_told (TellsAlone c.args.origin.now.path.now c.args.origin.now.kind c.args.origin.now.config.now c.args.origin.now.script.now c.args.explain) c.args.faults.now c.loop-fault.fault-index _ (string_bytes c.loop-fault.text) (string_bytes c.in_ok-one.one) _ (omega (arith, c.loop-fault-test.true)) (search rules) c.in_ok-one.ensures c.loop-fault.invariant
    (c.in_ok-push_str.ensures.bytes ∙ ap (λ more. string_bytes c.loop-fault.text ++ more) c.as_str.ensures.value)

pub returns : goal.returns
returns c =
    all_told (TellsAlone c.args.origin.now.path.now c.args.origin.now.kind c.args.origin.now.config.now c.args.origin.now.script.now c.args.explain) c.args.faults.now c.loop-fault.fault-index (string_bytes c.loop-fault.text) (omega (arith, c.loop-fault-test.false)) c.loop-fault.invariant
