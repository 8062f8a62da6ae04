use Rattle.std.proofs.Common.{subst, ◌≤◌, ℕ, length}
use Rattle.jc_runner.specs.Hooks.{asked_of}
use Rattle.jc_runner.proofs.Kept.{map_set_same, none_there, where_ok, without}
use Rattle.jc_runner.proofs.serial_run.calls.run_call.Goals as goal

pub returns-then-place-hooks-clause-kept : goal.returns-then-place-hooks-clause-kept
returns-then-place-hooks-clause-kept g c =
    let held = c.index-hooks-place.result in
    map_set_same asked_of c.args.hooks.now c.number-place.result held c.carry_out.new.hooks c.carry_out.ensures.kept

pub returns-clause-replies : goal.returns-clause-replies
returns-clause-replies g c =
    let hooks = c.args.hooks.now in
    let out = subst (λ (n : ℕ). length hooks ≤ n) c.number-place.ensures c.if-place-hooks.false in
    where_ok c.carry_out-2.result
    (without g.L.Loader.load_of g.W.Writer.may g.P.Processor.verdict_of g.K.FilteredListener.state_after c.args.recorded.now c.carry_out-2.new.recorded c.no_hooks-none.result c.carry_out-2.new.hooks hooks c.args.line c.no_hooks-none.ensures (none_there hooks c.args.line.id out))
    c.carry_out-2.ensures.replies
