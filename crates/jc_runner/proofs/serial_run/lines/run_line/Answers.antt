use Rattle.std.proofs.Common.{subst, sym, refl, OnOk}
use Rattle.std.proofs.lemmas.Result.{on_ok_weaker}
use Rattle.jc_script.specs.declared.line.Line.{Line}
use Rattle.jc_script.specs.Named.{Names}
use Rattle.jc_runner.specs.Halfway.{lives_now, as_read, RunsLine}
use Rattle.jc_runner.proofs.Lines.{next_ready}
use Rattle.jc_runner.proofs.serial_run.lines.run_line.Goals as goal

pub run_call-requires-after_bounds : goal.run_call-requires-after_bounds
run_call-requires-after_bounds g c κs within =
    next_ready c.args.recorded.now c.in-Call.call c.requires.rest
    (subst (Names (as_read (lives_now c.args.recorded.now))) c.in-Call.is c.requires.named)

pub returns-in-Create-clause-ran : goal.returns-in-Create-clause-ran
returns-in-Create-clause-ran g c =
    subst (λ (l : Line). OnOk c.run_create.result (RunsLine g.L.Loader.load_of g.W.Writer.may g.P.Processor.verdict_of g.K.FilteredListener.state_after c.args.recorded.now c.run_create.new.recorded c.args.hooks.now c.args.hooks.now l)) (sym c.in-Create.is)
    (on_ok_weaker c.run_create.result (λ moved. (moved, refl)) c.run_create.ensures.moves)
