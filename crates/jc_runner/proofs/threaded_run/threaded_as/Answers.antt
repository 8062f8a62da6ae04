use Rattle.std.proofs.Common.{◌≡◌, ◌≢◌, ◌∙◌, List, ℕ, Err, ap, subst, string_bytes}
use Rattle.std.specs.Io.KnownBytes.{Appends, Keeps}
use Rattle.std.proofs.lemmas.Result.{on_ok_weaker, err_from_is_err_and}
use Rattle.jc_threads.proofs.Lists.{on_ok_both}
use Rattle.jc_cli.specs.Streams.{WritesFront, IsOfThreads}
use Rattle.jc_runner.specs.Together.{stated_of}
use Rattle.jc_cli.specs.declared.fault.RunFault.TheVariants.{Write}
use Rattle.jc_runner.proofs.Gathering.{gathers_so, passed_fault}
use Rattle.jc_runner.proofs.Pushed.{if_err_weaker}
use Rattle.jc_runner.proofs.threaded_run.threaded_as.Goals as goal

pub returns-in_err-text-clause-refused : goal.returns-in_err-text-clause-refused
returns-in_err-text-clause-refused g c = λ is.
    let p = err_from_is_err_and c.from_residual.result c.from_residual.ensures.1 in
    c.gather_report.ensures.refused (c.in_err-text.was ∙ ap Err (passed_fault c.from_residual.result c.in_err-text.field-0.0 _ p is))

pub returns-in_err-text-clause-closed : goal.returns-in_err-text-clause-closed
returns-in_err-text-clause-closed g c = λ is.
    let p = err_from_is_err_and c.from_residual.result c.from_residual.ensures.1 in
    c.gather_report.ensures.closed (c.in_err-text.was ∙ ap Err (passed_fault c.from_residual.result c.in_err-text.field-0.0 _ p is))

pub returns-clause-ok : goal.returns-clause-ok
returns-clause-ok g c =
    on_ok_weaker c.write_text.result
    (λ written. gathers_so c.args.script.form (stated_of g.L.Loader.load_of g.P.Processor.verdict_of c.args.setup.hooks.items) c.args.setup.settings c.args.script.lines.items (string_bytes c.in_ok-text.text) c.in_ok-text.ensures.text
    (subst (λ (bytes : List ℕ). Appends (g.O.Write.contents c.args.writer.now.inner) (g.O.Write.contents c.write_text.new.writer.inner) bytes) c.as_bytes.ensures.value written))
    c.write_text.ensures.all

pub returns-clause-flushed : goal.returns-clause-flushed
returns-clause-flushed g c = on_ok_both c.write_text.result c.write_text.ensures.flushed c.write_text.ensures.unfailed (λ flushed unfailed. (flushed, unfailed))

pub returns-clause-front : goal.returns-clause-front
returns-clause-front g c = λ failed.
    gathers_so c.args.script.form (stated_of g.L.Loader.load_of g.P.Processor.verdict_of c.args.setup.hooks.items) c.args.setup.settings c.args.script.lines.items (string_bytes c.in_ok-text.text) c.in_ok-text.ensures.text
    (subst (λ (bytes : List ℕ). WritesFront (g.O.Write.contents c.args.writer.now.inner) (g.O.Write.contents c.write_text.new.writer.inner) bytes) c.as_bytes.ensures.value (c.write_text.ensures.front failed))

pub returns-clause-nothing : goal.returns-clause-nothing
returns-clause-nothing g c =
    if_err_weaker c.write_text.result (λ e. e ≡ Write) (λ e. e ≢ Write → Keeps (g.O.Write.contents c.args.writer.now.inner) (g.O.Write.contents c.write_text.new.writer.inner)) (λ e is other. absurd (other is)) c.write_text.ensures.only

pub returns-clause-others : goal.returns-clause-others
returns-clause-others g c = if_err_weaker c.write_text.result (λ e. e ≡ Write) (λ e. e ≢ Write → IsOfThreads e) (λ e is other. absurd (other is)) c.write_text.ensures.only
