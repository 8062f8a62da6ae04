use Rattle.std.proofs.Common.{◌≡◌, ◌∙◌, List, ℕ, None, ap₂, sym, subst}
use Rattle.std.specs.Io.KnownBytes.{Appends}
use Rattle.std.proofs.lemmas.Result.{on_ok_weaker}
use Rattle.jc_runner.specs.Forms.{form_of}
use Rattle.jc_cli.specs.Streams.{WritesFront}
use Rattle.jc_script.specs.Stray.{stray_line}
use Rattle.jc_runner.proofs.Named.{keeps_on, ok_both, ok_is_no_err, only_before_calls, only_of_others}
use Rattle.jc_runner.proofs.Told.{of_all, good_of_all, reports_of_all}
use Rattle.jc_runner.proofs.serial_run.serial_as.Goals as goal

pub returns-clause-ok : goal.returns-clause-ok
returns-clause-ok g c =
    on_ok_weaker c.write_text.result
    (λ written. reports_of_all g.L.Loader.load_of g.W.Writer.may g.P.Processor.verdict_of g.K.FilteredListener.state_after c.args.run.format c.in_ok-form.form c.args.run.setup.settings c.in_ok-lines.lines.items c.args.hooks.now c.report_as.new.hooks _ _ c.in_ok-bytes.bytes.items c.as_slice.result.now _ _
    c.in_ok-bytes.ensures.all c.as_slice.ensures.value c.in_ok-lines.ensures.ok
    (c.in_ok-form.ensures ∙ ap₂ (form_of c.args.run.format) (c.as_slice-3.ensures.value ∙ sym c.as_slice.ensures.value) c.as_slice-4.ensures.value) c.in_ok-text.ensures.text
    (subst (λ (bytes : List ℕ). Appends (g.O.Write.contents c.args.writer.now.inner) (g.O.Write.contents c.write_text.new.writer.inner) bytes) c.as_bytes.ensures.value written))
    c.write_text.ensures.all

pub returns-clause-front : goal.returns-clause-front
returns-clause-front g c = λ failed.
    reports_of_all g.L.Loader.load_of g.W.Writer.may g.P.Processor.verdict_of g.K.FilteredListener.state_after c.args.run.format c.in_ok-form.form c.args.run.setup.settings c.in_ok-lines.lines.items c.args.hooks.now c.report_as.new.hooks _ _ c.in_ok-bytes.bytes.items c.as_slice.result.now _ _
    c.in_ok-bytes.ensures.all c.as_slice.ensures.value c.in_ok-lines.ensures.ok
    (c.in_ok-form.ensures ∙ ap₂ (form_of c.args.run.format) (c.as_slice-3.ensures.value ∙ sym c.as_slice.ensures.value) c.as_slice-4.ensures.value) c.in_ok-text.ensures.text
    (subst (λ (bytes : List ℕ). WritesFront (g.O.Write.contents c.args.writer.now.inner) (g.O.Write.contents c.write_text.new.writer.inner) bytes) c.as_bytes.ensures.value (c.write_text.ensures.front failed))

pub returns-clause-end : goal.returns-clause-end
returns-clause-end g c = on_ok_weaker c.write_text.result (λ written. c.in_ok-bytes.ensures.all.1) c.write_text.ensures.all

pub returns-in_err-text-clause-good : goal.returns-in_err-text-clause-good
returns-in_err-text-clause-good g c = λ refused.
    good_of_all c.args.run.setup.settings c.in_ok-lines.lines.items _ _ c.in_ok-bytes.bytes.items c.as_slice.result.now c.in_ok-bytes.ensures.all c.as_slice.ensures.value c.in_ok-lines.ensures.ok

pub returns-clause-known : goal.returns-clause-known
returns-clause-known g c = λ ran strict.
    of_all (λ script. stray_line script ≡ None) _ _ c.in_ok-bytes.bytes.items c.as_slice-2.result.now c.in_ok-bytes.ensures.all c.as_slice-2.ensures.value (c.in_ok-reject_unknown_members.ensures.known strict)

pub returns-in_err-text-clause-nothing : goal.returns-in_err-text-clause-nothing
returns-in_err-text-clause-nothing g c = keeps_on c.from_residual-in_err-text.result (g.O.Write.contents c.args.writer.now.inner)

pub returns-clause-flushed : goal.returns-clause-flushed
returns-clause-flushed g c = ok_both c.write_text.result _ _ c.write_text.ensures.flushed c.write_text.ensures.unfailed

pub returns-clause-untouched : goal.returns-clause-untouched
returns-clause-untouched g c = only_before_calls _ c.write_text.result c.write_text.ensures.only

pub returns-clause-nothing : goal.returns-clause-nothing
returns-clause-nothing g c = only_of_others _ c.write_text.result c.write_text.ensures.only

pub returns-clause-unfailed : goal.returns-clause-unfailed
returns-clause-unfailed g c = λ _. c.in_ok-bytes.ensures.unfailed (ok_is_no_err c.in_ok-bytes.bytes _)
