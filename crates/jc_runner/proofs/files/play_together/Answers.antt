use Rattle.std.proofs.Common.{◌≡◌, ◌∙◌, None, Ok, Err, false, length, ap, ap₂, sym, refl, arith}
use Rattle.std.proofs.lemmas.Result.{err_from_is_err_and}
use Rattle.jc_script.specs.Script.{lines}
use Rattle.jc_script.specs.Stray.{stray_line}
use Rattle.jc_runner.specs.Forms.{form_of}
use Rattle.jc_runner.proofs.Opening.{as_many_kinds}
use Rattle.jc_runner.proofs.Playing.{named_as, stray_ends, threads_end}
use Rattle.jc_runner.proofs.Named.{keeps_same}
use Rattle.jc_runner.proofs.Told.{of_all, stray_of_all}
use Rattle.jc_runner.proofs.files.play_together.Goals as goal

pub all_hooks-requires : goal.all_hooks-requires
all_hooks-requires g c =
    let settings = c.args.configured.configuration.settings in
    let kinds = c.args.configured.configuration.hooks in
    let same : length c.caches.result.now ≡ length settings = ap length c.caches.ensures.same in
    let alike : length c.items.result.now ≡ length kinds = ap length c.items.ensures in
    omega (arith, same, alike, as_many_kinds settings kinds c.requires.opens.kinds)

pub returns-clause-ends : goal.returns-clause-ends
returns-clause-ends g c =
    threads_end c.args.configured.run.now.format c.in_ok-form.form c.args.configured.configuration c.in_ok-hooks.hooks.items
    (named_as _ _ _ _ _ _ c.caches.ensures.same c.items.ensures refl c.in_ok-hooks.ensures)
    c.in_ok-lines.lines.items g.I.Read.remaining g.O.Write.contents c.args.configured.run.now.strict c.args.reader.now c.read_bytes.new.reader c.args.writer.now c.threaded_as.new.writer c.requires.opens
    (of_all (λ script. (lines c.args.configured.configuration.settings script ≡ Ok c.in_ok-lines.lines.items) × (c.in_ok-form.form ≡ form_of c.args.configured.run.now.format script c.in_ok-lines.lines.items)) _ _ c.in_ok-bytes.bytes.items c.as_slice.result.now c.in_ok-bytes.ensures.all c.as_slice.ensures.value
    (c.in_ok-lines.ensures.ok, c.in_ok-form.ensures ∙ ap₂ (form_of c.args.configured.run.now.format) (c.as_slice-3.ensures.value ∙ sym c.as_slice.ensures.value) c.as_slice-4.ensures.value))
    (λ strict. of_all (λ script. stray_line script ≡ None) _ _ c.in_ok-bytes.bytes.items c.as_slice-2.result.now c.in_ok-bytes.ensures.all c.as_slice-2.ensures.value (c.in_ok-reject_unknown_members.ensures.known strict))
    c.threaded_as.result c.in_ok-bytes.ensures.all.1 c.threaded_as.ensures.ok c.threaded_as.ensures.flushed c.threaded_as.ensures.refused c.threaded_as.ensures.front c.threaded_as.ensures.write_failed c.threaded_as.ensures.nothing c.threaded_as.ensures.others

pub returns-in_err-reject_unknown_members-clause-ends : goal.returns-in_err-reject_unknown_members-clause-ends
returns-in_err-reject_unknown_members-clause-ends g c =
    let p = err_from_is_err_and c.from_residual-in_err-reject_unknown_members.result c.from_residual-in_err-reject_unknown_members.ensures.1 in
    rw (p.1, p.2)
    (stray_ends g.I.Read.remaining g.O.Write.contents false c.args.configured.run.now.strict c.args.configured.run.now.format c.args.configured.configuration c.args.reader.now c.read_bytes.new.reader c.args.writer.now c.args.writer.now c.in_err-reject_unknown_members.field-0.0 c.in_err-reject_unknown_members.ensures.others
    (λ n is.
    let stray = c.in_err-reject_unknown_members.ensures.entry n (ap (λ e. Err e) is) in
    (stray.0, stray_of_all c.args.configured.configuration.settings c.in_ok-lines.lines.items n _ _ c.in_ok-bytes.bytes.items c.as_slice.result.now c.as_slice-2.result.now c.in_ok-bytes.ensures.all c.as_slice.ensures.value c.in_ok-lines.ensures.ok c.as_slice-2.ensures.value stray.1))
    (keeps_same (g.O.Write.contents c.args.writer.now.inner)))
