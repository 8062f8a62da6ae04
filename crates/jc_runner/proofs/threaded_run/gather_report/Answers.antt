use Rattle.std.proofs.Common.{◌∙◌, ap, sym, subst, ℕ, List, length, Err, string_bytes}
use Rattle.std.proofs.lemmas.Result.{err_from_is_err_and}
use Rattle.jc_model.specs.declared.config.CacheConfig.{CacheConfig}
use Rattle.jc_model.specs.Legal.{IsLegal}
use Rattle.jc_script.specs.Calls.{calls_in_lines}
use Rattle.jc_script.specs.Managing.{lives_of_script, managed_of}
use Rattle.jc_threads.specs.Managing.{AreManaged}
use Rattle.jc_runner.specs.Forms.{report_in}
use Rattle.jc_runner.specs.Together.{stated_of}
use Rattle.jc_runner.proofs.Gathering.{gathers, made_of, never_refused, passed_fault}
use Rattle.jc_runner.proofs.Openable.{lives_open}
use Rattle.jc_runner.proofs.threaded_run.gather_report.Goals as goal

pub returns-in_err-shared-clause-refused : goal.returns-in_err-shared-clause-refused
returns-in_err-shared-clause-refused g c = λ is.
    let p = err_from_is_err_and c.from_residual-in_err-shared.result c.from_residual-in_err-shared.ensures.1 in
    c.open_unnamed.ensures.refused (c.in_err-shared.was ∙ ap Err (passed_fault c.from_residual-in_err-shared.result c.in_err-shared.field-0.0 _ p is))

pub returns-in_err-shared-clause-closed : goal.returns-in_err-shared-clause-closed
returns-in_err-shared-clause-closed g c = λ is.
    let p = err_from_is_err_and c.from_residual-in_err-shared.result c.from_residual-in_err-shared.ensures.1 in
    absurd (c.open_unnamed.ensures.closed (c.in_err-shared.was ∙ ap Err (passed_fault c.from_residual-in_err-shared.result c.in_err-shared.field-0.0 _ p is)))

pub report_in-requires-clause-opens : goal.report_in-requires-clause-opens
report_in-requires-clause-opens g c =
    lives_open c.args.setup.settings c.args.script.lines.items _ (never_refused g.P.Processor.wants c.args.setup.settings c.args.setup.hooks.items c.in_ok-shared.ensures.opens)
    (c.in_ok-transcript.ensures.lives ∙ c.in_ok-followed.ensures.lives ∙ ap (lives_of_script c.args.setup.settings) c.as_slice.ensures.value)

pub returns-clause-text : goal.returns-clause-text
returns-clause-text g c =
    let caches = c.args.setup.settings in
    let all = c.args.script.lines.items in
    let transcript = c.in_ok-transcript.transcript in
    let followed = c.in_ok-followed.followed in
    gathers c.args.script.form (stated_of g.L.Loader.load_of g.P.Processor.verdict_of c.args.setup.hooks.items) caches all transcript followed.managed.items c.in_ok-made.made.refusals.items (string_bytes c.in_ok-text.text)
    (subst IsLegal (sym c.in_ok-transcript.ensures.same) c.in_ok-made.ensures.legal)
    (c.in_ok-transcript.ensures.lives ∙ c.in_ok-followed.ensures.lives ∙ ap (lives_of_script caches) c.as_slice.ensures.value)
    (made_of g.L.Loader.load_of g.P.Processor.verdict_of c.in_ok-shared.shared.shared c.args.setup.hooks.items (calls_in_lines all) transcript c.in_ok-made.made.transcript c.in_ok-shared.ensures.shared c.in_ok-transcript.ensures.same c.in_ok-made.ensures.made)
    (c.in_ok-followed.ensures.managed ∙ ap (managed_of caches) c.as_slice.ensures.value)
    c.in_ok-transcript.ensures.refusals
    (subst (λ (cs : List CacheConfig). AreManaged cs all c.in_ok-made.made.refusals.items) c.in_ok-shared.ensures.configs c.in_ok-made.ensures.managed)
    (c.in_ok-text.ensures ∙ ap (λ (n : ℕ). report_in c.args.script.form n transcript c.as_slice-managed.result.now) (ap length c.caches-caches.ensures.same) ∙ ap (report_in c.args.script.form (length caches) transcript) c.as_slice-managed.ensures.value)
