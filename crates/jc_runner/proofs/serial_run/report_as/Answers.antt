use Rattle.std.proofs.Common.{◌≡◌, ◌∙◌, ap, sym, subst, List, length, ℕ, string_bytes}
use Rattle.jc_model.specs.Legal.{History, IsLegal}
use Rattle.jc_script.specs.declared.managed.Managed.{Managed}
use Rattle.jc_runner.specs.Forms.{report_in}
use Rattle.jc_runner.proofs.Openable.{lives_open}
use Rattle.jc_runner.proofs.Told.{first_rest, first_named, first_moment, last_moment, lives_recorded}
use Rattle.jc_runner.proofs.serial_run.report_as.Goals as goal

pub run_all-requires-clause-rest : goal.run_all-requires-clause-rest
run_all-requires-clause-rest g c = λ _ _. first_rest c.args.setup.settings c.in_ok-recorded.recorded c.in_ok-recorded.ensures.fresh c.in_ok-recorded.ensures.unrecorded

pub run_all-requires-clause-named : goal.run_all-requires-clause-named
run_all-requires-clause-named g c = λ _ _. first_named c.args.setup.settings c.in_ok-recorded.recorded c.in_ok-recorded.ensures.fresh c.in_ok-recorded.ensures.unrecorded c.args.script.lines.items c.requires.named

pub report_in-requires-clause-legal : goal.report_in-requires-clause-legal
report_in-requires-clause-legal g c = subst IsLegal (sym c.transcript-transcript.ensures.value) c.transcript-transcript.ensures.legal

pub report_in-requires-clause-opens : goal.report_in-requires-clause-opens
report_in-requires-clause-opens g c =
    let told = c.in_ok-managed.ensures.done c.args.setup.settings c.args.hooks.now c.args.script.lines.items
    (first_moment c.args.setup.settings c.in_ok-recorded.recorded c.in_ok-recorded.ensures.fresh c.in_ok-recorded.ensures.unrecorded g.L.Loader.load_of g.W.Writer.may g.P.Processor.verdict_of g.K.FilteredListener.state_after c.args.hooks.now c.args.script.lines.items) in
    lives_open c.args.setup.settings c.args.script.lines.items _ c.in_ok-recorded.ensures.takes
    (ap (λ (h : History). h.lives) c.transcript-transcript.ensures.value ∙ lives_recorded g.L.Loader.load_of g.W.Writer.may g.P.Processor.verdict_of g.K.FilteredListener.state_after c.args.setup.settings c.args.hooks.now c.args.script.lines.items c.run_all.new.recorded c.run_all.new.hooks c.in_ok-managed.managed.items told)

pub returns-clause-text : goal.returns-clause-text
returns-clause-text g c =
    let last = c.run_all.new.recorded in
    let managed = c.in_ok-managed.managed.items in
    let told = c.in_ok-managed.ensures.done c.args.setup.settings c.args.hooks.now c.args.script.lines.items
    (first_moment c.args.setup.settings c.in_ok-recorded.recorded c.in_ok-recorded.ensures.fresh c.in_ok-recorded.ensures.unrecorded g.L.Loader.load_of g.W.Writer.may g.P.Processor.verdict_of g.K.FilteredListener.state_after c.args.hooks.now c.args.script.lines.items) in
    let same : string_bytes c.in_ok-text.text ≡ report_in c.args.script.form (length c.args.setup.settings) last.transcript managed =
    c.in_ok-text.ensures ∙ ap (λ (n : ℕ). report_in c.args.script.form n c.transcript-transcript.result.now c.as_slice.result.now) (ap length c.caches-caches.ensures.same) ∙ ap (λ (h : History). report_in c.args.script.form (length c.args.setup.settings) h c.as_slice.result.now) c.transcript-transcript.ensures.value ∙ ap (λ (ms : List Managed). report_in c.args.script.form (length c.args.setup.settings) last.transcript ms) c.as_slice.ensures.value in
    last_moment g.L.Loader.load_of g.W.Writer.may g.P.Processor.verdict_of g.K.FilteredListener.state_after c.args.script.form (string_bytes c.in_ok-text.text) c.args.setup.settings c.args.hooks.now c.args.script.lines.items last c.run_all.new.hooks managed told c.transcript-transcript.ensures.legal same
