use Rattle.std.proofs.Common.{◌≡◌, ◌∙◌, sym, ap, map, List, Option, Some, None}
use Rattle.jc_engine.specs.Caches.{lives_of}
use Rattle.jc_model.specs.declared.call.Counts.{Counts}
use Rattle.jc_model.specs.declared.event.Entry.{Entry}
use Rattle.jc_model.specs.declared.event.Event.TheVariants.{GiveUp}
use Rattle.jc_model.specs.Runs.{Lives}
use Rattle.jc_report.specs.Again.{after_event, counts_in}
use Rattle.jc_report.specs.Totals.{counts_after}
use Rattle.jc_report.proofs.Again.{counted}
use Rattle.jc_report.proofs.counters.counts_after.Goals as goal

pub unreachable-requires : goal.unreachable-requires
unreachable-requires c =
    let entries : List Entry = map (λ e. e.now) c.args.entries.now in
    let some : counts_in (lives_of c.give_up.new.engine) ≡ Some (counts_after c.args.config.now entries) =
    counted c.args.config.now entries (lives_of c.in_ok-engine.engine) (lives_of c.give_up.new.engine) c.requires.legal c.in_ok-engine.ensures (c.give_up.ensures ∙ ap (λ (lives : Lives). after_event lives (GiveUp 0)) c.in_ok-make_all.ensures) in
    let bad : ◌≡◌ {A = Option Counts} None (Some (counts_after c.args.config.now entries)) = sym c.in-None.is ∙ c.read_counts.ensures ∙ some in
    absurd cc

pub returns : goal.returns
returns c =
    let entries : List Entry = map (λ e. e.now) c.args.entries.now in
    let some : counts_in (lives_of c.give_up.new.engine) ≡ Some (counts_after c.args.config.now entries) =
    counted c.args.config.now entries (lives_of c.in_ok-engine.engine) (lives_of c.give_up.new.engine) c.requires.legal c.in_ok-engine.ensures (c.give_up.ensures ∙ ap (λ (lives : Lives). after_event lives (GiveUp 0)) c.in_ok-make_all.ensures) in
    let same : Some c.in-Some.counts ≡ Some (counts_after c.args.config.now entries) = sym c.in-Some.is ∙ c.read_counts.ensures ∙ some in
    cc
