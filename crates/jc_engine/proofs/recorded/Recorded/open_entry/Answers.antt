use Rattle.std.proofs.Common.{sym, ◌∙◌, ap, Option, ℕ}
use Rattle.jc_engine.specs.Journals.{kept_at}
use Rattle.jc_engine.proofs.Recordings.{found, open_busy, entry_of, entry_found}
use Rattle.jc_engine.proofs.recorded.Recorded.open_entry.Goals as goal

pub returns-then-is_open-clause-entry : goal.returns-then-is_open-clause-entry
returns-then-is_open-clause-entry g c =
    let at = found c.self.invariant (open_busy c.self.inside.engine c.args.id (sym c.is_open.ensures ∙ c.if-is_open.true)) in
    let h = g.J.Journal.history c.self.inside.journal in
    rw (← c.self.view_is)
    (entry_found c.open_entry.result (λ e. e.now) h.entries c.args.id at.0 at.1.opened.entry (c.open_entry.ensures ∙ (ap (λ (p : Option ℕ). kept_at h p) at.1.at ∙ at.1.opened.there)) (entry_of at.1))
