use Rattle.std.proofs.Common.{◌≡◌, ℕ, ◌++◌, ◌∷◌, [], if◌then◌else◌, subst}
use Rattle.std.specs.HashMap.{get}
use Rattle.jc_report.specs.Callers.{caller_eq, entries_in}
use Rattle.jc_report.proofs.Taken.{one_more}
use Rattle.jc_report.proofs.callers.callers.Goals as goal

pub loop-entry-preserved : goal.loop-entry-preserved
loop-entry-preserved c =
    let old = get caller_eq c.loop-entry.callers in
    let new = get caller_eq c.add.new.callers in
    one_more c.args.entries.now c.loop-entry.entry-index c.entry-item.result old new c.loop-entry-test.true c.entry-item.is c.loop-entry.invariant
    (subst (λ (n : ℕ). (i s : ℕ) → entries_in (new (i, s)) ≡ (if caller_eq (n, c.entry-item.result.session) (i, s) then entries_in (old (i, s)) ++ c.entry-item.result ∷ [] else entries_in (old (i, s)))) c.number.ensures c.in_ok-add.ensures)
