use Rattle.std.proofs.Common.{ap, sym, ◌∙◌, drop, is_some}
use Rattle.std.specs.HashMap.{get}
use Rattle.std.specs.Option.{option_copied_mut}
use Rattle.jc_report.specs.Callers.{caller_eq, entries_in}
use Rattle.jc_report.proofs.Taken.{changed}
use Rattle.jc_report.proofs.callers.take_entry.Goals as goal

pub returns-in-Some-clause-left : goal.returns-in-Some-clause-left
returns-in-Some-clause-left c =
    let found = sym (ap is_some c.get_mut.ensures.value) ∙ ap (λ r. is_some (option_copied_mut r)) c.in-Some.is in
    changed (drop 1) (get caller_eq c.args.callers.now) (get caller_eq (c.get_mut.follows.lender c.take.new.self)) c.args.id c.args.session c.in-Some.queue.now c.take.new.self
    (ap entries_in (sym c.get_mut.ensures.value ∙ ap option_copied_mut c.in-Some.is)) c.take.ensures.left (((c.get_mut.follows.holds c.take.new.self).3 found).0)
