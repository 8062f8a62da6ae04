use Rattle.std.proofs.Common.{ap, sym, ◌∙◌, ◌++◌, ◌∷◌, [], is_some}
use Rattle.std.proofs.lemmas.Result.{on_ok_weaker}
use Rattle.std.specs.HashMap.{get}
use Rattle.std.specs.Option.{option_copied_mut}
use Rattle.jc_report.specs.Callers.{caller_eq, entries_in}
use Rattle.jc_report.proofs.Taken.{changed}
use Rattle.jc_report.proofs.callers.add.Goals as goal

pub returns-in-Some : goal.returns-in-Some
returns-in-Some c =
    let found = sym (ap is_some c.get_mut.ensures.value) ∙ ap (λ r. is_some (option_copied_mut r)) c.in-Some.is in
    on_ok_weaker c.push.result
    (λ pushed. changed (λ es. es ++ c.args.entry.now ∷ []) (get caller_eq c.args.callers.now) (get caller_eq (c.get_mut.follows.lender c.push.new.self)) c.args.id c.args.session c.in-Some.queue.now c.push.new.self
    (ap entries_in (sym c.get_mut.ensures.value ∙ ap option_copied_mut c.in-Some.is)) pushed (((c.get_mut.follows.holds c.push.new.self).3 found).0))
    c.push.ensures
