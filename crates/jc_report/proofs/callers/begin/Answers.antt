use Rattle.std.proofs.Common.{ap, ◌∙◌, ◌++◌, ◌∷◌, []}
use Rattle.std.specs.HashMap.{get}
use Rattle.jc_report.specs.Callers.{caller_eq, entries_in}
use Rattle.jc_report.proofs.Taken.{changed}
use Rattle.jc_report.proofs.callers.begin.Goals as goal

pub returns : goal.returns
returns c =
    changed (λ es. es ++ c.args.entry.now ∷ []) (get caller_eq c.args.callers.now) (get caller_eq c.insert.new.self) c.args.id c.args.session [] c.push.new.self (ap entries_in c.requires) (c.in_ok-push.ensures ∙ ap (λ es. es ++ c.args.entry.now ∷ []) c.new-queue.ensures) (c.in_ok-insert.ensures.updates.0)
