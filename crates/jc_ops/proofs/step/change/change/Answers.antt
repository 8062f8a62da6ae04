use Rattle.jc_ops.proofs.Names.{ap, ◌∙◌, removal, Visited, progress_in}
use Rattle.jc_ops.proofs.step.change.change.Goals as goal

pub returns-in-Some-row-3-clause-progress : goal.returns-in-Some-row-3-clause-progress
returns-in-Some-row-3-clause-progress g c =
    let found = rw c.in-Some-row-3.is at c.requires.row in
    rw (c.in-Remove.is, found.1.found) (ap (λ (v : Visited). progress_in v) c.removal.ensures ∙ ap removal (c.delete.ensures.progress c.args.visit.now.moment c.args.key.now found.0 found.1))
